-- What is left of a record is judged behind what is left of the rows before it as the record was.
use Rattle.std.proofs.Common.{◌≡◌, ℕ, ◌+◌, ◌*◌, ◌^◌, ◌<◌, ◌≤◌, Bool, true, false, not, cond, ◌&&◌, ◌==◌, nat_lt, nat_le, List, [], ◌∷◌, length, get_or, Option, Some, None, Result, Ok, Err, refl, sym, ap, ◌∙◌, subst, arith, length-append}
use Rattle.std.specs.List.{position}
use Rattle.std.specs.Str.{bytes_eq}
use Rattle.std.proofs.Math.Nat.{mul-le-mul_right}
use Rattle.std.proofs.lemmas.Bool.{and_parts, and_from, le-leb, leb-true, ne_eqb, false_from_ne_true}
use Rattle.std.proofs.lemmas.List.{length-map}
use Rattle.text_bytes.specs.Numbers.{is_within}
use Rattle.answers.specs.Reading.{and_then}
use Rattle.plan_rows.specs.Limits.{last_site}
use Rattle.plan_rows.specs.Rows.{AreKept, one, each_of, as_lot, dies_of, dies_at, lot_of, site_in}
use Rattle.plan_rows.specs.Forms.{Written, a_lot, a_clock, a_bind, a_die, a_fault, a_stop, a_bin, a_skew, written_of}
use Rattle.plan_rows.specs.Judging.{is_lot, stands, lot_fits, die_fits, tries_fit, ending_fits, number_at, of_die, within, row_of, says_again, placed, once, row_at, judge}
use Rattle.plan_rows.specs.declared.row.Row.{Row}
use Rattle.plan_rows.specs.declared.row.Row.TheVariants as row
use Rattle.plan_rows.specs.declared.row.DieRow.{DieRow}
use Rattle.plan_rows.specs.declared.row.LotRow.{LotRow}
use Rattle.plan_rows.specs.declared.fault.PlanFault.{PlanFault}
use Rattle.plan_rows.specs.declared.fault.PlanFault.TheVariants.{Shape, UnknownName, Twice}
use Rattle.plan_rows.proofs.JudgeLemmas.{steps, stands_where_placed, fresh_once, fits_within, die_there}
use Rattle.plan_parts.specs.Moved.{moved}
use Rattle.plan_parts.specs.PartText.{with_site}
use Rattle.plan_parts.proofs.CutLemmas.{IsCut, Counts, AllCount, cut_rows, lots_cut, dies_cut, dies_cut-le, names_cut, die_to}
use Rattle.plan_parts.proofs.SaidLemmas.{Numbered, moved-stays, said_cut}
use Rattle.plan_parts.proofs.WrittenLemmas.{written_site, written_to, written_with}

-- a row that was made
abbrev pub ok_row : Row → Result Row PlanFault
ok_row r = Ok r

-- ---- a judged record

-- how a record became a row
pub record IsJudged (before : List Row) (fields : List (List ℕ)) (x : Row) : Type 0 where
  pub said : Written
  pub form : written_of fields ≡ Some said
  pub stood : stands before said ≡ true
  pub made : row_of (length before + 1) before said ≡ Ok x
  pub fresh : says_again before x ≡ false

-- a judged record became a row
pub judged : (before : List Row) (fields : List (List ℕ)) (x : Row) → judge before fields ≡ Ok x → IsJudged before fields x
judged before fields x h =
    let place : ℕ = length before + 1 in
    let (y, row, again) = steps (row_at place before fields) (once place before) x h in
    let (w, form, made) = steps (placed place before (written_of fields)) (row_of place before) y row in
    let (same, fresh) = fresh_once place before y x again in
    let (formed, stood) = stands_where_placed place before (written_of fields) w form in
    record { said = w; form = formed; stood = stood; made = made ∙ ap Ok same; fresh = fresh }

-- back
pub is_judged : (before : List Row) (fields : List (List ℕ)) (x : Row) → IsJudged before fields x → judge before fields ≡ Ok x
is_judged before fields x j =
    let place : ℕ = length before + 1 in
    ap (λ (o : Option Written). and_then (and_then (placed place before o) (row_of place before)) (once place before)) j.form
    ∙ ap (λ b. and_then (and_then (cond {A = Result Written PlanFault} b (Ok j.said) (Err (Shape place))) (row_of place before)) (once place before)) j.stood
    ∙ ap (λ (r : Result Row PlanFault). and_then r (once place before)) j.made
    ∙ ap (λ b. cond {A = Result Row PlanFault} b (Err (Twice place)) (Ok x)) j.fresh

-- the site of a row is that of what was said
pub site_made : (place : ℕ) (before : List Row) (w : Written) (x : Row) → row_of place before w ≡ Ok x → site_in x ≡ written_site w
site_made place before (a_lot batch tries keep) x h =
    let m : ok_row (row.Lot (record { batch = batch; tries = tries; keep = keep })) ≡ ok_row x = (fits_within place (lot_fits batch tries keep) _ x h).1 in
    let same : x ≡ row.Lot (record { batch = batch; tries = tries; keep = keep }) = cc in ap site_in same
site_made place before (a_clock signal) x h = let same : x ≡ row.Clock signal = cc in ap site_in same
site_made place before (a_bind signal net) x h = let same : x ≡ row.Bind (record { signal = signal; net = net }) = cc in ap site_in same
site_made place before (a_die site name file) x h =
    let m : ok_row (row.Die (record { site = site; name = name; file = file })) ≡ ok_row x = (fits_within place (nat_le site last_site && die_fits before) _ x h).1 in
    let same : x ≡ row.Die (record { site = site; name = name; file = file }) = cc in ap site_in same
site_made place before (a_fault site name net value tries) x h =
    let found = (fits_within place (nat_le site last_site && nat_le value 1 && tries_fit tries) _ x h).1 in
    let (n, at, made) = die_there place (number_at before site name) _ x found in
    ap site_in (sym made)
site_made place before (a_stop site name number batch) x h =
    let found = (fits_within place (nat_le site last_site && is_within 1 8 number && nat_le batch (2 ^ 48)) _ x h).1 in
    let (n, at, made) = die_there place (number_at before site name) _ x found in
    ap site_in (sym made)
site_made place before (a_bin ending number) x h =
    let m : ok_row (row.Bin (record { ending = ending; bin = number })) ≡ ok_row x = (fits_within place (ending_fits ending && is_within 1 99 number) _ x h).1 in
    let same : x ≡ row.Bin (record { ending = ending; bin = number }) = cc in ap site_in same
site_made place before (a_skew site signal back size) x h =
    by (nat_lt 0 (length (dies_at site before))) _ (Some site) (fits_within place (nat_le site last_site && nat_le size 1000000000000) _ x h).1 refl
  where
    by : (b : Bool) (y : Row) (s : Option ℕ) → cond {A = Result Row PlanFault} b (Ok y) (Err (UnknownName place)) ≡ Ok x → site_in y ≡ s → site_in x ≡ s
    by true y s h at = let same : x ≡ y = cc in ap site_in same ∙ at
    by false y s h at = cc

-- ---- rows before

-- rows give no more items than there are rows
each_of-le : {A : Type 0} (f : Row → Option A) (xs : List Row) → length (each_of f xs) ≤ length xs
each_of-le f [] = omega arith
each_of-le f (x ∷ xs) = omega (arith, length-append (one (f x)) (each_of f xs), one-le (f x), each_of-le f xs)
  where
    one-le : {A : Type 0} (o : Option A) → length (one o) ≤ 1
    one-le None = omega arith
    one-le (Some a) = omega arith

module _ (cut : ℕ → Option ℕ) (counts : ℕ → Bool) (is_cut : IsCut cut counts) where
  -- where there are rows, some are left
  same_empty : (before : List Row) → (0 < length before → AreKept before) → (length (cut_rows cut before) == 0) ≡ (length before == 0)
  same_empty [] kept = refl
  same_empty (y ∷ ys) kept =
      let some : 0 < length (y ∷ ys) = omega arith in
      let lots = ap (λ (l : List LotRow). length l) (lots_cut cut (y ∷ ys)) ∙ (kept some).lots in
      ne_eqb _ 0 (λ e. absurd (omega (arith, e, lots, each_of-le as_lot (cut_rows cut (y ∷ ys))))) ∙ sym (ne_eqb (length (y ∷ ys)) 0 (λ e. absurd (omega (arith, e))))

  -- the lot stays
  lot_cut : (before : List Row) → lot_of (cut_rows cut before) ≡ lot_of before
  lot_cut before = ap (λ (l : List LotRow). get_or l 0 (record { batch = 0; tries = 0; keep = 0 })) (lots_cut cut before)

  -- there is room for one more die
  room_cut : (before : List Row) → die_fits before ≡ true → die_fits (cut_rows cut before) ≡ true
  room_cut before fits =
      let parts = and_parts (nat_le (length (dies_of before) + 1) 4096) (nat_le ((length (dies_of before) + 1) * ((lot_of before).tries * (lot_of before).keep)) 1048576) fits in
      let few = dies_cut-le cut before in
      let less : length (dies_of (cut_rows cut before)) + 1 ≤ length (dies_of before) + 1 = omega (arith, few) in
      let most : ((length (dies_of before) + 1) * ((lot_of before).tries * (lot_of before).keep)) ≤ 1048576 = leb-true _ 1048576 parts.1 in
      let scaled = mul-le-mul_right ((lot_of before).tries * (lot_of before).keep) less in
      let same : (lot_of (cut_rows cut before)).tries * (lot_of (cut_rows cut before)).keep ≡ (lot_of before).tries * (lot_of before).keep =
      ap (λ (l : LotRow). l.tries * l.keep) (lot_cut before) in
      and_from _ _ (le-leb _ 4096 (omega (arith, less, leb-true _ 4096 parts.0)))
      (le-leb _ 1048576 (subst (λ (k : ℕ). (length (dies_of (cut_rows cut before)) + 1) * k ≤ 1048576) (sym same) (omega (arith, scaled, most))))

  -- where the length is one, so is the test of a lot
  stands_cut : (before : List Row) (w : Written) (n : ℕ) → (0 < length before → AreKept before) → stands before w ≡ true
      → stands (cut_rows cut before) (written_to n w) ≡ true
  stands_cut before w n kept h =
      ap (λ b. cond b (is_lot (written_to n w)) (not (is_lot (written_to n w)))) (same_empty before kept)
      ∙ ap (λ b. cond (length before == 0) b (not b)) (same_lot n w) ∙ h
    where
      same_lot : (n : ℕ) (w : Written) → is_lot (written_to n w) ≡ is_lot w
      same_lot n (a_lot batch tries keep) = refl
      same_lot n (a_clock signal) = refl
      same_lot n (a_bind signal net) = refl
      same_lot n (a_die site name file) = refl
      same_lot n (a_fault site name net value tries) = refl
      same_lot n (a_stop site name number batch) = refl
      same_lot n (a_bin ending number) = refl
      same_lot n (a_skew site signal back size) = refl

-- a row under a number, where it was made
moved_ok : (n : ℕ) (y x : Row) → ok_row y ≡ ok_row x → ok_row (moved n y) ≡ ok_row (moved n x)
moved_ok n y x h = let same : y ≡ x = cc in ap (λ (r : Row). ok_row (moved n r)) same

-- the same within other ranges
within_cut : (place place' n : ℕ) (fits fits' : Bool) (r r' : Result Row PlanFault) (x : Row) → (fits ≡ true → fits' ≡ true)
    → (r ≡ Ok x → r' ≡ Ok (moved n x)) → within place fits r ≡ Ok x → within place' fits' r' ≡ Ok (moved n x)
within_cut place place' n fits fits' r r' x go made h =
    let parts = fits_within place fits r x h in
    ap (λ b. within place' b r') (go parts.0) ∙ made parts.1

-- the same of an equal die
of_cut : (place place' n : ℕ) (o o' : Option ℕ) (made made' : ℕ → Row) (x : Row) → o' ≡ o → ((k : ℕ) → made' k ≡ moved n (made k))
    → of_die place o made ≡ Ok x → of_die place' o' made' ≡ Ok (moved n x)
of_cut place place' n o o' made made' x same each h =
    let (k, at, is) = die_there place o made x h in
    ap (λ (p : Option ℕ). of_die place' p made') (same ∙ at) ∙ ap (λ (r : Row). ok_row r) (each k ∙ ap (moved n) is)

-- the same where a site has dies
skew_cut : (place place' n : ℕ) (b b' : Bool) (y y' x : Row) → b' ≡ b → y' ≡ moved n y
    → cond {A = Result Row PlanFault} b (Ok y) (Err (UnknownName place)) ≡ Ok x
    → cond {A = Result Row PlanFault} b' (Ok y') (Err (UnknownName place')) ≡ Ok (moved n x)
skew_cut place place' n true b' y y' x same is h =
    ap (λ c. cond {A = Result Row PlanFault} c (Ok y') (Err (UnknownName place'))) same ∙ ap (λ (r : Row). ok_row r) is ∙ moved_ok n y x h
skew_cut place place' n false b' y y' x same is h = cc

module _ (cut : ℕ → Option ℕ) (counts : ℕ → Bool) (is_cut : IsCut cut counts) where
  -- a number that fits its range
  small_at : (site n : ℕ) → counts site ≡ true → cut site ≡ Some n → nat_le n last_site ≡ true
  small_at site n has at = le-leb n last_site (is_cut.small site n has at)

  -- what is made of what is left
  row_cut : (place place' : ℕ) (before : List Row) (w : Written) (x : Row) (n : ℕ) → AllCount counts before
      → ((s : ℕ) → written_site w ≡ Some s → (counts s ≡ true) × (cut s ≡ Some n))
      → row_of place before w ≡ Ok x → row_of place' (cut_rows cut before) (written_to n w) ≡ Ok (moved n x)
  row_cut place place' before (a_lot batch tries keep) x n all at h =
      within_cut place place' n (lot_fits batch tries keep) (lot_fits batch tries keep) _ _ x (λ f. f) (λ m. moved_ok n _ x m) h
  row_cut place place' before (a_clock signal) x n all at h = moved_ok n (row.Clock signal) x h
  row_cut place place' before (a_bind signal net) x n all at h = moved_ok n (row.Bind (record { signal = signal; net = net })) x h
  row_cut place place' before (a_die site name file) x n all at h =
      let own = at site refl in
      within_cut place place' n (nat_le site last_site && die_fits before) (nat_le n last_site && die_fits (cut_rows cut before)) _ _ x
      (λ f. and_from (nat_le n last_site) (die_fits (cut_rows cut before)) (small_at site n own.0 own.1)
      (room_cut cut counts is_cut before (and_parts (nat_le site last_site) (die_fits before) f).1)) (λ m. moved_ok n _ x m) h
  row_cut place place' before (a_fault site name net value tries) x n all at h =
      let own = at site refl in
      within_cut place place' n (nat_le site last_site && nat_le value 1 && tries_fit tries) (nat_le n last_site && nat_le value 1 && tries_fit tries) _ _ x
      (λ f. let p = and_parts (nat_le site last_site && nat_le value 1) (tries_fit tries) f in
      let q = and_parts (nat_le site last_site) (nat_le value 1) p.0 in
      and_from (nat_le n last_site && nat_le value 1) (tries_fit tries) (and_from (nat_le n last_site) (nat_le value 1) (small_at site n own.0 own.1) q.1) p.1)
      (λ m. of_cut place place' n (number_at before site name) (number_at (cut_rows cut before) n name) _ _ x
      (ap (position (bytes_eq name)) (names_cut cut counts is_cut site n own.0 own.1 before all)) (λ k. refl) m) h
  row_cut place place' before (a_stop site name number batch) x n all at h =
      let own = at site refl in
      within_cut place place' n (nat_le site last_site && is_within 1 8 number && nat_le batch (2 ^ 48)) (nat_le n last_site && is_within 1 8 number && nat_le batch (2 ^ 48)) _ _ x
      (λ f. let p = and_parts (nat_le site last_site && is_within 1 8 number) (nat_le batch (2 ^ 48)) f in
      let q = and_parts (nat_le site last_site) (is_within 1 8 number) p.0 in
      and_from (nat_le n last_site && is_within 1 8 number) (nat_le batch (2 ^ 48)) (and_from (nat_le n last_site) (is_within 1 8 number) (small_at site n own.0 own.1) q.1) p.1)
      (λ m. of_cut place place' n (number_at before site name) (number_at (cut_rows cut before) n name) _ _ x
      (ap (position (bytes_eq name)) (names_cut cut counts is_cut site n own.0 own.1 before all)) (λ k. refl) m) h
  row_cut place place' before (a_bin ending number) x n all at h =
      within_cut place place' n (ending_fits ending && is_within 1 99 number) (ending_fits ending && is_within 1 99 number) _ _ x (λ f. f) (λ m. moved_ok n _ x m) h
  row_cut place place' before (a_skew site signal back size) x n all at h =
      let own = at site refl in
      within_cut place place' n (nat_le site last_site && nat_le size 1000000000000) (nat_le n last_site && nat_le size 1000000000000) _ _ x
      (λ f. and_from (nat_le n last_site) (nat_le size 1000000000000) (small_at site n own.0 own.1) (and_parts (nat_le site last_site) (nat_le size 1000000000000) f).1)
      (λ m. skew_cut place place' n (nat_lt 0 (length (dies_at site before))) (nat_lt 0 (length (dies_at n (cut_rows cut before)))) _ _ x
      (ap (nat_lt 0) (ap (λ (l : List DieRow). length l) (dies_cut cut counts is_cut site n own.0 own.1 before all) ∙ length-map (dies_at site before) (die_to n))) refl m) h

  -- a record that says what a judged record says, but for the number, is judged as the row under the number
  judged_cut : (before : List Row) (fields fields' : List (List ℕ)) (x : Row) (n : ℕ) → (0 < length before → AreKept before) → AllCount counts before
      → Counts counts x → Numbered cut x n → (j : IsJudged before fields x) → written_of fields' ≡ Some (written_to n j.said)
      → judge (cut_rows cut before) fields' ≡ Ok (moved n x)
  judged_cut before fields fields' x n kept all own to j form =
      let at = site_made (length before + 1) before j.said x j.made in
      is_judged (cut_rows cut before) fields' (moved n x) (record {
        said = written_to n j.said;
        form = form;
        stood = stands_cut cut counts is_cut before j.said n kept j.stood;
        made = row_cut (length before + 1) (length (cut_rows cut before) + 1) before j.said x n all
            (λ s is. (own s (at ∙ is), to s (at ∙ is))) j.made;
        fresh = false_from_ne_true _ (λ h. wrong (sym (said_cut cut counts is_cut x n own to before all h) ∙ j.fresh));
      })
    where
      wrong : true ≡ false → ⊥
      wrong e = cc

  -- a record of a site, with its number
  pub judge_moved : (before : List Row) (fields : List (List ℕ)) (x : Row) (site n : ℕ) → (0 < length before → AreKept before) → AllCount counts before
      → Counts counts x → site_in x ≡ Some site → cut site ≡ Some n → judge before fields ≡ Ok x
      → judge (cut_rows cut before) (with_site fields n) ≡ Ok (moved n x)
  judge_moved before fields x site n kept all own at to h =
      let j = judged before fields x h in
      let same = site_made (length before + 1) before j.said x j.made in
      judged_cut before fields (with_site fields n) x n kept all own (λ s is. ap cut (one s (sym is ∙ at)) ∙ to) j
      (written_with fields n j.said site (is_cut.small site n (own site at) to) j.form (sym same ∙ at))
    where
      one : (s : ℕ) → Some s ≡ Some site → s ≡ site
      one s e = cc

  -- a record of no site, as it is
  pub judge_same : (before : List Row) (fields : List (List ℕ)) (x : Row) → (0 < length before → AreKept before) → AllCount counts before
      → site_in x ≡ None → judge before fields ≡ Ok x → judge (cut_rows cut before) fields ≡ Ok x
  judge_same before fields x kept all none h =
      let j = judged before fields x h in
      let same = site_made (length before + 1) before j.said x j.made in
      judged_cut before fields fields x 0 kept all (λ s is. wrong s (sym none ∙ is)) (λ s is. wrong s (sym none ∙ is)) j
      (j.form ∙ ap (λ (v : Written). Some v) (sym (stays 0 j.said (sym same ∙ none))))
      ∙ ap (λ (r : Row). ok_row r) (moved-stays 0 x none)
    where
      wrong : {A : Type 0} (s : ℕ) → ◌≡◌ {A = Option ℕ} None (Some s) → A
      wrong s e = cc

      stays : (n : ℕ) (w : Written) → written_site w ≡ None → written_to n w ≡ w
      stays n (a_lot batch tries keep) e = refl
      stays n (a_clock signal) e = refl
      stays n (a_bind signal net) e = refl
      stays n (a_die site name file) e = cc
      stays n (a_fault site name net value tries) e = cc
      stays n (a_stop site name number batch) e = cc
      stays n (a_bin ending number) e = refl
      stays n (a_skew site signal back size) e = cc
