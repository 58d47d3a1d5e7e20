-- What the row of a judged record keeps.
use Rattle.std.proofs.Common.{◌≡◌, ℕ, ◌+◌, ◌<◌, ◌^◌, Bool, true, false, not, cond, ◌&&◌, ◌==◌, nat_lt, nat_le, List, [], ◌∷◌, length, map, Option, Some, None, Result, Ok, Err, refl, sym, ap, ◌∙◌, subst, arith}
use Rattle.std.specs.List.{list_any}
use Rattle.std.specs.Str.{bytes_eq}
use Rattle.std.proofs.lemmas.Bool.{and_parts, leb-true, ne_eqb}
use Rattle.std.proofs.lemmas.List.{length-map}
use Rattle.std.proofs.lemmas.List.Quantifiers.{position-Some}
use Rattle.text_bytes.specs.Numbers.{is_within}
use Rattle.plan_rows.specs.Limits.{last_site}
use Rattle.plan_rows.specs.Rows.{dies_of, dies_at, IsLot}
use Rattle.plan_rows.specs.Forms.{Written, a_lot, a_clock, a_bind, a_die, a_fault, a_stop, a_bin, a_skew, written_of}
use Rattle.answers.specs.Reading.{and_then}
use Rattle.plan_rows.specs.Subjects.{subject_of}
use Rattle.plan_rows.specs.Judging.{is_lot, stands, lot_fits, die_fits, tries_fit, ending_fits, names_at, number_at, of_die, within, row_of, says_again, placed, once, row_at, judge_at, judge}
use Rattle.plan_rows.specs.Inside.{Suits, IsNext, key_of}
use Rattle.plan_rows.proofs.FileLemmas.{SaysFile, written_of-says}
use Rattle.plan_rows.proofs.SubjectLemmas.{same_subject-keys}
use Rattle.text_bytes.proofs.ListLemmas.{list_any-map}
use Rattle.plan_rows.specs.declared.row.Row.{Row}
use Rattle.plan_rows.specs.declared.row.DieRow.{DieRow}
use Rattle.plan_rows.specs.declared.fault.PlanFault.{PlanFault}
use Rattle.plan_rows.specs.declared.fault.PlanFault.TheVariants.{Shape, UnknownName, Twice}

-- two steps that end well
pub steps : {A B : Type 0} (r : Result A PlanFault) (next : A → Result B PlanFault) (y : B) → and_then r next ≡ Ok y →
    (x : A) × (r ≡ Ok x) × (next x ≡ Ok y)
steps (Ok x) next y h = (x, refl, h)
steps (Err e) next y h = cc

-- a record that has a place has a form, and stands where it may
pub stands_where_placed : (place : ℕ) (before : List Row) (o : Option Written) (w : Written) → placed place before o ≡ Ok w
    → (o ≡ Some w) × (stands before w ≡ true)
stands_where_placed place before None w h = cc
stands_where_placed place before (Some v) w h = by (stands before v) refl h
  where
    by : (b : Bool) → stands before v ≡ b → cond {A = Result Written PlanFault} b (Ok v) (Err (Shape place)) ≡ Ok w
        → (Some v ≡ Some w) × (stands before w ≡ true)
    by true e h = let same : v ≡ w = cc in (ap Some same, subst (λ (u : Written). stands before u ≡ true) same e)
    by false e h = cc

-- a row that is taken says nothing again
pub fresh_once : (place : ℕ) (before : List Row) (x y : Row) → once place before x ≡ Ok y → (x ≡ y) × (says_again before y ≡ false)
fresh_once place before x y h = by (says_again before x) refl h
  where
    by : (b : Bool) → says_again before x ≡ b → cond {A = Result Row PlanFault} b (Err (Twice place)) (Ok x) ≡ Ok y → (x ≡ y) × (says_again before y ≡ false)
    by true e h = cc
    by false e h = let same : x ≡ y = cc in (same, subst (λ (u : Row). says_again before u ≡ false) same e)

-- a row within its ranges
pub fits_within : (place : ℕ) (fits : Bool) (r : Result Row PlanFault) (x : Row) → within place fits r ≡ Ok x → (fits ≡ true) × (r ≡ Ok x)
fits_within place true r x h = (refl, h)
fits_within place false r x h = cc

-- a die that is there
pub die_there : (place : ℕ) (o : Option ℕ) (made : ℕ → Row) (x : Row) → of_die place o made ≡ Ok x → (n : ℕ) × (o ≡ Some n) × (made n ≡ x)
die_there place None made x h = cc
die_there place (Some n) made x h = (n, refl, cc)

-- the number of a die is one of those of its site
pub number_within : (before : List Row) (site : ℕ) (name : List ℕ) (n : ℕ) → number_at before site name ≡ Some n → n < length (dies_at site before)
number_within before site name n is =
    let low = (position-Some (bytes_eq name) (names_at site before) n [] is).0 in
    let seen : length (names_at site before) ≡ length (dies_at site before) = length-map (dies_at site before) (λ (d : DieRow). d.name) in
    omega arith

-- what holds of a row holds of the same row
of_same : (P : Row → Type 0) (y x : Row) (r : Result Row PlanFault) → r ≡ Ok y → r ≡ Ok x → P y → P x
of_same P y x r a b h = let same : y ≡ x = cc in subst P same h

-- behind another row nothing is a lot's own
not_first : (before : List Row) (w : Written) → is_lot w ≡ false → stands before w ≡ true → 0 < length before
not_first [] w other st = cc
not_first (x ∷ xs) w other st = omega arith

first : (before : List Row) (w : Written) → is_lot w ≡ true → stands before w ≡ true → length before ≡ 0
first [] w own st = refl
first (x ∷ xs) w own st =
    let more : (length (x ∷ xs) == 0) ≡ false = ne_eqb (length (x ∷ xs)) 0 (λ e. omega arith) in
    let other : not (is_lot w) ≡ true = sym (ap (λ b. cond b (is_lot w) (not (is_lot w))) more) ∙ st in
    let wrong : true ≡ false = sym other ∙ ap not own in
    cc

lot_is : (batch tries keep : ℕ) → lot_fits batch tries keep ≡ true → IsLot (record { batch = batch; tries = tries; keep = keep })
lot_is batch tries keep h =
    let (front, k) = and_parts (is_within 1 1048576 batch && is_within 1 8 tries) (nat_le keep 1024) h in
    let (b, t) = and_parts (is_within 1 1048576 batch) (is_within 1 8 tries) front in
    let (b1, b2) = and_parts (nat_le 1 batch) (nat_le batch 1048576) b in
    let (t1, t2) = and_parts (nat_le 1 tries) (nat_le tries 8) t in
    record {
      batch_some = leb-true 1 batch b1;
      batch = leb-true batch 1048576 b2;
      tries_some = leb-true 1 tries t1;
      tries = leb-true tries 8 t2;
      keep = leb-true keep 1024 k;
    }

-- a row that is made where a test holds
where_some : (b : Bool) (fault : PlanFault) (made x : Row) → cond {A = Result Row PlanFault} b (Ok made) (Err fault) ≡ Ok x
    → cond {A = Result Row PlanFault} true (Ok made) (Err fault) ≡ Ok x
where_some true fault made x h = h
where_some false fault made x h = cc

-- a row made of what a record says suits the rows before it
pub suits : (place : ℕ) (before : List Row) (w : Written) (x : Row) → SaysFile (Some w) → stands before w ≡ true
    → row_of place before w ≡ Ok x → Suits before x
suits place before (a_lot batch tries keep) x says st h =
    let (fits, made) = fits_within place (lot_fits batch tries keep) _ x h in
    of_same (Suits before) _ x _ refl made (first before (a_lot batch tries keep) refl st, lot_is batch tries keep fits)
suits place before (a_clock signal) x says st h = of_same (Suits before) _ x _ refl h (not_first before (a_clock signal) refl st)
suits place before (a_bind signal net) x says st h = of_same (Suits before) _ x _ refl h (not_first before (a_bind signal net) refl st)
suits place before (a_die site name file) x says st h =
    let (fits, made) = fits_within place (nat_le site last_site && die_fits before) _ x h in
    let (low, room) = and_parts (nat_le site last_site) (die_fits before) fits in
    let (few, kept) = and_parts (nat_le (length (dies_of before) + 1) 4096) _ room in
    of_same (Suits before) _ x _ refl made (
      not_first before (a_die site name file) refl st,
      leb-true site 63 low,
      leb-true (length (dies_of before) + 1) 4096 few,
      leb-true _ 1048576 kept,
      says,
    )
suits place before (a_fault site name net value tries) x says st h =
    let (fits, found) = fits_within place (nat_le site last_site && nat_le value 1 && tries_fit tries) _ x h in
    let (n, at, made) = die_there place (number_at before site name) _ x found in
    subst (Suits before) made (not_first before (a_fault site name net value tries) refl st, number_within before site name n at)
suits place before (a_stop site name number batch) x says st h =
    let (fits, found) = fits_within place (nat_le site last_site && is_within 1 8 number && nat_le batch (2 ^ 48)) _ x h in
    let (n, at, made) = die_there place (number_at before site name) _ x found in
    subst (Suits before) made (not_first before (a_stop site name number batch) refl st, number_within before site name n at)
suits place before (a_bin ending number) x says st h =
    let (fits, made) = fits_within place (ending_fits ending && is_within 1 99 number) _ x h in
    let (least, most) = and_parts (nat_le 1 number) (nat_le number 99) (and_parts (ending_fits ending) (is_within 1 99 number) fits).1 in
    of_same (Suits before) _ x _ refl made
    (not_first before (a_bin ending number) refl st, leb-true 1 number least, leb-true number 99 most)
suits place before (a_skew site signal back size) x says st h =
    let (fits, found) = fits_within place (nat_le site last_site && nat_le size 1000000000000) _ x h in
    of_same (Suits before) _ x _ refl (where_some (nat_lt 0 (length (dies_at site before))) (UnknownName place) _ x found)
    (not_first before (a_skew site signal back size) refl st)

-- the row of a judged record may follow those before it
pub next_is : (place : ℕ) (before : List Row) (fields : List (List ℕ)) (x : Row) → judge_at place before fields ≡ Ok x → IsNext before x
next_is place before fields x h =
    let (y, row, again) = steps (row_at place before fields) (once place before) x h in
    let (w, form, made) = steps (placed place before (written_of fields)) (row_of place before) y row in
    let (same, fresh) = fresh_once place before y x again in
    let (formed, stood) = stands_where_placed place before (written_of fields) w form in
    record {
      suits = subst (Suits before) same (suits place before w y (subst SaysFile formed (written_of-says fields)) stood made);
      fresh = fresh;
    }

-- what keys say of a row's subject
pub says_by_keys : {X : Type 0} (f : X → List ℕ) (keys : List X) (before : List Row) (x : Row) (key : List ℕ) (b : Bool)
    → map f keys ≡ map key_of before → key ≡ key_of x → b ≡ list_any (λ k. bytes_eq key (f k)) keys
    → says_again before x ≡ b
says_by_keys f keys before x key b seen is found =
    sym (same_subject-keys before (subject_of x))
    ∙ ap (λ (s : List ℕ). list_any (bytes_eq s) (map key_of before)) (sym is) ∙ ap (list_any (bytes_eq key)) (sym seen)
    ∙ list_any-map f (bytes_eq key) keys ∙ sym found

-- the fault of a record by itself
pub fault_alone : (place : ℕ) (before : List Row) (fields : List (List ℕ)) (e : PlanFault) → row_at place before fields ≡ Err e →
    judge_at place before fields ≡ Err e
fault_alone place before fields e h = ap (λ (r : Result Row PlanFault). and_then r (once place before)) h

-- a row that says something again, and one that doesn't
pub fault_again : (place : ℕ) (before : List Row) (fields : List (List ℕ)) (x : Row) → row_at place before fields ≡ Ok x →
    says_again before x ≡ true → judge_at place before fields ≡ Err (Twice place)
fault_again place before fields x h again =
    ap (λ (r : Result Row PlanFault). and_then r (once place before)) h ∙ ap (λ b. cond {A = Result Row PlanFault} b (Err (Twice place)) (Ok x)) again

pub taken : (place : ℕ) (before : List Row) (fields : List (List ℕ)) (x : Row) → row_at place before fields ≡ Ok x →
    says_again before x ≡ false → judge_at place before fields ≡ Ok x
taken place before fields x h fresh =
    ap (λ (r : Result Row PlanFault). and_then r (once place before)) h ∙ ap (λ b. cond {A = Result Row PlanFault} b (Err (Twice place)) (Ok x)) fresh

-- a place by an equal number
pub at_place : (place : ℕ) (before : List Row) (fields : List (List ℕ)) (r : Result Row PlanFault) → place ≡ length before + 1 →
    judge_at place before fields ≡ r → judge before fields ≡ r
at_place place before fields r e h = ap (λ n. judge_at n before fields) (sym e) ∙ h
