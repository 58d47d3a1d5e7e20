-- A part of a plan: its text is the plan of its rows, and what they say of a number is what the plan says of the site.
use Rattle.std.proofs.Common.{◌≡◌, ◌⊎◌, ℕ, ◌+◌, ◌^◌, ◌<◌, Bool, true, false, cond, ◌&&◌, nat_le, List, [], ◌∷◌, ◌++◌, length, map, filter, Option, Some, None, Result, Ok, Err, refl, sym, ap, ◌∙◌, subst, arith, inl, inr}
use Rattle.std.specs.Option.{option_map}
use Rattle.std.proofs.lemmas.Bool.{eq-eqb, ne_eqb, cases_eq, lt-ltb, or_left, or_right}
use Rattle.std.proofs.lemmas.List.{map-append}
use Rattle.std.proofs.lemmas.List.Elements.{filter-append}
use Rattle.text_bytes.specs.Numbers.{is_within}
use Rattle.answers.specs.Reading.{and_then, reading}
use Rattle.plan_rows.specs.Limits.{last_site}
use Rattle.plan_rows.specs.Rows.{one, dies_at, site_in, is_here, is_about}
use Rattle.plan_rows.specs.Forms.{Written, a_lot, a_clock, a_bind, a_die, a_fault, a_stop, a_bin, a_skew}
use Rattle.plan_rows.specs.Judging.{judge, row_of, number_at, die_fits, tries_fit}
use Rattle.plan_rows.specs.Plan.{HasRecords, IsPlan}
use Rattle.plan_rows.specs.declared.row.Row.{Row}
use Rattle.plan_rows.specs.declared.row.Row.TheVariants as row
use Rattle.plan_rows.specs.declared.fault.PlanFault.{PlanFault}
use Rattle.plan_rows.specs.declared.fault.PlanFault.TheVariants.{UnknownName}
use Rattle.plan_rows.proofs.JudgeLemmas.{fits_within, die_there, number_within as number_inside}
use Rattle.plan_rows.proofs.KeptLemmas.{kept_where_read}
use Rattle.plan_parts.specs.Moved.{moved}
use Rattle.plan_parts.specs.Cut.{has_dies, sites_with_dies, site_at, part_rows, sites_in_part}
use Rattle.plan_parts.specs.PartText.{IsPartText, records_text}
use Rattle.plan_parts.specs.Inside.{site_of_die}
use Rattle.plan_parts.proofs.SiteLemmas.{has_dies-more, is_at}
use Rattle.plan_parts.proofs.TextLemmas.{read_of}
use Rattle.plan_parts.proofs.CutLemmas.{IsCut, Counts, AllCount, AllCount-append, AllCount-more, by_kind, said_at, cut_row, cut_rows}
use Rattle.plan_parts.proofs.SaidLemmas.{moved-stays}
use Rattle.plan_parts.proofs.WrittenLemmas.{written_site}
use Rattle.plan_parts.proofs.CutJudging.{judged, site_made, ok_row}
use Rattle.plan_parts.proofs.CutPlan.{cut_records, plan_cut, ok_rows, ArePlain, text_has, plain_cut, plain_read}
use Rattle.plan_parts.proofs.RankLemmas.{number_of, part_rows-cut, records_in-cut, part_is_cut, site_numbered, number_within}

-- ---- each row of a plan is of a site with dies

-- a row that was made is a die's, or its site has dies
made_there : (place : ℕ) (before : List Row) (w : Written) (x : Row) (s : ℕ) → row_of place before w ≡ Ok x → written_site w ≡ Some s
    → (has_dies before s ≡ true) ⊎ (site_of_die x ≡ Some s)
made_there place before (a_lot batch tries keep) x s h at = cc
made_there place before (a_clock signal) x s h at = cc
made_there place before (a_bind signal net) x s h at = cc
made_there place before (a_bin ending number) x s h at = cc
made_there place before (a_die site name file) x s h at =
    let m : ok_row (row.Die (record { site = site; name = name; file = file })) ≡ ok_row x = (fits_within place (nat_le site last_site && die_fits before) _ x h).1 in
    let same : x ≡ row.Die (record { site = site; name = name; file = file }) = cc in inr (ap site_of_die same ∙ at)
made_there place before (a_fault site name net value tries) x s h at =
    let found = (fits_within place (nat_le site last_site && nat_le value 1 && tries_fit tries) _ x h).1 in
    let (n, is, made) = die_there place (number_at before site name) _ x found in
    let same : site ≡ s = cc in
    inl (ap (has_dies before) (sym same) ∙ lt-ltb 0 (length (dies_at site before)) (omega (arith, number_inside before site name n is)))
made_there place before (a_stop site name number batch) x s h at =
    let found = (fits_within place (nat_le site last_site && is_within 1 8 number && nat_le batch (2 ^ 48)) _ x h).1 in
    let (n, is, made) = die_there place (number_at before site name) _ x found in
    let same : site ≡ s = cc in
    inl (ap (has_dies before) (sym same) ∙ lt-ltb 0 (length (dies_at site before)) (omega (arith, number_inside before site name n is)))
made_there place before (a_skew site signal back size) x s h at =
    let found = (fits_within place (nat_le site last_site && nat_le size 1000000000000) _ x h).1 in
    let same : site ≡ s = cc in
    inl (ap (has_dies before) (sym same) ∙ by (has_dies before site) _ found)
  where
    by : (b : Bool) (y : Row) → cond {A = Result Row PlanFault} b (Ok y) (Err (UnknownName place)) ≡ Ok x → b ≡ true
    by true y h = refl
    by false y h = cc

-- the rows that were read are
counts_read : (before rows : List Row) (records : List (List (List ℕ))) → reading judge before records ≡ Ok rows → AllCount (has_dies before) before
    → AllCount (has_dies rows) rows
counts_read before rows [] is all = let same : before ≡ rows = cc in subst (λ (l : List Row). AllCount (has_dies l) l) same all
counts_read before rows (fields ∷ records) is all = by (judge before fields) refl (λ x. counts_read (before ++ x ∷ []) rows records) is
  where
    own : (x : Row) → judge before fields ≡ Ok x → Counts (has_dies (before ++ x ∷ [])) x
    own x h s at =
        let j = judged before fields x h in
        has_dies-more before x s ∙ elim (made_there (length before + 1) before j.said x s j.made (sym (site_made (length before + 1) before j.said x j.made) ∙ at)) [
          | inl there ↦ or_left (has_dies before s) _ there
          | inr die ↦ or_right (has_dies before s) _ (ap (is_at s) die ∙ eq-eqb s s refl)
        ]

    by : (o : Result Row PlanFault) → judge before fields ≡ o
        → ((x : Row) → reading judge (before ++ x ∷ []) records ≡ Ok rows → AllCount (has_dies (before ++ x ∷ [])) (before ++ x ∷ []) → AllCount (has_dies rows) rows)
        → and_then o (λ x. reading judge (before ++ x ∷ []) records) ≡ Ok rows → AllCount (has_dies rows) rows
    by (Err e) h later is = cc
    by (Ok x) h later is =
        later x is (AllCount-append (has_dies (before ++ x ∷ [])) before (x ∷ [])
        (AllCount-more (has_dies before) (has_dies (before ++ x ∷ [])) (λ s has. has_dies-more before x s ∙ or_left (has_dies before s) _ has) before all)
        (own x h, tt))

-- the rows of a plan are
pub counts_plan : (bytes : List ℕ) (rows : List Row) → IsPlan bytes rows → AllCount (has_dies rows) rows
counts_plan bytes rows plan = counts_read [] rows plan.records (read_of plan.records rows plan.read) tt

-- ---- the text of a part

-- a part's text is the plan of its rows
pub part_is_plan : (bytes text : List ℕ) (rows : List Row) (parts part : ℕ) → 0 < parts → part < parts → IsPartText parts part bytes rows text
    → IsPlan text (part_rows parts part rows)
part_is_plan bytes text rows parts part some less is =
    let plan : IsPlan bytes rows = record { records = is.records; are = is.are; read = is.read } in
    let kept = kept_where_read bytes rows plan in
    let cut = part_is_cut parts part rows some kept in
    let made : List (List (List ℕ)) = cut_records (number_of parts part rows) rows is.records in
    let same : text ≡ records_text made = is.is ∙ ap records_text (records_in-cut parts part rows rows is.records) in
    let plain : ArePlain made = plain_cut (number_of parts part rows) rows is.records (plain_read [] rows is.records (read_of is.records rows is.read)) in
    record {
      records = made;
      are = subst (λ (b : List ℕ). HasRecords b made) (sym same) (text_has made plain);
      read = plan_cut (number_of parts part rows) (has_dies rows) cut rows is.records (counts_plan bytes rows plan) kept is.read
          ∙ ap ok_rows (sym (part_rows-cut parts part rows));
    }

-- ---- the rows of a site

-- the site of a row under a number
site_in-moved : (m s : ℕ) (r : Row) → site_in r ≡ Some s → site_in (moved m r) ≡ Some m
site_in-moved m s =
    by_kind (λ r. site_in r ≡ Some s → site_in (moved m r) ≡ Some m) (λ l e. cc) (λ s e. cc) (λ b e. cc) (λ b e. cc)
    (λ d e. refl) (λ f e. refl) (λ s e. refl) (λ k e. refl)

module _ (cut : ℕ → Option ℕ) (counts : ℕ → Bool) (is_cut : IsCut cut counts) (site number : ℕ) (has : counts site ≡ true) (at : cut site ≡ Some number) where
  -- what is left of a row, by whether it names the number
  about_row : (r : Row) → Counts counts r → filter (is_about number) (one (cut_row cut r)) ≡ map (moved number) (filter (is_about site) (r ∷ []))
  about_row r own = by (site_in r) refl
    where
      none_some : {A : Type 0} (n : ℕ) → ◌≡◌ {A = Option ℕ} None (Some n) → A
      none_some n e = cc

      found : (m n : ℕ) → ◌≡◌ {A = Option ℕ} (Some m) (Some n) → m ≡ n
      found m n e = cc

      of_cut : (s : ℕ) (o : Option ℕ) → site_in r ≡ Some s → cut s ≡ o
          → filter (is_about number) (one (option_map (λ n. moved n r) o)) ≡ map (moved number) (cond (is_here site (site_in r)) (r ∷ []) [])
      of_cut s None is to =
          sym (ap (λ (o : Option ℕ). map (moved number) (cond (is_here site o) (r ∷ []) [])) is
          ∙ ap (λ b. map (moved number) (cond b (r ∷ []) [])) (ne_eqb s site (λ same. none_some number (sym to ∙ ap cut same ∙ at))))
      of_cut s (Some m) is to =
          ap (λ (o : Option ℕ). cond (is_here number o) (moved m r ∷ []) []) (site_in-moved m s r is)
          ∙ elim (cases_eq s site) [
            | inl same ↦
                let here : m ≡ number = found m number (sym to ∙ ap cut same ∙ at) in
                ap (λ b. cond b (moved m r ∷ []) []) (eq-eqb m number here) ∙ ap (λ (n : ℕ). moved n r ∷ []) here
                ∙ sym (ap (λ b. map (moved number) (cond b (r ∷ []) [])) (eq-eqb s site same))
            | inr other ↦
                ap (λ b. cond b (moved m r ∷ []) [])
                (ne_eqb m number (λ here. other (is_cut.single s site number (own s is) has (to ∙ ap (λ (k : ℕ). Some k) here) at)))
                ∙ sym (ap (λ b. map (moved number) (cond b (r ∷ []) [])) (ne_eqb s site other))
          ]
          ∙ sym (ap (λ (o : Option ℕ). map (moved number) (cond (is_here site o) (r ∷ []) [])) is)

      by : (o : Option ℕ) → site_in r ≡ o
          → filter (is_about number) (one (said_at cut r (λ n. moved n r) o)) ≡ map (moved number) (cond (is_here site (site_in r)) (r ∷ []) [])
      by None is =
          ap (λ (o : Option ℕ). cond (is_here number o) (r ∷ []) []) is ∙ ap (λ (x : Row). x ∷ []) (sym (moved-stays number r is))
          ∙ sym (ap (λ (o : Option ℕ). map (moved number) (cond (is_here site o) (r ∷ []) [])) is)
      by (Some s) is = of_cut s (cut s) is refl

  -- what is left that names the number is what named the site
  about_cut : (rows : List Row) → AllCount counts rows → filter (is_about number) (cut_rows cut rows) ≡ map (moved number) (filter (is_about site) rows)
  about_cut [] all = refl
  about_cut (r ∷ rows) all =
      filter-append (is_about number) (one (cut_row cut r)) (cut_rows cut rows)
      ∙ ap (λ (l : List Row). l ++ filter (is_about number) (cut_rows cut rows)) (about_row r all.0)
      ∙ ap (λ (l : List Row). map (moved number) (filter (is_about site) (r ∷ [])) ++ l) (about_cut rows all.1)
      ∙ sym (map-append (moved number) (filter (is_about site) (r ∷ [])) (filter (is_about site) rows))
      ∙ ap (map (moved number)) (sym (filter-append (is_about site) (r ∷ []) rows))

-- the rows of a site in a part
pub rows_of_site : (bytes : List ℕ) (rows : List Row) (parts part number : ℕ) → part < parts → IsPlan bytes rows
    → number < sites_in_part parts part (length (sites_with_dies rows))
    → filter (is_about number) (part_rows parts part rows) ≡ map (moved number) (filter (is_about (site_at parts part rows number)) rows)
rows_of_site bytes rows parts part number less plan low =
    let own = site_numbered parts part number rows less ((number_within parts part (length (sites_with_dies rows)) less number).0 low) in
    ap (filter (is_about number)) (part_rows-cut parts part rows)
    ∙ about_cut (number_of parts part rows) (has_dies rows) (part_is_cut parts part rows (omega (arith, less)) (kept_where_read bytes rows plan))
    (site_at parts part rows number) number own.0 own.1 rows (counts_plan bytes rows plan)
