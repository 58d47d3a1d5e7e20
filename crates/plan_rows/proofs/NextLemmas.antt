-- One more row: what is kept of the rows before it and of it.
use Rattle.std.proofs.Common.{◌≡◌, ◌≢◌, ℕ, ◌+◌, ◌<◌, Bool, true, false, cond, ◌==◌, List, [], ◌∷◌, ◌++◌, length, map, filter, get_or, Option, Some, None, refl, sym, ap, ◌∙◌, subst, arith, get_or-set_other, length-append}
use Rattle.std.specs.List.{list_any}
use Rattle.std.specs.Str.{bytes_eq}
use Rattle.std.proofs.Math.ListN.{set, length-set}
use Rattle.std.proofs.lemmas.List.{map-append, length-map, append-nil}
use Rattle.std.proofs.lemmas.List.Elements.{filter-append}
use Rattle.std.proofs.lemmas.Grind.{get_or-set_at}
use Rattle.std.proofs.lemmas.Bool.{eqb-true, eqb-false}
use Rattle.text_bytes.specs.Texts.{added}
use Rattle.plan_rows.specs.Rows.{one, each_of, dies_of, as_lot, as_die}
use Rattle.plan_rows.specs.Judging.{says_again}
use Rattle.plan_rows.specs.Inside.{IsTally, Suits, Notes, kept_names}
use Rattle.plan_rows.specs.declared.tally.DieTally.{DieTally}
use Rattle.plan_rows.specs.declared.row.Row.{Row}
use Rattle.plan_rows.specs.declared.row.Row.TheVariants as row
use Rattle.plan_rows.specs.declared.row.LotRow.{LotRow}
use Rattle.plan_rows.specs.declared.row.DieRow.{DieRow}
use Rattle.plan_rows.proofs.RowLemmas.{each_of-append}
use Rattle.plan_rows.proofs.SaidLemmas.{fresh_name}
use Rattle.text_bytes.proofs.ListLemmas.{list_any-map}

-- a row of another kind gives nothing more
pub each_of-other : {A : Type 0} (f : Row → Option A) (rows : List Row) (x : Row) → f x ≡ None → each_of f (rows ++ x ∷ []) ≡ each_of f rows
each_of-other f rows x h = each_of-append f rows (x ∷ []) ∙ ap (λ o. each_of f rows ++ (one o ++ [])) h ∙ append-nil (each_of f rows)

-- a row of the kind gives one more
pub each_of-one : {A : Type 0} (f : Row → Option A) (rows : List Row) (x : Row) (a : A) → f x ≡ Some a →
    each_of f (rows ++ x ∷ []) ≡ each_of f rows ++ a ∷ []
each_of-one f rows x a h = each_of-append f rows (x ∷ []) ∙ ap (λ o. each_of f rows ++ (one o ++ [])) h

-- the lot and the names, by the lots and the dies
abbrev lot_among : List LotRow → LotRow
lot_among lots = get_or lots 0 (record { batch = 0; tries = 0; keep = 0 })

abbrev names_among : ℕ → List DieRow → List (List ℕ)
names_among site dies = map (λ (d : DieRow). d.name) (filter (λ (d : DieRow). d.site == site) dies)

-- the names with one more die
names_more : (site : ℕ) (dies : List DieRow) (d : DieRow) → names_among site (dies ++ d ∷ []) ≡ names_among site dies ++ names_among site (d ∷ [])
names_more site dies d =
    ap (map (λ (d : DieRow). d.name)) (filter-append (λ (d : DieRow). d.site == site) dies (d ∷ []))
    ∙ map-append (λ (d : DieRow). d.name) (filter (λ (d : DieRow). d.site == site) dies) (filter (λ (d : DieRow). d.site == site) (d ∷ []))

-- a row that is neither the lot's own nor a die's
other_tally : (old new : DieTally) (rows : List Row) (x : Row) → IsTally old rows → new ≡ old → as_lot x ≡ None → as_die x ≡ None →
    IsTally new (rows ++ x ∷ [])
other_tally old new rows x t same no_lot no_die =
    let lots : each_of as_lot (rows ++ x ∷ []) ≡ each_of as_lot rows = each_of-other as_lot rows x no_lot in
    let dies : each_of as_die (rows ++ x ∷ []) ≡ each_of as_die rows = each_of-other as_die rows x no_die in
    subst (λ (k : DieTally). IsTally k (rows ++ x ∷ [])) (sym same) (record {
      lot = t.lot ∙ sym (ap lot_among lots);
      dies = t.dies ∙ sym (ap length dies);
      few = t.few;
      sites = t.sites;
      names = λ site within. t.names site within ∙ sym (ap (names_among site) dies);
    })

-- as many sites as are kept
kept_sites : (t : DieTally) → length (kept_names t) ≡ length t.names.items
kept_sites t = length-map t.names.items _

lot_tally : (old new : DieTally) (l : LotRow) → IsTally old [] → Notes old new (row.Lot l) → IsTally new (row.Lot l ∷ [])
lot_tally old new l t (lot, dies, names) = record {
  lot = lot;
  dies = dies ∙ t.dies;
  few = omega (arith, dies, t.few);
  sites = sym (kept_sites new) ∙ ap length names ∙ kept_sites old ∙ t.sites;
  names = λ site within. ap (λ (k : List (List (List ℕ))). get_or k site []) names ∙ t.names site within;
}

-- the names of a site, with a new die
new_names : (kept : List (List (List ℕ))) (dies : List DieRow) (d : DieRow) (site : ℕ) → d.site < length kept →
    get_or kept site [] ≡ names_among site dies → get_or kept d.site [] ≡ names_among d.site dies →
    list_any (bytes_eq d.name) (names_among d.site dies) ≡ false →
    get_or (set kept d.site (added (get_or kept d.site []) d.name)) site [] ≡ names_among site dies ++ names_among site (d ∷ [])
new_names kept dies d site low at_site at_die fresh = by (d.site == site) refl
  where
    put : added (get_or kept d.site []) d.name ≡ names_among d.site dies ++ d.name ∷ []
    put = ap (λ names. added names d.name) at_die
        ∙ ap (λ b. cond b (names_among d.site dies) (names_among d.site dies ++ d.name ∷ [])) fresh

    by : (b : Bool) → (d.site == site) ≡ b →
        get_or (set kept d.site (added (get_or kept d.site []) d.name)) site []
        ≡ names_among site dies ++ map (λ (d : DieRow). d.name) (cond b (d ∷ []) [])
    by true e =
        let same : d.site ≡ site = eqb-true d.site site e in
        get_or-set_at kept d.site site (added (get_or kept d.site []) d.name) [] (sym same) low ∙ put
        ∙ ap (λ s. names_among s dies ++ d.name ∷ []) same
    by false e =
        let differ : site ≢ d.site = λ same. eqb-false d.site site e (sym same) in
        other_place site differ ∙ at_site ∙ sym (append-nil (names_among site dies))
      where
        other_place : (j : ℕ) → j ≢ d.site → get_or (set kept d.site (added (get_or kept d.site []) d.name)) j [] ≡ get_or kept j []
        other_place j differ = rw get_or-set_other refl

die_tally : (old new : DieTally) (rows : List Row) (d : DieRow) → IsTally old rows → Suits rows (row.Die d) → says_again rows (row.Die d) ≡ false →
    Notes old new (row.Die d) → IsTally new (rows ++ row.Die d ∷ [])
die_tally old new rows d t (behind, low, few, kept, named) fresh (lot, dies, names) =
    let lots : each_of as_lot (rows ++ row.Die d ∷ []) ≡ each_of as_lot rows = each_of-other as_lot rows (row.Die d) refl in
    let more : each_of as_die (rows ++ row.Die d ∷ []) ≡ each_of as_die rows ++ d ∷ [] = each_of-one as_die rows (row.Die d) d refl in
    let count : length (each_of as_die rows ++ d ∷ []) ≡ length (each_of as_die rows) + 1 = length-append (each_of as_die rows) (d ∷ []) in
    let number : new.dies ≡ length (each_of as_die rows) + 1 = dies ∙ ap (λ n. n + 1) t.dies in
    let inside : d.site < length (kept_names old) = omega (arith, kept_sites old, t.sites) in
    record {
      lot = lot ∙ t.lot ∙ sym (ap lot_among lots);
      dies = number ∙ sym count ∙ sym (ap length more);
      few = omega (arith, number, few);
      sites = sym (kept_sites new) ∙ ap length names ∙ length-set (kept_names old) d.site _ ∙ kept_sites old ∙ t.sites;
      names = λ site within.
          ap (λ (k : List (List (List ℕ))). get_or k site []) names
          ∙ new_names (kept_names old) (dies_of rows) d site inside (t.names site within) (t.names d.site (omega arith)) (fresh_name rows d fresh)
          ∙ sym (ap (names_among site) more ∙ names_more site (dies_of rows) d);
    }

-- what is kept, with a row that may follow
pub noted : (old new : DieTally) (rows : List Row) (x : Row) → IsTally old rows → Suits rows x → says_again rows x ≡ false →
    Notes old new x → IsTally new (rows ++ x ∷ [])
noted old new [] (row.Lot l) t suits fresh notes = lot_tally old new l t notes
noted old new (y ∷ rows) (row.Lot l) t (none, fits) fresh notes = absurd (omega arith)
noted old new rows (row.Clock s) t suits fresh notes = other_tally old new rows (row.Clock s) t notes refl refl
noted old new rows (row.Bind b) t suits fresh notes = other_tally old new rows (row.Bind b) t notes refl refl
noted old new rows (row.Die d) t suits fresh notes = die_tally old new rows d t suits fresh notes
noted old new rows (row.Fault f) t suits fresh notes = other_tally old new rows (row.Fault f) t notes refl refl
noted old new rows (row.Stop s) t suits fresh notes = other_tally old new rows (row.Stop s) t notes refl refl
noted old new rows (row.Bin b) t suits fresh notes = other_tally old new rows (row.Bin b) t notes refl refl
noted old new rows (row.Skew k) t suits fresh notes = other_tally old new rows (row.Skew k) t notes refl refl

-- what the rows are about, with one more
pub subjects_more : {X : Type 0} (f : X → List ℕ) (keys keys' : List X) (k : X) (subjects : List (List ℕ)) →
    map f keys ≡ subjects → list_any (bytes_eq (f k)) subjects ≡ false →
    keys' ≡ cond (list_any (λ j. bytes_eq (f k) (f j)) keys) keys (keys ++ k ∷ []) → map f keys' ≡ subjects ++ f k ∷ []
subjects_more f keys keys' k subjects seen fresh put =
    let none : list_any (λ j. bytes_eq (f k) (f j)) keys ≡ false =
    sym (list_any-map f (bytes_eq (f k)) keys) ∙ ap (list_any (bytes_eq (f k))) seen ∙ fresh in
    ap (map f) (put ∙ ap (λ b. cond b keys (keys ++ k ∷ [])) none) ∙ map-append f keys (k ∷ []) ∙ ap (λ (s : List (List ℕ)). s ++ f k ∷ []) seen
