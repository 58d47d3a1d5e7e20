-- The records of a journal that are counted are as many as the planned dies that have one.
use Rattle.std.proofs.Common.{◌≡◌, ℕ, zero, suc, ◌+◌, ◌<◌, ◌≤◌, ◌==◌, ◌&&◌, ◌||◌, Bool, true, false, List, [], ◌∷◌, cond, length, sum_by, sym, refl, ap, ◌∙◌, inl, inr, arith, eq-eqb, ne_eqb}
use Rattle.std.specs.List.{count_by, flat_map, list_any, range_with_len}
use Rattle.std.proofs.lemmas.Bool.{cases_Bool}
use Rattle.std.proofs.lemmas.List.Sums.{sum_by-append, sum_by-cons}
use Rattle.tester_types.specs.declared.record.Record.{Record}
use Rattle.plan_rows.specs.Rows.{sites_of, dies_at}
use Rattle.lot_plan.specs.Bound.{Bound}
use Rattle.floor_core.specs.World.{is_at, at_site_of}
use Rattle.floor_core.specs.Interleavings.{site_by_site, is_counted, dies_counted}
use Rattle.floor_core.proofs.ListLemmas.{filter-yes, filter-no}
use Rattle.floor_core.proofs.HistoryLemmas.{Follow}

-- ---- numbers in a range

-- a sum over a range of what two functions agree on
sum_by-range_same : (f g : ℕ → ℕ) (from count : ℕ) → ((i : ℕ) → from ≤ i → i < from + count → f i ≡ g i)
    → sum_by f (range_with_len from count) ≡ sum_by g (range_with_len from count)
sum_by-range_same f g from zero same = refl
sum_by-range_same f g from (suc count) same =
    omega (
      arith,
      sum_by-cons f from (range_with_len (from + 1) count),
      sum_by-cons g from (range_with_len (from + 1) count),
      same from (omega arith) (omega arith),
      sum_by-range_same f g (from + 1) count (λ i least most. same i (omega (arith, least)) (omega (arith, most))),
    )

-- the same of what is counted
count_by-range_same : (f g : ℕ → Bool) (from count : ℕ) → ((i : ℕ) → from ≤ i → f i ≡ g i)
    → count_by f (range_with_len from count) ≡ count_by g (range_with_len from count)
count_by-range_same f g from count same =
    sum_by-range_same (λ i. cond {A = ℕ} (f i) 1 0) (λ i. cond {A = ℕ} (g i) 1 0) from count
    (λ i least most. ap (λ b. cond {A = ℕ} b 1 0) (same i least))

-- nothing is counted where nothing passes
count_by-range_none : (from count : ℕ) → count_by (λ i. false) (range_with_len from count) ≡ 0
count_by-range_none from zero = refl
count_by-range_none from (suc count) =
    omega (arith, sum_by-cons (λ (i : ℕ). 0) from (range_with_len (from + 1) count), count_by-range_none (from + 1) count)

module _ (counts : Record → Bool) where
  -- whether one of these records is that of a die and is counted
  abbrev has : List Record → ℕ → Bool
  has records die = list_any (λ (r : Record). r.die == die && counts r) records

  -- ---- the records of one site

  -- a later number stands behind
  follow-le : (from to : ℕ) (records : List Record) → Follow from records to → from ≤ to
  follow-le from to [] follow = omega (arith, follow)
  follow-le from to (r ∷ records) follow = omega (arith, follow-le (from + 1) to records follow.1)

  -- records of later dies have none of an earlier one
  has-before : (from to die : ℕ) (records : List Record) → die < from → Follow from records to → has records die ≡ false
  has-before from to die [] before follow = refl
  has-before from to die (r ∷ records) before follow =
      ap (λ b. (b && counts r) || has records die) (ne_eqb r.die die (λ e. omega (arith, e, before, follow.0)))
      ∙ has-before (from + 1) to die records (omega (arith, before)) follow.1

  -- a record is its die's
  has-here : (from to : ℕ) (r : Record) (records : List Record) → r.die ≡ from → Follow (from + 1) records to
      → has (r ∷ records) from ≡ counts r
  has-here from to r records die follow =
      ap (λ b. (b && counts r) || has records from) (eq-eqb r.die from die)
      ∙ ap (λ b. counts r || b) (has-before (from + 1) to from records (omega arith) follow)
      ∙ or_false (counts r)
    where
      or_false : (b : Bool) → (b || false) ≡ b
      or_false true = refl
      or_false false = refl

  -- and no later die's
  has-later : (die : ℕ) (r : Record) (records : List Record) → r.die < die → has (r ∷ records) die ≡ has records die
  has-later die r records later =
      ap (λ b. (b && counts r) || has records die) (ne_eqb r.die die (λ e. omega (arith, e, later)))

  -- as many of so many dies have a record that is counted as records are counted
  count-dies : (from to count : ℕ) (records : List Record) → Follow from records to → to ≤ from + count
      → count_by (has records) (range_with_len from count) ≡ count_by counts records
  count-dies from to count [] follow room = count_by-range_none from count
  count-dies from to zero (r ∷ records) follow room =
      absurd (let least = follow-le (from + 1) to records follow.1 in omega (arith, least, room))
  count-dies from to (suc count) (r ∷ records) follow room =
      let first = ap (λ b. cond {A = ℕ} b 1 0) (has-here from to r records follow.0 follow.1) in
      omega (
        arith,
        first,
        sum_by-cons (λ die. cond {A = ℕ} (has (r ∷ records) die) 1 0) from (range_with_len (from + 1) count),
        sum_by-cons (λ r. cond {A = ℕ} (counts r) 1 0) r records,
        count_by-range_same (has (r ∷ records)) (has records) (from + 1) count (λ die least. has-later die r records (omega (arith, least, follow.0))),
        count-dies (from + 1) to count records follow.1 (omega (arith, room)),
      )

  -- ---- the journal

  -- what a journal has of a die is what its site's records have
  is_counted-at : (journal : List Record) (site die : ℕ) → is_counted counts journal site die ≡ has (at_site_of site journal) die
  is_counted-at [] site die = refl
  is_counted-at (r ∷ journal) site die =
      let rest = is_counted-at journal site die in
      let own : Bool → Bool = λ b. (b && (r.die == die && counts r)) || is_counted counts journal site die in
      elim (cases_Bool (r.site == site)) [
        | inl same ↦ ap own same ∙ ap (λ b. (r.die == die && counts r) || b) rest
            ∙ ap (λ (l : List Record). has l die) (sym (filter-yes (is_at site) r journal same))
        | inr other ↦ ap own other ∙ rest ∙ ap (λ (l : List Record). has l die) (sym (filter-no (is_at site) r journal other))
      ]

  -- the records of so many sites that are counted, site by site
  count-flat_map : (journal : List Record) (from sites : ℕ)
      → count_by counts (flat_map (λ site. at_site_of site journal) (range_with_len from sites))
      ≡ sum_by (λ site. count_by counts (at_site_of site journal)) (range_with_len from sites)
  count-flat_map journal from zero = refl
  count-flat_map journal from (suc sites) =
      omega (
        arith,
        sum_by-append (λ r. cond {A = ℕ} (counts r) 1 0) (at_site_of from journal) (flat_map (λ site. at_site_of site journal) (range_with_len (from + 1) sites)),
        sum_by-cons (λ site. count_by counts (at_site_of site journal)) from (range_with_len (from + 1) sites),
        count-flat_map journal (from + 1) sites,
      )

  -- where the dies of each site follow one another and are planned, each is counted once
  pub count_is_dies : (plan : Bound) (journal : List Record)
      → ((site : ℕ) → (to : ℕ) × Follow 0 (at_site_of site journal) to × (to ≤ length (dies_at site plan.rows)))
      → count_by counts (site_by_site plan journal) ≡ dies_counted counts plan journal
  count_is_dies plan journal each =
      count-flat_map journal 0 (sites_of plan.rows)
      ∙ sum_by-range_same (λ site. count_by counts (at_site_of site journal))
      (λ site. count_by (is_counted counts journal site) (range_with_len 0 (length (dies_at site plan.rows)))) 0 (sites_of plan.rows)
      (λ site _ _.
      let dies = length (dies_at site plan.rows) in
      let told = each site in
      sym (count-dies 0 told.0 dies (at_site_of site journal) told.1 (omega (arith, told.2)))
      ∙ sym (count_by-range_same (is_counted counts journal site) (has (at_site_of site journal)) 0 dies (λ die _. is_counted-at journal site die)))
