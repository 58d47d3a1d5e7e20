-- Each wave in each table stays inside its cycle; the skews of each site, one site after another, are those in store.
use Rattle.std.proofs.Common.{◌≡◌, ◌==◌, ℕ, ◌+◌, ℤ, Bool, true, false, Some, List, [], ◌∷◌, ◌++◌, length, map, filter, take, get_or, ap, sym, ◌∙◌, arith, zero-add}
use Rattle.std.proofs.lemmas.Bool.{and_from}
use Rattle.std.proofs.lemmas.Option.{slice_get_within, get_or_from_slice_get}
use Rattle.std.proofs.lemmas.List.Folds.{list_all_more, list_all_at}
use Rattle.std.proofs.lemmas.List.FromFn.{get_or-map-range_with_len, length-map-range_with_len, map-range_with_len_more}
use Rattle.std.specs.List.{range_with_len, list_all, slice_get}
use Rattle.packed_code.specs.declared.parts.CodeSignal.{CodeSignal}
use Rattle.plan_rows.specs.declared.row.Row.{Row}
use Rattle.plan_rows.specs.declared.row.SkewRow.{SkewRow}
use Rattle.plan_rows.specs.Rows.{each_of, as_skew, skews_at, sites_of}
use Rattle.lot_plan.specs.Bound.{Bound, signals_of}
use Rattle.lot_plan.specs.Skews.{skews_of}
use Rattle.lot_plan.specs.Stored.{AreSkews}

-- one more that passes
pub goes_on : {X : Type 0} (p : X → Bool) (xs : List X) (i : ℕ) (x : X) → slice_get xs i ≡ Some x → p x ≡ true
    → list_all p (take i xs) ≡ true → list_all p (take (i + 1) xs) ≡ true
goes_on p xs i x found here before =
    list_all_more p xs i x (slice_get_within xs i x found)
    ∙ and_from _ _ before (ap p (get_or_from_slice_get xs i x x found) ∙ here)

-- one that doesn't
pub stops : {X : Type 0} (p : X → Bool) (xs : List X) (i : ℕ) (x : X) → slice_get xs i ≡ Some x → p x ≡ false
    → list_all p xs ≡ false
stops p xs i x found here =
    list_all_at p xs i x (slice_get_within xs i x found) (ap p (get_or_from_slice_get xs i x x found) ∙ here)

-- those of one site more
pub one_site_more : (signals : List CodeSignal) (rows : List Row) (site : ℕ) (skewed own : List SkewRow)
    (skews : List ℤ) (all : List (List ℤ)) → skewed ≡ each_of as_skew rows → own ≡ filter (λ k. k.site == site) skewed
    → skews ≡ skews_of signals own
    → all ≡ map (λ s. skews_of signals (skews_at s rows)) (range_with_len 0 site)
    → all ++ skews ∷ [] ≡ map (λ s. skews_of signals (skews_at s rows)) (range_with_len 0 (site + 1))
one_site_more signals rows site skewed own skews all every is made before =
    let at : ℕ → List ℤ = λ s. skews_of signals (skews_at s rows) in
    let here : skews ≡ at site =
    made ∙ ap (skews_of signals) (is ∙ ap (filter (λ (k : SkewRow). k.site == site)) every) in
    ap (λ l. l ++ skews ∷ []) before ∙ ap (λ x. map at (range_with_len 0 site) ++ x ∷ []) here
    ∙ sym (map-range_with_len_more at 0 site site (zero-add site))

-- the skews of all sites
pub are_skews : (b : Bound) (sites : ℕ) (signals : List CodeSignal) (skews : List (List ℤ)) → sites ≡ sites_of b.rows
    → signals ≡ signals_of b
    → skews ≡ map (λ site. skews_of signals (skews_at site b.rows)) (range_with_len 0 sites) → AreSkews b skews
are_skews b sites signals skews count same are =
    let at : ℕ → List ℤ = λ site. skews_of signals (skews_at site b.rows) in
    let long : length skews ≡ sites = ap length are ∙ length-map-range_with_len at 0 sites in
    record {
      count = long ∙ count;
      each = λ s within. ap (λ l. get_or l s []) are ∙ get_or-map-range_with_len at 0 sites s s [] (omega (arith, long)) (zero-add s)
          ∙ ap (λ l. skews_of l (skews_at s b.rows)) same;
    }
