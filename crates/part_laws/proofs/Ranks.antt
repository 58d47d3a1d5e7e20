-- Lists by the ranks of sites with dies.
use Rattle.std.proofs.Common.{◌≡◌, ℕ, ◌<◌, Bool, true, false, cond, List, [], ◌∷◌, ◌++◌, length, map, refl, sym, ap, ◌∙◌, arith}
use Rattle.std.specs.Prelude.{filter}
use Rattle.std.specs.List.{flat_map, range_with_len}
use Rattle.std.proofs.lemmas.List.{length-map, get_or-map, ext_get_or}
use Rattle.std.proofs.lemmas.List.FromFn.{length-map-range_with_len, get_or-map-range_with_len}
use Rattle.plan_rows.specs.declared.row.Row.{Row}
use Rattle.plan_parts.specs.Cut.{sites_with_dies, rank_of}
use Rattle.plan_parts.proofs.RankLemmas.{has_at_rank}

-- what the ranks give is what the sites give by their ranks
pub by_rank : {X : Type 0} (g : ℕ → X) (rows : List Row) (d : X)
    → map g (range_with_len 0 (length (sites_with_dies rows)))
    ≡ map (λ site. g (rank_of rows site)) (sites_with_dies rows)
by_rank {X} g rows d =
    let sites : List ℕ = sites_with_dies rows in
    let h : ℕ → X = λ site. g (rank_of rows site) in
    ext_get_or d (map g (range_with_len 0 (length sites))) (map h sites)
    (length-map-range_with_len g 0 (length sites) ∙ sym (length-map sites h))
    (λ k low.
    let within : k < length sites = omega (arith, low, length-map-range_with_len g 0 (length sites)) in
    get_or-map-range_with_len g 0 (length sites) k k d within (omega arith)
    ∙ ap g (sym (has_at_rank rows k within).1) ∙ sym (get_or-map h sites k 0 d within))

-- where those that don't pass give nothing, all give what those that pass give
pub nothing_else : {X : Type 0} (p : ℕ → Bool) (g : ℕ → List X) → ((s : ℕ) → p s ≡ false → g s ≡ [])
    → (xs : List ℕ)
    → flat_map g xs ≡ flat_map g (filter p xs)
nothing_else p g none [] = refl
nothing_else {X} p g none (x ∷ xs) = by (p x) refl (nothing_else p g none xs)
  where
    by : (b : Bool) → p x ≡ b → flat_map g xs ≡ flat_map g (filter p xs)
        → g x ++ flat_map g xs ≡ flat_map g (cond b (x ∷ filter p xs) (filter p xs))
    by true is rest = ap (λ (l : List X). g x ++ l) rest
    by false is rest = ap (λ (l : List X). l ++ flat_map g xs) (none x is) ∙ rest
