-- Marks of which none is that of the round.
use Rattle.std.proofs.Common.{◌≡◌, ◌≢◌, ℕ, zero, suc, ◌+◌, ◌≤◌, ◌==◌, Bool, false, List, [], ◌∷◌, refl, ap, ◌∙◌, length, map, replicate, ne_eqb, arith}
use Rattle.std.specs.List.{All}

pub none_newer : (marks : List ℕ) (round : ℕ) → All (λ m. m ≤ round) marks
    → map (λ m. m == round + 1) marks ≡ replicate (length marks) false
none_newer [] round all = refl
none_newer (m ∷ marks) round all =
    let first : m ≤ round = all 0 0 (omega arith) in
    let ne : m ≢ round + 1 = omega arith in
    ap (λ (b : Bool). b ∷ map (λ m. m == round + 1) marks) (ne_eqb m (round + 1) ne)
    ∙ ap (λ (bs : List Bool). false ∷ bs) (none_newer marks round (λ k d within. all (suc k) d (omega arith)))

pub none_at_one : (n : ℕ) → map (λ m. m == 1) (replicate n 0) ≡ replicate n false
none_at_one zero = refl
none_at_one (suc n) = ap (λ (bs : List Bool). false ∷ bs) (none_at_one n)
