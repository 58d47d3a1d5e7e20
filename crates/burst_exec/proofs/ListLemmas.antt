-- Sums over the front of a list.
use Rattle.std.proofs.Common.{◌≡◌, ℕ, ◌+◌, List, [], ◌∷◌, Some, ap, ◌∙◌, take, arith}
use Rattle.std.specs.Prelude.{slice_get, sum_by}
use Rattle.std.proofs.lemmas.List.Sums.{sum_by-append, sum_by-cons}
use Rattle.wave_tables.proofs.TakenLemmas.{front_found}

-- with one item more
pub sum_next : {A : Type 0} (f : A → ℕ) (xs : List A) (n : ℕ) (x : A) → slice_get xs n ≡ Some x
    → sum_by f (take (n + 1) xs) ≡ sum_by f (take n xs) + f x
sum_next f xs n x h =
    ap (sum_by f) (front_found xs n x h)
    ∙ sum_by-append f (take n xs) (x ∷ [])
    ∙ ap (λ (k : ℕ). sum_by f (take n xs) + k) (sum_by-cons f x [] ∙ omega arith)
