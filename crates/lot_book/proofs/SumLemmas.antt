-- Sums over lists that are read by `get_elem?`: where one item changes, and what one and two items come to.
use Rattle.std.proofs.Common.{◌≡◌, ◌≢◌, ℕ, zero, suc, ◌+◌, ◌≤◌, List, [], ◌∷◌, sum_by, refl, sym, ap, arith}
use Rattle.std.proofs.lemmas.List.Sums.{sum_by-cons}
use Rattle.text_bytes.proofs.SumLemmas.{term-le-sum_by}
use mathlib.Core.Option.{some, some-injective, some-ne-none}
use lib.ListN.{get_elem?}

-- a sum is at least any two of its terms
pub terms-le-sum_by : {A : Type 0} (f : A → ℕ) (l : List A) (j k : ℕ) (v w : A) → get_elem? l j ≡ some v
    → get_elem? l k ≡ some w → j ≢ k → f v + f w ≤ sum_by f l
terms-le-sum_by f [] j k v w e e' apart = absurd (some-ne-none v (sym e))
terms-le-sum_by f (x ∷ xs) zero zero v w e e' apart = absurd (apart refl)
terms-le-sum_by f (x ∷ xs) zero (suc k) v w e e' apart =
    omega (arith, sum_by-cons f x xs, ap f (some-injective x v e), term-le-sum_by f xs k w e')
terms-le-sum_by f (x ∷ xs) (suc j) zero v w e e' apart =
    omega (arith, sum_by-cons f x xs, ap f (some-injective x w e'), term-le-sum_by f xs j v e)
terms-le-sum_by f (x ∷ xs) (suc j) (suc k) v w e e' apart =
    omega (arith, sum_by-cons f x xs, terms-le-sum_by f xs j k v w e e' (λ same. apart (ap suc same)))
