-- Sums over lists that are read by `get_elem?`: where one item changes, and what one item comes to.
use Rattle.std.proofs.Common.{◌≡◌, ℕ, zero, suc, ◌+◌, ◌<◌, ◌≤◌, List, [], ◌∷◌, length, get_or, set, sum_by, sym, ap, arith}
use Rattle.std.proofs.lemmas.List.Sums.{sum_by-set, get_or-le-sum_by}
use mathlib.Core.Option.{some, some-injective, some-ne-none}
use lib.ListN.{get_elem?}

-- what is read stands in the list
stands : {A : Type 0} (l : List A) (j : ℕ) (v : A) → get_elem? l j ≡ some v → (j < length l) × (get_or l j v ≡ v)
stands [] j v e = absurd (some-ne-none v (sym e))
stands (x ∷ xs) zero v e = (omega arith, some-injective x v e)
stands (x ∷ xs) (suc j) v e = let rest = stands xs j v e in (omega (arith, rest.0), rest.1)

-- where one item changes, a sum loses its term and gains the new one's
pub sum_by-set_there : {A : Type 0} (f : A → ℕ) (l : List A) (j : ℕ) (v w : A) → get_elem? l j ≡ some v
    → sum_by f (set l j w) + f v ≡ sum_by f l + f w
sum_by-set_there f l j v w e = let here = stands l j v e in omega (arith, sum_by-set f l j w v here.0, ap f here.1)

-- a sum is at least each of its terms
pub term-le-sum_by : {A : Type 0} (f : A → ℕ) (l : List A) (j : ℕ) (v : A) → get_elem? l j ≡ some v → f v ≤ sum_by f l
term-le-sum_by f l j v e = let here = stands l j v e in omega (arith, get_or-le-sum_by f l j v here.0, ap f here.1)
