-- Numbers in the order in which they first come: which they are, how many, and their places.
use Rattle.std.proofs.Common.{◌≡◌, ℕ, zero, suc, ◌+◌, ◌<◌, ◌≤◌, Bool, true, false, not, ◌||◌, cond, List, [], ◌∷◌, length, get_or, slice_get, flat_map, Some, refl, sym, ap, ◌∙◌, arith}
use Rattle.std.specs.Prelude.{◌==◌}
use Rattle.std.specs.List.{filter}
use Rattle.std.proofs.lemmas.Bool.{eqb-true, eqb-false, eq-eqb, ne_eqb, or_left, or_right}
use Rattle.std.proofs.lemmas.List.Folds.{list_any-append}
use Rattle.std.proofs.lemmas.List.Sums.{passes_at_first}
use Rattle.std.proofs.lemmas.Option.{slice_get-get_or}
use Rattle.text_bytes.proofs.ListLemmas.{length-filter-le}
use Rattle.flat_parts.specs.Order.{is_in, firsts, number_in}

-- ---- each number once

-- equality from the other side
pub swapped : (m n : ℕ) (b : Bool) → (m == n) ≡ b → (n == m) ≡ b
swapped m n true e = eq-eqb n m (sym (eqb-true m n e))
swapped m n false e = ne_eqb n m (λ is. eqb-false m n e (sym is))

others_step : (same : Bool) (k m n : ℕ) (rest ns : List ℕ) → (k == m) ≡ same → (m == n) ≡ false → is_in rest n ≡ is_in ns n
    → is_in (cond (not same) (k ∷ rest) rest) n ≡ ((k == n) || is_in ns n)
others_step true k m n rest ns e h so =
    so ∙ ap (λ (b : Bool). b || is_in ns n) (sym (ap (λ (x : ℕ). x == n) (eqb-true k m e) ∙ h))
others_step false k m n rest ns e h so = ap (λ (b : Bool). (k == n) || b) so

-- a number alone
pub is_in-itself : (n : ℕ) → is_in (n ∷ []) n ≡ true
is_in-itself n = or_left (n == n) false (eq-eqb n n refl)

-- a number stays where another is taken out
is_in-others : (ns : List ℕ) (m n : ℕ) → (m == n) ≡ false → is_in (filter (λ k. not (k == m)) ns) n ≡ is_in ns n
is_in-others [] m n h = refl
is_in-others (k ∷ ns) m n h =
    others_step (k == m) k m n (filter (λ j. not (j == m)) ns) ns refl h (is_in-others ns m n h)

in_by : (same : Bool) (m n : ℕ) (first ns : List ℕ) → (m == n) ≡ same → is_in first n ≡ is_in ns n
    → (same || is_in (filter (λ k. not (k == m)) first) n) ≡ (same || is_in ns n)
in_by true m n first ns e so = refl
in_by false m n first ns e so = is_in-others first m n e ∙ so

-- the same numbers are in both
pub is_in-firsts : (ns : List ℕ) (n : ℕ) → is_in (firsts ns) n ≡ is_in ns n
unfolding firsts
is_in-firsts [] n = refl
is_in-firsts (m ∷ ns) n = in_by (m == n) m n (firsts ns) ns refl (is_in-firsts ns n)

-- ---- how many

-- no more come first than there are
pub firsts_shorter : (ns : List ℕ) → length (firsts ns) ≤ length ns
unfolding firsts
firsts_shorter [] = omega arith
firsts_shorter (n ∷ ns) =
    omega (arith, length-filter-le (λ k. not (k == n)) (firsts ns), firsts_shorter ns)

-- ---- places

within_by : (same there : Bool) (x l : ℕ) → (same || there) ≡ true → (there ≡ true → x < l) → cond (not same) (1 + x) 0 < suc l
within_by true there x l h so = omega arith
within_by false there x l h so = let e = so h in omega (arith, e)

-- the place of a number that is there
pub place_within : (ns : List ℕ) (n : ℕ) → is_in ns n ≡ true → number_in ns n < length ns
place_within [] n h = absurd cc
place_within (k ∷ ns) n h = within_by (k == n) (is_in ns n) (number_in ns n) (length ns) h (place_within ns n)

-- at its place stands the number
pub at_place : (ns : List ℕ) (n : ℕ) → is_in ns n ≡ true → slice_get ns (number_in ns n) ≡ Some n
at_place ns n h =
    let inside = place_within ns n h in
    slice_get-get_or ns (number_in ns n) 0 inside
    ∙ ap Some (eqb-true (get_or ns (number_in ns n) 0) n (passes_at_first (λ k. k == n) ns 0 inside))

-- ---- numbers in lists that are made of others

-- what is in one part
pub in_part : {A : Type 0} (f : A → List ℕ) (xs : List A) (i : ℕ) (x : A) (n : ℕ) → slice_get xs i ≡ Some x
    → is_in (f x) n ≡ true → is_in (flat_map f xs) n ≡ true
in_part f [] i x n e h = absurd cc
in_part f (y ∷ xs) zero x n e h =
    let same : y ≡ x = cc in
    list_any-append (λ k. k == n) (f y) (flat_map f xs)
    ∙ or_left (is_in (f y) n) (is_in (flat_map f xs) n) (ap (λ (z : _). is_in (f z) n) same ∙ h)
in_part f (y ∷ xs) (suc i) x n e h =
    list_any-append (λ k. k == n) (f y) (flat_map f xs)
    ∙ or_right (is_in (f y) n) (is_in (flat_map f xs) n) (in_part f xs i x n e h)
