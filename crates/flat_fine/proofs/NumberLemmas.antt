-- Names of a letter and a number, and what is in the lists of all executives.
use Rattle.std.proofs.Common.{◌≡◌, ℕ, ◌+◌, ◌*◌, ◌^◌, ◌<◌, ◌≤◌, true, false, List, [], ◌∷◌, length, length-append, sym, ◌∙◌, arith, inl, inr}
use Rattle.std.specs.Prelude.{◌==◌, decimal}
use Rattle.std.specs.List.{AllByRecursion, flat_map}
use Rattle.std.proofs.lemmas.Bool.{or_cases, false_from_ne_true, false≢true}
use Rattle.std.proofs.lemmas.Fmt.{decimal_injective}
use Rattle.std.proofs.lemmas.List.{append_cancel_left}
use Rattle.std.proofs.lemmas.List.Folds.{list_any-append}
use Rattle.std.proofs.lemmas.Slice.Eq.{bytes_eq-Decides}
use Rattle.stil_ast.specs.Data.Texts.{same}
use Rattle.flat_parts.specs.Order.{is_in}
use Rattle.flat_parts.specs.FlatBlocks.{numbered}

-- other numbers, other names
pub numbered_differ : (front : List ℕ) (a b : ℕ) → a < 2 ^ 64 → b < 2 ^ 64 → (a ≡ b → ⊥)
    → same (numbered front a) (numbered front b) ≡ false
numbered_differ front a b small low differ =
    false_from_ne_true (same (numbered front a) (numbered front b)) (λ t.
    differ (decimal_injective a b small low
    (append_cancel_left front (decimal a) (decimal b) ((bytes_eq-Decides (numbered front a) (numbered front b)).0 t))))

-- what all have is had by one
pub has_any : {A : Type 0} (of : A → List ℕ) (items : List A) (n : ℕ) (P : Type 0)
    → AllByRecursion (λ x. is_in (of x) n ≡ true → P) items → is_in (flat_map of items) n ≡ true → P
has_any of [] n P each has = absurd (false≢true has)
has_any of (x ∷ items) n P each has =
    elim (or_cases (is_in (of x) n) (is_in (flat_map of items) n) (sym (list_any-append (λ m. m == n) (of x) (flat_map of items)) ∙ has)) [
      | inl here ↦ each.0 here
      | inr behind ↦ has_any of items n P each.1 behind
    ]

-- what all have is as long as each may have
pub all_long : {A : Type 0} (of : A → List ℕ) (items : List A) (most : ℕ) → AllByRecursion (λ x. length (of x) ≤ most) items
    → length (flat_map of items) ≤ length items * most
all_long of [] most each = omega arith
all_long of (x ∷ items) most each =
    let behind = all_long of items most each.1 in
    let here = each.0 in
    let is = length-append (of x) (flat_map of items) in
    omega (arith, is, here, behind)

-- products of sums
pub times_suc : (n k : ℕ) → (n + 1) * k ≡ n * k + k
times_suc n k = grind arith

pub times_both : (m n k : ℕ) → (m + (n + 1) + 1) * k ≡ m * k + n * k + k + k
times_both m n k = grind arith
