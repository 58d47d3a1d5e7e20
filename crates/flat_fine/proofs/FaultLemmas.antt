-- Faults that are none, or that something is too large, which nothing is where the numbers of a text fit.
use Rattle.std.proofs.Common.{◌≡◌, Bool, true, false, List, [], ◌∷◌, Option, Some, None, refl, sym, subst, arith}
use Rattle.std.proofs.lemmas.Bool.{false≢true}
use Rattle.stil_ast.specs.Faults.Found.{unless, or_else, first_in}
use Rattle.stil_ast.specs.Faults.AssignmentFaults.{Walked, Checked, fine, refused, then_check, rule, bar_if}
use Rattle.stil_ast.specs.Faults.ExecutiveFaults.{behind_pattern, checked_fault, checked_count}
use Rattle.stil_ast.specs.Faults.PatternFaults.{back_from}
use Rattle.stil_ast.specs.declared.fault.StilFault.{StilFault}
use Rattle.stil_ast.specs.declared.fault.StilKind.TheVariants.{TooLarge}
use Rattle.std.specs.Prelude.{ℕ, ◌≤◌}
use Rattle.std.specs.List.{AllByRecursion}
use Rattle.stil_ast.proofs.FoundLemmas.{none_both}

-- no fault, or that something is too large, which it isn't where the numbers fit
abbrev pub IsLarge : Type 0 → Option StilFault → Type 0
IsLarge Fit None = Unit {0}
IsLarge Fit (Some fault) = (fault.kind ≡ TooLarge) × (Fit → ⊥)

-- a check without fault that has walked so much at most, or for which something is too large
abbrev pub Passes : Type 0 → ℕ → Checked → Type 0
Passes Fit most (fine w) = w.count ≤ most
Passes Fit most (refused fault) = (fault.kind ≡ TooLarge) × (Fit → ⊥)

-- a list without fault
pub none_first : {A : Type 0} (of : A → Option StilFault) (items : List A) → AllByRecursion (λ x. of x ≡ None) items
    → first_in of items ≡ None
none_first of [] each = refl
none_first of (x ∷ items) each = none_both (of x) (first_in of items) each.0 (none_first of items each.1)

-- what a fault is
pub large_is : (Fit : Type 0) (o : Option StilFault) (fault : StilFault) → IsLarge Fit o → o ≡ Some fault
    → fault.kind ≡ TooLarge
large_is Fit o fault large e = (subst (IsLarge Fit) e large).0

-- where the numbers fit there is none
pub none_where_fit : (Fit : Type 0) (o : Option StilFault) → Fit → IsLarge Fit o → o ≡ None
none_where_fit Fit None fit large = refl
none_where_fit Fit (Some fault) fit large = absurd (large.1 fit)

module _ (Fit : Type 0) where
  pub large_none : (o : Option StilFault) → o ≡ None → IsLarge Fit o
  large_none o e = subst (IsLarge Fit) (sym e) tt

  pub large_or : (a b : Option StilFault) → IsLarge Fit a → IsLarge Fit b → IsLarge Fit (or_else a b)
  large_or None b first second = second
  large_or (Some fault) b first second = first

  pub large_unless : (test : Bool) (fault : StilFault) (rest : Option StilFault) → fault.kind ≡ TooLarge → (Fit → test ≡ true)
      → IsLarge Fit rest → IsLarge Fit (unless test fault rest)
  large_unless true fault rest large holds behind = behind
  large_unless false fault rest large holds behind = (large, λ fit. false≢true (holds fit))

  pub large_first : {A : Type 0} (of : A → Option StilFault) (items : List A) → AllByRecursion (λ x. IsLarge Fit (of x)) items
      → IsLarge Fit (first_in of items)
  large_first of [] each = tt
  large_first of (x ∷ items) each = large_or (of x) (first_in of items) each.0 (large_first of items each.1)

  -- ---- checks

  pub passes_more : (low high : ℕ) (c : Checked) → low ≤ high → Passes Fit low c → Passes Fit high c
  passes_more low high (fine w) less passes = omega (arith, less, passes)
  passes_more low high (refused fault) less passes = passes

  pub passes_then : (low high : ℕ) (c : Checked) (next : Walked → Checked) → Passes Fit low c
      → ((w : Walked) → w.count ≤ low → Passes Fit high (next w)) → Passes Fit high (then_check c next)
  passes_then low high (fine w) next first second = second w first
  passes_then low high (refused fault) next first second = first

  pub passes_rule : (most : ℕ) (test : Bool) (fault : StilFault) (next : Walked → Checked) (w : Walked) → fault.kind ≡ TooLarge
      → (Fit → test ≡ true) → Passes Fit most (next w) → Passes Fit most (rule test fault next w)
  passes_rule most true fault next w large holds behind = behind
  passes_rule most false fault next w large holds behind = (large, λ fit. false≢true (holds fit))

  pub passes_kept : (most : ℕ) (test : Bool) (fault : StilFault) (next : Walked → Checked) (w : Walked) → test ≡ true
      → Passes Fit most (next w) → Passes Fit most (rule test fault next w)
  passes_kept most test fault next w holds behind =
      subst (λ (b : Bool). Passes Fit most (rule b fault next w)) (sym holds) behind

  pub passes_bar : (most : ℕ) (test : Bool) (fault : StilFault) (next : Walked → Checked) (w : Walked) → test ≡ false
      → Passes Fit most (next w) → Passes Fit most (bar_if test fault next w)
  passes_bar most test fault next w fails behind =
      subst (λ (b : Bool). Passes Fit most (bar_if b fault next w)) (sym fails) behind

  pub passes_back : (most : ℕ) (w : Walked) (c : Checked) → Passes Fit most c → Passes Fit most (back_from w c)
  passes_back most w (fine now) passes = passes
  passes_back most w (refused fault) passes = passes

  pub passes_pattern : (low high : ℕ) (stopped : Bool) (c : Checked) (next : ℕ → Checked) → low ≤ high → Passes Fit low c
      → ((n : ℕ) → n ≤ low → Passes Fit high (next n)) → Passes Fit high (behind_pattern stopped c next)
  passes_pattern low high stopped (refused fault) next less first second = first
  passes_pattern low high true (fine w) next less first second = omega (arith, less, first)
  passes_pattern low high false (fine w) next less first second = second w.count first

  -- the fault of a check
  pub large_checked : (most : ℕ) (c : Checked) → Passes Fit most c → IsLarge Fit (checked_fault c)
  large_checked most (fine w) passes = tt
  large_checked most (refused fault) passes = passes

  -- how far it has walked
  pub walked_few : (most : ℕ) (c : Checked) → Passes Fit most c → checked_count c ≤ most
  walked_few most (fine w) passes = passes
  walked_few most (refused fault) passes = omega arith
