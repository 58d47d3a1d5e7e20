-- The flat tree of a pattern, or the first fault of its statements.
use Rattle.std.specs.Prelude.{◌≡◌, ℕ, Result, Ok, Err, length}
use Rattle.stil_ast.specs.Data.Places.{of_pattern}
use Rattle.stil_ast.specs.Data.Written.{Written}
use Rattle.stil_ast.specs.Meaning.ExecutiveData.{IsSameFlat}
use Rattle.stil_ast.specs.Meaning.Flat.{Flat, flat_run}
use Rattle.stil_ast.specs.Meaning.Flattening.{flat_of}
use Rattle.stil_ast.specs.Meaning.Laws.{with_state}
use Rattle.stil_ast.specs.Meaning.Resolved.{resolved}
use Rattle.stil_ast.specs.Meaning.Running.{run, outside}
use Rattle.stil_ast.specs.Meaning.Signals.{Names}
use Rattle.stil_ast.specs.Meaning.State.{State}
use Rattle.stil_ast.specs.Meaning.Statements.{Statements}
use Rattle.stil_ast.specs.Faults.AssignmentFaults.{Walked, Checked, fine, refused}
use Rattle.stil_ast.specs.Faults.PatternFaults.{check_pattern}
use Rattle.stil_ast.specs.declared.fault.StilFault.{StilFault}
use Rattle.stil_ast.specs.Data.Refusal.{StilRefusal}
use Rattle.answers.specs.declared.short.Short.TheVariants as refusal
use Rattle.flat_tree.specs.Kept.{kept}
use Rattle.flat_tree.specs.Lean.{IsLean}
use Rattle.macro_expand.specs.Recursing.{setting_in}
use Rattle.macro_expand.specs.Refusing.{IsAt, Trouble}
use Rattle.macro_expand.specs.Scopes.{scope_in, titles_in}
use Rattle.macro_expand.specs.declared.scope.PatternScope.{PatternScope}
use Rattle.macro_expand.specs.declared.walk.Walk.{Walk}
use Rattle.macro_expand.specs.Walks.{walked}

-- the check of a pattern's own statements, behind so many walked and assigned
abbrev pub pattern_check : Names → PatternScope → Written → ℕ → Checked
pattern_check names scope body count = check_pattern (scope_in names scope) body count

-- a pattern's own statements
abbrev pub pattern_in : Names → PatternScope → Written → Statements
pattern_in names scope body = resolved (scope_in names scope) of_pattern body

-- A flat tree serves for a pattern: from any state it makes the pattern's vectors and leaves the state that the pattern
-- leaves. It is as good as the one that the language defines, and sets nothing twice between two vectors.
pub record IsTreeOf (names : Names) (scope : PatternScope) (body : Written) (flat : Flat) : Type 0 where
  pub runs : (s : State) → flat_run flat (outside s).held s
      ≡ with_state (run (setting_in names scope) (pattern_in names scope body) (outside s))
  pub same : IsSameFlat flat (flat_of (setting_in names scope) (pattern_in names scope body))
  pub lean : IsLean (length names.signals) flat

-- a pattern without a fault: its tree, and how much was walked with it
pub record Expands (names : Names) (scope : PatternScope) (body : Written) (before : ℕ) (flat : Flat) (after : ℕ)
    : Type 0 where
  pub left : Walked
  pub checked : pattern_check names scope body before ≡ fine left
  pub counted : after ≡ left.count
  pub tree : IsTreeOf names scope body flat

-- the fault by which a pattern is refused
pub record IsPatternFault (names : Names) (scope : PatternScope) (body : Written) (before : ℕ) (r : StilRefusal)
    : Type 0 where
  pub fault : StilFault
  pub is : r ≡ refusal.Fault fault
  pub first : pattern_check names scope body before ≡ refused fault

-- a pattern was walked from the start to its end: how far it came, and what calls leave in the tree that the language
-- defines; or its fault
abbrev pub WalksOr : Names → PatternScope → Written → ℕ → Result Walk Trouble → Type 0
WalksOr names scope body before (Ok walk) =
    (pattern_check names scope body before ≡ fine (walked walk))
    × (walk.out ≡ kept (flat_of (setting_in names scope) (pattern_in names scope body)))
WalksOr names scope body before (Err trouble) =
    IsAt (titles_in scope.titles) (pattern_check names scope body before) trouble

-- the tree of a pattern, or its first fault, or want of memory
abbrev pub ExpandsOr : Names → PatternScope → Written → ℕ → ℕ → Result Flat StilRefusal → Type 0
ExpandsOr names scope body before after (Ok flat) = Expands names scope body before flat after
ExpandsOr names scope body before after (Err refusal.NoMemory) = Unit {0}
ExpandsOr names scope body before after (Err (refusal.Fault fault)) =
    pattern_check names scope body before ≡ refused fault

-- what a refusal says of a check
abbrev pub IsRefusal : Checked → StilRefusal → Type 0
IsRefusal checked refusal.NoMemory = Unit {0}
IsRefusal checked (refusal.Fault fault) = checked ≡ refused fault
