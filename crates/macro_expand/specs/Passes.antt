-- The passes of a Shift, one after another.
use Rattle.std.specs.Prelude.{◌≡◌, ℕ, List, Result}
use Rattle.stil_ast.specs.Data.Places.{Origin}
use Rattle.stil_ast.specs.Data.Written.{Written}
use Rattle.stil_ast.specs.Meaning.Arguments.{Argument}
use Rattle.stil_ast.specs.Meaning.Flat.{Flat}
use Rattle.stil_ast.specs.Meaning.Flattening.{joined, Spot, Piece, flat_list, pieces, pass_piece}
use Rattle.stil_ast.specs.Meaning.Resolved.{origin}
use Rattle.stil_ast.specs.Meaning.Signals.{Names}
use Rattle.stil_ast.specs.Faults.AssignmentFaults.{Walked, Checked}
use Rattle.stil_ast.specs.Faults.PatternFaults.{times_checked, one_pass}
use Rattle.flat_tree.specs.Origins.{body_of}
use Rattle.macro_expand.specs.declared.scope.PatternScope.{PatternScope}
use Rattle.macro_expand.specs.declared.standing.Standing.{Standing as HeldStanding}
use Rattle.macro_expand.specs.Refusing.{Trouble}
use Rattle.macro_expand.specs.declared.walk.Walk.{Walk}
use Rattle.macro_expand.specs.Recursing.{setting_in, stands, flat_named, named_in, list_check}
use Rattle.macro_expand.specs.Scopes.{titles_in}
use Rattle.macro_expand.specs.Stepping.{StepsOr}
use Rattle.macro_expand.specs.Walks.{walked, then_kept}

-- so many passes of a Shift in this place, which begin with these arguments left
abbrev pub passes_at : (Spot → Piece) → Origin → ℕ → List Argument → Piece
passes_at f p count args = pieces count (pass_piece p f) (record { args = args; place = p })

-- so many of the passes are still to come; what is left, and what was walked, are the whole
pub record IsPassing (check : Walked → Checked) (f : Spot → Piece) (p : Origin) (all : ℕ) (start : Walk)
    (left : ℕ) (now : Walk) : Type 0 where
  pub checked : times_checked left (one_pass check) (walked now) ≡ times_checked all (one_pass check) (walked start)
  pub out : (rest : Flat) → then_kept now.out (joined (passes_at f p left now.args).flat rest)
      ≡ then_kept start.out (joined (passes_at f p all start.args).flat rest)
  pub args : (passes_at f p left now.args).spot.args ≡ (passes_at f p all start.args).spot.args

-- one pass of statements that stand in a Shift is checked
abbrev pub pass_check : Names → PatternScope → HeldStanding → Written → Walked → Checked
pass_check names scope inside body = list_check names scope inside (stands names scope inside) body

-- its tree
abbrev pub pass_flat : Names → PatternScope → HeldStanding → Written → Spot → Piece
pass_flat names scope inside body =
    flat_list (setting_in names scope) (flat_named names scope inside) (named_in names scope inside body)

-- so many passes of statements in a Shift on this line are walked, or refused
abbrev pub PassesStep : {A : Type 0} → Names → PatternScope → HeldStanding → ℕ → ℕ → Written → Walk → Walk
    → Result A Trouble → Type 0
PassesStep names scope inside line count body before after result =
    StepsOr (titles_in scope.titles) (times_checked count (one_pass (pass_check names scope inside body)))
    (passes_at (pass_flat names scope inside body) (origin (body_of inside.body) line) count before.args)
    before after result

-- so many of the passes are still to come
abbrev pub ArePassing : Names → PatternScope → HeldStanding → ℕ → ℕ → Written → Walk → ℕ → Walk → Type 0
ArePassing names scope inside line count body start left now =
    IsPassing (pass_check names scope inside body) (pass_flat names scope inside body)
    (origin (body_of inside.body) line) count start left now
