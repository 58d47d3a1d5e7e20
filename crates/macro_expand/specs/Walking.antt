-- Statements in order.
use Rattle.std.specs.Prelude.{◌≡◌, List, Option}
use Rattle.stil_ast.specs.Data.Places.{of_pattern}
use Rattle.stil_ast.specs.Data.Written.{Written}
use Rattle.stil_ast.specs.Meaning.Arguments.{Argument}
use Rattle.stil_ast.specs.Meaning.Flat.{Flat}
use Rattle.stil_ast.specs.Meaning.Flattening.{joined, Spot, Piece, flat_list}
use Rattle.stil_ast.specs.Meaning.Resolved.{Scope, origin, resolved}
use Rattle.stil_ast.specs.Meaning.Running.{Setting}
use Rattle.stil_ast.specs.Meaning.Statements.{Statements}
use Rattle.stil_ast.specs.Faults.AssignmentFaults.{Walked, Checked, Standing}
use Rattle.stil_ast.specs.Faults.PatternFaults.{check_list}
use Rattle.macro_expand.specs.declared.walk.Walk.{Walk}
use Rattle.macro_expand.specs.Walks.{walked, then_kept}

-- the flat tree of statements with these arguments left; where they begin makes no difference, as each says its place
abbrev pub flat_at : Setting → (Option Statements → Spot → Piece) → Statements → List Argument → Piece
flat_at t f x args = flat_list t f x (record { args = args; place = origin of_pattern 0 })

-- so many of the statements are still to be walked; what is left, and what was walked, are the whole
pub record IsWalking (sc : Scope) (t : Setting) (check : Standing → Written → Walked → Checked)
    (f : Option Statements → Spot → Piece) (s : Standing) (all : Written) (start : Walk) (left : Written) (now : Walk)
    : Type 0 where
  pub checked : check_list sc check s left (walked now) ≡ check_list sc check s all (walked start)
  pub out : (rest : Flat) → then_kept now.out (joined (flat_at t f (resolved sc s.body left) now.args).flat rest)
      ≡ then_kept start.out (joined (flat_at t f (resolved sc s.body all) start.args).flat rest)
  pub args : (flat_at t f (resolved sc s.body left) now.args).spot.args
      ≡ (flat_at t f (resolved sc s.body all) start.args).spot.args
