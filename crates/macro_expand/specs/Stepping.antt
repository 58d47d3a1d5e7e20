-- What a step of a walk does: it is checked without a fault and writes its piece of the flat tree, or has the fault.
use Rattle.std.specs.Prelude.{◌≡◌, ◌+◌, ◌++◌, true, ℕ, List, Result, Ok, Err}
use Rattle.stil_ast.specs.Data.Places.{Titles}
use Rattle.stil_ast.specs.Meaning.Statements.{Assign}
use Rattle.stil_ast.specs.Meaning.Dealing.{deal, takers}
use Rattle.stil_ast.specs.Meaning.Flat.{Flat}
use Rattle.stil_ast.specs.Meaning.Flattening.{joined, gifts_front, Spot, Piece}
use Rattle.stil_ast.specs.Meaning.Resolved.{Scope, resolved_assigns, origin}
use Rattle.stil_ast.specs.Faults.AssignmentFaults.{Walked, Checked, fine, Standing, check_assigns, may_walk}
use Rattle.stil_ast.specs.Faults.PatternFaults.{counted}
use Rattle.stil_ast.specs.declared.body.Assignment.{Assignment}
use Rattle.flat_tree.specs.Origins.{body_of}
use Rattle.flat_tree.specs.declared.place.BodyKind.{BodyKind}
use Rattle.macro_expand.specs.declared.standing.Standing.{Standing as HeldStanding}
use Rattle.macro_expand.specs.declared.walk.Walk.{Walk}
use Rattle.macro_expand.specs.Placing.{Writes}
use Rattle.macro_expand.specs.Refusing.{IsAt, Trouble}
use Rattle.macro_expand.specs.Standings.{standing_in}
use Rattle.macro_expand.specs.Walks.{walked, then_kept, Puts}

-- assignments are written, or refused
abbrev pub WritesOr : {A : Type 0} → Titles → (Walked → Checked) → List Assign → Walk → Walk → Result A Trouble → Type 0
WritesOr titles check assigns before after (Ok done) = Writes check assigns before after
WritesOr titles check assigns before after (Err trouble) = IsAt titles (check (walked before)) trouble

-- so many of the assignments are still to be walked; what is left, and what was done, are the whole
pub record IsAssigning (sc : Scope) (s : Standing) (all : List Assignment) (start : Walk) (left : List Assignment)
    (now : Walk) : Type 0 where
  pub checked : check_assigns sc s left (walked now) ≡ check_assigns sc s all (walked start)
  pub args : (deal (resolved_assigns sc.names left) now.args).args
      ≡ (deal (resolved_assigns sc.names all) start.args).args
  pub out : (rest : Flat) → then_kept now.out (gifts_front (deal (resolved_assigns sc.names left) now.args).gifts rest)
      ≡ then_kept start.out (gifts_front (deal (resolved_assigns sc.names all) start.args).gifts rest)
  pub taken : now.taken ++ takers (resolved_assigns sc.names left)
      ≡ start.taken ++ takers (resolved_assigns sc.names all)

-- a step is checked without a fault, and its piece is written behind what stands
pub record Steps (check : Walked → Checked) (piece : Piece) (before after : Walk) : Type 0 where
  pub checked : check (walked before) ≡ fine (walked after)
  pub out : Puts before.out (joined piece.flat) after.out
  pub args : after.args ≡ piece.spot.args

-- a step is made, or refused
abbrev pub StepsOr : {A : Type 0} → Titles → (Walked → Checked) → Piece → Walk → Walk → Result A Trouble → Type 0
StepsOr titles check piece before after (Ok done) = Steps check piece before after
StepsOr titles check piece before after (Err trouble) = IsAt titles (check (walked before)) trouble

-- a place in a body, with what is left of the arguments
abbrev pub spot_on : BodyKind → ℕ → Walk → Spot
spot_on body line w = record { args = w.args; place = origin (body_of body) line }

-- one statement more is counted, or there are too many, whatever step it would make
abbrev pub CountsOne : {A : Type 0} → HeldStanding → ℕ → Walk → Walk → Result A Trouble → Type 0
CountsOne s line before after (Ok done) =
    (may_walk (before.count + 1) ≡ true) × (after ≡ record before { count = before.count + 1 })
CountsOne s line before after (Err trouble) = (sc : Scope) (step : Walked → Checked)
    → IsAt sc.titles (counted sc (standing_in sc s) line step (walked before)) trouble
