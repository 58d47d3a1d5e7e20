-- A tape: drive calls in their order, and the room that is left for more.
use Rattle.std.specs.Prelude.{ℕ, List}
use Rattle.tester_types.specs.declared.level.Drive.{Drive}

-- the calls, each with its instant and its drives, and the room that is left
pub record TapeState : Type 0 where
  pub calls : List (ℕ × List (ℕ × Drive))
  pub left : ℕ
