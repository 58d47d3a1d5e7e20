-- The numbers that stand for directions in a saved program.
use Rattle.std.specs.Prelude.{ℕ, [], ◌∷◌, ◌==◌, Option}
use Rattle.std.specs.List.{find}
use Rattle.tester_types.specs.declared.signal.Direction.{Direction}
use Rattle.tester_types.specs.declared.signal.Direction.TheVariants.{In, Out, InOut, Supply, Pseudo}

-- a direction's number
abbrev pub direction_code : Direction → ℕ
direction_code In = 0
direction_code Out = 1
direction_code InOut = 2
direction_code Supply = 3
direction_code Pseudo = 4

-- the direction of a number
abbrev pub direction_of : ℕ → Option Direction
direction_of n = find (λ d. direction_code d == n) (In ∷ Out ∷ InOut ∷ Supply ∷ Pseudo ∷ [])
