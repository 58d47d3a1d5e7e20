-- Known arguments (IEEE 1450-1999, clauses 21 and 24): a wrong definition fails here.
use Rattle.std.proofs.Common.{◌≡◌, List, [], ◌∷◌, refl}
use Rattle.stil_ast.specs.Meaning.Arguments.{given, padding}
use Rattle.macro_expand.specs.Runs.{spelled}
use Rattle.macro_expand.specs.Lanes.{left_of}
use Rattle.macro_expand.specs.declared.characters.CharacterRun.{CharacterRun}
use Rattle.macro_expand.specs.declared.lane.Lane.{Lane}

-- `A\r3 BC`
abbrev pub known_runs : List CharacterRun
known_runs =
    record { character = 65; end = 1 } ∷ record { character = 66; end = 4 } ∷ record { character = 67; end = 5 } ∷ []

-- two runs of characters, and one between them that stands three times
pub runs_are_spelled : spelled 0 known_runs ≡ given 65 ∷ given 66 ∷ given 66 ∷ given 66 ∷ given 67 ∷ []
runs_are_spelled = refl

-- the first of two signals, between padding, and the second one, up to an end
abbrev pub padded_lane : Lane
padded_lane = record { width = 2; place = 0; end = 5; front = 1; back = 2; taken = 0 }

abbrev pub short_lane : Lane
short_lane = record { width = 2; place = 1; end = 3; front = 0; back = 0; taken = 7 }

-- the first has every other character
pub lane_has_every_other : left_of (spelled 0 known_runs) padded_lane
    ≡ padding ∷ given 65 ∷ given 66 ∷ given 67 ∷ padding ∷ padding ∷ []
lane_has_every_other = refl

-- and the second those between
pub lane_ends : left_of (spelled 0 known_runs) short_lane ≡ given 66 ∷ []
lane_ends = refl
