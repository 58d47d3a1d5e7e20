-- The instants of cycles that are played, one after another.
use Rattle.std.specs.Prelude.{ℕ, List, map}
use Rattle.std.specs.List.{flat_map}
use Rattle.site_meaning.specs.Playing.{PlayedMoment, PlayedCycle}

-- the instants of a cycle's moments
abbrev pub instants_of : PlayedCycle → List ℕ
instants_of cycle = map (λ (moment : PlayedMoment). moment.at) cycle.moments

-- those of cycles
abbrev pub instants_in : List PlayedCycle → List ℕ
instants_in cycles = flat_map instants_of cycles
