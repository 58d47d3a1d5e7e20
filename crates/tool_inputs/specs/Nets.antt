-- The netlists of a lot as they are read, one after another.
use Rattle.std.specs.Prelude.{◌≡◌, ℕ, List, [], ◌∷◌, ◌++◌, Option}
use Rattle.tester_types.specs.Outside.{Files}
use Rattle.bench_net.specs.Circuit.{Circuit}
use Rattle.tool_inputs.specs.Inputs.{IsNetFile}

-- one netlist more, that of a file, behind others
pub record AddsNet (told : Option Files) (file : List ℕ) (before now : List Circuit) : Type 0 where
  pub circuit : Circuit
  pub net : IsNetFile told file circuit
  pub more : now ≡ before ++ circuit ∷ []
