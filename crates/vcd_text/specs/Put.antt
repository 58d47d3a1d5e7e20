-- The parts of a dump, as they are put one after another.
use Rattle.std.specs.Prelude.{ℕ, List, ◌++◌}
use Rattle.std.specs.List.{flat_map}
use Rattle.tester_types.specs.declared.level.Drive.{Drive}
use Rattle.vcd_text.specs.Dump.{ended, at, line_of_drive}

-- the text of a call: the line of its instant, and those of its drives
abbrev pub call_text : ℕ × List (ℕ × Drive) → List ℕ
call_text call = ended (at call.0) ++ flat_map (λ (given : ℕ × Drive). ended (line_of_drive given)) call.1
