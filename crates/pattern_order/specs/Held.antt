-- How the code holds patterns.
use Rattle.std.specs.Prelude.{List, map}
use Rattle.stil_ast.specs.Meaning.Bursts.{Played}
use Rattle.pattern_order.specs.declared.playing.PlayedPattern.{PlayedPattern}

-- a pattern that is held, as it is run
abbrev pub played_by : PlayedPattern → Played
played_by p = record { pattern = p.pattern.now; macros = p.macros.now; procedures = p.procedures.now }

-- patterns that are held
abbrev pub played_in : List PlayedPattern → List Played
played_in patterns = map played_by patterns
