use Rattle.std.proofs.Common.{◌≡◌, drop}
use Rattle.std.specs.List.{list_all}
use Rattle.macro_expand.specs.Giving.{has_characters}
use Rattle.macro_expand.proofs.giving.are_characters.Given as goal

abbrev pub invariant-loop-run : goal.invariant-loop-run
invariant-loop-run l = list_all has_characters (drop l.run-index l.runs) ≡ list_all has_characters l.fn.runs
