use Rattle.std.proofs.Common.{◌≡◌, drop}
use Rattle.std.specs.List.{list_any}
use Rattle.macro_expand.specs.Pairs.{has_take}
use Rattle.macro_expand.proofs.dealing.has_hash.Given as goal

abbrev pub invariant-loop-run : goal.invariant-loop-run
invariant-loop-run l = list_any has_take (drop l.run-index l.runs) ≡ list_any has_take l.fn.runs
