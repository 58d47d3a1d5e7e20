use Rattle.std.proofs.Common.{◌≡◌, drop, map}
use Rattle.macro_expand.specs.Pairs.{taker_of, all_find}
use Rattle.macro_expand.proofs.dealing.all_find.Given as goal

abbrev pub invariant-loop-pair : goal.invariant-loop-pair
invariant-loop-pair l = all_find l.args (map taker_of (drop l.pair-index l.pairs)) ≡ all_find l.args (map taker_of l.fn.pairs)
