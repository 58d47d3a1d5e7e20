use Rattle.std.proofs.Common.{◌≡◌, ◌++◌, drop, map}
use Rattle.macro_expand.specs.Pairs.{taker_of, hashed_in}
use Rattle.macro_expand.proofs.rules.add_takers.Given as goal

abbrev pub invariant-loop-pair : goal.invariant-loop-pair
invariant-loop-pair l =
    l.takers.items ++ hashed_in (map taker_of (drop l.pair-index l.pairs)) ≡ l.fn.takers.items ++ hashed_in (map taker_of l.fn.pairs)
