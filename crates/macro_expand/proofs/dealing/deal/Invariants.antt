use Rattle.std.proofs.Common.{drop, map}
use Rattle.macro_expand.specs.Pairs.{taker_of}
use Rattle.macro_expand.specs.Walks.{IsDealing}
use Rattle.macro_expand.proofs.dealing.deal.Given as goal

abbrev pub invariant-loop-pair : goal.invariant-loop-pair
invariant-loop-pair l =
    IsDealing l.in_shift (map taker_of l.fn.pairs) l.fn.walk (map taker_of (drop l.pair-index l.pairs)) l.walk
