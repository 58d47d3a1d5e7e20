use Rattle.std.proofs.Common.{◌≡◌, ◌++◌, drop, length, map}
use Rattle.stil_ast.specs.Data.Items.{items_of}
use Rattle.macro_expand.specs.Pairs.{taker_of, paired}
use Rattle.macro_expand.proofs.pairing.pair_runs.Given as goal

abbrev pub invariant-loop-run : goal.invariant-loop-run
invariant-loop-run l =
    map taker_of l.pairs.items ++ paired (drop (length l.pairs.items) l.signals) (items_of (drop l.run-index l.runs))
    ≡ paired l.signals (items_of l.fn.runs)
