use Rattle.std.proofs.Common.{◌≡◌, ◌++◌, ◌-◌, List, drop, length, map, replicate}
use Rattle.stil_ast.specs.Data.Items.{item_of}
use Rattle.stil_ast.specs.Meaning.Statements.{Item}
use Rattle.macro_expand.specs.Pairs.{taker_of, paired}
use Rattle.macro_expand.proofs.pairing.pair_run.Given as goal

abbrev pub invariant-loop : goal.invariant-loop
invariant-loop l =
    (rest : List Item) →
    map taker_of l.pairs.items
    ++ paired (drop (length l.pairs.items) l.signals) (replicate (l.end - l.counter) (item_of l.run.item) ++ rest)
    ≡ map taker_of l.fn.pairs.items
    ++ paired (drop (length l.fn.pairs.items) l.signals) (replicate l.run.times (item_of l.run.item) ++ rest)
