use Rattle.std.proofs.Common.{◌≡◌, ◌++◌, ℕ, drop, map}
use Rattle.stil_ast.specs.Data.Items.{item_of}
use Rattle.macro_expand.specs.Pairs.{taker_of, paired}
use Rattle.macro_expand.proofs.pairing.pair_all.Given as goal

abbrev pub invariant-loop-signal : goal.invariant-loop-signal
invariant-loop-signal l =
    map taker_of l.pairs.items ++ paired (drop l.signal-index l.signals) (map (λ (_ : ℕ). item_of l.item) (drop l.signal-index l.signals))
    ≡ paired l.fn.signals (map (λ (_ : ℕ). item_of l.item) l.fn.signals)
