use Rattle.std.proofs.Common.{◌++◌, List, append-nil, ap, sym, ◌∙◌, length, map}
use Rattle.macro_expand.specs.Pairs.{Taker, taker_of}
use Rattle.macro_expand.proofs.PairLemmas.{paired_end}
use Rattle.macro_expand.proofs.pairing.pair_runs.Goals as goal

pub returns : goal.returns
returns c =
    let before = map taker_of c.loop-run.pairs.items in
    sym (append-nil before)
    ∙ ap (λ (more : List Taker). before ++ more)
    (sym (paired_end c.args.signals.now (length c.loop-run.pairs.items) c.args.runs.now c.loop-run.run-index c.loop-run-test.false))
    ∙ c.loop-run.invariant
