use Rattle.std.proofs.Common.{◌+◌, ◌++◌, ◌-◌, ℕ, List, filter, ap, ◌∙◌}
use Rattle.stil_ast.specs.Data.Texts.{upwards}
use Rattle.scan_chain.specs.Held.{chains_in, is_end}
use Rattle.scan_chain.proofs.NumberLemmas.{upwards-next}
use Rattle.scan_chain.proofs.outs.ends_among.Goals as goal

pub loop-signal-preserved : goal.loop-signal-preserved
loop-signal-preserved c =
    let signal = c.loop-signal.signal in
    c.in_ok-add_end.ensures (upwards (signal + 1) (c.args.count - (signal + 1)))
    ∙ ap (λ (rest : List ℕ). c.loop-signal.ends.items ++ filter (is_end (chains_in c.args.chains.now)) rest)
    (upwards-next signal c.args.count c.loop-signal-test.true)
    ∙ c.loop-signal.invariant
