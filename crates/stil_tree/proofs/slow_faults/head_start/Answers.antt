use Rattle.std.proofs.Common.{sym, ◌∙◌, arith}
use Rattle.std.proofs.lemmas.List.{take_rest}
use Rattle.stil_tree.proofs.SlowFaults.{head_start-more}
use Rattle.stil_tree.proofs.slow_faults.head_start.Goals as goal

pub loop-start-preserved : goal.loop-start-preserved
loop-start-preserved c =
    let delimitered = rw take_rest at (sym c.has_delimiter.ensures ∙ c.if-not-has_delimiter.false) in
    let more = head_start-more c.args.tokens.now c.loop-start.start delimitered in
    omega (arith, more, c.loop-start.invariant)
