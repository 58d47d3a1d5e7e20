use Rattle.std.proofs.Common.{◌∙◌, ap, arith, length}
use Rattle.page_code.proofs.ChangesLemmas.{count_more, changes_all}
use Rattle.page_code.proofs.changes.count_changes.Goals as goal

pub loop-signal-preserved : goal.loop-signal-preserved
loop-signal-preserved c =
    let more = count_more c.args.last.now c.args.row.now c.loop-signal.signal (omega arith) (omega arith) in
    record {
      counted = omega (arith, more, c.loop-signal.invariant.counted, c.is_changed_to-count.ensures.exact);
      few = omega (arith, c.loop-signal.invariant.few, c.is_changed_to-count.ensures.small);
    }

pub returns : goal.returns
returns c =
    c.loop-signal.invariant.counted
    ∙ ap length (changes_all c.args.last.now c.args.row.now c.loop-signal.signal (omega arith))
