use Rattle.std.proofs.Common.{◌∙◌}
use Rattle.word_run.proofs.LookLemmas.{windows_more}
use Rattle.word_run.proofs.looks.put_windows.Goals as goal

pub loop-signal-preserved : goal.loop-signal-preserved
loop-signal-preserved c = record {
  count = c.put_window.ensures.count ∙ c.loop-signal.invariant.count;
  each = windows_more c.args.windows.now.items c.loop-signal.windows.items c.put_window.new.windows.items c.args.looks.now
      c.loop-signal.signal-index _ c.loop-signal-test.true c.loop-signal.invariant.count c.loop-signal.invariant.each
      c.put_window.ensures.here c.put_window.ensures.others;
}
