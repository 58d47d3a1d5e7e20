use Rattle.std.proofs.Common.{◌≡◌, ◌++◌, drop}
use Rattle.text_bytes.specs.Texts.{behind}
use Rattle.lot_plan.specs.Skews.{skews_of}
use Rattle.lot_plan.proofs.skews.skews_of.Given as goal

abbrev pub invariant-loop-signal : goal.invariant-loop-signal
invariant-loop-signal l =
    l.skews.items ++ skews_of (drop l.signal-index l.signals) (behind l.rows) ≡ skews_of l.signals (behind l.rows)
