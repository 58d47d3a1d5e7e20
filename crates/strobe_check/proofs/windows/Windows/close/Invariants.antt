use Rattle.std.proofs.Common.{◌≡◌, ◌<◌, ◌≤◌, ◌-◌, ℕ, None, length, get_or}
use Rattle.strobe_check.proofs.windows.Windows.close.Given as goal

-- no signal so far has a window
abbrev pub invariant-loop-signal : goal.invariant-loop-signal
invariant-loop-signal l = record {
  long : length l.self ≡ length l.fn.self;
  within : l.signal ≤ length l.self;
  none : (k : ℕ) → k < l.signal → get_or l.self k None ≡ None;
}

abbrev pub decreases-loop-signal : goal.decreases-loop-signal
decreases-loop-signal l = length l.self - l.signal
