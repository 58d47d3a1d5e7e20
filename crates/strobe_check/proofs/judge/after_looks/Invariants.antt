use Rattle.std.proofs.Common.{◌≡◌, take}
use Rattle.strobe_check.specs.Step.{looks_of, window_after}
use Rattle.strobe_check.proofs.judge.after_looks.Given as goal

-- the window after the looks so far
abbrev pub invariant-loop-of : goal.invariant-loop-of
invariant-loop-of l =
    l.window ≡ window_after l.fn.window (looks_of l.signal (take l.of-index l.looks))
