use Rattle.std.proofs.Common.{map, take}
use Rattle.strobe_check.specs.Count.{Counts}
use Rattle.strobe_check.specs.Step.{looks_of, failed_edges, fail_in}
use Rattle.strobe_check.proofs.judge.judge_edges.Given as goal

-- those among the looks so far are counted
abbrev pub invariant-loop-signal : goal.invariant-loop-signal
invariant-loop-signal l =
    let looks = looks_of l.sight.signal (take l.signal-index l.looks) in
    Counts (map (fail_in l.sight) (failed_edges l.sight.level looks)) l.fn.tally l.tally
