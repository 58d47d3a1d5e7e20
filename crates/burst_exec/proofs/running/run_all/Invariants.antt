use Rattle.std.proofs.Common.{drop}
use Rattle.stil_ast.specs.declared.executive.ExecDecl.{ExecDecl}
use Rattle.pattern_order.specs.Held.{played_in}
use Rattle.burst_exec.specs.Carried.{IsCarried, IsRunning}
use Rattle.burst_exec.specs.Held.{AreEven}
use Rattle.burst_exec.specs.Patterns.{IsStanding}
use Rattle.burst_exec.proofs.running.run_all.Given as goal

abbrev pub invariant-loop-played : goal.invariant-loop-played
invariant-loop-played l =
    IsCarried l.standing.blocks.now l.progress × AreEven l.draft.titles.items l.draft.flats.items
    × ((e : ExecDecl) → IsStanding e l.standing
    → IsRunning l.standing.blocks.now e (played_in l.order) l.fn.progress (drop l.played-index (played_in l.order)) l.progress l.draft)
