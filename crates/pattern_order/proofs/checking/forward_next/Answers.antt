use Rattle.std.proofs.Common.{arith, reverse}
use Rattle.stil_ast.proofs.FoundLemmas.{not_refused}
use Rattle.stil_ast.specs.Faults.Found.{fault_at}
use Rattle.stil_ast.specs.Faults.BurstFaults.{burst_place}
use Rattle.stil_ast.specs.declared.fault.StilKind.TheVariants.{Cyclic}
use Rattle.pattern_order.proofs.ForwardLemmas.{forward-closes, forward-goes, forward-refused}
use Rattle.pattern_order.proofs.checking.forward_next.Goals as goal

pub returns-then-frame-len-clause-goes : goal.returns-then-frame-len-clause-goes
returns-then-frame-len-clause-goes c =
    forward-closes c.args.walk.now.names.now c.args.walk.now.marks.items c.args.frame c.args.walk.now.frames.items
    c.close.new.self.marks.items c.close.new.self.frames.items c.requires (grind (arith, c.if-frame-len.true, c.len.ensures))
    c.close.ensures.marks c.close.ensures.frames

pub returns-in-Err-clause-goes : goal.returns-in-Err-clause-goes
returns-in-Err-clause-goes c =
    forward-refused c.args.walk.now.names.now c.args.walk.now.marks.items c.args.frame (reverse c.args.walk.now.frames.items)
    c.next_in-step.result c.args.walk.now.marks.items (reverse c.args.walk.now.frames.items) c.in-Err.refusal c.requires
    c.next_in-step.ensures c.in-Err.ensures

pub returns-clause-goes : goal.returns-clause-goes
returns-clause-goes c =
    forward-goes c.args.walk.now.names.now c.args.walk.now.marks.items c.args.frame c.args.walk.now.frames.items
    c.next_in-step.result c.pass.new.self.marks.items c.pass.new.self.frames.items c.requires c.next_in-step.ensures
    (not_refused c.next_in-step.result.leads_back
    (fault_at (burst_place c.next_in-step.result.burst.now c.next_in-step.result.item.now.line) Cyclic) c.in_default.ensures) c.in_ok-pass.ensures.passes
