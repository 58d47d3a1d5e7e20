use Rattle.std.proofs.Common.{arith, reverse}
use Rattle.stil_ast.specs.Faults.Found.{fault_at}
use Rattle.stil_ast.specs.Faults.BurstFaults.{burst_place}
use Rattle.stil_ast.specs.declared.fault.StilKind.TheVariants.{UnknownName}
use Rattle.pattern_order.proofs.KnownLemmas.{know-closes, know-goes, know-refused, known-from}
use Rattle.pattern_order.proofs.checking.know_next.Goals as goal

pub returns-then-frame-len-clause-goes : goal.returns-then-frame-len-clause-goes
returns-then-frame-len-clause-goes c =
    know-closes c.args.walk.now.names.now c.args.walk.now.marks.items c.args.frame c.args.walk.now.frames.items
    c.close.new.self.marks.items c.close.new.self.frames.items c.requires (grind (arith, c.if-frame-len.true, c.len.ensures))
    c.close.ensures.marks c.close.ensures.frames

pub returns-in-Err-clause-goes : goal.returns-in-Err-clause-goes
returns-in-Err-clause-goes c =
    know-refused c.args.walk.now.names.now c.args.walk.now.marks.items c.args.frame (reverse c.args.walk.now.frames.items)
    c.next_in-step.result c.args.walk.now.marks.items (reverse c.args.walk.now.frames.items) c.in-Err.refusal c.requires
    c.next_in-step.ensures c.in-Err.ensures

pub returns-clause-goes : goal.returns-clause-goes
returns-clause-goes c =
    know-goes c.args.walk.now.names.now c.args.walk.now.marks.items c.args.frame c.args.walk.now.frames.items
    c.next_in-step.result c.pass.new.self.marks.items c.pass.new.self.frames.items c.requires c.next_in-step.ensures
    (known-from c.args.walk.now.names.now c.next_in-step.result.meaning
    (fault_at (burst_place c.next_in-step.result.burst.now c.next_in-step.result.item.now.line) UnknownName) c.in_default.ensures) c.in_ok-pass.ensures.passes
