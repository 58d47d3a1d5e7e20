use Rattle.std.proofs.Common.{Some, reverse, sym, ◌∙◌}
use Rattle.stil_ast.specs.Faults.Found.{first_in}
use Rattle.stil_ast.specs.Faults.BurstFaults.{cyclic_fault, mentions}
use Rattle.pattern_order.specs.Walks.{Forwards, HasGoneOn}
use Rattle.pattern_order.proofs.BeginLemmas.{starts, begins-first, forward-begins}
use Rattle.pattern_order.proofs.GoLemmas.{gone-on, told-first}
use Rattle.pattern_order.proofs.checking.check_all_forward.Goals as goal

pub loop-frame-init : goal.loop-frame-init
loop-frame-init c =
    let s = starts c.args.names.now c.args.number c.in_ok-walk.walk.marks.items c.in_ok-walk.walk.frames.items c.requires
    c.in_ok-walk.ensures.begins in (
      c.in_ok-walk.ensures.names,
      forward-begins c.args.names.now c.args.number c.in_ok-walk.walk.marks.items (reverse c.in_ok-walk.walk.frames.items) s,
      begins-first c.args.names.now cyclic_fault c.args.number c.in_ok-walk.walk.marks.items
          (reverse c.in_ok-walk.walk.frames.items) s,
    )

-- the walk has gone on
gone : (c : goal.In_default-forward_next)
    → HasGoneOn cyclic_fault (Forwards c.args.names.now) c.args.names.now (reverse c.loop-frame.walk.frames.items)
    c.forward_next.new.walk.marks.items (reverse c.forward_next.new.walk.frames.items)
gone c =
    gone-on cyclic_fault Forwards c.loop-frame.walk.names.now c.args.names.now c.pop.new.self.items c.loop-frame.walk.frames.items
    c.in-Some.frame c.forward_next.new.walk.marks.items (reverse c.forward_next.new.walk.frames.items) c.loop-frame.invariant.0
    c.in-Some.ensures.items c.in_default-forward_next.ensures.goes

pub loop-frame-smaller : goal.loop-frame-smaller
loop-frame-smaller c = (gone c).less

pub loop-frame-preserved : goal.loop-frame-preserved
loop-frame-preserved c = (
  c.in_default-forward_next.ensures.names ∙ c.loop-frame.invariant.0,
  (gone c).holds,
  λ b there. sym (gone c).same ∙ c.loop-frame.invariant.2 b there,
)

pub returns-in-Err : goal.returns-in-Err
returns-in-Err c = λ b there.
    told-first cyclic_fault Forwards c.loop-frame.walk.names.now c.args.names.now c.pop.new.self.items c.loop-frame.walk.frames.items
    c.in-Some.frame c.forward_next.new.walk.marks.items (reverse c.forward_next.new.walk.frames.items) c.in-Err.refusal
    (first_in cyclic_fault (mentions c.args.names.now (Some b))) c.loop-frame.invariant.0 c.in-Some.ensures.items
    c.in-Err.ensures.goes (c.loop-frame.invariant.2 b there)
