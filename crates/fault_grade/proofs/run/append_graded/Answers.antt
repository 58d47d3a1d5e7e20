use Rattle.fault_grade.proofs.ImageLemmas.{graded-none, graded-more}
use Rattle.std.proofs.Common.{arith}
use Rattle.fault_grade.proofs.run.append_graded.Goals as goal

pub loop-number-init : goal.loop-number-init
loop-number-init c = record {
  order = omega arith;
  list = λ code skews image are. graded-none code skews image c.args.from c.args.list.now.items;
}

pub loop-number-preserved : goal.loop-number-preserved
loop-number-preserved c =
    let old = c.loop-number.invariant in
    record {
      order = omega (arith, old.order);
      list = λ code skews image are.
          graded-more code skews image c.args.firsts.now c.args.from c.args.to c.loop-number.number c.args.list.now.items c.loop-number.list.items
          c.push.new.self.items c.fault_at-fault.result c.first_at.result old.order c.loop-number-test.true are (old.list code skews image are)
          c.fault_at-fault.ensures c.first_at.ensures c.in_ok-push.ensures.items;
    }
