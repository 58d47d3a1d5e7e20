use Rattle.std.proofs.Common.{arith}
use Rattle.fault_grade.proofs.ImageLemmas.{faults-more}
use Rattle.fault_grade.proofs.faults.faults_between.Goals as goal

pub loop-number-preserved : goal.loop-number-preserved
loop-number-preserved c =
    let old = c.loop-number.invariant in
    record {
      faults = faults-more c.args.from c.loop-number.number c.loop-number.faults.items c.push.new.self.items c.fault_at.result old.order old.faults
          c.fault_at.ensures c.in_ok-push.ensures.items;
      order = omega (arith, old.order);
    }
