use Rattle.std.proofs.Common.{◌+◌, ◌∙◌, ◌++◌, List, ap, arith}
use Rattle.cycle_run.specs.Setup.{code_in}
use Rattle.fault_grade.specs.Search.{run_on}
use Rattle.fault_grade.specs.declared.graded.Graded.{Graded}
use Rattle.fault_grade.proofs.ImageLemmas.{run-begins, run-joined}
use Rattle.fault_grade.proofs.run.try_run.Goals as goal

pub loop-next-init : goal.loop-next-init
loop-next-init c =
    let setup = c.args.setup.now in
    record {
      list = c.in_ok-list.ensures.items ∙ run-begins (code_in setup) setup.skews.now setup.image.now c.args.from;
      order = omega arith;
      within = c.requires.order;
    }

pub loop-next-preserved : goal.loop-next-preserved
loop-next-preserved c =
    let setup = c.args.setup.now in
    let old = c.loop-next.invariant in
    let upto = c.loop-next.next + c.min.result in
    record {
      list = c.in_ok-append_run.ensures
          ∙ ap (λ (l : List Graded). l ++ run_on (code_in setup) setup.skews.now setup.image.now c.loop-next.next upto) old.list
          ∙ run-joined (code_in setup) setup.skews.now setup.image.now c.args.from c.loop-next.next upto old.order (omega arith);
      order = omega (arith, old.order);
      within = omega (arith, c.min.ensures, c.loop-next-test.true);
    }
