use Rattle.std.proofs.Common.{◌∙◌, ap, map, arith}
use Rattle.std.proofs.lemmas.Result.{on_ok_weaker}
use Rattle.die_sim.specs.declared.image.StuckAt.{StuckAt}
use Rattle.word_run.specs.First.{first_on, with_fault}
use Rattle.cycle_run.specs.Setup.{code_in}
use Rattle.fault_grade.proofs.ImageLemmas.{faults-within, faults-count}
use Rattle.fault_grade.proofs.run.append_run.Goals as goal

pub first_cycles-requires-clause-few : goal.first_cycles-requires-clause-few
first_cycles-requires-clause-few c =
    let count = faults-count c.args.from c.args.to _ (c.as_slice.ensures.value ∙ c.in_ok-faults.ensures) in
    omega (arith, count, c.requires.few)

pub first_cycles-requires-clause-within : goal.first_cycles-requires-clause-within
first_cycles-requires-clause-within c =
    faults-within _ c.args.from c.args.to _ c.requires.order c.requires.within (c.as_slice.ensures.value ∙ c.in_ok-faults.ensures)

pub returns : goal.returns
returns c =
    let setup = c.args.setup.now in
    on_ok_weaker c.append_graded.result
    (λ all. all (code_in setup) setup.skews.now setup.image.now
    (c.as_slice-2.ensures.value ∙ c.in_ok-firsts.ensures
    ∙ ap (map (λ (fault : StuckAt). first_on (code_in setup) setup.skews.now (with_fault setup.image.now fault)))
    (c.as_slice.ensures.value ∙ c.in_ok-faults.ensures)))
    c.append_graded.ensures
