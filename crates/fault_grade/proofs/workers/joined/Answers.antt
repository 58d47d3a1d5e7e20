use Rattle.std.proofs.Common.{◌≡◌, ◌+◌, ◌*◌, ◌∙◌, ◌++◌, ℕ, List, IfOk, ap, arith, sym, subst}
use Rattle.std.specs.Prelude.{Result}
use Rattle.tester_types.specs.declared.outside.NoMemory.{NoMemory}
use Rattle.fault_grade.specs.Grade.{nets_in}
use Rattle.fault_grade.specs.Run.{cut_at, run_of}
use Rattle.fault_grade.specs.declared.graded.Graded.{Graded}
use Rattle.fault_grade.proofs.RunLemmas.{joined-none, joined-next, joined-all}
use Rattle.fault_grade.proofs.workers.joined.Goals as goal

pub loop-run-init : goal.loop-run-init
loop-run-init c = λ part workers some count each. c.in_ok-all.ensures.items ∙ joined-none part workers

pub loop-run-preserved : goal.loop-run-preserved
loop-run-preserved c = λ part workers some count each.
    let index = c.loop-run.run-index in
    let all = c.loop-run.all.items in
    let here = each index c.run-item.result (omega (arith, c.loop-run-test.true, count)) in
    let run = subst (λ (r : Result (List Graded) NoMemory). IfOk r (λ list. list
    ≡ run_of part (cut_at (2 * nets_in part) workers c.loop-run.run-index) (cut_at (2 * nets_in part) workers (c.loop-run.run-index + 1))))
    (sym c.run-item.is ∙ c.in-Ok.is) here in
    c.in_ok-extend_from_slice-in-Ok.ensures.items ∙ ap (λ (l : List Graded). c.loop-run.all.items ++ l) c.as_slice.ensures
    ∙ joined-next part workers index all c.in-Ok.list some (c.loop-run.invariant part workers some count each) run

pub returns : goal.returns
returns c = λ part workers some count each.
    let all : c.loop-run.run-index ≡ workers = omega (arith, c.loop-run-test.false, c.loop-run.auto.run-index-end, count) in
    c.from_vec.ensures
    ∙ joined-all part workers c.loop-run.all.items some
    (c.loop-run.invariant part workers some count each ∙ ap (λ (k : ℕ). run_of part 0 (cut_at (2 * nets_in part) workers k)) all)
