use Rattle.std.proofs.Common.{List, sym, subst}
use Rattle.tester_run.specs.declared.jobs.Job.{Job}
use Rattle.tester_run.specs.Jobs.{AreNew}
use Rattle.tester_run.proofs.LotLemmas.{is_new, jobs_done}
use Rattle.tester_run.proofs.lot.do_jobs.Goals as goal

pub work_beside-requires-clause-new : goal.work_beside-requires-clause-new
work_beside-requires-clause-new g c κs within k d inside =
    (is_new c.args.mem.now c.args.plan.now c.args.book.now c.args.board.now c.as_mut_slice.result.now
    (subst (λ (jobs : List (Job g.row.K.Denot)). AreNew c.args.mem.now c.args.plan.now c.args.book.now c.args.board.now jobs)
    (sym c.as_mut_slice.ensures.value) c.requires.new) k d inside).0

pub work_beside-requires-clause-seats : goal.work_beside-requires-clause-seats
work_beside-requires-clause-seats g c κs within k d inside =
    (is_new c.args.mem.now c.args.plan.now c.args.book.now c.args.board.now c.as_mut_slice.result.now
    (subst (λ (jobs : List (Job g.row.K.Denot)). AreNew c.args.mem.now c.args.plan.now c.args.book.now c.args.board.now jobs)
    (sym c.as_mut_slice.ensures.value) c.requires.new) k d inside).1

pub returns-clause-done : goal.returns-clause-done
returns-clause-done g c =
    jobs_done g.K.Socket.told c.args.mem.now c.args.plan.now c.args.book.now c.args.board.now c.args.jobs.now.items
    c.as_mut_slice.result.now c.work_beside.new.jobs c.args.jobs.now.len c.requires.new c.as_mut_slice.ensures.value
    c.as_mut_slice.ensures.len c.work_beside.ensures.all c.work_beside.ensures.done
