use Rattle.std.proofs.Common.{◌∙◌, length, sym, ap}
use Rattle.plan_rows.specs.Rows.{dies_at}
use Rattle.tester_run.proofs.JobLemmas.{idle_is_done}
use Rattle.tester_run.proofs.working.work_one.Goals as goal

pub returns-then-dies-eq0 : goal.returns-then-dies-eq0
returns-then-dies-eq0 g c =
    let job = c.args.job.now in
    record {
      done = idle_is_done g.K.Socket.told c.args.mem.now c.args.plan.now c.args.book.now job.socket job.share job.seat
          c.finish.new.self job.pass job.failed c.requires.new
          (ap (λ n. length (dies_at n c.args.plan.now.rows)) (sym c.site.ensures) ∙ sym c.dies.ensures
          ∙ c.if-dies-eq0.true) c.finish.ensures;
    }
