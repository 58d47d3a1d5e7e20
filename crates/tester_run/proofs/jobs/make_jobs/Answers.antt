use Rattle.std.proofs.Common.{◌≡◌, ◌<◌, false, All, Some, arith, refl, sym, ap, length, subst}
use Rattle.std.proofs.lemmas.List.Elements.{All-push}
use Rattle.pattern_mem.specs.Memory.{Memory}
use Rattle.tester_run.specs.declared.jobs.Job.{Job}
use Rattle.tester_run.proofs.JobLemmas.{moves, All-rest, all_first}
use Rattle.tester_run.proofs.jobs.make_jobs.Goals as goal

pub loop-jobs-preserved : goal.loop-jobs-preserved
loop-jobs-preserved g c =
    let kept = c.loop-jobs.invariant in
    let shares = c.remove-in-loop-jobs in
    let seats = c.remove-in-loop-jobs-2 in
    let passes = c.remove-in-loop-jobs-3 in
    let some : 0 < length c.loop-jobs.shares.items = omega (arith, shares.ensures.len) in
    let enough = kept.enough in
    let alike = kept.alike in
    let room = kept.room in
    let pushed = c.in_ok-push.ensures.items in
    let job : Job g.row.K.Denot = record {
      socket = c.remove.result;
      share = shares.result;
      seat = seats.result;
      pass = Some passes.result;
      failed = false;
    } in
    let first_pass = all_first (λ (p : Memory). p ≡ c.args.mem.now) c.loop-jobs.passes.items passes.result
    (omega (arith, some, room)) passes.ensures.value kept.passes in
    record {
      sockets = moves (λ (j : Job g.row.K.Denot). j.socket) c.loop-jobs.jobs.items c.push.new.self.items c.loop-jobs.sockets.items
          c.remove.new.self.items c.args.sockets.now.items job c.remove.result kept.sockets (omega (arith, some, enough))
          c.remove.ensures.value c.remove.ensures.items pushed refl;
      shares = moves (λ (j : Job g.row.K.Denot). j.share) c.loop-jobs.jobs.items c.push.new.self.items c.loop-jobs.shares.items
          shares.new.self.items c.args.shares.items job shares.result kept.shares some shares.ensures.value shares.ensures.items
          pushed refl;
      seats = moves (λ (j : Job g.row.K.Denot). j.seat) c.loop-jobs.jobs.items c.push.new.self.items c.loop-jobs.seats.items
          seats.new.self.items c.args.seats.items job seats.result kept.seats (omega (arith, some, alike)) seats.ensures.value
          seats.ensures.items pushed refl;
      enough = omega (arith, enough, shares.ensures.len, c.remove.ensures.len);
      alike = omega (arith, alike, shares.ensures.len, seats.ensures.len);
      room = omega (arith, room, shares.ensures.len, passes.ensures.len);
      passes = All-rest (λ (p : Memory). p ≡ c.args.mem.now) c.loop-jobs.passes.items passes.new.self.items passes.ensures.items
          kept.passes;
      jobs = subst (All (λ (j : Job g.row.K.Denot). j.pass ≡ Some c.args.mem.now)) (sym pushed)
          (All-push (λ (j : Job g.row.K.Denot). j.pass ≡ Some c.args.mem.now) c.loop-jobs.jobs.items job kept.jobs
          (ap (λ (p : Memory). Some p) first_pass));
    }
