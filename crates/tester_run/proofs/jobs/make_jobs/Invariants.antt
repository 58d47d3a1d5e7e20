use Rattle.std.proofs.Common.{◌≡◌, ◌≤◌, ◌++◌, Some, All, length, map}
use Rattle.tester_run.specs.declared.jobs.Job.{Job}
use Rattle.tester_run.proofs.jobs.make_jobs.Given as goal

-- the jobs so far, with what is left
abbrev pub invariant-loop-jobs : goal.invariant-loop-jobs
invariant-loop-jobs g l = record {
  sockets : map (λ (j : Job g.row.K.Denot). j.socket) l.jobs.items ++ l.sockets.items ≡ l.fn.sockets.items;
  shares : map (λ (j : Job g.row.K.Denot). j.share) l.jobs.items ++ l.shares.items ≡ l.fn.shares.items;
  seats : map (λ (j : Job g.row.K.Denot). j.seat) l.jobs.items ++ l.seats.items ≡ l.fn.seats.items;
  enough : length l.shares.items ≤ length l.sockets.items;
  alike : length l.seats.items ≡ length l.shares.items;
  room : length l.shares.items ≤ length l.passes.items;
  passes : All (λ pass. pass ≡ l.mem) l.passes.items;
  jobs : All (λ (j : Job g.row.K.Denot). j.pass ≡ Some l.mem) l.jobs.items;
}

abbrev pub decreases-loop-jobs : goal.decreases-loop-jobs
decreases-loop-jobs g l = length l.shares.items
