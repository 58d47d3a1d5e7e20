use Rattle.std.proofs.Common.{◌≡◌, map}
use Rattle.tester_run.specs.declared.jobs.Job.{Job}
use Rattle.tester_run.proofs.jobs.take_apart.Given as goal

-- the lists have what was yielded
abbrev pub invariant-loop-socket : goal.invariant-loop-socket
invariant-loop-socket g l = record {
  back : l.back.items ≡ map (λ (j : Job g.row.K.Denot). j.socket) l.yielded;
  shares : l.shares.items ≡ map (λ (j : Job g.row.K.Denot). j.share) l.yielded;
  seats : l.seats.items ≡ map (λ (j : Job g.row.K.Denot). j.seat) l.yielded;
}
