use Rattle.std.proofs.Common.{◌≡◌, map}
use Rattle.bench_net.specs.Views.{texts}
use Rattle.lot_plan.proofs.plan.file_list.Given as goal

abbrev pub invariant-loop-file : goal.invariant-loop-file
invariant-loop-file l = l.list.items ≡ texts (map (λ k. k.now) l.yielded)
