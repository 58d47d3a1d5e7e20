use Rattle.std.proofs.Common.{◌≡◌, length, map}
use Rattle.bench_net.specs.Net.{arity_fault}
use Rattle.bench_net.specs.Views.{form_of}
use Rattle.bench_net.proofs.build.first_wrong_arity.Given as goal

abbrev pub invariant-loop-rest : goal.invariant-loop-rest
invariant-loop-rest l = arity_fault (map form_of l.rest) ≡ arity_fault (map form_of l.fn.lines)

abbrev pub decreases-loop-rest : goal.decreases-loop-rest
decreases-loop-rest l = length l.rest
