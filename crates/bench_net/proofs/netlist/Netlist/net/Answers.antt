use Rattle.std.proofs.Common.{ap}
use Rattle.bench_net.specs.Circuit.{Circuit}
use Rattle.bench_net.proofs.NetLemmas.{slice_get-found, slice_get-none}
use Rattle.bench_net.proofs.netlist.Netlist.net.Goals as goal

pub returns-in_err-place-clause-none : goal.returns-in_err-place-clause-none
returns-in_err-place-clause-none c =
    rw c.from_residual.ensures
    (slice_get-none _ c.self.inside.names.keys _ _
    (ap (λ (v : Circuit). v.net.names) c.self.view_is) c.in_err-place.ensures.index)

pub returns-clause-found : goal.returns-clause-found
returns-clause-found c =
    slice_get-found _ c.self.inside.names.keys _ _ _
    (ap (λ (v : Circuit). v.net.names) c.self.view_is) c.in_ok-place.ensures.index
