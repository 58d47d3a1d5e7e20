use Rattle.bench_net.proofs.ReadLemmas.{one_fault}
use Rattle.bench_net.proofs.laws.one_fault.Goals as goal

pub returns : goal.returns
returns c = one_fault
