use Rattle.bench_net.proofs.ReadLemmas.{no_fault_where_net}
use Rattle.bench_net.proofs.laws.no_fault_in_net.Goals as goal

pub returns : goal.returns
returns c = no_fault_where_net
