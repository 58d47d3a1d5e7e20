use Rattle.bench_net.proofs.ReadLemmas.{one_net}
use Rattle.bench_net.proofs.laws.one_net.Goals as goal

pub returns : goal.returns
returns c = one_net
