use Rattle.bench_net.proofs.ReadLemmas.{only_net, only_refused}
use Rattle.bench_net.proofs.netlist.Netlist.read.Goals as goal

pub returns-clause-only : goal.returns-clause-only
returns-clause-only c = only_net c.args.bytes.now c.read_text.result c.read_text.ensures

pub returns-clause-refused : goal.returns-clause-refused
returns-clause-refused c = only_refused c.args.bytes.now c.read_text.result c.read_text.ensures
