use Rattle.bench_net.proofs.ReadLemmas.{one_net}
use Rattle.lot_laws.proofs.laws.circuits_agree.Goals as goal

pub returns : goal.returns
returns c = λ bytes circuit other net whole net' whole'.
    record { net = one_net bytes circuit.net other.net net net'; whole = whole; other_whole = whole' }
