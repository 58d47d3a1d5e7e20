use Rattle.signal_groups.proofs.ResolveLemmas.{resolves}
use Rattle.signal_groups.proofs.table.SignalTable.resolve.Goals as goal

pub returns-clause-signals : goal.returns-clause-signals
returns-clause-signals c = λ names e. resolves names c.args.self.now c.args.reference.now c.resolved.result e c.resolved.ensures.signals
