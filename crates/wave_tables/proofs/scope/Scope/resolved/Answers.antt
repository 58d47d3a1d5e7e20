use Rattle.std.proofs.Common.{◌≡◌, ◌∙◌, ap, length}
use Rattle.std.proofs.lemmas.List.{length-map}
use Rattle.signal_groups.specs.Table.{Table}
use Rattle.wave_tables.specs.Scope.{timed}
use Rattle.wave_tables.proofs.scope.Scope.resolved.Goals as goal

pub returns-clause-signals : goal.returns-clause-signals
returns-clause-signals c = c.resolve.ensures.signals (timed c.args.self.now).names c.args.self.now.all_signals

pub returns-clause-within : goal.returns-clause-within
returns-clause-within c =
    let names = (timed c.args.self.now).names in
    let count : length c.args.self.now.signals.now.texts ≡ length names.signals =
    ap (λ (t : Table). length t.texts) c.args.self.now.all_signals ∙ length-map names.signals _ in
    rw count at c.resolve.ensures.within
