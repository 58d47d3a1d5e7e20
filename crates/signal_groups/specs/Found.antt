-- The signals of a reference, as a reader of a table holds them.
use Rattle.std.specs.Prelude.{ℕ, List}
use Rattle.signal_groups.specs.declared.found.FoundSignals.{FoundSignals}
use Rattle.signal_groups.specs.declared.found.FoundSignals.TheVariants as found

-- the signals in order
abbrev pub signals_found : FoundSignals → List ℕ
signals_found (found.One signal) = signal
signals_found (found.Group signals) = signals.now
signals_found (found.Own signals) = signals
