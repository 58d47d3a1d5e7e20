use Rattle.std.proofs.Common.{◌∙◌, ap}
use Rattle.std.specs.Prelude.{is_some}
use Rattle.scan_chain.proofs.NumberLemmas.{number_in-signal}
use Rattle.scan_chain.proofs.checking.is_signal.Goals as goal

pub returns : goal.returns
returns c = λ names same.
    c.is_some.ensures
    ∙ ap is_some (c.number.ensures.number ∙ number_in-signal c.args.signals.now names c.args.name.now same)
