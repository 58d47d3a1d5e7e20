use Rattle.std.proofs.Common.{◌∙◌, sym, ap}
use Rattle.std.specs.Option.{option_copied}
use Rattle.scan_chain.proofs.NumberLemmas.{number_in-signal, scan_out_of-name}
use Rattle.scan_chain.proofs.making.scan_out_of.Goals as goal

pub returns-in-Some : goal.returns-in-Some
returns-in-Some c = λ names same.
    c.number.ensures.number ∙ number_in-signal c.args.signals.now names c.in-Some.name.now same
    ∙ scan_out_of-name names _ c.in-Some.name.now (sym (ap option_copied c.in-Some.is) ∙ c.out_in.ensures)
