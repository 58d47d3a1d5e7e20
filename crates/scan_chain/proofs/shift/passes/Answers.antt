use Rattle.std.proofs.Common.{◌∙◌, ap}
use Rattle.scan_chain.specs.Held.{greatest}
use Rattle.scan_chain.proofs.NumberLemmas.{greatest-left}
use Rattle.scan_chain.proofs.shift.passes.Goals as goal

pub returns-clause-passes : goal.returns-clause-passes
returns-clause-passes c = λ signals args same.
    c.greatest.ensures ∙ ap greatest same ∙ greatest-left signals args
