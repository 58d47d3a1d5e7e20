use Rattle.std.proofs.Common.{refl, ap, ◌∙◌}
use Rattle.strobe_check.specs.Step.{is_wanted}
use Rattle.strobe_check.proofs.AheadLemmas.{is_wanted-sensed}
use Rattle.strobe_check.proofs.checker.Checker.wanted.Goals as goal

pub returns : goal.returns
returns c = λ history seen.
    let held = c.args.self.now in
    let moment = c.args.moment.now in
    c.is_wanted.ensures ∙ ap (is_wanted held c.args.signal) c.as_slice.ensures
    ∙ is_wanted-sensed moment held c.args.signal moment.looks refl history seen
