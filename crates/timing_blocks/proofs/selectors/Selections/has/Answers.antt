use Rattle.std.proofs.Common.{[], ap, ◌∙◌}
use Rattle.block_forms.specs.Heads.{is_declared}
use Rattle.timing_blocks.proofs.SelectorLemmas.{is_declared-names_in}
use Rattle.timing_blocks.proofs.selectors.Selections.has.Goals as goal

pub returns : goal.returns
returns c =
    rw (← c.self.view_is)
    (c.has.ensures ∙ ap (λ declared. is_declared declared [] c.args.called.now) c.self.invariant
    ∙ is_declared-names_in c.self.inside.read.items c.args.called.now)
