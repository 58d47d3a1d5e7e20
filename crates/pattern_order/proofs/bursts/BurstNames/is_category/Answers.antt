use Rattle.std.proofs.Common.{is_some, ap, ◌∙◌}
use Rattle.stil_ast.specs.Faults.BurstFaults.{is_category}
use Rattle.stil_ast.specs.declared.blocks.Blocks.{Blocks}
use Rattle.pattern_order.proofs.bursts.BurstNames.is_category.Goals as goal

pub returns : goal.returns
returns c =
    c.is_some.ensures ∙ ap is_some c.place_of.ensures ∙ c.self.invariant.1 c.args.name.now
    ∙ ap (λ (bs : Blocks). is_category bs c.args.name.now) c.self.view_is
