use Rattle.std.proofs.Common.{List, ap, ◌∙◌, length, get_or}
use Rattle.stil_ast.specs.Meaning.Arguments.{Argument, argument_of}
use Rattle.macro_expand.specs.Lanes.{no_lane}
use Rattle.macro_expand.specs.declared.lane.Lane.{Lane}
use Rattle.macro_expand.proofs.LaneLemmas.{left-is}
use Rattle.macro_expand.proofs.arguments.Arguments.left.Goals as goal

pub returns : goal.returns
returns c =
    let at = λ (lanes : List Lane). get_or lanes c.args.signal no_lane in
    let same = c.lane_at.ensures ∙ ap at c.as_slice.ensures.value in
    c.len.ensures
    ∙ (left-is c.self.inside.characters c.self.inside.lanes.items c.args.signal c.lane_at.result c.self.invariant same
    ∙ ap (λ (args : List Argument). length (argument_of args c.args.signal).left) c.self.view_is)
