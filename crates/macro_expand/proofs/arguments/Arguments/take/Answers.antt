use Rattle.std.proofs.Common.{List, ap, ◌∙◌, get_or}
use Rattle.stil_ast.specs.Meaning.Arguments.{Argument, next_taken}
use Rattle.macro_expand.specs.Lanes.{arguments_in, no_lane}
use Rattle.macro_expand.specs.declared.lane.Lane.{Lane}
use Rattle.macro_expand.proofs.LaneLemmas.{lane-at-fits, taken-put}
use Rattle.macro_expand.proofs.arguments.Arguments.take.Goals as goal

pub returns : goal.returns
returns c =
    let characters = c.self.inside.characters in
    let lanes = c.self.inside.lanes.items in
    let at = λ (lanes : List Lane). get_or lanes c.args.signal no_lane in
    let same = c.lane_at.ensures ∙ ap at c.as_slice.ensures.value in
    let fits = lane-at-fits characters lanes c.args.signal c.lane_at.result same c.self.invariant in
    let next = c.advanced-lane.ensures.taken characters fits in
    ap (arguments_in characters) c.put.ensures
    ∙ (taken-put characters lanes c.args.signal c.lane_at.result c.advanced-lane.result same next
    ∙ ap (λ (args : List Argument). next_taken args c.args.signal) c.self.view_is)
