use Rattle.std.proofs.Common.{List, ap, ◌∙◌, get_or}
use Rattle.stil_ast.specs.Meaning.Arguments.{Argument}
use Rattle.stil_ast.specs.Meaning.Shift.{with_column}
use Rattle.macro_expand.specs.Lanes.{arguments_in, no_lane}
use Rattle.macro_expand.specs.declared.lane.Lane.{Lane}
use Rattle.macro_expand.proofs.LaneLemmas.{lane-at-fits, column-put}
use Rattle.macro_expand.proofs.arguments.Arguments.lay_column.Goals as goal

pub returns : goal.returns
returns c =
    let characters = c.self.inside.characters in
    let lanes = c.self.inside.lanes.items in
    let signal = c.args.signal in
    let outs = c.args.outs.now in
    let same = c.lane_at.ensures ∙ ap (λ (lanes : List Lane). get_or lanes signal no_lane) c.as_slice.ensures.value in
    let fits = lane-at-fits characters lanes signal c.lane_at.result same c.self.invariant in
    let padded = c.padded-lane.ensures in
    ap (arguments_in characters) c.put.ensures
    ∙ (column-put outs c.args.count characters lanes signal c.lane_at.result c.padded-lane.result c.is_out.result same
    c.is_out.ensures (padded.column characters fits) padded.taken
    ∙ ap (λ (args : List Argument). with_column outs c.args.count signal args) c.self.view_is)
