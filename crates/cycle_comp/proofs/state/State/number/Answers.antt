use Rattle.std.proofs.Common.{sym}
use Rattle.cycle_comp.specs.Known.{row_of_characters}
use Rattle.cycle_comp.proofs.RowsOnce.{numbered-adds_none}
use Rattle.cycle_comp.proofs.state.State.number.Goals as goal

pub returns-in-Some-clause-rows : goal.returns-in-Some-clause-rows
returns-in-Some-clause-rows c =
    sym (numbered-adds_none c.args.rows.now c.in-Some.row (row_of_characters c.args.self.now.told.characters)
    (c.in-Some.ensures c.args.rows.now c.requires))
