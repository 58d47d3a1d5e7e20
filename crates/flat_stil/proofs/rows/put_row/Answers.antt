use Rattle.std.proofs.Common.{◌++◌}
use Rattle.std.specs.Prelude.{codes}
use Rattle.flat_parts.specs.FlatText.{row_front, character_items}
use Rattle.flat_stil.proofs.SheetLemmas.{three_pieces}
use Rattle.flat_stil.proofs.rows.put_row.Goals as goal

pub returns : goal.returns
returns c =
    three_pieces c.args.sheet.now c.put_front.new.sheet c.put_characters.new.sheet c.put_line.new.self (row_front c.args.number ++ codes "{ ")
    (character_items c.args.code.now c.args.row.now) (codes "} }") c.put_front.ensures c.put_characters.ensures c.put_line.ensures
