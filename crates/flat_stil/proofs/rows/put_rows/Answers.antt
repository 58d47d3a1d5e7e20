use Rattle.std.proofs.Common.{map}
use Rattle.std.specs.Prelude.{codes, length}
use Rattle.std.specs.List.{range_with_len}
use Rattle.flat_parts.specs.Order.{row_order}
use Rattle.flat_parts.specs.FlatText.{row_line}
use Rattle.flat_stil.proofs.SheetLemmas.{block_written}
use Rattle.flat_stil.proofs.rows.put_rows.Goals as goal

pub returns : goal.returns
returns c =
    block_written c.args.sheet.now c.put_line.new.self c.put_each.new.sheet c.close.new.self (codes "Procedures {")
    (map (row_line c.args.code.now) (range_with_len 0 (length (row_order c.args.code.now)))) c.put_line.ensures c.put_each.ensures c.close.ensures
