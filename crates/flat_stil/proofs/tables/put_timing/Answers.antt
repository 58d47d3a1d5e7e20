use Rattle.std.proofs.Common.{ap, ◌∙◌, ℕ, [], ◌∷◌}
use Rattle.std.specs.Prelude.{codes, length}
use Rattle.std.specs.List.{flat_map, range_with_len}
use Rattle.flat_stil.specs.Working.{prints}
use Rattle.flat_parts.specs.Order.{table_order}
use Rattle.flat_parts.specs.FlatText.{opening, own_table}
use Rattle.flat_stil.proofs.SheetLemmas.{block_written}
use Rattle.flat_stil.proofs.tables.put_timing.Goals as goal

pub returns : goal.returns
returns c =
    block_written c.args.sheet.now c.begin.new.self c.put_own.new.sheet c.close.new.self (opening (codes "Timing \"t") c.args.exec)
    (flat_map (own_table c.args.code.now c.args.exec) (range_with_len 0 (length (table_order c.args.code.now))))
    (c.begin.ensures ∙ ap (λ (n : ℕ). prints c.args.sheet.now (opening (codes "Timing \"t") n ∷ [])) c.from.ensures)
    c.put_own.ensures c.close.ensures
