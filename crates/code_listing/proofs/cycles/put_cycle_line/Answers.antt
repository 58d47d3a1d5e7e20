use Rattle.std.proofs.Common.{◌∙◌, sym, ap, get_or, subst, List, [], ℕ, map}
use Rattle.std.proofs.lemmas.Option.{get_or_from_slice_get}
use Rattle.tester_types.specs.Outside.{Prints}
use Rattle.tester_types.specs.declared.wave.Table.{Table}
use Rattle.code_listing.specs.Listing.{no_table}
use Rattle.code_listing.specs.Text.{row_line, character_or_dash}
use Rattle.code_listing.proofs.ListingLemmas.{row-long}
use Rattle.code_listing.proofs.cycles.put_cycle_line.Goals as goal

pub show-requires : goal.show-requires
show-requires g c =
    c.requires.row
    ∙ sym (row-long c.args.code.now c.args.cycle.now.row c.row.result.now c.signals-conditions.ensures.conditions c.row.ensures)

pub returns-clause-prints : goal.returns-clause-prints
returns-clause-prints g c =
    let code = c.args.code.now in
    let cycle = c.args.cycle.now in
    let name = c.as_slice-table.ensures ∙ ap (λ (t : Table). t.name) (sym (get_or_from_slice_get code.tables cycle.table c.table.result.now no_table c.table.ensures.found)) in
    let row = c.show.ensures ∙ ap (map character_or_dash) (sym (get_or_from_slice_get code.rows cycle.row c.row.result.now [] c.row.ensures)) in
    subst (λ (text : List ℕ). Prints (g.K.Sink.told c.args.sink.now) (g.K.Sink.faults c.args.sink.now) text c.put_row.result
    (g.K.Sink.told c.put_row.new.sink) (g.K.Sink.faults c.put_row.new.sink))
    (ap (λ (n : List ℕ). row_line c.args.number cycle.start n c.show.new.row) name
    ∙ ap (row_line c.args.number cycle.start (get_or code.tables cycle.table no_table).name) row)
    c.put_row.ensures
