use Rattle.std.proofs.Common.{◌∙◌, List, ℕ, ap, pos, sym, subst, length}
use Rattle.std.proofs.lemmas.List.{length-replicate}
use Rattle.std.proofs.lemmas.Result.{err_from_is_err_and}
use Rattle.tester_types.specs.Outside.{gained, GainsFront}
use Rattle.edge_gen.specs.Signals.{no_skews, FitSkews}
use Rattle.edge_gen.proofs.InsideLemmas.{fit_rows}
use Rattle.code_listing.specs.Listing.{listed}
use Rattle.code_listing.specs.Text.{names_of, moments_text}
use Rattle.code_listing.proofs.ListingLemmas.{row-long, stays, moments-listed}
use Rattle.code_listing.proofs.LineLemmas.{none_lists}
use Rattle.code_listing.proofs.moments.put_moments.Goals as goal

pub schedule-requires-clause-skews : goal.schedule-requires-clause-skews
schedule-requires-clause-skews g c =
    let code = c.args.code.now in
    let n = length code.signals in
    let long = row-long code c.args.cycle.now.row c.row-row.result.now c.signals-conditions.ensures.conditions c.row-row.ensures in
    subst (FitSkews c.table-table.result.now c.row-row.result.now) (sym c.requires.skews)
    (fit_rows c.table-table.result.now c.row-row.result.now (no_skews n) (length-replicate n (pos 0) ∙ sym long)
    (stays code c.args.cycle.now.table n c.table-table.result.now c.signals-conditions.ensures.conditions c.table-table.ensures.found))

pub returns-in_err-moments-clause-lists : goal.returns-in_err-moments-clause-lists
returns-in_err-moments-clause-lists g c =
    let p = err_from_is_err_and c.from_residual.result c.from_residual.ensures.1 in
    rw (p.1, p.2) (none_lists (Unit {0}) (g.K.Sink.told c.args.sink.now) (moments_text (names_of c.args.code.now) (listed c.args.code.now (c.args.number, c.args.cycle.now))))

pub returns-in_err-put_timed-clause-lists : goal.returns-in_err-put_timed-clause-lists
returns-in_err-put_timed-clause-lists g c =
    let code = c.args.code.now in
    let p = err_from_is_err_and c.from_residual-in_err-put_timed.result c.from_residual-in_err-put_timed.ensures.1 in
    let long = row-long code c.args.cycle.now.row c.row-row.result.now c.signals-conditions.ensures.conditions c.row-row.ensures in
    let same = moments-listed code c.args.number c.args.cycle.now c.table-table.result.now c.row-row.result.now c.args.skews.now c.as_slice.result.now
    c.table-table.ensures.found c.row-row.ensures long c.requires.skews (c.as_slice.ensures ∙ c.in_ok-moments.ensures) in
    rw (p.1, p.2)
    (subst (λ (text : List ℕ). GainsFront (g.K.Sink.told c.args.sink.now) text (g.K.Sink.told c.put_timed.new.sink)) same c.in_err-put_timed.ensures.puts)

pub returns-clause-lists : goal.returns-clause-lists
returns-clause-lists g c =
    let code = c.args.code.now in
    let long = row-long code c.args.cycle.now.row c.row-row.result.now c.signals-conditions.ensures.conditions c.row-row.ensures in
    let same = moments-listed code c.args.number c.args.cycle.now c.table-table.result.now c.row-row.result.now c.args.skews.now c.as_slice.result.now
    c.table-table.ensures.found c.row-row.ensures long c.requires.skews (c.as_slice.ensures ∙ c.in_ok-moments.ensures) in
    c.in_ok-put_timed.ensures.puts ∙ ap (gained (g.K.Sink.told c.args.sink.now)) same
