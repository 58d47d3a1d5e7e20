use Rattle.std.proofs.Common.{[], List, ℕ, Ok, ap, sym, ◌∙◌}
use Rattle.std.proofs.lemmas.Result.{err_from_is_err_and}
use Rattle.page_code.specs.Fields.{items_at}
use Rattle.page_code.specs.Reading.{name_at}
use Rattle.page_code.proofs.ItemsLemmas.{goes_on, stops, is_done}
use Rattle.page_code.proofs.read_execs.cells.Goals as goal

pub returns-in_err-cell : goal.returns-in_err-cell
returns-in_err-cell c =
    let p = err_from_is_err_and c.from_residual.result c.from_residual.ensures.1 in
    rw (p.1, p.2)
    (stops c.in_err-cell.field-0.0 (λ before. name_at) c.loop.cells.items c.args.count c.loop.counter c.loop.rest.now
    (items_at (λ before. name_at) c.args.count [] c.args.bytes.now) c.loop-test.true c.in_err-cell.ensures c.loop.invariant)

pub loop-preserved : goal.loop-preserved
loop-preserved c =
    rw c.in_ok-push.ensures.items
    (goes_on (λ before. name_at) c.loop.cells.items c.args.count c.loop.counter c.loop.rest.now c.in_ok-cell.cell c.in_ok-cell.after.now
    (items_at (λ before. name_at) c.args.count [] c.args.bytes.now) c.loop-test.true c.in_ok-cell.ensures c.loop.invariant)

pub returns : goal.returns
returns c =
    is_done (λ before. name_at) c.loop.cells.items c.args.count c.loop.counter c.loop.rest.now
    (items_at (λ before. name_at) c.args.count [] c.args.bytes.now) c.loop-test.false c.loop.invariant
    ∙ ap (λ (items : List (List ℕ)). Ok (items, c.loop.rest.now)) (sym c.in_ok-new.ensures)
