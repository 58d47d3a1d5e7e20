use Rattle.std.proofs.Common.{◌≡◌, [], List, ℕ, Ok, ap, subst, sym, ◌∙◌, arith, length}
use Rattle.std.proofs.lemmas.Result.{err_from_is_err_and}
use Rattle.page_code.specs.Fields.{Fails, items_at}
use Rattle.page_code.specs.Reading.{table_at, table_with}
use Rattle.std.proofs.lemmas.List.Sums.{sum_by_push}
use Rattle.tester_types.specs.declared.wave.Table.{Table}
use Rattle.page_code.proofs.ItemsLemmas.{goes_on, stops, is_done}
use Rattle.page_code.proofs.read_tables.tables.Goals as goal

pub returns-in_err-table : goal.returns-in_err-table
returns-in_err-table c =
    let p = err_from_is_err_and c.from_residual.result c.from_residual.ensures.1 in
    rw (p.1, p.2)
    (stops c.in_err-table.field-0.0 (table_at c.args.signals) c.loop.tables.items c.args.count c.loop.counter c.loop.rest.now
    (items_at (table_at c.args.signals) c.args.count [] c.args.bytes.now) c.loop-test.true (subst (λ (room : ℕ). Fails c.in_err-table.field-0.0 (table_with c.args.signals room c.loop.rest.now)) c.loop.invariant.1 c.in_err-table.ensures) c.loop.invariant.0)

pub loop-preserved : goal.loop-preserved
loop-preserved c = (
  rw c.in_ok-push.ensures.items
      (goes_on (table_at c.args.signals) c.loop.tables.items c.args.count c.loop.counter c.loop.rest.now c.in_ok-table.table c.in_ok-table.after.now
      (items_at (table_at c.args.signals) c.args.count [] c.args.bytes.now) c.loop-test.true (subst (λ (room : ℕ). table_with c.args.signals room c.loop.rest.now ≡ Ok (c.in_ok-table.table, c.in_ok-table.after.now)) c.loop.invariant.1 c.in_ok-table.ensures) c.loop.invariant.0),
  rw c.in_ok-push.ensures.items (omega (arith, sum_by_push (λ (t : Table). length t.waves) c.loop.tables.items c.in_ok-table.table, c.loop.invariant.1)),
)

pub returns : goal.returns
returns c =
    is_done (table_at c.args.signals) c.loop.tables.items c.args.count c.loop.counter c.loop.rest.now
    (items_at (table_at c.args.signals) c.args.count [] c.args.bytes.now) c.loop-test.false c.loop.invariant.0
    ∙ ap (λ (items : List Table). Ok (items, c.loop.rest.now)) (sym c.from_vec.ensures)
