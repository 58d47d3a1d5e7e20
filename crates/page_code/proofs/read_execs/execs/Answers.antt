use Rattle.std.proofs.Common.{[], List, Ok, ap, sym, ◌∙◌, rules}
use Rattle.std.proofs.lemmas.Result.{err_from_is_err_and}
use Rattle.page_code.specs.Fields.{items_at}
use Rattle.page_code.specs.Reading.{exec_at}
use Rattle.packed_code.specs.Program.{Exec}
use Rattle.page_code.proofs.ItemsLemmas.{goes_on, stops, is_done}
use Rattle.page_code.proofs.read_execs.execs.Goals as goal

pub loop-init : goal.loop-init
loop-init c = record {
  so_far = search rules;
  accepted = c.new-accepted.ensures c.args.tables.now c.args.rows.now;
}

pub returns-in_err-exec : goal.returns-in_err-exec
returns-in_err-exec c =
    let p = err_from_is_err_and c.from_residual.result c.from_residual.ensures.1 in
    rw (p.1, p.2)
    (stops c.in_err-exec.field-0.0 (λ before. exec_at c.args.signals c.args.tables.now c.args.rows.now) c.loop.execs.items c.args.count c.loop.counter c.loop.rest.now
    (items_at (λ before. exec_at c.args.signals c.args.tables.now c.args.rows.now) c.args.count [] c.args.bytes.now) c.loop-test.true c.in_err-exec.ensures.read c.loop.invariant.so_far)

pub loop-preserved : goal.loop-preserved
loop-preserved c = record {
  so_far = rw c.in_ok-push.ensures.items
      (goes_on (λ before. exec_at c.args.signals c.args.tables.now c.args.rows.now) c.loop.execs.items c.args.count c.loop.counter c.loop.rest.now c.in_ok-exec.exec c.in_ok-exec.after.now
      (items_at (λ before. exec_at c.args.signals c.args.tables.now c.args.rows.now) c.args.count [] c.args.bytes.now) c.loop-test.true c.in_ok-exec.ensures.read c.loop.invariant.so_far);
  accepted = c.exec.ensures.accepted;
}

pub returns : goal.returns
returns c =
    is_done (λ before. exec_at c.args.signals c.args.tables.now c.args.rows.now) c.loop.execs.items c.args.count c.loop.counter c.loop.rest.now
    (items_at (λ before. exec_at c.args.signals c.args.tables.now c.args.rows.now) c.args.count [] c.args.bytes.now) c.loop-test.false c.loop.invariant.so_far
    ∙ ap (λ (items : List Exec). Ok (items, c.loop.rest.now)) (sym c.from_vec.ensures)
