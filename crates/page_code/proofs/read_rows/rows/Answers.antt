use Rattle.std.proofs.Common.{[], ◌∙◌, ap, length}
use Rattle.std.proofs.lemmas.Result.{err_from_is_err_and}
use Rattle.page_code.specs.Fields.{items_at}
use Rattle.page_code.specs.Reading.{row_at}
use Rattle.page_code.proofs.ItemsLemmas.{goes_on, stops, is_done}
use Rattle.page_code.proofs.ChangesLemmas.{last_row_push}
use Rattle.page_code.proofs.read_rows.rows.Goals as goal

pub returns-in_err-after : goal.returns-in_err-after
returns-in_err-after c =
    let p = err_from_is_err_and c.from_residual.result c.from_residual.ensures.1 in
    let one = row_at c.args.version c.args.signals in
    rw (p.1, p.2)
    (stops c.in_err-after.field-0.0 one c.loop.rows c.args.count c.loop.counter c.loop.rest.now
    (items_at one c.args.count [] c.args.bytes.now) c.loop-test.true c.in_err-after.ensures c.loop.invariant.so_far)

pub loop-preserved : goal.loop-preserved
loop-preserved c =
    let read = c.in_ok-after.ensures in
    let one = row_at c.args.version c.args.signals in
    record {
      so_far = rw read.2
          (goes_on one c.loop.rows c.args.count c.loop.counter c.loop.rest.now read.0 c.in_ok-after.after.now
          (items_at one c.args.count [] c.args.bytes.now) c.loop-test.true read.1 c.loop.invariant.so_far);
      width = λ some. rw read.2 (ap length (last_row_push c.loop.rows read.0) ∙ read.3);
    }

pub returns : goal.returns
returns c =
    is_done (row_at c.args.version c.args.signals) c.loop.rows c.args.count c.loop.counter c.loop.rest.now
    (items_at (row_at c.args.version c.args.signals) c.args.count [] c.args.bytes.now) c.loop-test.false c.loop.invariant.so_far
