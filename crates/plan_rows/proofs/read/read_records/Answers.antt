use Rattle.std.proofs.Common.{◌∙◌, refl, inl, inr, arith}
use Rattle.std.proofs.lemmas.Result.{err_from_is_err_and}
use Rattle.csv.specs.Records.{fields_of}
use Rattle.plan_rows.proofs.GoingLemmas.{starts, goes_on, stops, is_done, few_rows}
use Rattle.plan_rows.proofs.read.read_records.Goals as goal

pub loop-row-init : goal.loop-row-init
loop-row-init c =
    let fr = c.from_reader-reader.ensures in
    let e = c.has_headers.ensures in
    let f = c.flexible.ensures in
    let start = c.into_iter-row-iterator.ensures.into_iter_gives ∙ refl in
    let records = c.into_byte_records-row-items.ensures in
    rw (start, records.rdr) (record {
      book = c.in_ok-book.ensures.book;
      left = records.left;
      going = starts c.args.bytes.now c.from_reader-reader.result c.in_ok-book.book.rows.items c.in_ok-book.ensures.none
          (rw (f, e) at fr.trim ∙ c.new.ensures.trim) (rw (f, e) at fr.has_headers) fr.headers
          (rw (f, e) at fr.config ∙ c.new.ensures.config) fr.source fr.state;
    })

pub read-requires-clause-few : goal.read-requires-clause-few
read-requires-clause-few c = omega (
  arith,
  few_rows c.args.bytes.now c.loop-row.row-iterator.rdr c.loop-row.book.rows.items c.loop-row.invariant.going,
)

pub returns-in_err-read : goal.returns-in_err-read
returns-in_err-read c =
    let p = err_from_is_err_and c.from_residual-in_err-read.result c.from_residual-in_err-read.ensures.1 in
    let g = c.loop-row.invariant.going in
    let s = rw (c.in-Some.is, c.in-Ok.is) at ((c.next.ensures.steps c.loop-row.invariant.left g.plain).0 g.ready) in
    rw (p.1, p.2) (elim c.in_err-read.ensures [
      | inl none ↦ inl none
      | inr h ↦ inr (stops c.args.bytes.now c.loop-row.row-iterator.rdr c.next.new.self.rdr c.loop-row.book.rows.items (fields_of c.in-Ok.fields) _ g s.0 h)
    ])

pub loop-row-preserved : goal.loop-row-preserved
loop-row-preserved c =
    let g = c.loop-row.invariant.going in
    let s = rw (c.in-Some.is, c.in-Ok.is) at ((c.next.ensures.steps c.loop-row.invariant.left g.plain).0 g.ready) in
    let r = c.in_ok-read.ensures in
    record {
      book = r.book;
      left = s.2;
      going = goes_on c.args.bytes.now c.loop-row.row-iterator.rdr c.next.new.self.rdr c.loop-row.book.rows.items
          c.read.new.self.rows.items (fields_of c.in-Ok.fields) r.row g s.0 s.1 r.judged r.more;
    }

pub returns : goal.returns
returns c =
    let g = c.loop-row.invariant.going in
    let s = rw c.in-None.is at ((c.next.ensures.steps c.loop-row.invariant.left g.plain).0 g.ready) in (
      is_done c.args.bytes.now c.loop-row.row-iterator.rdr c.next.new.self.rdr c.loop-row.book.rows.items g s,
      few_rows c.args.bytes.now c.loop-row.row-iterator.rdr c.loop-row.book.rows.items g,
    )
