use Rattle.std.proofs.Common.{Some, ap, ◌++◌, ◌∙◌, refl, []}
use Rattle.std.proofs.lemmas.Result.{MatchResult-weaker}
use Rattle.csv.specs.Records.{fields_of}
use Rattle.plan_rows.specs.Rows.{one}
use Rattle.plan_parts.specs.PartText.{record_in, records_text}
use Rattle.plan_parts.proofs.TextLemmas.{starts, has_row, goes_on, is_done}
use Rattle.plan_parts.proofs.RecordLemmas.{fresh_text}
use Rattle.plan_parts.proofs.text.part_records.Goals as goal

pub loop-row-init : goal.loop-row-init
loop-row-init c =
    let fr = c.from_reader-reader.ensures in
    let e = c.has_headers.ensures in
    let f = c.flexible.ensures in
    let start = c.into_iter-row-iterator.ensures.into_iter_gives ∙ refl in
    let records = c.into_byte_records-row-items.ensures in
    rw (start, records.rdr) (record {
      left = records.left;
      text = [];
      going = starts c.args.bytes.now c.from_reader-reader.result c.args.parts c.args.part c.args.rows.now
          (rw (f, e) at fr.trim ∙ c.new.ensures.trim) (rw (f, e) at fr.has_headers) fr.headers
          (rw (f, e) at fr.config ∙ c.new.ensures.config) fr.source fr.state;
      writing = record {
        setup = c.from_writer-out.ensures.cfg ∙ c.new-2.ensures;
        none = c.from_writer-out.ensures.fields;
        clean = c.from_writer-out.ensures.wrote;
        wrote = fresh_text c.from_writer-out.result (λ v. Some v.items) c.new-3.result c.from_writer-out.ensures.wtr
            c.from_writer-out.ensures.empty (ap Some c.new-3.ensures.items);
      };
    })

pub bounds-rows-at : goal.bounds-rows-at
bounds-rows-at c =
    let i = c.loop-row.invariant in
    let s = rw (c.in-Some.is, c.in-Ok.is) at ((c.next.ensures.steps i.left i.going.plain).0 i.going.ready) in
    (has_row c.args.bytes.now c.loop-row.row-iterator.rdr c.next.new.self.rdr c.args.parts c.args.part c.args.rows.now c.loop-row.at i.text
    (fields_of c.in-Ok.fields) c.requires.plan i.going s.0).0

pub put_record-requires-clause-six : goal.put_record-requires-clause-six
put_record-requires-clause-six c =
    let i = c.loop-row.invariant in
    let s = rw (c.in-Some.is, c.in-Ok.is) at ((c.next.ensures.steps i.left i.going.plain).0 i.going.ready) in
    (has_row c.args.bytes.now c.loop-row.row-iterator.rdr c.next.new.self.rdr c.args.parts c.args.part c.args.rows.now c.loop-row.at i.text
    (fields_of c.in-Ok.fields) c.requires.plan i.going s.0).1

pub loop-row-preserved : goal.loop-row-preserved
loop-row-preserved c =
    let i = c.loop-row.invariant in
    let s = rw (c.in-Some.is, c.in-Ok.is) at ((c.next.ensures.steps i.left i.going.plain).0 i.going.ready) in
    record {
      left = s.2;
      text = i.text ++ records_text (one (record_in c.args.parts c.args.part c.args.rows.now c.index-rows-at.result (fields_of c.in-Ok.fields)));
      going = goes_on c.args.bytes.now c.loop-row.row-iterator.rdr c.next.new.self.rdr c.args.parts c.args.part c.args.rows.now c.loop-row.at i.text
          _ (fields_of c.in-Ok.fields) c.index-rows-at.result c.requires.plan i.going s.0 s.1 c.index-rows-at.is refl;
      writing = c.in_ok-put_record.ensures c.args.rows.now i.text c.requires.sites i.writing;
    }

pub returns : goal.returns
returns c =
    let i = c.loop-row.invariant in
    let s = rw c.in-None.is at ((c.next.ensures.steps i.left i.going.plain).0 i.going.ready) in
    MatchResult-weaker c.finished.result c.finished.ensures (λ text wrote.
    is_done c.args.bytes.now c.loop-row.row-iterator.rdr c.next.new.self.rdr c.args.parts c.args.part c.args.rows.now c.loop-row.at i.text text.items
    c.requires.plan i.going s (wrote i.text i.writing)) (λ e none. none)
