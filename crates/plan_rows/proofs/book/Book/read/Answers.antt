use Rattle.std.proofs.Common.{◌+◌, ap, ◌∙◌, inl, inr}
use Rattle.std.proofs.lemmas.Result.{err_from_is_err_and}
use Rattle.csv.specs.Records.{fields_of}
use Rattle.plan_rows.proofs.JudgeLemmas.{next_is, says_by_keys, fault_alone, fault_again, taken, at_place}
use Rattle.plan_rows.proofs.book.Book.read.Goals as goal

pub returns-in_err-row : goal.returns-in_err-row
returns-in_err-row c =
    let p = err_from_is_err_and c.from_residual.result c.from_residual.ensures.1 in
    let place = ap (λ n. n + 1) c.len.ensures in
    rw (p.1, p.2) (elim c.in_err-row.ensures [
      | inl none ↦ inl none
      | inr h ↦ inr (at_place (c.len.result + 1) c.args.self.now.rows.items (fields_of c.args.fields.now) _ place (fault_alone (c.len.result + 1) c.args.self.now.rows.items (fields_of c.args.fields.now) _ h))
    ])

pub returns-then-contains : goal.returns-then-contains
returns-then-contains c =
    let rows = c.args.self.now.rows.items in
    let place = ap (λ n. n + 1) c.len.ensures in
    let again = says_by_keys (λ k. k.items) c.args.self.now.subjects.keys rows c.in_ok-row.row c.as_slice.result.now _
    c.requires.book.subjects (c.as_slice.ensures.value ∙ c.in_ok-subject.ensures) c.if-contains.ensures in
    inr (at_place (c.len.result + 1) rows (fields_of c.args.fields.now) _ place
    (fault_again (c.len.result + 1) rows (fields_of c.args.fields.now) c.in_ok-row.row c.in_ok-row.ensures again))

pub add-requires-clause-next : goal.add-requires-clause-next
add-requires-clause-next c =
    let rows = c.args.self.now.rows.items in
    let fresh = says_by_keys (λ k. k.items) c.args.self.now.subjects.keys rows c.in_ok-row.row c.as_slice.result.now _
    c.requires.book.subjects (c.as_slice.ensures.value ∙ c.in_ok-subject.ensures) c.if-contains.ensures in
    next_is (c.len.result + 1) rows (fields_of c.args.fields.now) c.in_ok-row.row
    (taken (c.len.result + 1) rows (fields_of c.args.fields.now) c.in_ok-row.row c.in_ok-row.ensures fresh)

pub returns : goal.returns
returns c =
    let rows = c.args.self.now.rows.items in
    let place = ap (λ n. n + 1) c.len.ensures in
    let fresh = says_by_keys (λ k. k.items) c.args.self.now.subjects.keys rows c.in_ok-row.row c.as_slice.result.now _
    c.requires.book.subjects (c.as_slice.ensures.value ∙ c.in_ok-subject.ensures) c.if-contains.ensures in
    record {
      book = c.in_ok-add.ensures.0;
      row = c.in_ok-row.row;
      judged = at_place (c.len.result + 1) rows (fields_of c.args.fields.now) _ place
          (taken (c.len.result + 1) rows (fields_of c.args.fields.now) c.in_ok-row.row c.in_ok-row.ensures fresh);
      more = c.in_ok-add.ensures.1;
    }
