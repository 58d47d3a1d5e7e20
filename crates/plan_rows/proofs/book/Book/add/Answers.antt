use Rattle.std.proofs.Common.{◌≡◌, ℕ, List, map, ap, sym, subst, ◌∙◌, ◌++◌, ◌∷◌, [], false}
use Rattle.std.specs.List.{list_any}
use Rattle.std.specs.Str.{bytes_eq}
use Rattle.std.proofs.lemmas.List.{map-append}
use Rattle.plan_rows.specs.Subjects.{subject_of}
use Rattle.plan_rows.specs.Inside.{IsTally, key_of}
use Rattle.plan_rows.proofs.SubjectLemmas.{same_subject-keys}
use Rattle.plan_rows.proofs.NextLemmas.{noted, subjects_more}
use Rattle.plan_rows.proofs.book.Book.add.Goals as goal

pub returns : goal.returns
returns c =
    let rows = c.args.self.now.rows.items in
    let book = c.requires.book in
    let more = c.in_ok-push.ensures.items in
    let next = c.requires.next in
    let fresh : list_any (bytes_eq c.args.subject.items) (map key_of rows) ≡ false =
    ap (λ (s : List ℕ). list_any (bytes_eq s) (map key_of rows)) c.requires.subject
    ∙ same_subject-keys rows (subject_of c.args.row) ∙ next.fresh in (
      record {
        tally = subst (IsTally c.note.new.self) (sym more)
            (noted c.args.self.now.tally c.note.new.self rows c.args.row book.tally next.suits next.fresh c.in_ok-note.ensures);
        subjects = subjects_more (λ k. k.items) c.args.self.now.subjects.keys c.insert.new.self.keys c.args.subject (map key_of rows)
            book.subjects fresh c.in_ok-insert.ensures.keys
            ∙ ap (λ (s : List ℕ). map key_of rows ++ s ∷ []) c.requires.subject ∙ sym (map-append key_of rows (c.args.row ∷ []))
            ∙ sym (ap (map key_of) more);
      },
      more,
    )
