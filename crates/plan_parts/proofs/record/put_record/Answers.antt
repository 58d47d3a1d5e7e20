use Rattle.std.proofs.Common.{ℕ, List, ◌++◌, ◌∙◌, sym, ap, subst, append-nil, Some, Vec, Global}
use Rattle.std.proofs.lemmas.Result.{MatchResult-weaker}
use Rattle.csv.specs.Records.{fields_of}
use Rattle.plan_parts.specs.Inside.{IsWriting}
use Rattle.plan_parts.proofs.RecordLemmas.{text_same, text_moved, text_gone}
use Rattle.plan_parts.proofs.record.put_record.Goals as goal

pub returns-in-None : goal.returns-in-None
returns-in-None c =
    MatchResult-weaker c.put_same.result c.put_same.ensures (λ done wrote rows before same was.
    subst (λ (l : List ℕ). IsWriting {W = Vec ℕ Global} c.put_same.new.out (λ v. Some v.items) (before ++ l))
    (text_same c.args.parts c.args.part rows c.args.row.now (fields_of c.args.fields.now) c.in-None.ensures) (wrote before was)) (λ e none. none)

pub returns-in-Some-number_in : goal.returns-in-Some-number_in
returns-in-Some-number_in c =
    MatchResult-weaker c.put_moved.result c.put_moved.ensures (λ done wrote rows before same was.
    subst (λ (l : List ℕ). IsWriting {W = Vec ℕ Global} c.put_moved.new.out (λ v. Some v.items) (before ++ l))
    (text_moved c.args.parts c.args.part c.args.sites.now rows c.args.row.now (fields_of c.args.fields.now) c.in-Some.site
    c.in-Some-number_in.number same c.in-Some.ensures c.in-Some-number_in.ensures) (wrote before was)) (λ e none. none)

pub returns-in-None-number_in : goal.returns-in-None-number_in
returns-in-None-number_in c = λ rows before same was.
    subst (λ (l : List ℕ). IsWriting {W = Vec ℕ Global} c.args.out.now (λ v. Some v.items) l)
    (sym (append-nil before) ∙ ap (λ (l : List ℕ). before ++ l)
    (text_gone c.args.parts c.args.part c.args.sites.now rows c.args.row.now (fields_of c.args.fields.now) c.in-Some.site same
    c.in-Some.ensures c.in-None-number_in.ensures)) was
