use Rattle.std.proofs.Common.{sym, inr}
use Rattle.std.proofs.lemmas.Bool.{eqb-true}
use Rattle.plan_rows.proofs.PlanLemmas.{empty_found}
use Rattle.plan_rows.proofs.read.plan.Goals as goal

pub returns-then-is_empty : goal.returns-then-is_empty
returns-then-is_empty c =
    let whole = c.in_ok-book.ensures.0 in
    inr (empty_found c.args.bytes.now whole.records c.in_ok-book.book.rows.items whole.are whole.read (eqb-true _ 0 (sym c.if-is_empty.ensures)))
