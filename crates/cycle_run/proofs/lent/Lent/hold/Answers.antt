use Rattle.std.proofs.Common.{ℕ, List, sym, subst}
use Rattle.tester_types.specs.declared.cycle.Moment.{Moment}
use Rattle.cycle_run.specs.Lent.{HoldsMoments}
use Rattle.cycle_run.proofs.LentLemmas.{put_held}
use Rattle.cycle_run.proofs.lent.Lent.hold.Goals as goal

pub returns : goal.returns
returns c =
    let code = c.args.code.now in
    let skews = c.args.skews.now in
    subst (λ (l : List ((ℕ × ℕ) × List Moment)). HoldsMoments code skews l) (sym c.in_ok-insert.ensures.entries)
    (put_held code skews c.self.inside.moments.entries (c.args.table, c.args.row) c.in_ok-moments.moments c.in_ok-moments.ensures
    (subst (λ (l : List ((ℕ × ℕ) × List Moment)). HoldsMoments code skews l) (sym c.self.view_is) c.requires.held))
