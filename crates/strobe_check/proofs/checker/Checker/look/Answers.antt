use Rattle.std.proofs.Common.{refl, sym}
use Rattle.strobe_check.proofs.checker.Checker.look.Goals as goal

pub returns-clause-seen : goal.returns-clause-seen
returns-clause-seen c = c.look_at.ensures.seen c.args.moment.now refl (sym c.as_slice.ensures)
