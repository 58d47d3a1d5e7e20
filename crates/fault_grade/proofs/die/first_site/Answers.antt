use Rattle.std.proofs.Common.{◌∙◌, sym}
use Rattle.lot_plan.proofs.GroupLemmas.{site-below}
use Rattle.fault_grade.proofs.DieLemmas.{has-first, first-planned}
use Rattle.fault_grade.proofs.die.first_site.Goals as goal

pub unreachable-requires : goal.unreachable-requires
unreachable-requires c = has-first c.args.plan.now.rows c.requires (sym c.first.ensures ∙ c.in-None.is)

pub returns-clause-within : goal.returns-clause-within
returns-clause-within c =
    site-below c.args.plan.now.rows c.in-Some.site 0
    (first-planned c.args.plan.now.rows c.in-Some.site _ (sym c.first.ensures ∙ c.in-Some.is))

pub returns-clause-die : goal.returns-clause-die
returns-clause-die c = first-planned c.args.plan.now.rows c.in-Some.site _ (sym c.first.ensures ∙ c.in-Some.is)
