use Rattle.std.proofs.Common.{arith}
use Rattle.std.proofs.lemmas.Bool.{false≢true}
use Rattle.lot_plan.proofs.GroupLemmas.{site-below}
use Rattle.stil_tool.proofs.dump.has_die.Goals as goal

pub returns-then-site-sites : goal.returns-then-site-sites
returns-then-site-sites c = (
  λ t. absurd (false≢true t),
  λ some. absurd (omega (arith, site-below c.args.plan.now.rows c.args.site 0 some, c.sites.ensures.count, c.if-site-sites.true)),
)
