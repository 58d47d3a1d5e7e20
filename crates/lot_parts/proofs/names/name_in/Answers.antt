use Rattle.lot_parts.proofs.SiteNameLemmas.{name_here, name_elsewhere}
use Rattle.lot_parts.proofs.names.name_in.Goals as goal

pub returns-then-die-site-clause-found : goal.returns-then-die-site-clause-found
returns-then-die-site-clause-found c =
    name_here c.args.site c.args.row.now c.in-Die.die _ c.in-Die.is c.if-die-site.true c.as_slice.ensures

pub returns-else-die-site-clause-none : goal.returns-else-die-site-clause-none
returns-else-die-site-clause-none c =
    name_elsewhere c.args.site c.args.row.now c.in-Die.die c.in-Die.is c.if-die-site.false
