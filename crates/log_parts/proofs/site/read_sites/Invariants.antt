use Rattle.std.proofs.Common.{take}
use Rattle.log_parts.specs.Slices.{lent, lent_sites}
use Rattle.log_parts.specs.Step.{SitesAreRead}
use Rattle.log_parts.proofs.site.read_sites.Given as goal

abbrev pub invariant-loop-number : goal.invariant-loop-number
invariant-loop-number l =
    SitesAreRead (lent_sites (take l.number l.names)) l.fn.lines l.lines l.fn.bins.items l.bins.items (lent l.texts.items)
