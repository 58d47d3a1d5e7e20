use Rattle.std.proofs.Common.{subst}
use Rattle.scan_chain.specs.Fault.{Scans}
use Rattle.scan_chain.proofs.building.built.Goals as goal

pub returns : goal.returns
returns c = λ e at. subst (λ title. Scans c.args.blocks.now title c.build_named.result) (c.scans_of.ensures e at) c.build_named.ensures
