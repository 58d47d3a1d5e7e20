use Rattle.site_meaning.proofs.PartLemmas.{part_of-only}
use Rattle.floor_core.proofs.AloneLemmas.{files_as_alone}
use Rattle.floor_core.proofs.laws.alone_law.Goals as goal

pub returns : goal.returns
returns c world events site = files_as_alone world site (part_of-only world.plan site) events
