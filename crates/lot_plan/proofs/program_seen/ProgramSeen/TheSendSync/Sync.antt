-- Nor does it lend anything.
use denote.Param.Send.{IsSync, part_keyless}
use Rattle.lot_plan.specs.contracts.program_seen.ProgramSeen.{the_row}
use Rattle.lot_plan.proofs.program_seen.ProgramSeen.TheSendSync.Send.{send}

pub sync : IsSync the_row
sync = record { shared = λ d b o κ q. part_keyless the_row send q d b o }
