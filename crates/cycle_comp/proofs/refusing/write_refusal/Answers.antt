use Rattle.std.proofs.Common.{subst}
use Rattle.cycle_comp.specs.Written.{IsFaulty, IsFirstFault}
use Rattle.cycle_comp.specs.Writing.{WriteError}
use Rattle.cycle_comp.proofs.refusing.write_refusal.Goals as goal

pub returns-in-Ok : goal.returns-in-Ok
returns-in-Ok c = λ f same.
    let first : IsFirstFault c.args.exec.now.tables c.args.signals c.args.exec.now.trees c.in-Fault.fault =
    subst (λ (e : WriteError). IsFaulty c.args.exec.now.tables c.args.signals c.args.exec.now.trees e) c.in-Fault.is c.requires in
    let told = c.in-Ok.ensures first.fault first.told in
    let is = first.first in cc
