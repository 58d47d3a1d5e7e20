use Rattle.std.proofs.Common.{subst}
use Rattle.packed_code.specs.Program.{Program}
use Rattle.datalog.specs.Printable.{IsPrintable}
use Rattle.datalog.proofs.PrintableLemmas.{printable_alone}
use Rattle.datalog.proofs.records.print_record.Goals as goal

pub put_record-requires : goal.put_record-requires
put_record-requires g c =
    let plan = c.args.plan.now in
    subst (λ (p : Program). IsPrintable p plan c.args.entry.now) c.requires.program
    (printable_alone plan c.args.entry.now c.sites-sites.ensures.bound c.requires.sound)
