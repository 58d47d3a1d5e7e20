use Rattle.std.proofs.Common.{List, subst, sym}
use Rattle.tester_types.specs.Records.{SiteRecords, records_of}
use Rattle.packed_code.specs.Program.{Program}
use Rattle.datalog.specs.Printable.{ArePrintable}
use Rattle.datalog.proofs.PrintableLemmas.{printable_book}
use Rattle.datalog.proofs.lot.print_lot.Goals as goal

pub put_lot-requires : goal.put_lot-requires
put_lot-requires g c =
    let plan = c.args.plan.now in
    subst (λ (b : List SiteRecords). ArePrintable c.args.code.now plan (records_of b)) (sym c.sites.ensures)
    (subst (λ (p : Program). ArePrintable p plan (records_of c.args.book.now)) c.requires.program
    (printable_book plan c.args.book.now c.sites-sites.ensures.bound c.requires.sound))
