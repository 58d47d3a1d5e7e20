use Rattle.std.proofs.Common.{◌<◌, List, All, length, subst, sym, ap, arith}
use Rattle.tester_types.specs.Records.{SiteRecords, records_of}
use Rattle.tester_types.specs.declared.record.Record.{Record}
use Rattle.plan_rows.proofs.RowLemmas.{sites_of-within}
use Rattle.datalog.proofs.PrintableLemmas.{printable_book}
use Rattle.datalog.proofs.summary.print_totals.Goals as goal

pub put_sums-requires-clause-few : goal.put_sums-requires-clause-few
put_sums-requires-clause-few g c =
    omega (
      arith,
      ap (λ (b : List SiteRecords). length b) c.sites.ensures,
      c.requires.sound.sites,
      sites_of-within c.args.plan.now.rows c.sites-sites.ensures.bound.kept,
    )

pub put_sums-requires-clause-tried : goal.put_sums-requires-clause-tried
put_sums-requires-clause-tried g c =
    subst (λ (b : List SiteRecords). All (All (λ (entry : Record). 0 < length entry.trials)) (records_of b)) (sym c.sites.ensures)
    (λ site none within k entry there.
    ((printable_book c.args.plan.now c.args.book.now c.sites-sites.ensures.bound c.requires.sound).each site none within k entry there).printable.tried)
