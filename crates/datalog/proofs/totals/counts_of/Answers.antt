use Rattle.std.proofs.Common.{List, ◌<◌, All, length, subst, sym}
use Rattle.tester_types.specs.declared.record.Record.{Record}
use Rattle.datalog.proofs.LotLemmas.{at_site}
use Rattle.datalog.proofs.totals.counts_of.Goals as goal

pub count_dies-requires-clause-tried : goal.count_dies-requires-clause-tried
count_dies-requires-clause-tried c =
    let tried : List Record → Type 0 = All (λ entry. 0 < length entry.trials) in
    subst tried (sym c.as_slice.ensures)
    (at_site tried c.args.sites.now c.loop-entries.entries-index c.entries-item.result
    c.loop-entries-test.true c.entries-item.is (λ none there. c.requires.tried c.loop-entries.entries-index none there))
