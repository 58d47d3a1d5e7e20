use Rattle.signal_groups.proofs.PlaceLemmas.{place_named, place-within}
use Rattle.signal_groups.proofs.table.SignalTable.place.Goals as goal

pub returns-clause-signals : goal.returns-clause-signals
returns-clause-signals c = λ names e.
    place_named names c.args.self.now c.args.name.now c.looked.result e c.looked.ensures

pub returns-clause-within : goal.returns-clause-within
returns-clause-within c =
    place-within c.args.self.now c.args.name.now c.looked.result c.soundness.ensures c.looked.ensures
