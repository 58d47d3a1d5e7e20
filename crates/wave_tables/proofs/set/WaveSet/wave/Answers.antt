use Rattle.std.proofs.Common.{◌∙◌}
use Rattle.wave_tables.proofs.SetLemmas.{order_at, wave_at, wave_past}
use Rattle.wave_tables.proofs.set.WaveSet.wave.Goals as goal

pub wave_of-requires : goal.wave_of-requires
wave_of-requires c =
    let at = c.in-Some.ensures.lookup in
    order_at c.deref.result.now c.self.inside.tables.items c.from.result c.in-Some.found.now c.deref.ensures.value at.3.0 at.1
    c.self.invariant

pub returns-in-Some : goal.returns-in-Some
returns-in-Some c =
    let at = c.in-Some.ensures.lookup in
    wave_at c.deref.result.now c.args.self.now c.from.result c.args.table c.args.signal c.args.character c.in-Some.found.now _
    (c.deref.ensures.value ∙ c.self.view_is) c.from.ensures at.3.0 at.1 c.wave_of.ensures

pub returns-in-None : goal.returns-in-None
returns-in-None c =
    wave_past c.deref.result.now c.args.self.now c.from.result c.args.table c.args.signal c.args.character
    (c.deref.ensures.value ∙ c.self.view_is) c.from.ensures c.in-None.ensures.lookup.3
