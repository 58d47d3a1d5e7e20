use Rattle.std.proofs.Common.{sym, subst, arith}
use Rattle.bench_net.specs.Wiring.{pins_of}
use Rattle.die_sim.specs.Die.{driven}
use Rattle.die_words.specs.declared.flat.Flat.{Flat}
use Rattle.die_words.specs.Lane.{Shows}
use Rattle.die_words.specs.Flat.{driver_of}
use Rattle.die_words.specs.Fits.{ShowsEach}
use Rattle.die_words.proofs.gates.gate_word.Goals as goal

pub returns-in-One : goal.returns-in-One
returns-in-One c = λ k v own within shows.
    let pins = c.args.pins.now in
    let here = subst (λ (g : Flat). ShowsEach c.args.words.now k v (pins_of (driver_of pins g))) c.in-One.is shows in
    subst (λ (g : Flat). Shows c.one_word.result k (driven (driver_of pins g) own v)) (sym c.in-One.is)
    (c.one_word.ensures k v c.in-One.net (here.each 0 (omega arith)))

pub returns-in-Two : goal.returns-in-Two
returns-in-Two c = λ k v own within shows.
    let pins = c.args.pins.now in
    let here = subst (λ (g : Flat). ShowsEach c.args.words.now k v (pins_of (driver_of pins g))) c.in-Two.is shows in
    subst (λ (g : Flat). Shows c.two_word.result k (driven (driver_of pins g) own v)) (sym c.in-Two.is)
    (c.two_word.ensures k v c.in-Two.first c.in-Two.last (here.each 0 (omega arith)) (here.each 1 (omega arith)))

pub returns-in-Many : goal.returns-in-Many
returns-in-Many c = λ k v own within shows.
    let pins = c.args.pins.now in
    let here = subst (λ (g : Flat). ShowsEach c.args.words.now k v (pins_of (driver_of pins g))) c.in-Many.is shows in
    subst (λ (g : Flat). Shows c.many_word.result k (driven (driver_of pins g) own v)) (sym c.in-Many.is)
    (c.many_word.ensures k v within here)
