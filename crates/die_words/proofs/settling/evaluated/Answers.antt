use Rattle.die_sim.specs.Die.{driven}
use Rattle.die_words.specs.Flat.{driver_of}
use Rattle.die_words.proofs.settling.evaluated.Goals as goal

pub returns : goal.returns
returns c = record {
  each = λ k f own v within fault shows.
      c.forced.ensures.shows k (driven (driver_of c.args.pins.now c.args.gate) own v) f within (c.gate_word.ensures k v own within shows) fault;
}
