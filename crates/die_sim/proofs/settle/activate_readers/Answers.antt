use Rattle.std.proofs.Common.{ℕ, ◌<◌, List, length, sym, subst}
use Rattle.std.specs.Prelude.{All}
use Rattle.die_sim.proofs.PendingLemmas.{AreSeats-same}
use Rattle.die_sim.proofs.ReaderLemmas.{readers_have_bits, readers_activated}
use Rattle.die_sim.proofs.settle.activate_readers.Goals as goal

pub activate_places-requires : goal.activate_places-requires
activate_places-requires c =
    subst (λ (xs : List ℕ). All (λ p. p < length c.args.pending.now.bits) xs) (sym c.at.ensures)
    (readers_have_bits c.args.net.now c.args.readers.now.starts.items c.args.readers.now.places.items c.args.pending.now c.args.n c.requires.readers c.requires.seats c.requires.within)

pub returns : goal.returns
returns c = record {
  pending = readers_activated c.args.net.now c.requires.whole c.args.readers.now.starts.items c.args.readers.now.places.items c.at.result.now
      c.args.pending.now c.activate_places.new.pending c.args.n c.requires.within c.requires.readers c.requires.seats c.at.ensures c.activate_places.ensures.activates;
  seats = AreSeats-same c.args.net.now.order c.args.pending.now c.activate_places.new.pending c.activate_places.ensures.seats c.requires.seats;
}
