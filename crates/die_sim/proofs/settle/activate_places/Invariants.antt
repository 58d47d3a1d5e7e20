use Rattle.std.proofs.Common.{ℕ, ◌<◌, List, length, take, map, get_or}
use Rattle.std.specs.Prelude.{All}
use Rattle.die_sim.specs.Pending.{AreSeats, ActivatesEach, SameSeats}
use Rattle.die_sim.proofs.settle.activate_places.Given as goal

abbrev pub invariant-loop-place : goal.invariant-loop-place
invariant-loop-place l = record {
  activates : (order : List ℕ) → AreSeats order l.fn.pending → All (λ p. p < length order) l.places
      → ActivatesEach (take l.place-index (map (λ p. get_or order p 0) l.places)) l.fn.pending l.pending;
  seats : SameSeats l.fn.pending l.pending;
}
