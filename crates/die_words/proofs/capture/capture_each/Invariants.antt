use Rattle.std.proofs.Common.{◌≡◌, ℕ, false, List, length, get_or}
use Rattle.tester_types.specs.declared.level.Level.{Level}
use Rattle.die_sim.specs.Moment.{edge, capture}
use Rattle.bench_net.specs.Wiring.{driver_at}
use Rattle.die_sim.specs.Walk.{is_flip_flop}
use Rattle.die_words.specs.Lane.{nothing, IsLane}
use Rattle.die_words.specs.Capture.{kept_after}
use Rattle.die_words.proofs.CaptureLemmas.{HasCaptured}
use Rattle.die_words.proofs.capture.capture_each.Given as goal

abbrev pub invariant-loop-place : goal.invariant-loop-place
invariant-loop-place l = record {
  count : length l.held.items ≡ length l.fn.held.items;
  lanes : (was now : Level) → ((x d : Level) → capture (edge was now) x d ≡ kept_after l.rise x d)
      → (k : ℕ) (v own : List Level) → IsLane l.before k v → IsLane l.fn.held.items k own
      → HasCaptured l.net.net.drivers was now v own l.held.items l.nets l.place k;
  others : (n : ℕ) → is_flip_flop (driver_at l.net.net.drivers n) ≡ false
      → get_or l.held.items n nothing ≡ get_or l.fn.held.items n nothing;
}
