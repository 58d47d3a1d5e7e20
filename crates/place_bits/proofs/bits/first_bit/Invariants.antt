use Rattle.std.proofs.Common.{◌≡◌, ℕ, ◌*◌, ◌<◌, ◌≤◌, false}
use Rattle.place_bits.specs.Bits.{bit_of}
use Rattle.place_bits.proofs.bits.first_bit.Given as goal

abbrev pub invariant-loop-place : goal.invariant-loop-place
invariant-loop-place l = (k : ℕ) → 64 * l.fn.from ≤ k → k < 64 * l.place → bit_of l.words k ≡ false
