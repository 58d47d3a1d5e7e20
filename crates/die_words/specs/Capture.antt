-- What flip-flops keep in 64 dies. No public clause cites it.
use Rattle.std.specs.Prelude.{◌≡◌, ℕ, ◌<◌, true, List, length, slice_index}
use Rattle.tester_types.specs.declared.level.Level.{Level}
use Rattle.bench_net.specs.declared.gate.Driver.{Driver}
use Rattle.bench_net.specs.declared.gate.Driver.TheVariants.{Dff}
use Rattle.bench_net.specs.Wiring.{driver_at}
use Rattle.bench_net.specs.Gates.{read}
use Rattle.die_sim.specs.Moment.{agreed}
use Rattle.die_sim.specs.Walk.{is_flip_flop, StandsAt}
use Rattle.die_words.specs.declared.capture.Rise.{Rise}
use Rattle.die_words.specs.declared.capture.Rise.TheVariants.{Takes, Doubts, Keeps}

-- what a flip-flop keeps after the clock's change, by what it kept and the level of its D net
abbrev pub kept_after : Rise → Level → Level → Level
kept_after Takes own d = read d
kept_after Doubts own d = agreed own d
kept_after Keeps own d = own

-- these nets are the flip-flops in front of a net, and those beside them their D nets
pub record AreRegisters (drivers : List Driver) (nets sources : List ℕ) (below : ℕ) : Type 0 where
  pub count : length sources ≡ length nets
  pub each : (k : ℕ) → k < length nets → driver_at drivers (slice_index nets k) ≡ Dff (slice_index sources k)
  pub all : (n : ℕ) → n < below → is_flip_flop (driver_at drivers n) ≡ true → StandsAt n nets
