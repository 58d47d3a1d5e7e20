-- How far a change of levels spreads: to the gates that read a changed input or flip-flop, and on through gates.
use Rattle.std.specs.Prelude.{◌≡◌, ◌≢◌, ◌==◌, ℕ, ◌<◌, Bool, true, false, List, count_by}
use Rattle.tester_types.specs.declared.level.Level.{Level}
use Rattle.bench_net.specs.declared.gate.Driver.{Driver}
use Rattle.bench_net.specs.Wiring.{gate_at, pins_at}
use Rattle.bench_net.specs.Gates.{level_at}

-- the gate of net g reads net n
abbrev pub Reads : List Driver → ℕ → ℕ → Type 0
Reads drivers g n = 0 < count_by (λ p. p == n) (pins_at drivers g)

-- a set of nets, as a test, that holds each gate which reads an input or a flip-flop whose level changed, and with a
-- gate each gate that reads it; the gates reachable from what changed are the least such set
pub record IsSpread (drivers : List Driver) (old new : List Level) (set : ℕ → Bool) : Type 0 where
  pub sources : (g n : ℕ) → Reads drivers g n → gate_at drivers n ≡ false → level_at old n ≢ level_at new n
      → set g ≡ true
  pub gates : (g n : ℕ) → Reads drivers g n → gate_at drivers n ≡ true → set n ≡ true → set g ≡ true
