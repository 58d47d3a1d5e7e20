-- What drives each net of a netlist, and what follows from that alone: the least set of nets that
-- the sources reach,
-- an order of the gates, and the gates that read each net. A net is its number.
use Rattle.std.specs.Prelude.{◌≡◌, ◌==◌, ℕ, ◌<◌, ◌≤◌, Bool, true, false, not, ◌||◌, cond, List, [], length, take, slice_index, slice_index_or, All, count_by}
use Rattle.std.specs.List.{list_any}
use Rattle.text_bytes.specs.Limits.{most_inputs}
use Rattle.bench_net.specs.Gates.{is_single}
use Rattle.bench_net.specs.declared.gate.Driver.{Driver}
use Rattle.bench_net.specs.declared.gate.Driver.TheVariants.{Input, Dff, Gate}

-- the driver of a net; past the last net an input
abbrev pub driver_at : List Driver → ℕ → Driver
driver_at drivers n = slice_index_or drivers n Input

-- whether a driver is a gate, whose level follows its pins at once
abbrev pub is_gate : Driver → Bool
is_gate Input = false
is_gate (Dff d) = false
is_gate (Gate kind pins) = true

-- the nets that a gate reads, in written order; an input and a flip-flop follow no net at once
abbrev pub pins_of : Driver → List ℕ
pins_of Input = []
pins_of (Dff d) = []
pins_of (Gate kind pins) = pins

-- whether a gate drives the net
abbrev pub gate_at : List Driver → ℕ → Bool
gate_at drivers n = is_gate (driver_at drivers n)

-- the nets that the net's gate reads
abbrev pub pins_at : List Driver → ℕ → List ℕ
pins_at drivers n = pins_of (driver_at drivers n)

-- a driver reads nets of the netlist alone, and has as many pins as its kind takes
abbrev pub IsWired : ℕ → Driver → Type 0
IsWired nets Input = Unit {0}
IsWired nets (Dff d) = d < nets
IsWired nets (Gate kind pins) = (0 < length pins) × (length pins ≤ most_inputs)
    × (is_single kind ≡ true → length pins ≡ 1) × All (λ p. p < nets) pins

-- a set of nets, as a test, that holds all inputs and all flip-flops' nets, and each gate's net
-- once it holds all that the gate reads
pub record IsClosed (drivers : List Driver) (set : ℕ → Bool) : Type 0 where
  pub sources : (n : ℕ) → n < length drivers → gate_at drivers n ≡ false → set n ≡ true
  pub gates : (n : ℕ) → n < length drivers → gate_at drivers n ≡ true
      → All (λ p. set p ≡ true) (pins_at drivers n) → set n ≡ true

-- the net is in the least such set: in every one
abbrev pub IsReached : List Driver → ℕ → Type 0
IsReached drivers n = (set : ℕ → Bool) → IsClosed drivers set → set n ≡ true

-- the net is outside the least such set: outside some
pub record IsUnreached (drivers : List Driver) (n : ℕ) : Type 0 where
  pub set : ℕ → Bool
  pub closed : IsClosed drivers set
  pub outside : set n ≡ false

-- whether no gate drives the net, or its gate stands among these
abbrev pub is_settled : List Driver → List ℕ → ℕ → Bool
is_settled drivers front n = not (gate_at drivers n) || list_any (λ g. g == n) front

-- an order of the gates: each gate's net once and no other, each gate after the gates that it reads
pub record IsOrder (drivers : List Driver) (order : List ℕ) : Type 0 where
  pub gates : (n : ℕ) → count_by (λ g. g == n) order ≡ cond {A = ℕ} (gate_at drivers n) 1 0
  pub after : (k : ℕ) → k < length order
      → All (λ p. is_settled drivers (take k order) p
      ≡ true) (pins_at drivers (slice_index order k))

-- for each net the gates that read it: a gate stands in a net's list as often as it has the net as
-- a pin
pub record AreReaders (drivers : List Driver) (readers : List (List ℕ)) : Type 0 where
  pub one_each : length readers ≡ length drivers
  pub counts : (n g : ℕ) → n < length drivers → count_by (λ r. r == g) (slice_index_or readers n [])
      ≡ count_by (λ p. p == n) (pins_at drivers g)
