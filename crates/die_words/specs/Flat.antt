-- A netlist's gates in its order, each with the nets that it reads beside it. No public clause cites it.
use Rattle.std.specs.Prelude.{◌≡◌, ℕ, ◌-◌, ◌<◌, ◌≤◌, List, [], ◌∷◌, length, take, drop, slice_index, slice_index_or}
use Rattle.bench_net.specs.declared.gate.GateKind.TheVariants.{And}
use Rattle.bench_net.specs.declared.gate.Driver.{Driver}
use Rattle.bench_net.specs.declared.gate.Driver.TheVariants.{Gate}
use Rattle.bench_net.specs.Wiring.{driver_at}
use Rattle.bench_net.specs.Circuit.{Circuit}
use Rattle.die_words.specs.declared.flat.Flat.{Flat}
use Rattle.die_words.specs.declared.flat.Flat.TheVariants.{One, Two, Many}

-- the gate past the last one
abbrev pub no_gate : Flat
no_gate = One And 0

-- the gate as a driver; the nets of a gate that reads more than two stand among these
abbrev pub driver_of : List ℕ → Flat → Driver
driver_of pins (One kind net) = Gate kind (net ∷ [])
driver_of pins (Two kind first last) = Gate kind (first ∷ last ∷ [])
driver_of pins (Many kind from to) = Gate kind (take (to - from) (drop from pins))

-- the nets that a gate reads stand among so many
abbrev pub IsInside : ℕ → Flat → Type 0
IsInside count (One kind net) = Unit {0}
IsInside count (Two kind first last) = Unit {0}
IsInside count (Many kind from to) = (from ≤ to) × (to ≤ count)

-- the gate is this driver
pub record IsFlat (driver : Driver) (pins : List ℕ) (gate : Flat) : Type 0 where
  pub inside : IsInside (length pins) gate
  pub is : driver_of pins gate ≡ driver

-- the first gates of the order stand at their places
pub record AreFlatTo (c : Circuit) (gates : List Flat) (pins : List ℕ) (k : ℕ) : Type 0 where
  pub count : length gates ≡ k
  pub each : (j : ℕ) → j < k
      → IsFlat (driver_at c.net.drivers (slice_index c.order j)) pins (slice_index_or gates j no_gate)

-- all gates of the order stand at their places
abbrev pub AreFlat : Circuit → List Flat → List ℕ → Type 0
AreFlat c gates pins = AreFlatTo c gates pins (length c.order)
