-- Gates that are pending, by the places at which the gates stand in an order; no public clause cites it.
use Rattle.std.specs.Prelude.{◌≡◌, ◌≢◌, ◌==◌, ℕ, ◌<◌, ◌≤◌, ◌⊎◌, Bool, true, false, List, length, count_by, slice_index, slice_index_or}
use Rattle.bench_net.specs.declared.gate.Driver.{Driver}
use Rattle.die_sim.specs.Spread.{Reads}

-- the place of a net that no gate drives
abbrev pub nowhere : ℕ
nowhere = 4294967295

-- the place of each net's gate, and for each place whether it is pending
pub record PendingGates : Type 0 where
  pub places : List ℕ
  pub bits : List Bool

-- the place of a net's gate
abbrev pub place_at : PendingGates → ℕ → ℕ
place_at m n = slice_index_or m.places n nowhere

-- whether a net's gate is pending
unfoldable pub is_pending : PendingGates → ℕ → Bool
is_pending m n = slice_index_or m.bits (place_at m n) false

-- the net's gate has a place
abbrev pub HasPlace : PendingGates → ℕ → Type 0
HasPlace m n = place_at m n < length m.bits

-- no two gates have one place, and there are few places
pub record AreApart (m : PendingGates) : Type 0 where
  pub few : length m.bits ≤ 65600
  pub each : (a b : ℕ) → place_at m a ≡ place_at m b → HasPlace m a → a ≡ b

-- the places are as before
pub record SameSeats (old new : PendingGates) : Type 0 where
  pub places : new.places ≡ old.places
  pub size : length new.bits ≡ length old.bits

-- the gates have the places of this order
pub record AreSeats (order : List ℕ) (m : PendingGates) : Type 0 where
  pub room : length order ≤ length m.bits
  pub here : (k : ℕ) → k < length order → place_at m (slice_index order k) ≡ k

-- one gate is pending now, or not, and no other changed
pub record SetsPending (n : ℕ) (state : Bool) (old new : PendingGates) : Type 0 where
  pub here : is_pending new n ≡ state
  pub others : (m : ℕ) → m ≢ n → is_pending new m ≡ is_pending old m
  pub seats : SameSeats old new

-- each of these nets is pending, and no other gate became so
pub record ActivatesEach (nets : List ℕ) (old new : PendingGates) : Type 0 where
  pub active : (g : ℕ) → 0 < count_by (λ r. r == g) nets → is_pending new g ≡ true
  pub others : (g : ℕ) → count_by (λ r. r == g) nets ≡ 0 → is_pending new g ≡ is_pending old g
  pub seats : SameSeats old new

-- each gate that reads the net is pending, and no other gate became so
pub record ActivatesReaders (drivers : List Driver) (n : ℕ) (old new : PendingGates) : Type 0 where
  pub active : (g : ℕ) → Reads drivers g n → is_pending new g ≡ true
  pub others : (g : ℕ) → (Reads drivers g n → ⊥) → is_pending new g ≡ is_pending old g

-- the gates in front of a place of the order are pending, and have their places
pub record SeatedTo (order : List ℕ) (places : List ℕ) (bits : List Bool) (k : ℕ) : Type 0 where
  pub here : (j : ℕ) → j < k → slice_index_or places (slice_index order j) nowhere ≡ j
  pub back : (n : ℕ) → (slice_index_or places n nowhere ≡ nowhere)
      ⊎ ((slice_index_or places n nowhere < k) × (slice_index order (slice_index_or places n nowhere) ≡ n))
  pub active : (j : ℕ) → j < k → slice_index_or bits j false ≡ true
