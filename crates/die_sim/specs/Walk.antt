-- What the event-driven walk keeps while it goes through the gates; no public clause cites it.
use Rattle.std.specs.Prelude.{◌≡◌, ◌≢◌, ℕ, ◌<◌, ◌≤◌, ◌⊎◌, Bool, true, false, Option, List, length, take, count_by, slice_index, slice_index_or}
use Rattle.tester_types.specs.declared.level.Level.{Level}
use Rattle.tester_types.specs.declared.level.Level.TheVariants.{Zero, One, X, Z}
use Rattle.bench_net.specs.declared.gate.Driver.{Driver}
use Rattle.bench_net.specs.declared.gate.Driver.TheVariants.{Input, Dff, Gate}
use Rattle.bench_net.specs.Wiring.{driver_at, gate_at}
use Rattle.die_sim.specs.declared.image.StuckAt.{StuckAt}
use Rattle.die_sim.specs.declared.image.Bind.{Bind}
use Rattle.die_sim.specs.declared.image.Bind.TheVariants as bind
use Rattle.die_sim.specs.declared.moment.Edge.{Edge}
use Rattle.tester_types.specs.declared.level.Drive.{Drive}
use Rattle.bench_net.specs.Gates.{level_at, is_zero, is_one}
use Rattle.die_sim.specs.Die.{own_level, wanted, bind_at}
use Rattle.die_sim.specs.Moment.{captured}
use Rattle.die_sim.specs.Pending.{PendingGates, is_pending}
use Rattle.die_sim.specs.Spread.{Reads}

-- whether the level is unknown
abbrev pub is_unknown : Level → Bool
is_unknown Zero = false
is_unknown One = false
is_unknown X = true
is_unknown Z = false

-- whether the level is off
abbrev pub is_off : Level → Bool
is_off Zero = false
is_off One = false
is_off X = false
is_off Z = true

-- whether two levels are one
abbrev pub same_level : Level → Level → Bool
same_level Zero b = is_zero b
same_level One b = is_one b
same_level X b = is_unknown b
same_level Z b = is_off b

-- a net has got a level; where it is another than before, the gates that read it are pending
pub record Puts (drivers : List Driver) (n : ℕ) (x : Level) (old new : List Level)
    (pending pending' : PendingGates) : Type 0 where
  pub count : length new ≡ length old
  pub here : level_at new n ≡ x
  pub others : (m : ℕ) → m ≢ n → level_at new m ≡ level_at old m
  pub keeps : (g : ℕ) → is_pending pending g ≡ true → is_pending pending' g ≡ true
  pub read : same_level (level_at old n) x ≡ false → (g : ℕ) → Reads drivers g n → is_pending pending' g ≡ true
  pub only : (g : ℕ) → is_pending pending' g ≡ true → is_pending pending g ≡ false
      → (same_level (level_at old n) x ≡ false) × Reads drivers g n

-- only gates are pending, and each gate that isn't fits
pub record Waits (drivers : List Driver) (fixed : List (Option Level)) (held levels : List Level)
    (pending : PendingGates) : Type 0 where
  pub levels_count : length levels ≡ length drivers
  pub gates_only : (g : ℕ) → is_pending pending g ≡ true → gate_at drivers g ≡ true
  pub fits : (g : ℕ) → g < length drivers → gate_at drivers g ≡ true → is_pending pending g ≡ false
      → level_at levels g ≡ wanted drivers fixed held levels g

-- a gate is pending since before, or since it reads an input or a flip-flop whose level changed
pub data HasCause (drivers : List Driver) (start levels : List Level) (pending : PendingGates) (g : ℕ) : Type 0 where
  before : is_pending pending g ≡ true → HasCause drivers start levels pending g
  by : (n : ℕ) → Reads drivers g n → gate_at drivers n ≡ false → level_at start n ≢ level_at levels n
      → HasCause drivers start levels pending g

-- inputs and flip-flops have got their levels, some of them; the gates that read one whose level changed are pending
pub record Refreshes (drivers : List Driver) (fixed : List (Option Level)) (held start levels : List Level)
    (pending pending' : PendingGates) : Type 0 where
  pub waits : Waits drivers fixed held levels pending'
  pub sources : (n : ℕ) → (level_at levels n ≡ level_at start n) ⊎ (level_at levels n ≡ own_level fixed held n)
  pub cause : (g : ℕ) → is_pending pending' g ≡ true → HasCause drivers start levels pending g

-- these inputs and flip-flops have their levels
pub record HaveLevels (fixed : List (Option Level)) (held levels : List Level) (nets : List ℕ) : Type 0 where
  pub each : (k : ℕ) → k < length nets
      → level_at levels (slice_index nets k) ≡ own_level fixed held (slice_index nets k)

-- the bound input has its level
abbrev pub HasLevel : List (Option Level) → List Level → List Level → Bind → Type 0
HasLevel fixed held levels bind.Free = Unit {0}
HasLevel fixed held levels (bind.Input n) = level_at levels n ≡ own_level fixed held n
HasLevel fixed held levels (bind.Output n) = Unit {0}

-- the inputs that these drives are of have their levels
pub record HaveDriven (fixed : List (Option Level)) (held levels : List Level) (binds : List Bind)
    (drives : List (ℕ × Drive)) : Type 0 where
  pub each : (k : ℕ) (d : ℕ × Drive) → k < length drives
      → HasLevel fixed held levels (bind_at binds (slice_index_or drives k d).0)

-- whether a flip-flop drives
abbrev pub is_flip_flop : Driver → Bool
is_flip_flop Input = false
is_flip_flop (Dff d) = true
is_flip_flop (Gate kind pins) = false

-- where a number stands that is in a list
pub record StandsAt (n : ℕ) (xs : List ℕ) : Type 0 where
  pub place : ℕ
  pub within : place < length xs
  pub is : slice_index xs place ≡ n

-- these nets are flip-flops, and each flip-flop below a number is among them
pub record AreFlipFlops (drivers : List Driver) (nets : List ℕ) (below : ℕ) : Type 0 where
  pub each : (k : ℕ) → k < length nets → is_flip_flop (driver_at drivers (slice_index nets k)) ≡ true
  pub all : (n : ℕ) → n < below → is_flip_flop (driver_at drivers n) ≡ true → StandsAt n nets

-- these nets are flip-flops, and what is kept at any other net is what it captures
pub record MayCapture (drivers : List Driver) (e : Edge) (before old : List Level) (nets : List ℕ) : Type 0 where
  pub each : (k : ℕ) → k < length nets → is_flip_flop (driver_at drivers (slice_index nets k)) ≡ true
  pub all : (n : ℕ) → n < length drivers → StandsAt n nets
      ⊎ (captured (driver_at drivers n) e (level_at old n) before ≡ level_at old n)

-- a set of nets holds the pending gates, and with a gate each gate that reads it
pub record Carries (drivers : List Driver) (pending : PendingGates) (set : ℕ → Bool) : Type 0 where
  pub start : (g : ℕ) → is_pending pending g ≡ true → set g ≡ true
  pub onward : (g n : ℕ) → Reads drivers g n → gate_at drivers n ≡ true → set n ≡ true → set g ≡ true

-- a pending gate was evaluated
pub record Visits (drivers : List Driver) (fixed : List (Option Level)) (held : List Level) (g : ℕ)
    (levels levels' : List Level) (pending pending' : PendingGates) : Type 0 where
  pub was : is_pending pending g ≡ true
  pub cleared : PendingGates
  pub clear : is_pending cleared g ≡ false
  pub rest : (m : ℕ) → m ≢ g → is_pending cleared m ≡ is_pending pending m
  pub puts : Puts drivers g (wanted drivers fixed held levels g) levels levels' cleared pending'

-- the gates in front of a place of the order have had their turn
pub record WalkedTo (drivers : List Driver) (fixed : List (Option Level)) (held : List Level) (order : List ℕ)
    (start levels : List Level) (pending pending' : PendingGates) (k count : ℕ) : Type 0 where
  pub waits : Waits drivers fixed held levels pending'
  pub kept : (n : ℕ) → gate_at drivers n ≡ false → level_at levels n ≡ level_at start n
  pub done : (j : ℕ) → j < k → j < length order → is_pending pending' (slice_index order j) ≡ false
  pub counted : count ≤ k
  pub bound : (set : ℕ → Bool) → Carries drivers pending set → count ≤ count_by set (take k order)
  pub carried : (set : ℕ → Bool) → Carries drivers pending set → (g : ℕ) → is_pending pending' g ≡ true → set g ≡ true

-- each fault is of a net
pub record AreFaultsWithin (nets : ℕ) (faults : List StuckAt) : Type 0 where
  pub each : (k : ℕ) (d : StuckAt) → k < length faults → (slice_index_or faults k d).net < nets
