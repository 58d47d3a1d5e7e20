-- The gates by their places in an order, as a walk looks at them; no public clause cites it.
use Rattle.std.specs.Prelude.{◌≡◌, ℕ, ◌-◌, ◌<◌, ◌≤◌, ◌==◌, ◌++◌, if◌then◌else◌, Option, Some, None, List, length, take, drop, All, slice_index, slice_index_or}
use Rattle.tester_types.specs.declared.level.Level.{Level}
use Rattle.tester_types.specs.declared.level.Level.TheVariants as level
use Rattle.bench_net.specs.declared.gate.Driver.{Driver}
use Rattle.bench_net.specs.declared.gate.Driver.TheVariants.{Input, Dff, Gate}
use Rattle.bench_net.specs.Wiring.{driver_at, pins_at}
use Rattle.bench_net.specs.Circuit.{Circuit}
use Rattle.die_sim.specs.declared.table.Row.{Row}
use Rattle.die_sim.specs.declared.table.Row.TheVariants.{And, Low, High}
use Rattle.die_sim.specs.declared.cells.Cell.{Cell}
use Rattle.die_sim.specs.declared.cells.Cell.TheVariants.{Pair, Many}
use Rattle.bench_net.specs.Gates.{level_at, zeros, ones}
use Rattle.die_sim.specs.Table.{gives, pair_of, row_of, single_row}

-- the row of a gate that isn't stuck
abbrev pub plain_row : Driver → Row
plain_row Input = Low
plain_row (Dff d) = Low
plain_row (Gate kind pins) = if length pins == 1 then single_row (row_of kind) else row_of kind

-- the row of a level that is fixed
abbrev pub stuck_row : Level → Row
stuck_row level.Zero = Low
stuck_row level.One = High
stuck_row level.X = High
stuck_row level.Z = High

-- the row of a gate whose net is fixed at this level, if it is
abbrev pub row_for : Option Level → Driver → Row
row_for None d = plain_row d
row_for (Some l) d = stuck_row l

-- a gate with another row
abbrev pub with_row : Cell → Row → Cell
with_row (Pair row first last) other = Pair other first last
with_row (Many row from to) other = Many other from to

-- the row of a gate
abbrev pub row_in : Cell → Row
row_in (Pair row first last) = row
row_in (Many row from to) = row

-- the gate past the last one
abbrev pub no_cell : Cell
no_cell = Pair And 0 0

-- these are one net or two, from the first to the last
pub record IsPair (nets : List ℕ) (first last : ℕ) : Type 0 where
  pub some : 0 < length nets
  pub few : length nets ≤ 2
  pub first_is : slice_index nets 0 ≡ first
  pub last_is : slice_index nets (length nets - 1) ≡ last

-- these nets stand from one place to another among the pins
pub record IsCut (pins nets : List ℕ) (from to : ℕ) : Type 0 where
  pub rises : from ≤ to
  pub within : to ≤ length pins
  pub is : take (to - from) (drop from pins) ≡ nets

-- the gate has these nets as its pins
abbrev pub HoldsPins : List ℕ → List ℕ → Cell → Type 0
HoldsPins pins nets (Pair row first last) = IsPair nets first last
HoldsPins pins nets (Many row from to) = IsCut pins nets from to

-- the gate reads nets of so many
abbrev pub CanRead : ℕ → List ℕ → Cell → Type 0
CanRead count pins (Pair row first last) = (first < count) × (last < count)
CanRead count pins (Many row from to) =
    (from ≤ to) × (to ≤ length pins) × All (λ p. p < count) (take (to - from) (drop from pins))

-- what a row gives for the levels of these nets
abbrev pub gives_at : Row → List Level → List ℕ → Level
gives_at row v nets = gives row (zeros v nets) (ones v nets) (length nets)

-- what the gate gives
abbrev pub cell_gives : List ℕ → Cell → List Level → Level
cell_gives pins (Pair row first last) v = pair_of row (level_at v first) (level_at v last)
cell_gives pins (Many row from to) v = gives_at row v (take (to - from) (drop from pins))

-- the first list stands in front of the second, which has at most so many more
pub record IsFront (front whole : List ℕ) (more : ℕ) : Type 0 where
  pub rest : List ℕ
  pub is : whole ≡ front ++ rest
  pub few : length rest ≤ more

-- the first gates of the order stand at their places, with their pins
pub record AreWiredTo (c : Circuit) (cells : List Cell) (pins : List ℕ) (k : ℕ) : Type 0 where
  pub count : length cells ≡ k
  pub each : (j : ℕ) → j < k
      → HoldsPins pins (pins_at c.net.drivers (slice_index c.order j)) (slice_index_or cells j no_cell)

-- all gates stand at their places, with their pins
abbrev pub AreWired : Circuit → List Cell → List ℕ → Type 0
AreWired c cells pins = AreWiredTo c cells pins (length c.order)

-- the first gates have the rows of their functions, or of their levels where they are fixed
pub record HaveRows (c : Circuit) (fixed : List (Option Level)) (cells : List Cell) (k : ℕ) : Type 0 where
  pub each : (j : ℕ) → j < k → row_in (slice_index_or cells j no_cell)
      ≡ row_for (slice_index_or fixed (slice_index c.order j) None) (driver_at c.net.drivers (slice_index c.order j))

-- the gates read what they read before
pub record SamePins (old new : List Cell) : Type 0 where
  pub count : length new ≡ length old
  pub each : (k : ℕ) (pins nets : List ℕ) → HoldsPins pins nets (slice_index_or old k no_cell)
      → HoldsPins pins nets (slice_index_or new k no_cell)

-- a level that is fixed is 0 or 1
abbrev pub IsStuck : Option Level → Type 0
IsStuck None = Unit {0}
IsStuck (Some level.Zero) = Unit {0}
IsStuck (Some level.One) = Unit {0}
IsStuck (Some level.X) = ⊥
IsStuck (Some level.Z) = ⊥

-- all levels that are fixed are 0 or 1
pub record AreStuck (fixed : List (Option Level)) : Type 0 where
  pub each : (n : ℕ) → IsStuck (slice_index_or fixed n None)

-- the gates have their pins and their rows
pub record AreCells (c : Circuit) (fixed : List (Option Level)) (cells : List Cell) (pins : List ℕ) : Type 0 where
  pub wired : AreWired c cells pins
  pub rows : HaveRows c fixed cells (length c.order)
  pub stuck : AreStuck fixed
