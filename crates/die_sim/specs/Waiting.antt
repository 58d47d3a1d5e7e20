-- Flip-flops that wait for an edge: those that may keep another level than their D nets have; no public clause cites
-- it. A link is one more than a place among the flip-flops, and 0 where there is none.
use Rattle.std.specs.Prelude.{◌≡◌, ◌≢◌, ℕ, ◌+◌, ◌<◌, ◌≤◌, Bool, true, false, List, length, slice_index, slice_index_or}
use Rattle.tester_types.specs.declared.level.Level.{Level}
use Rattle.bench_net.specs.declared.gate.Driver.{Driver}
use Rattle.bench_net.specs.declared.gate.Driver.TheVariants.{Dff}
use Rattle.bench_net.specs.Wiring.{driver_at}
use Rattle.die_sim.specs.declared.moment.Edge.{Edge}
use Rattle.die_sim.specs.declared.moment.Edge.TheVariants.{Takes, Keeps}
use Rattle.bench_net.specs.Gates.{level_at, read}
use Rattle.die_sim.specs.Walk.{StandsAt, AreFlipFlops}

-- the nets of flip-flops, for each net the link to the first that has it as D net, for each flip-flop the link to the
-- next one of that D net, and whether it waits
pub record FlipFlops : Type 0 where
  pub nets : List ℕ
  pub firsts : List ℕ
  pub nexts : List ℕ
  pub bits : List Bool

-- the first link to flip-flops of this D net
abbrev pub first_at : List ℕ → ℕ → ℕ
first_at firsts n = slice_index_or firsts n 0

-- the link behind a flip-flop
abbrev pub next_at : List ℕ → ℕ → ℕ
next_at nexts k = slice_index_or nexts k 0

-- whether the flip-flop at a place waits
abbrev pub waits_at : List Bool → ℕ → Bool
waits_at bits k = slice_index_or bits k false

-- links lead to flip-flops, and backwards
pub record AreLinked (m : FlipFlops) : Type 0 where
  pub count : length m.nexts ≡ length m.nets
  pub room : length m.nets ≤ length m.bits
  pub few : length m.bits ≤ 65600
  pub firsts : (n : ℕ) → first_at m.firsts n ≤ length m.nets
  pub back : (k : ℕ) → next_at m.nexts k ≤ k

-- the flip-flop at place k is reached from a link
pub data IsLinked (nexts : List ℕ) (k : ℕ) : ℕ → Type 0 where
  here : IsLinked nexts k (k + 1)
  onward : (j : ℕ) → j < length nexts → IsLinked nexts k (next_at nexts j) → IsLinked nexts k (j + 1)

-- the flip-flops of the first places are reached from their D nets
pub record AreLinkedTo (drivers : List Driver) (nets firsts nexts : List ℕ) (k : ℕ) : Type 0 where
  pub count : length nexts ≡ k
  pub size : length firsts ≡ length drivers
  pub heads : (n : ℕ) → first_at firsts n ≤ k
  pub back : (j : ℕ) → next_at nexts j ≤ j
  pub each : (j d : ℕ) → j < k → driver_at drivers (slice_index nets j) ≡ Dff d
      → IsLinked nexts j (first_at firsts d)

-- these are all flip-flops, each reached from its D net
pub record AreWakers (drivers : List Driver) (m : FlipFlops) : Type 0 where
  pub flip_flops : AreFlipFlops drivers m.nets (length drivers)
  pub few : length m.nets ≤ length drivers
  pub size : length m.firsts ≡ length drivers
  pub each : (k d : ℕ) → k < length m.nets → driver_at drivers (slice_index m.nets k) ≡ Dff d
      → IsLinked m.nexts k (first_at m.firsts d)

-- each flip-flop that doesn't wait keeps what its D net has
pub record AreAtRest (drivers : List Driver) (held levels : List Level) (m : FlipFlops) : Type 0 where
  pub wakers : AreWakers drivers m
  pub each : (k d : ℕ) → k < length m.nets → driver_at drivers (slice_index m.nets k) ≡ Dff d
      → waits_at m.bits k ≡ false → level_at held (slice_index m.nets k) ≡ read (level_at levels d)

-- the flip-flops and their links are as before
pub record SameLinks (old new : FlipFlops) : Type 0 where
  pub nets : new.nets ≡ old.nets
  pub firsts : new.firsts ≡ old.firsts
  pub nexts : new.nexts ≡ old.nexts

-- the flip-flops reached from this link wait, and the others as before
pub record Wakes (nexts : List ℕ) (first : ℕ) (old new : List Bool) : Type 0 where
  pub size : length new ≡ length old
  pub wakes : (k : ℕ) → IsLinked nexts k first → waits_at new k ≡ true
  pub keeps : (k : ℕ) → waits_at old k ≡ true → waits_at new k ≡ true

-- a number stands among the first of a list
pub record StandsBelow (n count : ℕ) (xs : List ℕ) : Type 0 where
  pub place : ℕ
  pub within : place < count
  pub is : slice_index xs place ≡ n

-- of the flip-flops in front of a place those that wait are the first of a list
pub record AreListed (nets : List ℕ) (bits : List Bool) (k count : ℕ) (list : List ℕ) : Type 0 where
  pub few : count ≤ length list
  pub each : (j : ℕ) → j < count → StandsAt (slice_index list j) nets
  pub all : (j : ℕ) → j < k → j < length nets → waits_at bits j ≡ true → StandsBelow (slice_index nets j) count list

-- the flip-flops that capture at an edge are the first of a list, and after a doubtful edge they still wait
pub record AreTaken (e : Edge) (old new : FlipFlops) (count : ℕ) (list : List ℕ) : Type 0 where
  pub few : count ≤ length list
  pub each : (j : ℕ) → j < count → StandsAt (slice_index list j) old.nets
  pub all : e ≢ Keeps → (k : ℕ) → k < length old.nets → waits_at old.bits k ≡ true
      → StandsBelow (slice_index old.nets k) count list
  pub links : SameLinks old new
  pub keeps : e ≢ Takes → new.bits ≡ old.bits
