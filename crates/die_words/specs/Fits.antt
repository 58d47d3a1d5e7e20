-- Words that fit: in each lane a net has what it must have by the nets that it reads. No public clause cites it.
use Rattle.std.specs.Prelude.{◌≡◌, ◌≢◌, ◌==◌, ◌&&◌, ◌⊎◌, ℕ, ◌<◌, Bool, true, false, Option, List, length, slice_index, slice_index_or, unwrap_or}
use Rattle.tester_types.specs.declared.level.Level.{Level}
use Rattle.bench_net.specs.declared.gate.Driver.{Driver}
use Rattle.bench_net.specs.Wiring.{driver_at, gate_at, pins_of}
use Rattle.bench_net.specs.Circuit.{Circuit}
use Rattle.bench_net.specs.Gates.{level_at}
use Rattle.die_sim.specs.Die.{driven}
use Rattle.die_sim.specs.Pending.{PendingGates, is_pending, AreSeats}
use Rattle.die_sim.specs.Spread.{Reads}
use Rattle.die_sim.specs.Walk.{StandsAt}
use Rattle.die_words.specs.declared.word.Word.{Word}
use Rattle.die_words.specs.Lane.{nothing, Shows, ShowsFault}

-- whether two words are one
abbrev pub same_word : Word → Word → Bool
same_word left right = (left.zeros == right.zeros) && (left.ones == right.ones)

-- the word of a net
abbrev pub word_at : List Word → ℕ → Word
word_at words n = slice_index_or words n nothing

-- in a lane these nets have these levels
pub record ShowsEach (words : List Word) (lane : ℕ) (levels : List Level) (nets : List ℕ) : Type 0 where
  pub each : (i : ℕ) → i < length nets
      → Shows (word_at words (slice_index nets i)) lane (level_at levels (slice_index nets i))

-- in each lane an input or a flip-flop has the level at which its fault fixes it, else its own
pub record FitsOwn (force own word : Word) : Type 0 where
  pub each : (k : ℕ) (f : Option Level) (x : Level) → k < 64 → ShowsFault force k f → Shows own k x
      → Shows word k (unwrap_or f x)

-- in each lane a gate's net has the level at which its fault fixes it, else what the gate gives
pub record FitsGate (driver : Driver) (force : Word) (words : List Word) (word : Word) : Type 0 where
  pub each : (k : ℕ) (f : Option Level) (own : Level) (v : List Level) → k < 64 → ShowsFault force k f
      → ShowsEach words k v (pins_of driver) → Shows word k (unwrap_or f (driven driver own v))

-- the gate's net of this number does
abbrev pub FitsAt : Circuit → List Word → List Word → ℕ → Type 0
FitsAt c forces words g = FitsGate (driver_at c.net.drivers g) (word_at forces g) words (word_at words g)

-- inputs and flip-flops fit
pub record SourcesFit (c : Circuit) (forces held words : List Word) : Type 0 where
  pub each : (n : ℕ) → n < length c.net.drivers → gate_at c.net.drivers n ≡ false
      → FitsOwn (word_at forces n) (word_at held n) (word_at words n)

-- all gates fit
pub record GatesFit (c : Circuit) (forces words : List Word) : Type 0 where
  pub each : (g : ℕ) → gate_at c.net.drivers g ≡ true → FitsAt c forces words g

-- gates have their places, and each that isn't pending fits
pub record GatesWait (c : Circuit) (forces words : List Word) (pending : PendingGates) : Type 0 where
  pub seats : AreSeats c.order pending
  pub each : (g : ℕ) → gate_at c.net.drivers g ≡ true → is_pending pending g ≡ false → FitsAt c forces words g

-- a net has got a word; where it is another than before, the gates that read it are pending
pub record PutsWord (drivers : List Driver) (n : ℕ) (word : Word) (old new : List Word)
    (pending pending' : PendingGates) : Type 0 where
  pub count : length new ≡ length old
  pub here : word_at new n ≡ word
  pub others : (m : ℕ) → m ≢ n → word_at new m ≡ word_at old m
  pub keeps : (g : ℕ) → is_pending pending g ≡ true → is_pending pending' g ≡ true
  pub read : same_word (word_at old n) word ≡ false → (g : ℕ) → Reads drivers g n → is_pending pending' g ≡ true

-- a gate was evaluated
pub record VisitsWord (c : Circuit) (forces : List Word) (g : ℕ) (old new : List Word)
    (pending pending' : PendingGates) : Type 0 where
  pub word : Word
  pub fits : FitsGate (driver_at c.net.drivers g) (word_at forces g) old word
  pub cleared : PendingGates
  pub rest : (m : ℕ) → m ≢ g → is_pending cleared m ≡ is_pending pending m
  pub puts : PutsWord c.net.drivers g word old new cleared pending'

-- the gates in front of a place of the order fit, and inputs and flip-flops have the words that they had
pub record AreDoneTo (c : Circuit) (forces start words : List Word) (k : ℕ) : Type 0 where
  pub count : length words ≡ length start
  pub gates : (j : ℕ) → j < k → j < length c.order → FitsAt c forces words (slice_index c.order j)
  pub kept : (n : ℕ) → gate_at c.net.drivers n ≡ false → word_at words n ≡ word_at start n

-- these nets fit now, and so does each that fitted
abbrev pub RefreshesAll : List Word → List Word → List Word → List Word → List ℕ → Type 0
RefreshesAll forces held old new nets = (n : ℕ)
    → StandsAt n nets ⊎ FitsOwn (word_at forces n) (word_at held n) (word_at old n)
    → FitsOwn (word_at forces n) (word_at held n) (word_at new n)
