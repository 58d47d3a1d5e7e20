-- Asking, signal after signal, for those that are to be sensed at the next moment of a cycle.
use Rattle.std.specs.Prelude.{◌≡◌, ℕ, ◌+◌, ◌<◌, ◌≤◌, Bool, true, false, List, length, Option, Some, None}
use Rattle.tester_types.specs.declared.wave.Look.{Look}
use Rattle.tester_types.specs.declared.cycle.Moment.{Moment}
use Rattle.strobe_check.specs.declared.ahead.Ahead.{Ahead}
use Rattle.strobe_check.specs.Entry.{looks_at}
use Rattle.strobe_check.specs.History.{Held, Answers, sensed}
use Rattle.strobe_check.specs.Step.{looks_of, Ascends}

-- of a moment's looks those at the signals from one on are left; where they stand in the order of their signals, they
-- ascend from there
pub record HasLeft (moment : Moment) (sorted : Bool) (signal : ℕ) (left : List (ℕ × Look)) : Type 0 where
  pub all : (k : ℕ) → signal ≤ k → looks_of k left ≡ looks_at k moment
  pub ascends : sorted ≡ true → Ascends signal left

-- the asking stands at a signal of this moment
abbrev pub Stands : Moment → Ahead → Type 0
Stands moment ahead = HasLeft moment ahead.sorted ahead.signal ahead.looks.now

-- no signal from one on in front of another is to be sensed
abbrev pub Skips : Moment → Held → ℕ → ℕ → Type 0
Skips moment held from to = (k : ℕ) → from ≤ k → k < to → Answers (sensed moment k) held false

-- the signal is the next one that is to be sensed, and the asking stands behind it
pub record IsNext (moment : Moment) (held : Held) (old new : Ahead) (signal : ℕ) : Type 0 where
  pub onward : old.signal ≤ signal
  pub within : signal < length held.bound
  pub skips : Skips moment held old.signal signal
  pub wanted : Answers (sensed moment signal) held true
  pub at : new.signal ≡ signal + 1
  pub stands : Stands moment new

-- the answer is the next signal that is to be sensed; none where no further one is
abbrev pub Asks : Moment → Held → Ahead → Ahead → Option ℕ → Type 0
Asks moment held old new None = (k : ℕ) → old.signal ≤ k → Answers (sensed moment k) held false
Asks moment held old new (Some signal) = IsNext moment held old new signal
