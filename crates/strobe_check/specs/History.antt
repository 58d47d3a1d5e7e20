-- What a checker has seen, and what it holds of that.
use Rattle.std.specs.Prelude.{◌≡◌, ℕ, ◌-◌, ◌^◌, min, length, Bool, ◌&&◌, if◌then◌else◌, List, [], ◌∷◌, ◌++◌, map, take, Option, Some, None}
use Rattle.std.specs.List.{list_all, enumerate_from}
use Rattle.tester_types.specs.declared.wave.Look.{Look}
use Rattle.tester_types.specs.declared.record.Fail.{Fail}
use Rattle.tester_types.specs.declared.cycle.Moment.{Moment}
use Rattle.strobe_check.specs.Look.{is_window}
use Rattle.strobe_check.specs.Entry.{Entry}
use Rattle.strobe_check.specs.Extent.{Extent, extents}
use Rattle.strobe_check.specs.Fails.{meets, fails}
use Rattle.strobe_check.specs.Sensed.{is_sensed}
use Rattle.strobe_check.specs.Count.{Count, HasCounted}
use Rattle.strobe_check.specs.declared.checker.TheConstants.{MOST_NUMBERED}

-- which signals are bound, how many fails are to be kept, the fails of the cycles that are closed, and the entries of
-- the cycle that is open
pub record History : Type 0 where
  pub bound : List Bool
  pub keep : ℕ
  pub closed : List Fail
  pub entries : List Entry

-- how many signals can have a number of 16 bits
abbrev pub most_numbered : ℕ
most_numbered = MOST_NUMBERED

-- the signals that have numbers of 16 bits: all of them, where there are no more than 65,536
unfoldable pub numbered : List Bool → List Bool
numbered bound = take most_numbered bound

-- before the first cycle
abbrev pub fresh : List Bool → ℕ → History
fresh bound keep = record { bound = bound; keep = keep; closed = []; entries = [] }

-- all fails so far: those of the cycles, one after another
abbrev pub all_fails : History → List Fail
all_fails history = history.closed ++ fails history.bound history.entries

-- the open cycle has one more entry
abbrev pub with_entry : History → Entry → History
with_entry history entry = record history { entries = history.entries ++ entry ∷ [] }

-- the open cycle is closed, and the next one begins
abbrev pub with_cycle_closed : History → History
with_cycle_closed history = record history { closed = all_fails history; entries = [] }

-- the window of a signal that has gone on up to the last entry without a fail
abbrev pub open_in : ℕ → Extent → Option Look
open_in signal extent =
    if is_window extent.look && list_all (meets signal extent.look) extent.inside
    then Some extent.look else None

-- the window that is open at the end of the last of these extents
abbrev pub last_open : ℕ → List Extent → Option Look
last_open signal [] = None
last_open signal (extent ∷ []) = open_in signal extent
last_open signal (extent ∷ next ∷ later) = last_open signal (next ∷ later)

-- the window of a signal that is open after these entries
unfoldable pub open_window : ℕ → List Entry → Option Look
open_window signal entries = last_open signal (extents signal (enumerate_from 0 entries))

-- the open window of each bound signal
abbrev pub open_windows : List Bool → List Entry → List (Option Look)
open_windows bound entries =
    map (λ signal. if signal.1 then open_window signal.0 entries else None) (enumerate_from 0 bound)

-- what a checker holds
pub record Held : Type 0 where
  pub bound : List Bool
  pub windows : List (Option Look)
  pub count : Count

-- what a checker with this history holds
pub record HasSeen (history : History) (held : Held) : Type 0 where
  pub bound : held.bound ≡ history.bound
  pub windows : held.windows ≡ open_windows history.bound history.entries
  pub count : HasCounted history.keep (all_fails history) held.count

-- the checker has seen one entry more, whatever it has seen before
abbrev pub SeesEntry : Entry → Held → Held → Type 0
SeesEntry entry old new = (history : History) → HasSeen history old → HasSeen (with_entry history entry) new

-- it has seen the end of its cycle
abbrev pub SeesEnd : Held → Held → Type 0
SeesEnd old new = (history : History) → HasSeen history old → HasSeen (with_cycle_closed history) new

-- the answer is this of the history, whatever the checker has seen
abbrev pub Answers : {A : Type 0} → (History → A) → Held → A → Type 0
Answers value held answer = (history : History) → HasSeen history held → answer ≡ value history

-- whether a signal is sensed at the next moment
abbrev pub sensed : Moment → ℕ → History → Bool
sensed moment signal history = is_sensed history.bound history.entries moment signal

-- how many fails there are, up to the largest 64-bit number
abbrev pub total_of : History → ℕ
total_of history = min (length (all_fails history)) (2 ^ 64 - 1)

-- the fails that are kept
abbrev pub kept_of : History → List Fail
kept_of history = take history.keep (all_fails history)
