-- 64 dies between two moments, and what goes along with them. No public clause cites it.
use Rattle.std.specs.Prelude.{◌≡◌, ℕ, ◌<◌, Bool, true, false, List, [], ◌∷◌, length, map, min, Option, None, slice_index_or}
use Rattle.std.specs.Int.{bit_at}
use Rattle.std.specs.List.{fold}
use Rattle.tester_types.specs.declared.wave.Look.{Look}
use Rattle.tester_types.specs.declared.cycle.Moment.{Moment}
use Rattle.tester_types.specs.declared.record.Fail.{Fail}
use Rattle.edge_gen.specs.Moments.{later}
use Rattle.die_sim.specs.Die.{Image, Device, device_of}
use Rattle.strobe_check.specs.Entry.{looks_at}
use Rattle.strobe_check.specs.Step.{window_after}
use Rattle.strobe_check.specs.Fails.{fails}
use Rattle.site_meaning.specs.Playing.{Along, Whose, bound_of, entries_in, after_moments}
use Rattle.die_words.specs.Lane.{bit}
use Rattle.die_words.specs.Lanes.{IsLaneOf}
use Rattle.word_run.specs.declared.board.Board.{Board}

-- an image without its faults
abbrev pub bare : Image → Image
bare image = record image { faults = [] }

-- the dies have the netlist and the binding of this image, and there is room for each signal
pub record IsBoardOf (image : Image) (board : Board) : Type 0 where
  pub dies : board.dies.image ≡ bare image
  pub bound : board.bound.items ≡ bound_of (device_of image)
  pub last : length board.last.items ≡ length image.binds
  pub windows : length board.windows.items ≡ length image.binds

-- in a lane stands this die, with what goes along with it
pub record StandsAt (board : Board) (lane : ℕ) (device : Device) (along : Along) : Type 0 where
  pub die : IsLaneOf board.dies lane device along.die
  pub priors : along.priors ≡ board.last.items

-- the window of a signal that is open behind moments of a cycle, if none failed
unfoldable pub window_of : ℕ → List Moment → Option Look
window_of signal moments = fold (λ window moment. window_after window (looks_at signal moment)) None moments

-- the windows of so many signals are those behind these moments
pub record AreWindows (signals : ℕ) (moments : List Moment) (windows : List (Option Look)) : Type 0 where
  pub count : length windows ≡ signals
  pub each : (signal : ℕ) → signal < signals → slice_index_or windows signal None ≡ window_of signal moments

-- whether there are no fails
abbrev pub is_clear : List Fail → Bool
is_clear [] = true
is_clear (fail ∷ fails) = false

-- whether these moments of a cycle, which starts at this time, have no fail in a die
abbrev pub are_clear : Device → Whose → Along → List Moment → Bool
are_clear device whose along moments = is_clear (fails (bound_of device) (entries_in device whose along moments))

-- the dies of all lanes go on through these moments of a cycle, whenever it starts, and of these lanes those are left
-- in whose dies they have no fail
pub record PlaysMoments (moments : List Moment) (alive left : ℕ) (old new : Board) : Type 0 where
  pub lanes : (lane : ℕ) (device : Device) (along : Along) (start : ℕ) → lane < 64 → StandsAt old lane device along
      → StandsAt new lane device (after_moments device along (map (later start) moments))
  pub clear : (lane : ℕ) (device : Device) (whose : Whose) (along : Along) (start : ℕ) → lane < 64
      → StandsAt old lane device along
      → bit_at left lane ≡ min (bit_at alive lane) (bit (are_clear device whose along (map (later start) moments)))
