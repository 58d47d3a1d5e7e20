-- What a dump is of: the drive calls of the first try of a site's first die, and the signals that are driven.
use Rattle.std.specs.Prelude.{◌≡◌, ℕ, false, Option, List, [], ◌∷◌, ◌++◌, length, slice_get, sum_by, if◌then◌else◌}
use Rattle.std.specs.List.{flat_map, range_with_len}
use Rattle.std.specs.Option.{option_map_or}
use Rattle.tester_types.specs.declared.level.Drive.{Drive}
use Rattle.packed_code.specs.declared.parts.CodeSignal.{CodeSignal}
use Rattle.packed_code.specs.Program.{Program}
use Rattle.die_sim.specs.Die.{Device, device_of}
use Rattle.die_sim.specs.Socket.{Calls}
use Rattle.lot_plan.specs.Bound.{Bound, image_of}
use Rattle.site_meaning.specs.Playing.{is_driven}
use Rattle.site_meaning.specs.Part.{part_of}
use Rattle.site_meaning.specs.Trials.{trial, uncut}
use Rattle.site_meaning.specs.Records.{is_fail}
use Rattle.cycle_run.specs.Tape.{with_calls}
use Rattle.site_run.specs.Taped.{calls_of_try}
use Rattle.vcd_text.specs.Dump.{Var, name_of}
use Rattle.vcd_dump.specs.declared.recorder.TheConstants.{MOST_DRIVES}

-- The drive calls of the first try of a site's first die, as the plan has it and with nothing else that cuts it short:
-- those of the cycles that it finishes.
unfoldable pub tape_of : Bound → ℕ → Calls
tape_of plan site = calls_of_try (part_of plan site) 0 1 (trial (part_of plan site) 0 1 uncut).cycles

-- how many drives a tape has in all
abbrev pub drives_in : Calls → ℕ
drives_in calls = sum_by (λ (call : ℕ × List (ℕ × Drive)). length call.1) calls

-- the most drives of a tape that is dumped
abbrev pub most_drives : ℕ
most_drives = MOST_DRIVES

-- the name of a signal of a program
abbrev pub signal_text : Program → ℕ → List ℕ
signal_text code signal = option_map_or (λ (s : CodeSignal). s.name) (slice_get code.signals signal) []

-- a signal's var, if the die is driven by it
abbrev pub var_of : Device → Program → ℕ → List Var
var_of device code signal =
    if is_driven device signal then (signal, name_of signal (signal_text code signal)) ∷ [] else []

-- the vars of a dump of a site's first die: its signals that are bound to an input and its clock, in declared order
unfoldable pub vars_of : Bound → ℕ → List Var
vars_of plan site =
    flat_map (var_of (device_of (image_of plan site 0 1)) plan.program)
    (range_with_len 0 (length plan.program.signals))

-- A tape grew by the calls of a first try and by later ones, of which there are none where the first try didn't fail.
pub record GrowsBy (plan : Bound) (site : ℕ) (old new : Option Calls) : Type 0 where
  pub later : Calls
  pub grown : new ≡ with_calls old (tape_of plan site ++ later)
  pub alone : is_fail (trial (part_of plan site) 0 1 uncut).verdict ≡ false → later ≡ []
