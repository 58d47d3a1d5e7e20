-- One cycle as it is played on a die: the instants at which it may call the socket, and the fails of its looks.
use Rattle.std.specs.Prelude.{◌≡◌, ℕ, ◌+◌, ℤ, All, Bool, true, ◌||◌, nat_lt, List, [], ◌∷◌, ◌++◌, map, filter, length, fold, replicate, Option, Some, None, slice_get, slice_index_or, slice_set}
use Rattle.std.specs.List.{list_any, range_with_len}
use Rattle.std.specs.Option.{option_map_or}
use Rattle.tester_types.specs.declared.wave.Push.{Push}
use Rattle.tester_types.specs.declared.wave.Push.TheVariants as push
use Rattle.tester_types.specs.declared.level.Drive.{Drive}
use Rattle.tester_types.specs.declared.level.Drive.TheVariants as drive
use Rattle.tester_types.specs.declared.level.Level.{Level}
use Rattle.tester_types.specs.declared.cycle.Cycle.{Cycle}
use Rattle.tester_types.specs.declared.cycle.Moment.{Moment}
use Rattle.tester_types.specs.declared.record.Fail.{Fail}
use Rattle.packed_code.specs.Program.{Program}
use Rattle.packed_code.specs.Conditions.{characters_of}
use Rattle.packed_code.specs.Cycles.{period_of}
use Rattle.edge_gen.specs.Signals.{keeps_inside}
use Rattle.edge_gen.specs.Moments.{moments_of}
use Rattle.die_sim.specs.Die.{Device, State, bind_at, is_clock, is_input, has_net, level_of}
use Rattle.die_sim.specs.Stepped.{first_state, stepped}
use Rattle.strobe_check.specs.Entry.{Entry}
use Rattle.strobe_check.specs.Sensed.{is_sensed}
use Rattle.strobe_check.specs.Fails.{fails}

-- ---- what a cycle is played on, and what goes along

-- what a try runs on: a program, the skew of each signal at the site, and the loaded die
pub record Stand : Type 0 where
  pub code : Program
  pub skews : List ℤ
  pub device : Device

-- each signal has a skew, and each event of the waveforms of each table, moved by it, stays inside the cycle
pub record FitStand (stand : Stand) : Type 0 where
  pub one_each : length stand.skews ≡ length stand.code.signals
  pub inside : All (λ table. keeps_inside table stand.skews ≡ true) stand.code.tables

-- what goes along from cycle to cycle: the die's state, the last Down or Up of each signal, when the next cycle starts,
-- and its number in the try
pub record Going : Type 0 where
  pub die : State
  pub priors : List Drive
  pub time : ℕ
  pub number : ℕ

-- a try that begins: the die as it is loaded, before any Down or Up
abbrev pub starting : Device → Going
starting device = record {
  die = first_state device;
  priors = replicate (length device.binds) drive.Unknown;
  time = 0;
  number = 0;
}

-- what goes along from moment to moment
pub record Along : Type 0 where
  pub die : State
  pub priors : List Drive

-- what goes along into a cycle
abbrev pub along_of : Going → Along
along_of going = record { die = going.die; priors = going.priors }

-- ---- what a moment drives the die to (IEEE 1450-1999, the event P)

-- Down and Up stay for a later P
abbrev pub steady : Push → Option Drive
steady push.Down = Some drive.Down
steady push.Up = Some drive.Up
steady push.Off = None
steady push.Unknown = None
steady push.Prior = None

-- the last Down or Up of each signal, where this one's may be another
abbrev pub put_steady : List Drive → ℕ → Option Drive → List Drive
put_steady priors signal None = priors
put_steady priors signal (Some next) = slice_set priors signal next

-- the last Down or Up of each signal behind a drive
abbrev pub after_push : List Drive → ℕ × Push → List Drive
after_push priors given = put_steady priors given.0 (steady given.1)

-- the same behind all drives of a moment
abbrev pub priors_after : List Drive → Moment → List Drive
priors_after priors moment = fold after_push priors moment.drives

-- a drive as the die gets it, where this stands for P
abbrev pub drive_of : Drive → Push → Drive
drive_of last push.Down = drive.Down
drive_of last push.Up = drive.Up
drive_of last push.Off = drive.Off
drive_of last push.Unknown = drive.Unknown
drive_of last push.Prior = last

-- a signal's drive as the die gets it
abbrev pub handed : List Drive → ℕ × Push → ℕ × Drive
handed priors given = (given.0, drive_of (slice_index_or priors given.0 drive.Unknown) given.1)

-- the signals that are driven: those bound to an input, and the clock
abbrev pub is_driven : Device → ℕ → Bool
is_driven device signal = is_clock device.clock signal || is_input (bind_at device.binds signal)

-- what a moment drives the die to
abbrev pub driven : Device → List Drive → Moment → List (ℕ × Drive)
driven device priors moment = map (handed priors) (filter (λ given. is_driven device given.0) moment.drives)

-- the die after a moment, with the last Down or Up of each signal
abbrev pub after_moment : Device → Along → Moment → Along
after_moment device along moment = record {
  die = stepped device along.die (driven device along.priors moment);
  priors = priors_after along.priors moment;
}

-- the same after moments one after another
unfoldable pub after_moments : Device → Along → List Moment → Along
after_moments device along moments = fold (after_moment device) along moments

-- ---- how a moment is judged

-- the signals that are looked at: those bound to a net, and the clock
abbrev pub is_bound : Device → ℕ → Bool
is_bound device signal = is_clock device.clock signal || has_net (bind_at device.binds signal)

-- for each signal whether it is looked at
abbrev pub bound_of : Device → List Bool
bound_of device = map (is_bound device) (range_with_len 0 (length device.binds))

-- the levels of all signals
abbrev pub levels_of : Device → State → List Level
levels_of device state = map (level_of device state) (range_with_len 0 (length device.binds))

-- whose a moment is: the numbers of its executive and of its cycle, and its cycle's mark
pub record Whose : Type 0 where
  pub exec : ℕ
  pub cycle : ℕ
  pub mark : ℕ

-- a moment as it is judged, with the levels after it
abbrev pub entry_of : Device → Whose → Moment → State → Entry
entry_of device whose moment after = record {
  exec = whose.exec;
  cycle = whose.cycle;
  mark = whose.mark;
  moment = moment;
  levels = levels_of device after;
}

-- moments as they are judged one after another, each with the levels after it
unfoldable pub entries_in : Device → Whose → Along → List Moment → List Entry
entries_in device whose along [] = []
entries_in device whose along (moment ∷ later) =
    entry_of device whose moment (after_moment device along moment).die
    ∷ entries_in device whose (after_moment device along moment) later

-- ---- a cycle

-- the moments of a cycle that starts at this time: those of its table and its row, with each signal moved by its skew
unfoldable pub moments_in : Stand → ℕ → Cycle → List Moment
moments_in stand time cycle =
    option_map_or (λ table. moments_of table (characters_of stand.code.rows cycle.row) stand.skews time)
    (slice_get stand.code.tables cycle.table) []

-- a moment as it was played: its instant, whether it makes a call of the socket, and the fails of the earlier moments
-- of its cycle
pub record PlayedMoment : Type 0 where
  pub at : ℕ
  pub calls : Bool
  pub earlier : List Fail

-- a cycle as it was played: its moments, and the fails of its looks
pub record PlayedCycle : Type 0 where
  pub moments : List PlayedMoment
  pub fails : List Fail

-- a moment makes a call where it drives the die, or where some signal that is looked at is sensed
abbrev pub makes_call : Device → Along → List Entry → Moment → Bool
makes_call device along before moment =
    nat_lt 0 (length (driven device along.priors moment))
    || list_any (is_sensed (bound_of device) before moment) (range_with_len 0 (length device.binds))

-- a moment behind these of its cycle
abbrev pub played_moment : Device → Along → List Entry → Moment → PlayedMoment
played_moment device along before moment = record {
  at = moment.at;
  calls = makes_call device along before moment;
  earlier = fails (bound_of device) before;
}

-- moments one after another, behind these of their cycle
unfoldable pub moments_played : Device → Whose → Along → List Entry → List Moment → List PlayedMoment
moments_played device whose along before [] = []
moments_played device whose along before (moment ∷ later) =
    played_moment device along before moment
    ∷ moments_played device whose (after_moment device along moment)
    (before ++ entry_of device whose moment (after_moment device along moment).die ∷ []) later

-- whose the moments of the next cycle are, which this executive runs
abbrev pub whose_next : ℕ → Going → Cycle → Whose
whose_next exec going cycle = record { exec = exec; cycle = going.number; mark = cycle.mark }

-- the next cycle, which this executive runs
abbrev pub played_cycle : Stand → ℕ → Going → Cycle → PlayedCycle
played_cycle stand exec going cycle = record {
  moments = moments_played stand.device (whose_next exec going cycle) (along_of going) []
      (moments_in stand going.time cycle);
  fails = fails (bound_of stand.device)
      (entries_in stand.device (whose_next exec going cycle) (along_of going) (moments_in stand going.time cycle));
}

-- what goes along behind the next cycle
abbrev pub after_cycle : Stand → Going → Cycle → Going
after_cycle stand going cycle = record {
  die = (after_moments stand.device (along_of going) (moments_in stand going.time cycle)).die;
  priors = (after_moments stand.device (along_of going) (moments_in stand going.time cycle)).priors;
  time = going.time + period_of stand.code.tables cycle.table;
  number = going.number + 1;
}
