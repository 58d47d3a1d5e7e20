-- Known cycles, whose moments the definitions must give.
use Rattle.std.proofs.Common.{◌≡◌, ℕ, pos, negsuc, List, [], ◌∷◌, refl}
use Rattle.tester_types.specs.declared.wave.Push.{Push}
use Rattle.tester_types.specs.declared.wave.Look.{Look}
use Rattle.tester_types.specs.declared.wave.Push.TheVariants.{Down, Up, Unknown}
use Rattle.tester_types.specs.declared.wave.Look.TheVariants.{Low, High, HighWindow, Close}
use Rattle.tester_types.specs.declared.wave.Act.{Act}
use Rattle.tester_types.specs.declared.wave.Act.TheVariants as act
use Rattle.tester_types.specs.declared.wave.Event.{Event}
use Rattle.tester_types.specs.declared.wave.Wave.{Wave}
use Rattle.tester_types.specs.declared.wave.Table.{Table}
use Rattle.tester_types.specs.declared.cycle.Moment.{Moment}
use Rattle.edge_gen.specs.Signals.{events_of, no_skews}
use Rattle.edge_gen.specs.Moments.{moments_of, instants}

-- an event at a time
abbrev event : ℕ → Act → Event
event time act = record { time = time; act = act }

-- a wave of a signal and a character
abbrev wave : ℕ → ℕ → List Event → Wave
wave signal character events = record { signal = signal; character = character; events = events }

-- a table of 100 ns
abbrev table : List Wave → Table
table waves = record { name = []; period = 100000000; waves = waves }

-- a moment in which one signal does one thing
abbrev drive : ℕ → ℕ → Push → Moment
drive at signal push = record { at = at; drives = (signal, push) ∷ []; looks = [] }

-- a moment with one look
abbrev seen : ℕ → ℕ → Look → Moment
seen at signal look = record { at = at; drives = []; looks = (signal, look) ∷ [] }

-- `a { 01 { '0ns' D/U; } } y { LHX { '9ns/3' L/H/X; } }`
abbrev strobed : Table
strobed = table (
    wave 0 48 (event 0 (act.Push Down) ∷ []) ∷ wave 0 49 (event 0 (act.Push Up) ∷ [])
    ∷ wave 1 76 (event 3000000 (act.Look Low) ∷ []) ∷ wave 1 72 (event 3000000 (act.Look High) ∷ [])
    ∷ wave 1 88 (event 3000000 (act.Look Close) ∷ []) ∷ []
    )

-- the cycles `0H`, `1L` and `1X` of three vectors
pub first_cycle : moments_of strobed (48 ∷ 72 ∷ []) (no_skews 2) 0 ≡ drive 0 0 Down ∷ seen 3000000 1 High ∷ []
unfolding moments_of
first_cycle = refl

pub second_cycle : moments_of strobed (49 ∷ 76 ∷ []) (no_skews 2) 100000000 ≡ drive 100000000 0 Up ∷ seen 103000000 1 Low ∷ []
unfolding moments_of
second_cycle = refl

pub third_cycle : moments_of strobed (49 ∷ 88 ∷ []) (no_skews 2) 200000000 ≡ drive 200000000 0 Up ∷ seen 203000000 1 Close ∷ []
unfolding moments_of
third_cycle = refl

-- of one signal the last drive and all looks, in written order; signals in declared order
pub one_instant : moments_of
    (table (
    wave 1 49 (event 5 (act.Push Down) ∷ event 5 (act.Look High) ∷ event 5 (act.Push Up) ∷ event 5 (act.Look Low) ∷ [])
    ∷ wave 0 49 (event 5 (act.Push Unknown) ∷ []) ∷ []
    ))
    (49 ∷ 49 ∷ []) (no_skews 2) 2
    ≡ record { at = 7; drives = (0, Unknown) ∷ (1, Up) ∷ []; looks = (1, High) ∷ (1, Low) ∷ [] } ∷ []
unfolding moments_of
one_instant = refl

-- a window from 20 ns to 60 ns on one signal, and a pulse of another that ends inside it
pub pulse_and_window : moments_of
    (table (
    wave 0 114 (event 0 (act.Push Up) ∷ event 30000000 (act.Push Down) ∷ [])
    ∷ wave 1 119 (event 20000000 (act.Look HighWindow) ∷ event 60000000 (act.Look Close) ∷ []) ∷ []
    ))
    (114 ∷ 119 ∷ []) (no_skews 2) 0
    ≡ drive 0 0 Up ∷ seen 20000000 1 HighWindow ∷ drive 30000000 0 Down ∷ seen 60000000 1 Close ∷ []
unfolding moments_of
pulse_and_window = refl

-- a signal's skew moves its drives and its looks, and those of no other: a pulse 30 ns later, a window 20 ns earlier
pub moved_apart : moments_of
    (table (
    wave 0 114 (event 0 (act.Push Up) ∷ event 30000000 (act.Push Down) ∷ [])
    ∷ wave 1 119 (event 20000000 (act.Look HighWindow) ∷ event 60000000 (act.Look Close) ∷ []) ∷ []
    ))
    (114 ∷ 119 ∷ []) (pos 30000000 ∷ negsuc 19999999 ∷ []) 100000000
    ≡ seen 100000000 1 HighWindow ∷ drive 130000000 0 Up ∷ seen 140000000 1 Close ∷ drive 160000000 0 Down ∷ []
unfolding moments_of
moved_apart = refl

-- skews bring two signals to one instant
pub moved_together : moments_of strobed (49 ∷ 76 ∷ []) (pos 1 ∷ negsuc 2999998 ∷ []) 7
    ≡ record { at = 8; drives = (0, Up) ∷ []; looks = (1, Low) ∷ [] } ∷ []
unfolding moments_of
moved_together = refl

-- a signal without a character, and one whose character has no wave, do nothing
pub no_moments : moments_of strobed (0 ∷ 122 ∷ []) (no_skews 2) 0 ≡ []
unfolding moments_of
no_moments = refl

-- of two waves for one signal and character the later one counts
pub later_wave_counts : events_of (wave 0 49 (event 1 (act.Push Up) ∷ []) ∷ wave 0 49 (event 3 (act.Push Down) ∷ []) ∷ []) 0 49
    ≡ event 3 (act.Push Down) ∷ []
later_wave_counts = refl

-- instants rise, and each stands once
pub three_instants : instants (7 ∷ 3 ∷ 7 ∷ 5 ∷ 3 ∷ []) ≡ 3 ∷ 5 ∷ 7 ∷ []
three_instants = refl
