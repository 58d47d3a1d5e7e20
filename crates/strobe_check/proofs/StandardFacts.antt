-- Known lists of moments, whose fails the definitions must give.
use Rattle.std.proofs.Common.{◌≡◌, ℕ, Bool, true, false, List, [], ◌∷◌, refl}
use Rattle.tester_types.specs.declared.wave.Look.{Look}
use Rattle.tester_types.specs.declared.wave.Look.TheVariants.{Low, High, Off, LowWindow, HighWindow, OffWindow, Close}
use Rattle.tester_types.specs.declared.level.Level.{Level}
use Rattle.tester_types.specs.declared.level.Level.TheVariants.{Zero, One, X, Z}
use Rattle.tester_types.specs.declared.cycle.Moment.{Moment}
use Rattle.tester_types.specs.declared.record.Fail.{Fail}
use Rattle.strobe_check.specs.Entry.{Entry}
use Rattle.strobe_check.specs.Fails.{fails}
use Rattle.strobe_check.specs.Sensed.{is_sensed}

-- an instant of cycle 7 of executive 0 with these looks, and the levels after it
abbrev entry : ℕ → List (ℕ × Look) → List Level → Entry
entry at looks levels = record {
  exec = 0;
  cycle = 7;
  mark = 0;
  moment = record { at = at; drives = []; looks = looks };
  levels = levels;
}

-- a fail of a look
abbrev fail : ℕ → ℕ → Look → Level → Fail
fail at signal want seen =
    record { exec = 0; cycle = 7; at = at; signal = signal; want = want; seen = seen; mark = 0 }

-- signal 1 is looked at
abbrev second : List Bool
second = false ∷ true ∷ []

-- `y` follows `a`, which is driven up at 0 and down at 30 ns; a window h from 20 ns to 60 ns fails
-- at the drive
abbrev pulse : Look → List Entry
pulse look =
    entry 0 [] (One ∷ One ∷ []) ∷ entry 20 ((1, look) ∷ []) (One ∷ One ∷ [])
    ∷ entry 30 [] (Zero ∷ Zero ∷ [])
    ∷ entry 60 ((1, Close) ∷ []) (Zero ∷ Zero ∷ []) ∷ []

pub window_fails_at_a_drive : fails second (pulse HighWindow) ≡ fail 30 1 HighWindow Zero ∷ []
unfolding fails
window_fails_at_a_drive = refl

-- the edge look H has the level of its own instant
pub edge_does_not : fails second (pulse High) ≡ []
unfolding fails
edge_does_not = refl

-- signals that aren't bound have no looks
pub unbound_has_none : fails (true ∷ []) (pulse HighWindow) ≡ []
unfolding fails
unbound_has_none = refl

-- a window that another look closes at once is never looked at
abbrev once : List Look → Level → List Entry
once looks level = entry 5 (two looks) (level ∷ []) ∷ entry 9 [] (level ∷ []) ∷ []
  where
    two : List Look → List (ℕ × Look)
    two [] = []
    two (look ∷ later) = (0, look) ∷ two later

pub low_window_counts : fails (true ∷ [])
    (once (HighWindow ∷ LowWindow ∷ []) One) ≡ fail 5 0 LowWindow One ∷ []
unfolding fails
low_window_counts = refl

pub high_window_is_closed : fails (true ∷ []) (once (HighWindow ∷ LowWindow ∷ []) Zero) ≡ []
unfolding fails
high_window_is_closed = refl

pub edge_closes : fails (true ∷ []) (once (HighWindow ∷ High ∷ []) Zero) ≡ fail 5 0 High Zero ∷ []
unfolding fails
edge_closes = refl

pub close_closes : fails (true ∷ []) (once (HighWindow ∷ Close ∷ []) Zero) ≡ []
unfolding fails
close_closes = refl

-- a window runs to the cycle's end, and fails once though two moments violate it
pub window_fails_once : fails (true ∷ [])
    (
    entry 1 ((0, OffWindow) ∷ []) (Z ∷ []) ∷ entry 2 [] (Z ∷ []) ∷ entry 3 [] (X ∷ [])
    ∷ entry 4 [] (One ∷ []) ∷ []
    )
    ≡ fail 3 0 OffWindow X ∷ []
unfolding fails
window_fails_once = refl

-- by moment, then by signal; for one signal the edges in written order, then its window
pub in_order : fails (true ∷ true ∷ [])
    (
    entry 1 ((0, LowWindow) ∷ (1, Low) ∷ (1, High) ∷ (1, Off) ∷ (1, OffWindow) ∷ []) (Zero ∷ X ∷ [])
    ∷ entry 2 ((1, Low) ∷ []) (One ∷ One ∷ []) ∷ []
    )
    ≡ fail 1 1 Low X ∷ fail 1 1 High X ∷ fail 1 1 Off X ∷ fail 1 1 OffWindow X
    ∷ fail 2 0 LowWindow One ∷ fail 2 1 Low One ∷ []
unfolding fails
in_order = refl

-- what is sensed after one entry with the window l: at a moment without looks the window, until it
-- has failed; an edge
-- look always, and nothing where the window is closed
abbrev next : List (ℕ × Look) → Moment
next looks = record { at = 8; drives = []; looks = looks }

-- entries in which a window is open
abbrev open_since : Level → List Entry
open_since level = entry 3 ((0, LowWindow) ∷ []) (level ∷ []) ∷ []

pub window_is_sensed : is_sensed (true ∷ []) (open_since Zero) (next []) 0 ≡ true
unfolding is_sensed
window_is_sensed = refl

pub failed_window_is_not : is_sensed (true ∷ []) (open_since One) (next []) 0 ≡ false
unfolding is_sensed
failed_window_is_not = refl

pub edge_is_sensed : is_sensed (true ∷ []) (open_since One)
    (next ((0, High) ∷ (0, Close) ∷ [])) 0 ≡ true
unfolding is_sensed
edge_is_sensed = refl

pub closed_is_not : is_sensed (true ∷ []) (open_since Zero) (next ((0, Close) ∷ [])) 0 ≡ false
unfolding is_sensed
closed_is_not = refl

pub unbound_is_not : is_sensed (false ∷ []) (open_since Zero) (next ((0, High) ∷ [])) 0 ≡ false
unfolding is_sensed
unbound_is_not = refl
