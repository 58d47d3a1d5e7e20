-- What the parts of the code compute. Of all this a public clause cites which looks are left to be asked about alone.
use Rattle.std.specs.Prelude.{◌≡◌, ℕ, ◌==◌, ◌+◌, ◌<◌, ◌≤◌, Bool, true, false, not, ◌&&◌, ◌||◌, if◌then◌else◌, List, [], ◌∷◌, ◌++◌, map, filter, Option, Some, None, is_some, slice_index_or}
use Rattle.std.specs.List.{list_any}
use Rattle.tester_types.specs.declared.wave.Look.{Look}
use Rattle.tester_types.specs.declared.level.Level.{Level}
use Rattle.tester_types.specs.declared.record.Fail.{Fail}
use Rattle.strobe_check.specs.declared.judge.Sight.{Sight}
use Rattle.strobe_check.specs.Look.{is_edge, is_window, is_met}
use Rattle.strobe_check.specs.History.{Held}

-- the looks at a signal among all looks of a moment
abbrev pub looks_of : ℕ → List (ℕ × Look) → List Look
looks_of signal looks = map (λ look. look.1) (filter (λ look. look.0 == signal) looks)

-- the looks' signals rise, not strictly, from this one on
abbrev pub Ascends : ℕ → List (ℕ × Look) → Type 0
Ascends least [] = Unit {0}
Ascends least (look ∷ looks) = (least ≤ look.0) × Ascends look.0 looks

-- one part of the looks has all those at a signal, and another all those at later signals, which ascends as they do
pub record SplitsRun (sorted : Bool) (signal : ℕ) (looks own later : List (ℕ × Look)) : Type 0 where
  pub here : (sorted ≡ true → Ascends signal looks) → looks_of signal own ≡ looks_of signal looks
  pub behind : (sorted ≡ true → Ascends signal looks) → (k : ℕ) → signal < k → looks_of k later ≡ looks_of k looks
  pub ascends : (sorted ≡ true → Ascends signal looks) → sorted ≡ true → Ascends (signal + 1) later

-- the window that a look opens
abbrev pub opened : Look → Option Look
opened look = if is_window look then Some look else None

-- the window that is open after looks: each of them closes the one before it
abbrev pub window_after : Option Look → List Look → Option Look
window_after window [] = window
window_after window (look ∷ looks) = window_after (opened look) looks

-- one of all looks of a moment is an edge look at the signal
abbrev pub has_edge : ℕ → List (ℕ × Look) → Bool
has_edge signal looks = list_any (λ look. look.0 == signal && is_edge look.1) looks

-- the signal has an edge look at a moment, or a window that is open after its looks
abbrev pub is_watched : Option Look → ℕ → List (ℕ × Look) → Bool
is_watched window signal looks =
    has_edge signal looks || is_some (window_after window (looks_of signal looks))

-- the signal is bound, and watched with the window that is held for it
abbrev pub is_wanted : Held → ℕ → List (ℕ × Look) → Bool
is_wanted held signal looks =
    slice_index_or held.bound signal false && is_watched (slice_index_or held.windows signal None) signal looks

-- the edge looks that a level doesn't meet
abbrev pub failed_edges : Level → List Look → List Look
failed_edges level looks = filter (λ look. is_edge look && not (is_met look level)) looks

-- the window, if the level doesn't meet it
abbrev pub failed_window : Level → Option Look → List Look
failed_window level None = []
failed_window level (Some look) = if is_met look level then [] else look ∷ []

-- the window, if the level meets it
abbrev pub left_open : Level → Option Look → Option Look
left_open level None = None
left_open level (Some look) = if is_met look level then Some look else None

-- the looks at a signal that fail at a moment: with the window that was open before it, and the moment's looks
abbrev pub failed : Level → Option Look → List Look → List Look
failed level window looks =
    failed_edges level looks ++ failed_window level (window_after window looks)

-- the fail of a look that wants another level
abbrev pub fail_in : Sight → Look → Fail
fail_in sight want = record {
  exec = sight.exec;
  cycle = sight.cycle;
  at = sight.at;
  signal = sight.signal;
  want = want;
  seen = sight.level;
  mark = sight.mark;
}
