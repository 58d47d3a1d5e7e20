-- What is checked at a moment of a cycle, by its looks alone: while a die has no fail in a cycle, the windows that are
-- open in it depend on no level, so they are the same in all dies that have none.
use Rattle.std.specs.Prelude.{ℕ, not, List, [], ◌∷◌, ◌++◌, filter, fold, Option, Some, None}
use Rattle.tester_types.specs.declared.wave.Look.{Look}
use Rattle.tester_types.specs.declared.level.Level.{Level}
use Rattle.strobe_check.specs.Look.{is_edge, is_met}
use Rattle.strobe_check.specs.Entry.{Entry, looks_at}
use Rattle.strobe_check.specs.Step.{window_after}

-- a window as a list
abbrev pub if_open : Option Look → List Look
if_open None = []
if_open (Some look) = look ∷ []

-- the looks at a signal that are checked at a moment with these looks at it, behind this window: the edge looks among
-- them, and the window that is open behind them
abbrev pub checked : Option Look → List Look → List Look
checked window looks = filter is_edge looks ++ if_open (window_after window looks)

-- those that a level doesn't meet
abbrev pub unmet : Level → List Look → List Look
unmet level looks = filter (λ look. not (is_met look level)) looks

-- the window of a signal behind one more entry, if none failed
abbrev pub window_on : ℕ → Option Look → Entry → Option Look
window_on signal window entry = window_after window (looks_at signal entry.moment)

-- the window of a signal that is open behind these entries of a cycle, if none failed
unfoldable pub window_behind : ℕ → List Entry → Option Look
window_behind signal entries = fold (window_on signal) None entries
