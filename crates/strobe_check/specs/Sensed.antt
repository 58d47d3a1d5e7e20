-- Which signals are sensed at the next moment of a cycle.
use Rattle.std.specs.Prelude.{ℕ, ◌==◌, Bool, false, ◌&&◌, ◌||◌, List, [], ◌∷◌, ◌++◌, length, slice_index_or}
use Rattle.std.specs.List.{list_any, list_all, enumerate_from}
use Rattle.tester_types.specs.declared.cycle.Moment.{Moment}
use Rattle.strobe_check.specs.Entry.{Entry}
use Rattle.strobe_check.specs.Extent.{Extent, extents}
use Rattle.strobe_check.specs.Fails.{meets}

-- the look has the place inside its extent, and every other place inside meets it
abbrev pub is_watching : ℕ → ℕ → Extent → Bool
is_watching place signal extent =
    list_any (λ entry. entry.0 == place) extent.inside
    && list_all (λ entry. entry.0 == place || meets signal extent.look entry) extent.inside

-- the entry of a moment whose levels aren't known yet
abbrev pub unsensed : Moment → Entry
unsensed moment = record { exec = 0; cycle = 0; mark = 0; moment = moment; levels = [] }

-- after these entries of a cycle, a bound signal is sensed at a moment where some look at it has this moment inside
-- its extent and hasn't failed before: an edge look of the moment, or a window that is open
unfoldable pub is_sensed : List Bool → List Entry → Moment → ℕ → Bool
is_sensed bound entries moment signal =
    slice_index_or bound signal false
    && list_any (is_watching (length entries) signal)
    (extents signal (enumerate_from 0 (entries ++ unsensed moment ∷ [])))
