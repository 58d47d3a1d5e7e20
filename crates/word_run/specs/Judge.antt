-- Whether the looks that are checked at a moment are met in a die, as they are gone through. No public clause cites it.
use Rattle.std.specs.Prelude.{ℕ, Bool, false, not, ◌&&◌, ◌||◌, List, length, Option, None, slice_index_or}
use Rattle.std.specs.List.{list_all, range_with_len}
use Rattle.tester_types.specs.declared.wave.Look.{Look}
use Rattle.die_sim.specs.Die.{Device, State, level_of}
use Rattle.strobe_check.specs.Look.{is_edge, is_met}
use Rattle.word_run.specs.Checks.{if_open}

-- an edge look is met, where its signal is looked at
abbrev pub edge_met : List Bool → Device → State → ℕ × Look → Bool
edge_met bound device state check =
    not (slice_index_or bound check.0 false && is_edge check.1) || is_met check.1 (level_of device state check.0)

-- the window of a signal is met, if one is open, where the signal is looked at
abbrev pub window_met : List Bool → Device → State → List (Option Look) → ℕ → Bool
window_met bound device state windows signal =
    not (slice_index_or bound signal false)
    || list_all (λ look. is_met look (level_of device state signal)) (if_open (slice_index_or windows signal None))

-- each edge look of a moment is met, and each window that is open behind its looks
abbrev pub are_met : List Bool → Device → State → List (Option Look) → List (ℕ × Look) → Bool
are_met bound device state windows looks =
    list_all (edge_met bound device state) looks
    && list_all (window_met bound device state windows) (range_with_len 0 (length windows))
