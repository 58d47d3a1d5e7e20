-- The fails of a cycle: each look fails at the first entry inside its extent that doesn't meet it, and not again.
use Rattle.std.specs.Prelude.{ℕ, ◌==◌, Bool, not, List, map, filter, length, Option}
use Rattle.std.specs.List.{find, filter_map, flat_map, enumerate_from, range_with_len}
use Rattle.std.specs.Option.{option_map}
use Rattle.tester_types.specs.declared.wave.Look.{Look}
use Rattle.tester_types.specs.declared.record.Fail.{Fail}
use Rattle.strobe_check.specs.Look.{is_met}
use Rattle.strobe_check.specs.Entry.{Entry, level_of, fail_at}
use Rattle.strobe_check.specs.Extent.{Extent, extents}

-- an entry meets a look at a signal
abbrev pub meets : ℕ → Look → ℕ × Entry → Bool
meets signal look entry = is_met look (level_of signal entry.1)

-- the fail of a look at a signal, with the place at which it comes
abbrev pub fail_of : ℕ → Extent → Option (ℕ × Fail)
fail_of signal extent =
    option_map (λ entry. (entry.0, fail_at signal extent.look entry.1))
    (find (λ entry. not (meets signal extent.look entry)) extent.inside)

-- the fails of all looks at a signal
abbrev pub fails_of : ℕ → List Entry → List (ℕ × Fail)
fails_of signal entries = filter_map (fail_of signal) (extents signal (enumerate_from 0 entries))

-- those that come at a place
abbrev pub at_place : ℕ → List (ℕ × Fail) → List Fail
at_place place fails = map (λ fail. fail.1) (filter (λ fail. fail.0 == place) fails)

-- the signals that are bound, of signals of which the first has this number
abbrev pub bound_from : ℕ → List Bool → List ℕ
bound_from n bound = map (λ signal. signal.0) (filter (λ signal. signal.1) (enumerate_from n bound))

-- the signals that are bound, in declared order
abbrev pub bound_signals : List Bool → List ℕ
bound_signals bound = bound_from 0 bound

-- the fails of a cycle by place, and at one place by signal; a signal that isn't bound has none
unfoldable pub fails : List Bool → List Entry → List Fail
fails bound entries =
    flat_map (λ place. flat_map (λ signal. at_place place (fails_of signal entries)) (bound_signals bound))
    (range_with_len 0 (length entries))
