-- What a lot comes to in all.
use Rattle.std.specs.Prelude.{ℕ, ◌-◌, ◌^◌, min, List, sum_by}
use Rattle.tester_types.specs.declared.record.Record.{Record}
use Rattle.tester_types.specs.declared.record.Trial.{Trial}

-- the largest number of 128 bits
abbrev pub most_fails : ℕ
most_fails = 2 ^ 128 - 1

-- how many looks failed in a try
abbrev pub trial_fails : Trial → ℕ
trial_fails trial = trial.fails

-- in all tries of a die
abbrev pub record_fails : Record → ℕ
record_fails entry = sum_by trial_fails entry.trials

-- in all tries of a lot, up to the largest number that is counted
abbrev pub fails_among : List (List Record) → ℕ
fails_among sites = min (sum_by (sum_by record_fails) sites) most_fails
