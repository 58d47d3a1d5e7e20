-- What is set again before it is used, and trees in which nothing is.
use Rattle.std.specs.Prelude.{◌≡◌, ℕ, ◌<◌, ◌==◌, ◌||◌, Bool, true, false, List}
use Rattle.stil_ast.specs.Meaning.Flat.{Flat, done, table, character, back, cycle, repeat, save}

-- whether a flat tree sets the table before any vector, loop or save
abbrev pub sets_table : Flat → Bool
sets_table done = false
sets_table (table t rest) = true
sets_table (character signal c rest) = sets_table rest
sets_table (back signal rest) = sets_table rest
sets_table (cycle mark spot rest) = false
sets_table (repeat count body rest) = false
sets_table (save putting body rest) = false

-- whether it sets the character of a signal before any vector, loop or save
abbrev pub sets_signal : ℕ → Flat → Bool
sets_signal signal done = false
sets_signal signal (table t rest) = sets_signal signal rest
sets_signal signal (character other c rest) = (other == signal) || sets_signal signal rest
sets_signal signal (back other rest) = (other == signal) || sets_signal signal rest
sets_signal signal (cycle mark spot rest) = false
sets_signal signal (repeat count body rest) = false
sets_signal signal (save putting body rest) = false

-- a flat tree that sets nothing twice, neither the table nor the character of one of so many signals, without a vector,
-- a loop or a save in between
abbrev pub IsLean : ℕ → Flat → Type 0
IsLean signals done = Unit {0}
IsLean signals (table t rest) = (sets_table rest ≡ false) × IsLean signals rest
IsLean signals (character signal c rest) =
    (signal < signals → sets_signal signal rest ≡ false) × IsLean signals rest
IsLean signals (back signal rest) = (signal < signals → sets_signal signal rest ≡ false) × IsLean signals rest
IsLean signals (cycle mark spot rest) = IsLean signals rest
IsLean signals (repeat count body rest) = IsLean signals body × IsLean signals rest
IsLean signals (save putting body rest) = IsLean signals body × IsLean signals rest

-- what is set ahead, before any vector, loop or save: the table, and the character of each signal
pub record Ahead : Type 0 where
  pub table : Bool
  pub signals : List Bool
