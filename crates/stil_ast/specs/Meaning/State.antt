-- What a pattern has set so far, and what it asks of the tester for one cycle.
use Rattle.std.specs.Prelude.{ℕ, List, Option, None, replicate}

-- a waveform table or none, by its number, and for each signal in declared order a character or none
pub record State : Type 0 where
  pub table : Option ℕ
  pub characters : List (Option ℕ)

-- a pattern begins without a table and without characters
abbrev pub start_of : ℕ → State
start_of signals = record { table = None; characters = replicate signals None }

-- one vector: the state that it is made in, and its mark (0, or 1 more than the index of a scan character)
pub record Vector : Type 0 where
  pub table : Option ℕ
  pub characters : List (Option ℕ)
  pub mark : ℕ
