-- Signals in a list, each of them marked.
use Rattle.std.specs.Prelude.{◌≡◌, ℕ, Bool, false, List, slice_index_or}
use Rattle.stil_ast.specs.Meaning.Dealing.{has_signal}

-- a signal is marked where it is among these
abbrev pub AreMarked : List ℕ → List Bool → Type 0
AreMarked signals marks = (signal : ℕ) → slice_index_or marks signal false ≡ has_signal signals signal
