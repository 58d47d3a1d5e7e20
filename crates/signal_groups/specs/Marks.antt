-- Signals in a list, and a mark at each signal that stands in it.
use Rattle.std.specs.Prelude.{◌≡◌, ◌==◌, ℕ, Bool, false, List, slice_index_or}
use Rattle.std.specs.List.{list_any}

-- exactly the signals of the list are marked
pub record AreMarked (members : List ℕ) (marks : List Bool) : Type 0 where
  pub each : (s : ℕ) → slice_index_or marks s false ≡ list_any (λ m. m == s) members
