-- Which scan cell a scan character stands for (IEEE 1450-1999, clause 20).
use Rattle.std.specs.Prelude.{ℕ, zero, suc, ◌-◌, nat_lt, List, Option, None, slice_get, if◌then◌else◌}

-- The cell whose value leaves a chain of so many cells with the scan character of this index, from 0: the last cell's
-- comes first. Cells are listed from scan-in to scan-out, and there may be fewer names than cells.
abbrev pub cell_behind : {C : Type 0} → ℕ → List C → ℕ → Option C
cell_behind length cells index = if nat_lt index length then slice_get cells (length - 1 - index) else None

-- the same for a mark, which is 1 more than the index, and 0 where there is no scan character
abbrev pub marked_cell : {C : Type 0} → ℕ → List C → ℕ → Option C
marked_cell length cells zero = None
marked_cell length cells (suc index) = cell_behind length cells index

-- a cell of a chain, by their names
pub record Cell : Type 0 where
  pub chain : List ℕ
  pub name : List ℕ
