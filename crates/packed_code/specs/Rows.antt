-- Rows of characters, and when two of them are one.
use Rattle.std.specs.Prelude.{ℕ, Bool, List, nat_eq, Vec}
use Rattle.std.specs.List.{list_any}
use Rattle.std.specs.Cmp.Lexicographic.{pointwise}
use Rattle.std.specs.declared.alloc.Global.{Global}

-- a row without where it lies in memory
abbrev pub row_items : Vec ℕ Global → List ℕ
row_items row = row.items

-- whether one of the rows has these characters
abbrev pub is_row_of : List (List ℕ) → List ℕ → Bool
is_row_of rows row = list_any (pointwise nat_eq row) rows
