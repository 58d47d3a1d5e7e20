-- What the cycles of a code run for vectors (IEEE 1450-1999, clauses 21 and 22).
use Rattle.std.specs.Prelude.{◌≡◌, ℕ, ◌+◌, min, List, [], ◌∷◌, Some, slice_get}
use Rattle.stil_ast.specs.Meaning.State.{Vector}
use Rattle.stil_ast.specs.Meaning.ExecutiveData.{row_of}
use Rattle.packed_code.specs.declared.instr.Entry.{Entry}

-- An entry runs a vector, where the executive's first table has the number `first` in the code: the vector's table, by
-- a number of 16 bits, of which the greatest stands for all that are beyond; the row with the vector's characters; its
-- mark.
pub record IsEntry (first : ℕ) (rows : List (List ℕ)) (v : Vector) (e : Entry) : Type 0 where
  pub table : (t : ℕ) → v.table ≡ Some t → e.table ≡ min (first + t) 65535
  pub row : slice_get rows e.row ≡ Some (row_of v)
  pub mark : e.mark ≡ v.mark

-- entries run vectors, one by one
abbrev pub AreEntries : ℕ → List (List ℕ) → List Vector → List Entry → Type 0
AreEntries first rows [] [] = Unit {0}
AreEntries first rows [] (e ∷ entries) = ⊥
AreEntries first rows (v ∷ vectors) [] = ⊥
AreEntries first rows (v ∷ vectors) (e ∷ entries) = IsEntry first rows v e × AreEntries first rows vectors entries
