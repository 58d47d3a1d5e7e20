-- The tables and rows that a flat text has, and the numbers that it gives them.
use Rattle.std.specs.Prelude.{ℕ, Bool, not, ◌==◌, List, [], ◌∷◌}
use Rattle.std.specs.List.{filter, flat_map, list_any, position_or_len}
use Rattle.packed_code.specs.declared.instr.Instr.{Instr}
use Rattle.packed_code.specs.declared.instr.Instr.TheVariants.{Run, Loop, End, Done}
use Rattle.packed_code.specs.Program.{Exec, Program}

-- the table that a Run names
abbrev pub run_table : Instr → List ℕ
run_table (Run table row mark times) = table ∷ []
run_table (Loop times) = []
run_table End = []
run_table Done = []

-- the row that it names
abbrev pub run_row : Instr → List ℕ
run_row (Run table row mark times) = row ∷ []
run_row (Loop times) = []
run_row End = []
run_row Done = []

-- the tables that the Runs of an executive name, as often as they do
abbrev pub tables_in : Exec → List ℕ
tables_in exec = flat_map run_table exec.instrs

-- the rows
abbrev pub rows_in : Exec → List ℕ
rows_in exec = flat_map run_row exec.instrs

-- whether a number is in a list
abbrev pub is_in : List ℕ → ℕ → Bool
is_in numbers number = list_any (λ n. n == number) numbers

-- each number of a list once, in the order in which they first stand in it
unfoldable pub firsts : List ℕ → List ℕ
firsts [] = []
firsts (number ∷ numbers) = number ∷ filter (λ n. not (n == number)) (firsts numbers)

-- the tables that Runs name, in the order of the first that names each, executive after executive
abbrev pub table_order : Program → List ℕ
table_order code = firsts (flat_map tables_in code.execs)

-- the rows
abbrev pub row_order : Program → List ℕ
row_order code = firsts (flat_map rows_in code.execs)

-- the number that a table or a row has in this order, from 0
abbrev pub number_in : List ℕ → ℕ → ℕ
number_in order number = position_or_len (λ n. n == number) order
