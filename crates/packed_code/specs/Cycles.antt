-- The cycles of an executive, with their starts, and its pages.
use Rattle.std.specs.Prelude.{ℕ, zero, suc, ◌+◌, ◌/◌, ◌%◌, List, [], ◌∷◌, length, take, drop, slice_get, slice_index_or}
use Rattle.std.specs.List.{flat_map}
use Rattle.std.specs.Option.{option_map_or}
use Rattle.tester_types.specs.declared.wave.Table.{Table}
use Rattle.tester_types.specs.declared.cycle.Cycle.{Cycle}
use Rattle.packed_code.specs.declared.instr.Entry.{Entry}
use Rattle.packed_code.specs.declared.instr.Instr.{Instr}
use Rattle.packed_code.specs.Meaning.{Means}
use Rattle.packed_code.specs.Program.{Exec, Program}

-- the period of a table, in femtoseconds
abbrev pub period_of : List Table → ℕ → ℕ
period_of tables table = option_map_or (λ t. t.period) (slice_get tables table) 0

-- cycles one after another: each starts where the one before it ends
abbrev pub timed : List Table → ℕ → List Entry → List Cycle
timed tables start [] = []
timed tables start (entry ∷ entries) =
    record { start = start; table = entry.table; row = entry.row; mark = entry.mark }
    ∷ timed tables (start + period_of tables entry.table) entries

-- an executive of a code, one without instructions where there is none of that number
abbrev pub exec_of : Program → ℕ → Exec
exec_of code number = slice_index_or code.execs number (record { name = []; chains = []; instrs = [] })

-- the cycles of an executive: what its instructions mean, with the periods before each summed
abbrev pub cycles_of : Program → ℕ → List Cycle
cycles_of code number = timed code.tables 0 (Means (exec_of code number).instrs)

-- consecutive pieces of 256 instructions
abbrev pub pieces : ℕ → List Instr → List (List Instr)
pieces zero instrs = []
pieces (suc n) instrs = take 256 instrs ∷ pieces n (drop 256 instrs)

-- how many pages so many instructions fill
abbrev pub page_count : ℕ → ℕ
page_count instrs = (instrs + 255) / 256

-- the pages of an executive
abbrev pub pages_of_exec : Exec → List (List Instr)
pages_of_exec exec = pieces (page_count (length exec.instrs)) exec.instrs

-- the pages of a code: each executive begins a page of its own
abbrev pub pages_of : Program → List (List Instr)
pages_of code = flat_map pages_of_exec code.execs

-- the first page of an executive stands behind those of the executives before it
abbrev pub first_page : Program → ℕ → ℕ
first_page code number = length (flat_map pages_of_exec (take number code.execs))

-- the page of an executive's instruction, and its place on this page
abbrev pub page_of : Program → ℕ → ℕ → ℕ
page_of code number place = first_page code number + place / 256

-- where an instruction stands on its page
abbrev pub offset_of : ℕ → ℕ
offset_of place = place % 256
