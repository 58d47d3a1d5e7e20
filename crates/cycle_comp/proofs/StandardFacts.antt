-- Known trees: what they run, and instructions that run the same.
use Rattle.std.proofs.Common.{◌≡◌, ℕ, zero, suc, ◌+◌, ◌^◌, ◌<◌, true, List, [], ◌∷◌, Some, map, refl, arith}
use Rattle.stil_ast.specs.Data.Places.{of_pattern, Origin}
use Rattle.stil_ast.specs.Meaning.State.{start_of}
use Rattle.stil_ast.specs.Meaning.Running.{Made}
use Rattle.stil_ast.specs.Meaning.Flat.{Flat, done, table, character, cycle, repeat, save}
use Rattle.stil_ast.specs.Meaning.ExecutiveData.{Tree, measure_in, row_of, distinct_rows}
use Rattle.stil_ast.specs.Faults.CodeFaults.{trees_fault}
use Rattle.stil_ast.specs.Faults.Found.{fault_in}
use Rattle.stil_ast.specs.declared.fault.StilKind.TheVariants.{NoTable}
use Rattle.packed_code.specs.declared.instr.Entry.{Entry}
use Rattle.packed_code.specs.declared.instr.Instr.{Instr}
use Rattle.packed_code.specs.declared.instr.Instr.TheVariants.{Run, Loop, End, Done}
use Rattle.packed_code.specs.Meaning.{bodies, repeated, Means}
use Rattle.cycle_comp.specs.Counting.{vector_count}
use Rattle.cycle_comp.specs.Depth.{depth, NestWithin}
use Rattle.cycle_comp.specs.Entries.{IsEntry}
use Rattle.cycle_comp.specs.Written.{made_in}

-- the place of a V
abbrev line : ℕ → Origin
line n = record { body = of_pattern; line = n }

abbrev tree : Flat → Tree
tree flat = record { titles = record { pattern = []; macros = []; procedures = [] }; flat = flat }

-- the tables and rows of what trees of one signal run
abbrev run_rows : Flat → List (List ℕ)
run_rows flat = map (λ (m : Made). row_of m.vector) (made_in 1 (tree flat ∷ []))

-- the rows of what instructions run, by their numbers
abbrev code_rows : List Instr → List ℕ
code_rows code = map (λ (e : Entry). e.row) (Means code)

-- a loop whose first pass differs in its one signal: `0` is set behind the vector
abbrev late : Flat
late = table 0 (repeat 3 (cycle 0 (line 1) (character 0 48 done)) done)

late_rows : run_rows late ≡ (0 ∷ []) ∷ (48 ∷ []) ∷ (48 ∷ []) ∷ []
late_rows = refl

-- its first pass, and a Loop over the second one
late_code : code_rows (Run 0 0 0 1 ∷ Loop 2 ∷ Run 0 1 0 1 ∷ End ∷ Done ∷ []) ≡ 0 ∷ 1 ∷ 1 ∷ []
unfolding bodies repeated
late_code = refl

late_distinct : distinct_rows [] (run_rows late) ≡ (0 ∷ []) ∷ (48 ∷ []) ∷ []
late_distinct = refl

-- these are M + 1 instructions, however often the loop runs
late_measure : measure_in (tree late ∷ []) ≡ 4
late_measure = refl

-- nested loops: the first pass of the inner one differs in each pass of the outer one
abbrev nested : Flat
nested = table 0 (repeat 2 (repeat 2 (cycle 0 (line 1) (character 0 48 done)) (character 0 49 done)) done)

nested_rows : run_rows nested ≡ (0 ∷ []) ∷ (48 ∷ []) ∷ (49 ∷ []) ∷ (48 ∷ []) ∷ []
nested_rows = refl

nested_code : code_rows (Run 0 0 0 1 ∷ Loop 1 ∷ Run 0 1 0 1 ∷ End
    ∷ Loop 1 ∷ Run 0 2 0 1 ∷ Loop 1 ∷ Run 0 1 0 1 ∷ End ∷ End ∷ Done ∷ []) ≡ 0 ∷ 1 ∷ 2 ∷ 1 ∷ []
unfolding bodies repeated
nested_code = refl

nested_count : vector_count nested ≡ 4
nested_count = refl

-- a procedure's body gives the signal back; the count is the same
saved_count : vector_count (save true nested (repeat 1099511627776 nested done)) ≡ 4398046511108
saved_count = refl

-- a vector before any W has no table
no_table : trees_fault [] (tree (cycle 0 (line 7) done) ∷ []) (start_of 1)
    ≡ Some (fault_in (record { pattern = []; macros = []; procedures = [] }) (line 7) NoTable)
no_table = refl

-- the second table of an executive whose first one is number 3 in the code
second_table : (e : Entry) → IsEntry 3 [] (record { table = Some 1; characters = []; mark = 0 }) e → e.table ≡ 4
second_table e is = is.table 1 refl

-- three Loops deep, of which one has a single pass: two count
deep_two : depth (repeat 2 (repeat 1 (save true (repeat 3 (cycle 0 (line 1) done) done) done) done) (cycle 0 (line 2) done)) ≡ 2
deep_two = refl

-- the vectors of two Loops, and no more than two may be open
nest_two : NestWithin 2 0 (Loop 2 ∷ Loop 3 ∷ Run 0 0 0 1 ∷ End ∷ End ∷ Loop 2 ∷ Run 0 0 0 1 ∷ End ∷ Done ∷ [])
nest_two = (omega arith, omega arith, (omega arith, omega arith, (omega arith, omega arith, tt)))

-- a Loop of one pass round them is none
nest_once : NestWithin 2 0 (Loop 1 ∷ Run 0 0 0 1 ∷ End ∷ Done ∷ []) → ⊥
nest_once is = omega (arith, is.0)

-- so many equal vectors in a row
abbrev vectors : ℕ → Flat
vectors zero = done
vectors (suc n) = cycle 0 (line 1) (vectors n)

-- forty of them nest nothing, and their measure lets no code of them nest deeper than four
forty_depth : depth (vectors 40) ≡ 0
forty_depth = refl

forty_few : measure_in (tree (vectors 40) ∷ []) + 2 < 2 ^ suc (suc 4)
forty_few =
    let measured : measure_in (tree (vectors 40) ∷ []) ≡ 40 = refl in
    let room : 2 ^ suc (suc 4) ≡ 64 = refl in
    omega (arith, measured, room)
