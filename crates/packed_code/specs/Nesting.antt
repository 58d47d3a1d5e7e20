-- What instructions run, by how their loops nest.
use Rattle.std.specs.Prelude.{ℕ, List, [], ◌∷◌, ◌++◌, replicate}
use Rattle.packed_code.specs.declared.instr.Entry.{Entry}
use Rattle.packed_code.specs.declared.instr.Instr.{Instr}
use Rattle.packed_code.specs.declared.instr.Instr.TheVariants.{Run, Loop, End}
use Rattle.packed_code.specs.Meaning.{repeated}

-- a cycle
abbrev pub cycle_of : ℕ → ℕ → ℕ → Entry
cycle_of table row mark = record { table = table; row = row; mark = mark }

-- instructions without their Done run these cycles: none, or a Run and the rest, or a Loop with its body up to its End
-- and the rest
pub data Runs : List Instr → List Entry → Type 0 where
  nothing : Runs [] []
  a_run : (table row mark times : ℕ) (rest : List Instr) (cycles : List Entry) → Runs rest cycles
      → Runs (Run table row mark times ∷ rest) (replicate times (cycle_of table row mark) ++ cycles)
  a_loop : (times : ℕ) (body rest : List Instr) (pass cycles : List Entry) → Runs body pass → Runs rest cycles
      → Runs (Loop times ∷ (body ++ End ∷ rest)) (repeated times pass ++ cycles)
