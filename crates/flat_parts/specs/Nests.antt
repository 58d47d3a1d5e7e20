-- The instructions of an executive by how their loops nest, and what a flat text says in their place.
use Rattle.std.specs.Prelude.{ℕ, nat_lt, List, [], ◌∷◌, ◌++◌, codes, decimal, if◌then◌else◌}
use Rattle.packed_code.specs.declared.instr.Instr.{Instr}
use Rattle.packed_code.specs.declared.instr.Instr.TheVariants.{Run, Loop, End}
use Rattle.packed_code.specs.Program.{Program}
use Rattle.stil_ast.specs.declared.body.Step.TheVariants.{Wave, Call}
use Rattle.stil_ast.specs.Data.Written as written
use Rattle.stil_ast.specs.Data.Written.{Written}
use Rattle.flat_parts.specs.Order.{table_order, row_order, number_in}

-- the lines on which a Run's statements stand: its W, its Loop (where it has one), its Call
pub record RunLines : Type 0 where
  pub wave : ℕ
  pub loop : ℕ
  pub call : ℕ

-- nothing; a Run of a table and a row, so many times, and what is behind it; a Loop on a line, so many times over a
-- body, and what is behind it
pub data Nest : Type 0 where
  nothing : Nest
  run : RunLines → ℕ → ℕ → ℕ → ℕ → Nest → Nest
  loop : ℕ → ℕ → Nest → Nest → Nest

-- the instructions that nest so
abbrev pub instrs_in : Nest → List Instr
instrs_in nothing = []
instrs_in (run lines table row mark times rest) = Run table row mark times ∷ instrs_in rest
instrs_in (loop line times body rest) = Loop times ∷ (instrs_in body ++ End ∷ instrs_in rest)

-- the name of a table of the text, by the table's number in the code
abbrev pub table_name : Program → ℕ → List ℕ
table_name code table = codes "w" ++ decimal (number_in (table_order code) table)

-- the name of a row's procedure, by the row's number in the code
abbrev pub row_name : Program → ℕ → List ℕ
row_name code row = codes "r" ++ decimal (number_in (row_order code) row)

-- a procedure, called so many times
abbrev pub called : RunLines → List ℕ → ℕ → Written → Written
called lines name times rest =
    if nat_lt 1 times
    then written.looped lines.loop times (written.single lines.call (Call name []) written.no_more) rest
    else written.single lines.call (Call name []) rest

-- the statements that a flat text has for instructions
abbrev pub written_in : Program → Nest → Written
written_in code nothing = written.no_more
written_in code (run lines table row mark times rest) =
    written.single lines.wave (Wave (table_name code table))
    (called lines (row_name code row) times (written_in code rest))
written_in code (loop line times body rest) = written.looped line times (written_in code body) (written_in code rest)
