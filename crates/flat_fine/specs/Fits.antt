-- When the numbers of the executives of a flat text are within the limits.
use Rattle.std.specs.Prelude.{◌≡◌, ℕ, ◌+◌, ◌-◌, ◌*◌, ◌<◌, ◌≤◌, [], ◌∷◌, ◌++◌, length, sum_by}
use Rattle.text_bytes.specs.Limits.{deepest_loops, most_walked, most_waves}
use Rattle.packed_code.specs.declared.instr.Instr.TheVariants.{Done}
use Rattle.packed_code.specs.Program.{Program}
use Rattle.packed_code.specs.Cycles.{exec_of}
use Rattle.stil_ast.specs.Faults.ExecutiveFaults.{exec_waves}
use Rattle.stil_ast.specs.declared.blocks.Blocks.{Blocks}
use Rattle.flat_parts.specs.FlatText.{executives}
use Rattle.flat_parts.specs.Nests.{Nest, nothing, run, loop, instrs_in}

-- Loops nest so many deep at most; a Run counts as one, as it may be written as a Loop
abbrev pub HasRoom : ℕ → Nest → Type 0
HasRoom left nothing = Unit {0}
HasRoom left (run lines table row mark times rest) = (0 < left) × HasRoom left rest
HasRoom left (loop line times body rest) = (0 < left) × HasRoom (left - 1) body × HasRoom left rest

-- the Loops of each executive do
abbrev pub AreShallow : ℕ → Program → Type 0
AreShallow left code =
    (exec : ℕ) (nest : Nest) → exec < length code.execs → (exec_of code exec).instrs ≡ instrs_in nest ++ Done ∷ []
    → HasRoom left nest

-- what an executive's statements walk, and the signals that they assign, come to this at most: for an instruction a W,
-- a Loop, a Call, a vector, and each signal once
abbrev pub walk_of : Program → ℕ → ℕ
walk_of code exec = length (exec_of code exec).instrs * (4 + length code.signals)

-- the statements walked, the loops that nest and the waves of the tables are within their limits
pub record AreFew (code : Program) (blocks : Blocks) : Type 0 where
  pub walked : sum_by (walk_of code) (executives code) ≤ most_walked
  pub shallow : AreShallow deepest_loops code
  pub waves : sum_by (exec_waves blocks) blocks.executives ≤ most_waves
