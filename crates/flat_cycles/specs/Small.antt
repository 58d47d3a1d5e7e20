-- When what the executives of a flat text are compiled to is within the limits.
use Rattle.std.specs.Prelude.{◌≡◌, ◌⊎◌, ℕ, ◌*◌, ◌^◌, ◌<◌, ◌≤◌, [], ◌∷◌, ◌++◌, length, sum_by}
use Rattle.text_bytes.specs.Limits.{most_measure}
use Rattle.packed_code.specs.declared.instr.Instr.TheVariants.{Done}
use Rattle.packed_code.specs.Meaning.{Means}
use Rattle.packed_code.specs.Program.{Program}
use Rattle.packed_code.specs.Cycles.{exec_of}
use Rattle.flat_parts.specs.FlatText.{executives}
use Rattle.flat_parts.specs.Nests.{Nest, nothing, run, loop, instrs_in}
use Rattle.flat_fine.specs.Fits.{AreShallow}

-- what the flat tree of an executive measures at most, where Loops nest so many deep: each doubles what is in it
abbrev pub measure_at : Program → ℕ → ℕ → ℕ
measure_at code left exec = 2 * (2 ^ left * length (exec_of code exec).instrs)

-- what it measures at most by its cycles, where each Loop is repeated
abbrev pub cycles_at : Program → ℕ → ℕ
cycles_at code exec = 4 * length (Means (exec_of code exec).instrs)

-- each Loop has two passes at least, and something in it
abbrev pub IsRepeated : Nest → Type 0
IsRepeated nothing = Unit {0}
IsRepeated (run lines table row mark times rest) = IsRepeated rest
IsRepeated (loop line times body rest) =
    (1 < times) × (0 < length (instrs_in body)) × IsRepeated body × IsRepeated rest

-- so have the Loops of each executive
abbrev pub AreRepeated : Program → Type 0
AreRepeated code =
    (exec : ℕ) (nest : Nest) → exec < length code.execs → (exec_of code exec).instrs ≡ instrs_in nest ++ Done ∷ []
    → IsRepeated nest

-- the measures are within their limit, by how deep Loops nest or by the cycles
abbrev pub IsMeasured : Program → ℕ → Type 0
IsMeasured code left =
    (sum_by (measure_at code left) (executives code) ≤ most_measure)
    ⊎ (AreRepeated code × (sum_by (cycles_at code) (executives code) ≤ most_measure))

-- Loops nest so many deep, a Run among them, and the measures are within their limit
pub record AreSmall (code : Program) (left : ℕ) : Type 0 where
  pub shallow : AreShallow left code
  pub measured : IsMeasured code left
