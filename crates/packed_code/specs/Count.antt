-- Numbers of cycles as a count keeps them: none above one more than the most that an executive may have.
use Rattle.std.specs.Prelude.{ℕ, zero, suc, ◌+◌, ◌*◌, List, [], ◌∷◌, min, slice_index, ◌<◌}
use Rattle.text_bytes.specs.Limits.{most_cycles}
use Rattle.packed_code.specs.declared.instr.Instr.{Instr}
use Rattle.packed_code.specs.declared.instr.Instr.TheVariants.{Run, Loop, End, Done}

-- the number, or one too many
abbrev pub capped : ℕ → ℕ
capped n = min n (most_cycles + 1)

-- the numbers of a stack that is so high, the top first
abbrev pub stack : ℕ → List ℕ → List ℕ
stack zero sums = []
stack (suc height) sums = slice_index sums height ∷ stack height sums

-- so many cycles run first
abbrev pub capped_on_top : ℕ → List ℕ → List ℕ
capped_on_top n [] = []
capped_on_top n (body ∷ more) = capped (n + body) ∷ more

-- a loop over a body of so many cycles
abbrev pub capped_closed : ℕ → List ℕ → List ℕ
capped_closed times [] = []
capped_closed times (body ∷ []) = []
capped_closed times (body ∷ after ∷ more) = capped (times * body + after) ∷ more

-- what an instruction needs of so many numbers
abbrev pub HasRoom : Instr → ℕ → Type 0
HasRoom (Run table row mark times) height = 0 < height
HasRoom (Loop times) height = (1 < height) × (0 < times)
HasRoom End height = height < 65
HasRoom Done height = Unit {0}
