-- Known instructions, whose cycles the definitions must give.
use Rattle.std.proofs.Common.{◌≡◌, ℕ, List, [], ◌∷◌, refl}
use Rattle.packed_code.specs.declared.instr.Entry.{Entry}
use Rattle.packed_code.specs.declared.instr.Instr.{Instr}
use Rattle.packed_code.specs.declared.instr.Instr.TheVariants.{Run, Loop, End, Done}
use Rattle.packed_code.specs.Meaning.{repeated, bodies, body_counts, Means, cycle_count}

abbrev entry : ℕ → ℕ → ℕ → Entry
entry table row mark = record { table = table; row = row; mark = mark }

-- a loop in a loop, with a cycle between their ends and one behind both
abbrev nest : List Instr
nest = Loop 2 ∷ Run 0 1 0 2 ∷ Loop 2 ∷ Run 0 2 5 1 ∷ End ∷ Run 1 0 0 1 ∷ End ∷ Run 0 3 0 1 ∷ Done ∷ []

pub nest_means : Means nest
    ≡ entry 0 1 0 ∷ entry 0 1 0 ∷ entry 0 2 5 ∷ entry 0 2 5 ∷ entry 1 0 0
    ∷ entry 0 1 0 ∷ entry 0 1 0 ∷ entry 0 2 5 ∷ entry 0 2 5 ∷ entry 1 0 0
    ∷ entry 0 3 0 ∷ []
unfolding repeated bodies
nest_means = refl

pub nest_count : cycle_count nest ≡ 11
unfolding body_counts
nest_count = refl

-- 2 ^ 24 passes of 2 ^ 24 passes are counted without unrolling
pub far_count : cycle_count (Loop 16777216 ∷ Loop 16777216 ∷ Run 0 0 0 1 ∷ End ∷ End ∷ Done ∷ []) ≡ 281474976710656
unfolding body_counts
far_count = refl

-- no cycle at all
pub none_means : Means (Done ∷ []) ≡ []
unfolding bodies
none_means = refl
