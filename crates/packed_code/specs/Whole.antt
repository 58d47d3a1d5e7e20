-- Which lists of instructions an executive may have.
use Rattle.std.specs.Prelude.{◌≡◌, ℕ, suc, ◌-◌, ◌^◌, ◌<◌, ◌≤◌, Bool, true, false, List, [], ◌∷◌}
use Rattle.text_bytes.specs.Limits.{most_passes, deepest_loops, most_cycles}
use Rattle.packed_code.specs.declared.instr.Instr.{Instr}
use Rattle.packed_code.specs.declared.instr.Instr.TheVariants.{Run, Loop, End, Done}
use Rattle.packed_code.specs.Meaning.{cycle_count}

-- What may stand from a place on where so many loops are open, and where `begun` says that the
-- instruction before is a Loop: a Run runs 1 to 2 ^ 32 - 1 times, a Loop 1 to 2 ^ 48 times; at most 64 loops are open;
-- each End has its Loop, and does not stand directly behind it; Done is the last and no other, with no loop open.
abbrev pub IsRest : ℕ → Bool → List Instr → Type 0
IsRest depth begun [] = ⊥
IsRest depth begun (Run table row mark times ∷ code) = (0 < times) × (times < 2 ^ 32) × IsRest depth false code
IsRest depth begun (Loop times ∷ code) =
    (0 < times) × (times ≤ most_passes) × (depth < deepest_loops) × IsRest (suc depth) true code
IsRest depth begun (End ∷ code) = (begun ≡ false) × (0 < depth) × IsRest (depth - 1) false code
IsRest depth begun (Done ∷ code) = (depth ≡ 0) × (code ≡ [])

-- the instructions of an executive are closed, and run at most 2 ^ 48 cycles
pub record IsWhole (code : List Instr) : Type 0 where
  pub rest : IsRest 0 false code
  pub cycles : cycle_count code ≤ most_cycles
