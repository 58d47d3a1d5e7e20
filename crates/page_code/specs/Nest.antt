-- The loops that are open where instructions are read one after another.
use Rattle.std.specs.Prelude.{◌≡◌, ℕ, suc, ◌-◌, ◌≤◌, Bool, true, false, List, ◌++◌}
use Rattle.text_bytes.specs.Limits.{deepest_loops}
use Rattle.packed_code.specs.declared.instr.Instr.{Instr}
use Rattle.packed_code.specs.declared.instr.Instr.TheVariants.{Run, Loop, End, Done}
use Rattle.packed_code.specs.Whole.{IsRest}
use Rattle.page_code.specs.declared.read_instrs.Nest.{Nest}
use Rattle.page_code.specs.Reading.{open_behind, begun_behind}

-- what was read of loops, and that whatever completes it completes the whole
pub record IsNest (before : List Instr) (nest : Nest) : Type 0 where
  pub deep : nest.depth ≤ deepest_loops
  pub depth : nest.depth ≡ open_behind 0 before
  pub begun : nest.begun ≡ begun_behind false before
  pub completes : (rest : List Instr) → IsRest nest.depth nest.begun rest → IsRest 0 false (before ++ rest)

-- how many loops are open behind an instruction
abbrev pub depth_after : ℕ → Instr → ℕ
depth_after depth (Run table row mark times) = depth
depth_after depth (Loop times) = suc depth
depth_after depth End = depth - 1
depth_after depth Done = depth

-- whether an instruction is a Loop
abbrev pub begins : Instr → Bool
begins (Run table row mark times) = false
begins (Loop times) = true
begins End = false
begins Done = false
