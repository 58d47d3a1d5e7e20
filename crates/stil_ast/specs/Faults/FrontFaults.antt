-- The first fault of a text over all passes: its tokens, its statements and its block forms, which reading finds; then
-- signals and groups, executives, and what they compile to. And the most cycles that are printed.
use Rattle.std.specs.Prelude.{◌≡◌, ℕ, ◌+◌, List, Option, Some, None, length, nat_le, sum_by, take}
use Rattle.std.specs.List.{enumerate_from}
use Rattle.text_bytes.specs.Limits.{most_listed}
use Rattle.stil_ast.specs.Faults.Found.{fault_at, unless, first_in}
use Rattle.stil_ast.specs.Faults.BurstFaults.{exec_place}
use Rattle.stil_ast.specs.Faults.TextFaults.{blocks_fault}
use Rattle.stil_ast.specs.Meaning.Executive.{exec_vectors}
use Rattle.stil_ast.specs.Meaning.Times.{Times}
use Rattle.stil_ast.specs.declared.executive.ExecDecl.{ExecDecl}
use Rattle.stil_ast.specs.declared.blocks.Blocks.{Blocks}
use Rattle.stil_ast.specs.declared.fault.StilFault.{StilFault}
use Rattle.stil_ast.specs.declared.fault.StilKind.TheVariants.{TooManyCycles}

-- what reading answers: the first fault of tokens, statements and block forms, or the blocks of the text
pub data Front : Type 0 where
  refused_by : StilFault → Front
  read_as : Blocks → Front

-- the first fault of a text, by what reading answers
abbrev pub fault_of_front : {V : Type 0} → Times V → Front → Option StilFault
fault_of_front times (refused_by fault) = Some fault
fault_of_front times (read_as blocks) = blocks_fault times blocks

-- the first fault of these bytes, or that they have none, where `Answers` relates bytes to what reading answers
abbrev pub IsFaultOf : {V : Type 0} → Times V → (List ℕ → Front → Type 0) → List ℕ → Option StilFault → Type 0
IsFaultOf times Answers bytes fault =
    (front : Front) × Answers bytes front × (fault ≡ fault_of_front times front)

-- how many cycles an executive has
abbrev pub cycle_count : Blocks → ExecDecl → ℕ
cycle_count blocks e = length (exec_vectors blocks e)

-- an executive up to which the cycles of the text are more than this
abbrev pub too_many_with : ℕ → Blocks → ℕ × ExecDecl → Option StilFault
too_many_with most blocks e =
    unless (nat_le (sum_by (cycle_count blocks) (take (e.0 + 1) blocks.executives)) most)
    (fault_at (exec_place e.1.name e.1.line) TooManyCycles) None

-- the first executive up to which they are more than this
abbrev pub too_many_beyond : ℕ → Blocks → Option StilFault
too_many_beyond most blocks = first_in (too_many_with most blocks) (enumerate_from 0 blocks.executives)

-- at most 65,536 cycles of a text are printed one by one
abbrev pub too_many_at : Blocks → Option StilFault
too_many_at blocks = too_many_beyond most_listed blocks
