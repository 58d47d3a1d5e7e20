-- A text is saved where its numbers make few bytes: `saved_by_numbers`.
use Rattle.std.proofs.Common.{◌≡◌, ℕ, List, sym, ap, subst, arith}
use Rattle.stil_ast.specs.declared.blocks.Blocks.{Blocks}
use Rattle.stil_ast.specs.Faults.FrontFaults.{Front, refused_by, read_as}
use Rattle.packed_code.specs.Program.{Program}
use Rattle.page_code.specs.declared.version.Version.TheVariants.{Two}
use Rattle.saved_laws.proofs.SizeLemmas.{saved_short}
use Rattle.stil_program.specs.Program.{IsTextOf, IsProgramOf, IsBlocksCode}
use Rattle.stil_program.proofs.FrontLemmas.{one_front}
use Rattle.stil_program.proofs.AnswerLemmas.{no_fault}
use Rattle.text_commands.specs.Laws.{SavedByNumbers}
use Rattle.text_commands.proofs.NumberLemmas.{saved_few}

-- what is read, where it isn't refused
abbrev blocks_or : Blocks → Front → Blocks
blocks_or none (refused_by fault) = none
blocks_or none (read_as blocks) = blocks

-- a code of a text is that of its blocks
pub code_of_blocks : (bytes : List ℕ) (blocks : Blocks) (code : Program) → IsTextOf bytes blocks → IsProgramOf bytes code
    → IsBlocksCode blocks code
code_of_blocks bytes blocks code text is =
    let same : blocks ≡ is.blocks = ap (blocks_or blocks) (one_front bytes (read_as blocks)
    (read_as is.blocks) text.read is.text.read) in
    subst (λ (b : Blocks). IsBlocksCode b code) (sym same) is.compiled

pub saved_by_numbers : SavedByNumbers
saved_by_numbers bytes blocks text fits = (
  no_fault bytes blocks text,
  λ code is whole.
      let short = saved_short Two code whole in
      let few = saved_few blocks code (code_of_blocks bytes blocks code text is) in
      omega (arith, short, few, fits),
)
