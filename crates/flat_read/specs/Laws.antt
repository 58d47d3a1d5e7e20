-- A text that is the statements of a code's flat text is read as the blocks that these say.
use Rattle.std.specs.Prelude.{◌≡◌, ℕ, ◌<◌, List, length, Result, Ok, Err}
use Rattle.text_bytes.specs.Limits.{most_tables}
use Rattle.packed_code.specs.Program.{Program}
use Rattle.packed_code.specs.Conditions.{IsProgram}
use Rattle.stil_lex.specs.declared.token.Token.{Token}
use Rattle.stil_tree.specs.Trees.{entries}
use Rattle.stil_form.specs.declared.fault.FormFault.TheVariants.{NoMemory, Refused}
use Rattle.stil_form.specs.declared.fault.FormKind.TheVariants.{OutOfRange}
use Rattle.stil_form.specs.Lexeme.{lexemes_of}
use Rattle.stil_ast.specs.declared.blocks.Blocks.{Blocks}
use Rattle.stil_read.specs.Top.{TextFault, in_statement, nowhere, blocks_of}
use Rattle.line_texts.specs.Said.{pieces_of, trees_at}
use Rattle.line_texts.specs.Lexemes.{lexemes_in}
use Rattle.flat_parts.specs.Nests.{Nest}
use Rattle.flat_parts.specs.FlatBlocks.{own_numbers, AreFlatBlocks}
use Rattle.flat_said.specs.FlatSaid.{flat_said}
use Rattle.flat_said.specs.Laws.{AreNests}

-- the Runs of an executive name more tables than a Timing may have
abbrev pub HasTooMany : Program → Type 0
HasTooMany code = (exec : ℕ) × (exec < length code.execs) × (most_tables < length (own_numbers code exec))

-- nothing else of a flat text is beyond its limit
abbrev pub IsBeyond : Program → TextFault → Type 0
IsBeyond code (in_statement (Refused kind first)) = (kind ≡ OutOfRange) × HasTooMany code
IsBeyond code (in_statement NoMemory) = ⊥
IsBeyond code (nowhere kind) = ⊥

-- what a flat text is read as: its blocks, or this fault
abbrev pub IsReading : Program → Result Blocks TextFault → Type 0
IsReading code (Ok blocks) = AreFlatBlocks code blocks
IsReading code (Err fault) = IsBeyond code fault

-- a text with these lexemes is read so
abbrev pub SaidIsRead : Type 0
SaidIsRead =
    (code : Program) (nests : ℕ → Nest) (bytes : List ℕ) (tokens : List Token) → IsProgram code → AreNests code nests
    → lexemes_of bytes tokens ≡ lexemes_in (pieces_of (flat_said code nests))
    → IsReading code (blocks_of bytes tokens (entries (trees_at 0 (flat_said code nests))))
