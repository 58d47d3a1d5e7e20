-- How the instructions of a code nest, and the tokens of its flat text.
use Rattle.std.specs.Prelude.{◌≡◌, ℕ, ◌<◌, List, [], ◌∷◌, ◌++◌, length}
use Rattle.stil_lex.specs.Pieces.{Piece}
use Rattle.stil_lex.specs.Tokens.{tokens_of}
use Rattle.stil_lex.specs.declared.token.Token.{Token}
use Rattle.packed_code.specs.declared.instr.Instr.TheVariants.{Done}
use Rattle.packed_code.specs.Program.{Program}
use Rattle.packed_code.specs.Cycles.{exec_of}
use Rattle.line_texts.specs.Said.{pieces_of}
use Rattle.flat_parts.specs.Nests.{Nest, instrs_in}
use Rattle.flat_said.specs.FlatSaid.{flat_said}

-- the instructions of each executive nest so, with a Done behind them
abbrev pub AreNests : Program → (ℕ → Nest) → Type 0
AreNests code nests =
    (exec : ℕ) → exec < length code.execs → (exec_of code exec).instrs ≡ instrs_in (nests exec) ++ Done ∷ []

-- the pieces of the flat text
abbrev pub flat_pieces : Program → (ℕ → Nest) → List Piece
flat_pieces code nests = pieces_of (flat_said code nests)

-- its tokens
abbrev pub flat_tokens : Program → (ℕ → Nest) → List Token
flat_tokens code nests = tokens_of [] (flat_pieces code nests)
