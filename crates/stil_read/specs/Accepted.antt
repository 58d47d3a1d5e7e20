-- The blocks that are read are those of one text: names, numbers and counts are in their ranges.
use Rattle.std.specs.Prelude.{◌≡◌, ◌≤◌, ℕ, List, length, Ok}
use Rattle.text_bytes.specs.Limits.{most_bytes}
use Rattle.stil_lex.specs.declared.token.Token.{Token}
use Rattle.stil_lex.specs.Tokens.{Reads}
use Rattle.stil_tree.specs.Trees.{Trees, entries}
use Rattle.stil_tree.specs.Grammar.{Parses}
use Rattle.stil_ast.specs.declared.blocks.Blocks.{Blocks}
use Rattle.stil_ast.specs.Data.OneText.{AreOfOneText}
use Rattle.stil_read.specs.Top.{blocks_of}

-- what is read of a text's tokens and their statements is of one text
abbrev pub BlocksAreOfOneText : Type 0
BlocksAreOfOneText =
    (bytes : List ℕ) (tokens : List Token) (forest : Trees) (blocks : Blocks) →
    length bytes ≤ most_bytes → Reads bytes tokens → Parses tokens forest →
    blocks_of bytes tokens (entries forest) ≡ Ok blocks → AreOfOneText blocks
