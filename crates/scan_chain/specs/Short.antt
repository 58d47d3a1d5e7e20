-- How long the chains of one text are.
use Rattle.std.specs.Prelude.{◌≡◌, ◌&&◌, Bool, true, length, nat_le}
use Rattle.std.specs.List.{list_all}
use Rattle.text_bytes.specs.Limits.{most_cells}
use Rattle.stil_ast.specs.Data.OneText.{AreOfOneText}
use Rattle.stil_ast.specs.Meaning.Chains.{Chain}
use Rattle.stil_ast.specs.Meaning.Executive.{chain_list}
use Rattle.stil_ast.specs.declared.blocks.Blocks.{Blocks}
use Rattle.stil_ast.specs.declared.executive.ExecDecl.{ExecDecl}

-- a chain whose length and whose cells are not too many
abbrev pub is_short : Chain → Bool
is_short c = nat_le c.length most_cells && nat_le (length c.cells) most_cells

-- all chains of one text are short
abbrev pub ChainsAreShort : Type 0
ChainsAreShort = (blocks : Blocks) (e : ExecDecl) → AreOfOneText blocks → list_all is_short (chain_list blocks e) ≡ true
