-- SignalGroups blocks (IEEE 1450-1999, clause 15).
use Rattle.std.specs.Prelude.{ℕ, ◌+◌, List, [], Result, Ok}
use Rattle.stil_tree.specs.Trees.{Entry}
use Rattle.answers.specs.Reading.{and_then, reading}
use Rattle.stil_form.specs.declared.fault.FormFault.{FormFault}
use Rattle.stil_form.specs.Setting.{Setting, line_at, inner_of, unskipped}
use Rattle.stil_ast.specs.declared.signal.GroupDecl.{GroupDecl}
use Rattle.stil_ast.specs.declared.signal.GroupBlock.{GroupBlock}
use Rattle.block_forms.specs.Heads.{titled_block}
use Rattle.block_forms.specs.Quotes.{equal_text_at, quoted_at, attributes}

-- the group of a name and a text, which is the third token of its statement
abbrev pub group_of : Setting → Entry → List ℕ × List ℕ → GroupDecl
group_of s e said =
    record { name = said.0; text = quoted_at s (e.first + 2) said.1; line = line_at s.tokens e.first }

-- `name = 'text'`, behind which attributes may stand
abbrev pub judge_group : Setting → List GroupDecl → Entry → Result GroupDecl FormFault
judge_group s before e =
    and_then (equal_text_at s e) (λ said. and_then (attributes s (inner_of e.body)) (λ _. Ok (group_of s e said)))

-- the groups of a block's statements
abbrev pub groups_of : Setting → List Entry → Result (List GroupDecl) FormFault
groups_of s es = reading (judge_group s) [] (unskipped s es)

-- the block of these
abbrev pub group_block : List ℕ → List GroupDecl → GroupBlock
group_block title groups = record { name = title; groups = groups }

-- `SignalGroups { }` or `SignalGroups name { }`
abbrev pub groups_block : Setting → Entry → Result GroupBlock FormFault
groups_block s e =
    and_then (titled_block s e)
    (λ title. and_then (groups_of s (inner_of e.body)) (λ groups. Ok (group_block title groups)))
