-- Selector blocks (IEEE 1450-1999, clause 19).
use Rattle.std.specs.Prelude.{ℕ, not, Bool, List, [], ◌∷◌, map, is_some, Result, Ok, Err, if◌then◌else◌}
use Rattle.std.specs.List.{list_any}
use Rattle.stil_tree.specs.Trees.{Entry}
use Rattle.answers.specs.Reading.{and_then, reading}
use Rattle.stil_form.specs.declared.fault.FormFault.{FormFault}
use Rattle.stil_form.specs.declared.fault.FormFault.TheVariants.{Refused}
use Rattle.stil_form.specs.declared.fault.FormKind.{FormKind}
use Rattle.stil_form.specs.declared.fault.FormKind.TheVariants.{Shape, Twice}
use Rattle.stil_form.specs.Lexeme.{Lexeme}
use Rattle.stil_form.specs.Words.{named_by}
use Rattle.stil_form.specs.Setting.{Setting, lexemes_at, at_statement, inner_of, unskipped}
use Rattle.stil_ast.specs.Data.Texts.{same}
use Rattle.stil_ast.specs.declared.variable.Choice.{Choice}
use Rattle.stil_ast.specs.declared.variable.Selection.{Selection}
use Rattle.stil_ast.specs.declared.variable.Selector.{Selector}
use Rattle.timing_blocks.specs.declared.selectors.Selected.{Selected}
use Rattle.pat_read.specs.Statements.{is_there}
use Rattle.block_forms.specs.Heads.{where_so, named_block, under}
use Rattle.block_forms.specs.Keywords.{only_meaning}
use Rattle.timing_blocks.specs.Variables.{choice_words}

-- the one choice that stands behind a name
abbrev pub only_choice : List Lexeme → Result Choice FormKind
only_choice rest = is_there (only_meaning choice_words rest)

-- a name with this choice
abbrev pub selected : List ℕ → Choice → Result Selection FormKind
selected called choice = Ok (record { name = called; choice = choice })

-- what was read of a statement, without where its name lies in memory
abbrev pub selection_of : Selected → Selection
selection_of said = record { name = said.name.now; choice = said.choice }

-- `name Min` and the like
abbrev pub selection_said : List Lexeme → Result Selection FormKind
selection_said [] = Err Shape
selection_said (one ∷ rest) =
    and_then (is_there (named_by one)) (λ called. and_then (only_choice rest) (selected called))

-- what a statement of a Selector says, which has no block
abbrev pub selection_at : Setting → Entry → Result Selection FormFault
selection_at s e = at_statement e.first (where_so (not (is_some e.body)) (selection_said (lexemes_at s e)))

-- a name is among these
abbrev pub is_selected : List Selection → List ℕ → Bool
is_selected selections called = list_any (λ (c : Selection). same c.name called) selections

-- their names, as declared under no title
abbrev pub names_in : List Selection → List (List ℕ × List ℕ)
names_in selections = under [] (map (λ (c : Selection). c.name) selections)

-- a selection, of a name that isn't among those before it
abbrev pub new_selection : List Selection → Entry → Selection → Result Selection FormFault
new_selection before e c = if is_selected before c.name then Err (Refused Twice e.first) else Ok c

-- what one more statement of a Selector says
abbrev pub judge_selection : Setting → List Selection → Entry → Result Selection FormFault
judge_selection s before e = and_then (selection_at s e) (new_selection before e)

-- the selections of a block's statements
abbrev pub selections_of : Setting → List Entry → Result (List Selection) FormFault
selections_of s es = reading (judge_selection s) [] (unskipped s es)

-- the Selector of these
abbrev pub selector_of : List ℕ → List Selection → Selector
selector_of called selections = record { name = called; selections = selections }

-- `Selector name { }`
abbrev pub selector_block : Setting → Entry → Result Selector FormFault
selector_block s e =
    and_then (named_block s e)
    (λ called. and_then (selections_of s (inner_of e.body)) (λ selections. Ok (selector_of called selections)))
