-- Spec blocks (IEEE 1450-1999, clause 19).
use Rattle.std.specs.Prelude.{ℕ, ◌+◌, not, Bool, true, false, List, [], ◌∷◌, codes, Option, Some, None, is_some, option_map, Result, Ok, Err, if◌then◌else◌}
use Rattle.std.specs.List.{find}
use Rattle.stil_tree.specs.Trees.{Entry}
use Rattle.answers.specs.Reading.{and_then, reading}
use Rattle.stil_form.specs.declared.fault.FormFault.{FormFault}
use Rattle.stil_form.specs.declared.fault.FormFault.TheVariants.{Refused}
use Rattle.stil_form.specs.declared.fault.FormKind.{FormKind}
use Rattle.stil_form.specs.declared.fault.FormKind.TheVariants.{LeftOut, Twice}
use Rattle.stil_form.specs.Lexeme.{Lexeme}
use Rattle.stil_form.specs.Setting.{Setting, lexemes_at, line_at, at_statement, inner_of, unskipped}
use Rattle.stil_ast.specs.declared.name.Quoted.{Quoted}
use Rattle.stil_ast.specs.declared.variable.Choice.{Choice}
use Rattle.stil_ast.specs.declared.variable.Choice.TheVariants.{Min, Typ, Max, Meas}
use Rattle.stil_ast.specs.declared.variable.Choices.{Choices}
use Rattle.stil_ast.specs.declared.variable.VariableValue.{VariableValue}
use Rattle.stil_ast.specs.declared.variable.VariableValue.TheVariants.{Same, Chosen}
use Rattle.stil_ast.specs.declared.variable.VariableDecl.{VariableDecl}
use Rattle.stil_ast.specs.declared.variable.Category.{Category}
use Rattle.stil_ast.specs.declared.variable.SpecBlock.{SpecBlock}
use Rattle.pat_read.specs.Statements.{only_name}
use Rattle.block_forms.specs.Keywords.{meaning}
use Rattle.block_forms.specs.Heads.{is_first, where_so, only_text, named_block, titled_block}
use Rattle.block_forms.specs.Quotes.{equal_text_at, quoted_at}

-- the keywords that name choices
abbrev pub choice_words : List (List ℕ × Choice)
choice_words = (codes "Min", Min) ∷ (codes "Typ", Typ) ∷ (codes "Max", Max) ∷ (codes "Meas", Meas) ∷ []

-- a choice with this text
abbrev pub chosen_text : Choice → List ℕ → Result (Choice × List ℕ) FormKind
chosen_text choice bytes = Ok (choice, bytes)

-- a text behind a choice, or a keyword that is none
abbrev pub choice_by : Option Choice → Bool → List Lexeme → Result (Choice × List ℕ) FormKind
choice_by None has_block rest = Err LeftOut
choice_by (Some choice) has_block rest = where_so (not has_block) (and_then (only_text rest) (chosen_text choice))

-- `Min 'text'` and the like, which has no block
abbrev pub choice_said : Bool → List Lexeme → Result (Choice × List ℕ) FormKind
choice_said has_block [] = Err LeftOut
choice_said has_block (one ∷ rest) = choice_by (meaning choice_words one) has_block rest

-- what a statement of a variable's block says
abbrev pub choice_at : Setting → Entry → Result (Choice × List ℕ) FormFault
choice_at s e = at_statement e.first (choice_said (is_some e.body) (lexemes_at s e))

-- two choices are one
abbrev pub same_choice : Choice → Choice → Bool
same_choice Min Min = true
same_choice Typ Typ = true
same_choice Max Max = true
same_choice Meas Meas = true
same_choice _ _ = false

-- the text that is said for a choice
abbrev pub text_for : Choice → List (Choice × Quoted) → Option Quoted
text_for choice said =
    option_map (λ (one : Choice × Quoted). one.1) (find (λ (one : Choice × Quoted). same_choice one.0 choice) said)

-- a choice that isn't among those before it, with its text, which is the second token of its statement
abbrev pub new_choice : Setting → List (Choice × Quoted) → Entry → Choice × List ℕ
    → Result (Choice × Quoted) FormFault
new_choice s before e said =
    if is_some (text_for said.0 before) then Err (Refused Twice e.first)
    else Ok (said.0, quoted_at s (e.first + 1) said.1)

-- what one more statement of a variable's block says
abbrev pub judge_choice : Setting → List (Choice × Quoted) → Entry → Result (Choice × Quoted) FormFault
judge_choice s before e = and_then (choice_at s e) (new_choice s before e)

-- the texts of these, by their choices
abbrev pub choices_in : List (Choice × Quoted) → Choices
choices_in said =
    record { min = text_for Min said; typ = text_for Typ said; max = text_for Max said; meas = text_for Meas said }

-- the texts of a variable's block
abbrev pub choices_of : Setting → List Entry → Result Choices FormFault
choices_of s es = and_then (reading (judge_choice s) [] (unskipped s es)) (λ said. Ok (choices_in said))

-- a variable of a name
abbrev pub variable_of : Setting → Entry → List ℕ → VariableValue → VariableDecl
variable_of s e called value = record { name = called; value = value; line = line_at s.tokens e.first }

-- the name in front of a variable's block
abbrev pub variable_name_at : Setting → Entry → Result (List ℕ) FormFault
variable_name_at s e = at_statement e.first (only_name (lexemes_at s e))

-- `name { }`
abbrev pub chosen_variable : Setting → Entry → Result VariableDecl FormFault
chosen_variable s e =
    and_then (variable_name_at s e)
    (λ called. and_then (choices_of s (inner_of e.body)) (λ choices. Ok (variable_of s e called (Chosen choices))))

-- `name = 'text'`, of which the text is the third token
abbrev pub same_variable : Setting → Entry → Result VariableDecl FormFault
same_variable s e =
    and_then (equal_text_at s e)
    (λ said. Ok (variable_of s e said.0 (Same (quoted_at s (e.first + 2) said.1))))

-- a variable
abbrev pub judge_variable : Setting → List VariableDecl → Entry → Result VariableDecl FormFault
judge_variable s before e = if is_some e.body then chosen_variable s e else same_variable s e

-- the variables of a category's statements
abbrev pub variables_of : Setting → List Entry → Result (List VariableDecl) FormFault
variables_of s es = reading (judge_variable s) [] (unskipped s es)

-- the name of `Category name { }`; any other statement is left out
abbrev pub category_at : Setting → Entry → Result (List ℕ) FormFault
category_at s e =
    if is_first (codes "Category") (lexemes_at s e) then named_block s e else Err (Refused LeftOut e.first)

-- the category of these
abbrev pub category_of : List ℕ → List VariableDecl → Category
category_of called variables = record { name = called; variables = variables }

-- a category
abbrev pub judge_category : Setting → List Category → Entry → Result Category FormFault
judge_category s before e =
    and_then (category_at s e)
    (λ called. and_then (variables_of s (inner_of e.body)) (λ variables. Ok (category_of called variables)))

-- the categories of a block's statements
abbrev pub categories_of : Setting → List Entry → Result (List Category) FormFault
categories_of s es = reading (judge_category s) [] (unskipped s es)

-- the block of these
abbrev pub spec_of : List ℕ → List Category → SpecBlock
spec_of title categories = record { name = title; categories = categories }

-- `Spec { }` or `Spec name { }`
abbrev pub spec_block : Setting → Entry → Result SpecBlock FormFault
spec_block s e =
    and_then (titled_block s e)
    (λ title. and_then (categories_of s (inner_of e.body)) (λ categories. Ok (spec_of title categories)))
