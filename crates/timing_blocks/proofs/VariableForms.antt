-- Variables and selections that are read have their forms.
use Rattle.std.proofs.Common.{◌≡◌, ℕ, ◌+◌, ◌<◌, Bool, true, false, not, cond, ◌&&◌, List, [], ◌∷◌, ◌++◌, map, length, Option, Some, None, is_some, Result, Ok, refl, ap, subst, ◌∙◌, arith}
use Rattle.std.specs.Prelude.{codes}
use Rattle.std.specs.List.{list_all}
use Rattle.std.proofs.lemmas.Bool.{and_parts, and_from}
use Rattle.std.proofs.lemmas.List.{map-append}
use Rattle.stil_ast.specs.Meaning.Variables.{chosen_of}
use Rattle.text_bytes.proofs.ListLemmas.{list_any-map}
use Rattle.answers.specs.Reading.{and_then}
use Rattle.stil_tree.specs.Trees.{Entry}
use Rattle.stil_form.specs.declared.fault.FormFault.{FormFault}
use Rattle.stil_form.specs.declared.fault.FormFault.TheVariants.{Refused}
use Rattle.stil_form.specs.declared.fault.FormKind.{FormKind}
use Rattle.stil_form.specs.declared.fault.FormKind.TheVariants.{LeftOut, Twice}
use Rattle.stil_form.specs.Lexeme.{Lexeme}
use Rattle.stil_form.specs.Words.{named_by}
use Rattle.stil_form.specs.Setting.{Setting, lexemes_at, line_at, inner_of, unskipped}
use Rattle.stil_ast.specs.Data.Texts.{is_name, same}
use Rattle.stil_ast.specs.Data.Forms.{all_differ, is_line, is_absent_or, is_optional_name, is_quoted}
use Rattle.stil_ast.specs.Data.BlockForms.{are_choices, is_variable_decl, is_category, is_spec_block, is_selector}
use Rattle.stil_ast.specs.declared.name.Quoted.{Quoted}
use Rattle.stil_ast.specs.declared.variable.Choice.{Choice}
use Rattle.stil_ast.specs.declared.variable.Choice.TheVariants.{Min, Typ, Max, Meas}
use Rattle.stil_ast.specs.declared.variable.Choices.{Choices}
use Rattle.stil_ast.specs.declared.variable.VariableValue.TheVariants.{Same, Chosen}
use Rattle.stil_ast.specs.declared.variable.VariableDecl.{VariableDecl}
use Rattle.stil_ast.specs.declared.variable.Category.{Category}
use Rattle.stil_ast.specs.declared.variable.SpecBlock.{SpecBlock}
use Rattle.stil_ast.specs.declared.variable.Selection.{Selection}
use Rattle.stil_ast.specs.declared.variable.Selector.{Selector}
use Rattle.pat_read.specs.Statements.{is_there, only_name}
use Rattle.block_forms.specs.Keywords.{meaning}
use Rattle.block_forms.specs.Heads.{is_first, where_so, only_text, named_block, titled_block}
use Rattle.block_forms.specs.Quotes.{equal_text_at, quoted_at}
use Rattle.timing_blocks.specs.Variables.{choice_words, chosen_text, choice_by, choice_said, choice_at, choices_of, variable_of, variable_name_at, chosen_variable, same_variable, judge_variable, variables_of, category_at, category_of, judge_category, categories_of, spec_of, spec_block}
use Rattle.timing_blocks.specs.Selectors.{only_choice, selected, selection_said, selection_at, is_selected, new_selection, judge_selection, selections_of, selector_of, selector_block}
use Rattle.timing_blocks.specs.Working.{given, none_given, give_once, choice_step}
use Rattle.timing_blocks.proofs.ChoiceLemmas.{choices_computed}
use Rattle.pat_read.proofs.AcceptedBodies.{all_three, is_name-only_name}
use Rattle.block_forms.proofs.DeclaredForms.{all_differ-push}
use Rattle.pat_read.specs.Accepted.{HasLines}
use Rattle.pat_read.proofs.AcceptedLemmas.{both_ok, said_at, reading-each, reading-keeps, list_all-one, first_line}
use Rattle.block_forms.proofs.FormLemmas.{said_where, made_unless, said_so, stepping-keeps, is_name-named_block, is_optional_name-titled_block}
use Rattle.block_forms.proofs.QuoteForms.{same_ok, is_name-there, line_in_head, equal_text_at-is}

-- a text is the first token
only_text-length : (rest : List Lexeme) (bytes : List ℕ) → only_text rest ≡ Ok bytes → 0 < length rest
only_text-length [] bytes is = cc
only_text-length (one ∷ rest) bytes is = omega arith

-- the text behind a choice is the second token
choice_by-length : (o : Option Choice) (has_block : Bool) (rest : List Lexeme) (said : Choice × List ℕ)
    → choice_by o has_block rest ≡ Ok said → 0 < length rest
choice_by-length None has_block rest said is = cc
choice_by-length (Some choice) has_block rest said is =
    let both = both_ok (only_text rest) (chosen_text choice) said
    (said_so (not has_block) (and_then (only_text rest) (chosen_text choice)) said is) in
    only_text-length rest both.given both.met

choice_said-length : (has_block : Bool) (head : List Lexeme) (said : Choice × List ℕ)
    → choice_said has_block head ≡ Ok said → 1 < length head
choice_said-length has_block [] said is = cc
choice_said-length has_block (one ∷ rest) said is =
    let long = choice_by-length (meaning choice_words one) has_block rest said is in omega (arith, long)

-- four tests that pass
four_are : (a b c d : Bool) → a ≡ true → b ≡ true → c ≡ true → d ≡ true → (a && b && c && d) ≡ true
four_are a b c d p q r t = and_from (a && b && c) d (all_three a b c p q r) t

-- the four texts of choices
four_parts : (c : Choices) → are_choices c ≡ true
    → (is_absent_or is_quoted c.min ≡ true) × (is_absent_or is_quoted c.typ ≡ true) × (is_absent_or is_quoted c.max ≡ true)
    × (is_absent_or is_quoted c.meas ≡ true)
four_parts c are =
    let three = and_parts (is_absent_or is_quoted c.min && is_absent_or is_quoted c.typ && is_absent_or is_quoted
    c.max) (is_absent_or is_quoted c.meas) are in
    let two = and_parts (is_absent_or is_quoted c.min && is_absent_or is_quoted c.typ)
    (is_absent_or is_quoted c.max) three.0 in
    let one = and_parts (is_absent_or is_quoted c.min) (is_absent_or is_quoted c.typ) two.0 in
    (one.0, one.1, two.1, three.1)

-- a text more leaves choices of that form
given-are : (choice : Choice) (q : Quoted) (c : Choices) → is_quoted q ≡ true → are_choices c ≡ true
    → are_choices (given choice q c) ≡ true
given-are Min q c fits are =
    let p = four_parts c are in four_are (is_quoted q) (is_absent_or is_quoted c.typ) (is_absent_or is_quoted c.max)
    (is_absent_or is_quoted c.meas) fits p.1 p.2 p.3
given-are Typ q c fits are =
    let p = four_parts c are in four_are (is_absent_or is_quoted c.min) (is_quoted q) (is_absent_or is_quoted c.max)
    (is_absent_or is_quoted c.meas) p.0 fits p.2 p.3
given-are Max q c fits are =
    let p = four_parts c are in four_are (is_absent_or is_quoted c.min) (is_absent_or is_quoted c.typ) (is_quoted q)
    (is_absent_or is_quoted c.meas) p.0 p.1 fits p.3
given-are Meas q c fits are =
    let p = four_parts c are in four_are (is_absent_or is_quoted c.min) (is_absent_or is_quoted c.typ)
    (is_absent_or is_quoted c.max) (is_quoted q) p.0 p.1 p.2 fits

-- one more statement of a variable's block
choice_step-are : (s : Setting) → HasLines s → (before : Choices) (e : Entry) (next : Choices)
    → choice_step s before e ≡ Ok next → are_choices before ≡ true → are_choices next ≡ true
choice_step-are s lines before e next is held =
    let both = both_ok (choice_at s e) (give_once s before e) next is in
    let long = choice_said-length (is_some e.body) (lexemes_at s e) both.given
    (said_at e.first (choice_said (is_some e.body) (lexemes_at s e)) both.given both.met) in
    let q : Quoted = quoted_at s (e.first + 1) both.given.1 in
    let answered = made_unless (is_some (chosen_of both.given.0 before)) (Refused Twice e.first)
    (given both.given.0 q before) next both.made in
    subst (λ (c : Choices). are_choices c ≡ true) answered.1
    (given-are both.given.0 q before (line_in_head s lines e 1 long) held)

-- the texts of a variable's block
choices_of-are : (s : Setting) → HasLines s → (es : List Entry) (c : Choices) → choices_of s es ≡ Ok c
    → are_choices c ≡ true
choices_of-are s lines es c is =
    stepping-keeps (choice_step s) (λ c. are_choices c ≡ true)
    (λ before e next. choice_step-are s lines before e next) none_given (unskipped s es) c
    (choices_computed s (unskipped s es) ∙ is) refl

-- one name is one token
only_name-length : (head : List Lexeme) (called : List ℕ) → only_name head ≡ Ok called → 0 < length head
only_name-length [] called is = cc
only_name-length (one ∷ rest) called is = omega arith

-- a variable with a block
chosen_variable-is : (s : Setting) → HasLines s → (e : Entry) (d : VariableDecl) → chosen_variable s e ≡ Ok d
    → is_variable_decl d ≡ true
chosen_variable-is s lines e d is =
    let head = both_ok (variable_name_at s e)
    (λ called. and_then (choices_of s (inner_of e.body)) (λ choices. Ok (variable_of s e called (Chosen choices))))
    d is in
    let inside = both_ok (choices_of s (inner_of e.body))
    (λ choices. Ok (variable_of s e head.given (Chosen choices))) d head.made in
    let said = said_at e.first (only_name (lexemes_at s e)) head.given head.met in
    subst (λ (x : VariableDecl). is_variable_decl x ≡ true)
    (same_ok (variable_of s e head.given (Chosen inside.given)) d inside.made)
    (all_three (is_name head.given) (are_choices inside.given) (is_line (line_at s.tokens e.first))
    (is_name-only_name (lexemes_at s e) head.given said)
    (choices_of-are s lines (inner_of e.body) inside.given inside.met)
    (first_line s lines e (only_name-length (lexemes_at s e) head.given said)))

-- a variable with one text
same_variable-is : (s : Setting) → HasLines s → (e : Entry) (d : VariableDecl) → same_variable s e ≡ Ok d
    → is_variable_decl d ≡ true
same_variable-is s lines e d is =
    let head = both_ok (equal_text_at s e)
    (λ said. Ok (variable_of s e said.0 (Same (quoted_at s (e.first + 2) said.1)))) d is in
    let fits = equal_text_at-is s lines e head.given head.met in
    subst (λ (x : VariableDecl). is_variable_decl x ≡ true)
    (same_ok (variable_of s e head.given.0 (Same (quoted_at s (e.first + 2) head.given.1))) d head.made)
    (all_three (is_name head.given.0) (is_quoted (quoted_at s (e.first + 2) head.given.1))
    (is_line (line_at s.tokens e.first))
    fits.named fits.quoted fits.lined)

-- either of two that have the form
either_is : (b : Bool) (x y : Result VariableDecl FormFault) (d : VariableDecl)
    → (x ≡ Ok d → is_variable_decl d ≡ true) → (y ≡ Ok d → is_variable_decl d ≡ true) → cond b x y ≡ Ok d
    → is_variable_decl d ≡ true
either_is true x y d one other is = one is
either_is false x y d one other is = other is

judge_variable-is : (s : Setting) → HasLines s → (before : List VariableDecl) (e : Entry) (d : VariableDecl)
    → judge_variable s before e ≡ Ok d → is_variable_decl d ≡ true
judge_variable-is s lines before e d is =
    either_is (is_some e.body) (chosen_variable s e) (same_variable s e) d (chosen_variable-is s lines e d)
    (same_variable-is s lines e d) is

-- a category
judge_category-is : (s : Setting) → HasLines s → (before : List Category) (e : Entry) (c : Category)
    → judge_category s before e ≡ Ok c → is_category c ≡ true
judge_category-is s lines before e c is =
    let head = both_ok (category_at s e)
    (λ called. and_then (variables_of s (inner_of e.body)) (λ variables. Ok (category_of called variables))) c is in
    let inside = both_ok (variables_of s (inner_of e.body)) (λ variables. Ok (category_of head.given variables)) c
    head.made in
    let called = (said_where (is_first (codes "Category") (lexemes_at s e)) (named_block s e)
    (Refused LeftOut e.first) head.given head.met).1 in
    subst (λ (x : Category). is_category x ≡ true) (same_ok (category_of head.given inside.given) c inside.made)
    (and_from (is_name head.given) (list_all is_variable_decl inside.given)
    (is_name-named_block s e head.given called)
    (reading-each (judge_variable s) is_variable_decl (λ before x d. judge_variable-is s lines before x d)
    (unskipped s (inner_of e.body)) inside.given inside.met))

-- a Spec block has its form
pub spec_block-is : (s : Setting) → HasLines s → (e : Entry) (b : SpecBlock) → spec_block s e ≡ Ok b
    → is_spec_block b ≡ true
spec_block-is s lines e b is =
    let head = both_ok (titled_block s e)
    (λ title. and_then (categories_of s (inner_of e.body)) (λ categories. Ok (spec_of title categories))) b is in
    let inside = both_ok (categories_of s (inner_of e.body)) (λ categories. Ok (spec_of head.given categories)) b
    head.made in
    subst (λ (x : SpecBlock). is_spec_block x ≡ true) (same_ok (spec_of head.given inside.given) b inside.made)
    (and_from (is_optional_name head.given) (list_all is_category inside.given)
    (is_optional_name-titled_block s e head.given head.met)
    (reading-each (judge_category s) is_category (λ before x c. judge_category-is s lines before x c)
    (unskipped s (inner_of e.body)) inside.given inside.met))

-- what a statement of a Selector says has a name
selection_said-is : (head : List Lexeme) (c : Selection) → selection_said head ≡ Ok c → is_name c.name ≡ true
selection_said-is [] c is = cc
selection_said-is (one ∷ rest) c is =
    let head = both_ok (is_there (named_by one)) (λ called. and_then (only_choice rest) (selected called)) c is in
    let behind = both_ok (only_choice rest) (selected head.given) c head.made in
    subst (λ (x : Selection). is_name x.name ≡ true)
    (same_ok {F = FormKind} (record { name = head.given; choice = behind.given }) c behind.made)
    (is_name-there one head.given head.met)

-- selections: each has a name, and no name stands twice
record AreSelections (cs : List Selection) : Type 0 where
  named : list_all (λ (c : Selection). is_name c.name) cs ≡ true
  differ : all_differ same (map (λ (c : Selection). c.name) cs) ≡ true

-- one more selection
judge_selection-are : (s : Setting) (before : List Selection) (e : Entry) (x : Selection)
    → judge_selection s before e ≡ Ok x → AreSelections before → AreSelections (before ++ x ∷ [])
judge_selection-are s before e x is held =
    let both = both_ok (selection_at s e) (new_selection before e) x is in
    let c = both.given in
    let said = said_so (not (is_some e.body)) (selection_said (lexemes_at s e)) c
    (said_at e.first (where_so (not (is_some e.body)) (selection_said (lexemes_at s e))) c both.met) in
    let answered = made_unless (is_selected before c.name) (Refused Twice e.first) c x both.made in
    subst (λ (one : Selection). AreSelections (before ++ one ∷ [])) answered.1
    (record {
      named = list_all-one (λ (x : Selection). is_name x.name) before c held.named
          (selection_said-is (lexemes_at s e) c said);
      differ =
          ap (all_differ same) (map-append (λ (x : Selection). x.name) before (c ∷ []))
          ∙ all_differ-push same (map (λ (x : Selection). x.name) before) c.name held.differ
          (list_any-map (λ (x : Selection). x.name) (λ n. same n c.name) before ∙ answered.0);
    })

-- a Selector block has its form
pub selector_block-is : (s : Setting) (e : Entry) (b : Selector) → selector_block s e ≡ Ok b → is_selector b ≡ true
selector_block-is s e b is =
    let head = both_ok (named_block s e)
    (λ called. and_then (selections_of s (inner_of e.body)) (λ selections. Ok (selector_of called selections))) b
    is in
    let inside = both_ok (selections_of s (inner_of e.body)) (λ selections. Ok (selector_of head.given selections))
    b head.made in
    let are = reading-keeps (judge_selection s) AreSelections (λ before e x. judge_selection-are s before e x)
    []
    (unskipped s (inner_of e.body)) inside.given inside.met (record { named = refl; differ = refl }) in
    subst (λ (x : Selector). is_selector x ≡ true) (same_ok (selector_of head.given inside.given) b inside.made)
    (all_three (is_name head.given) (list_all (λ (c : Selection). is_name c.name) inside.given)
    (all_differ same (map (λ (c : Selection). c.name) inside.given))
    (is_name-named_block s e head.given head.met) are.named are.differ)
