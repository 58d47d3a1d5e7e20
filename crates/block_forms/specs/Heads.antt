-- What stands behind the keyword of a statement: nothing, a name, the title of a block, a text (IEEE 1450-1999, clause
-- 6).
use Rattle.std.specs.Prelude.{◌≡◌, ℕ, Bool, true, false, ◌&&◌, List, [], ◌∷◌, Option, Some, None, is_some, Result, Ok, Err, map, count_by}
use Rattle.std.specs.List.{list_any}
use Rattle.stil_tree.specs.Trees.{Trees, Entry, end}
use Rattle.stil_form.specs.declared.fault.FormFault.{FormFault}
use Rattle.stil_form.specs.declared.fault.FormKind.{FormKind}
use Rattle.stil_form.specs.declared.fault.FormKind.TheVariants.{Shape}
use Rattle.stil_form.specs.Lexeme.{Lexeme, name, text}
use Rattle.stil_form.specs.Words.{is_keyword}
use Rattle.stil_form.specs.Setting.{Setting, lexemes_at, at_statement}
use Rattle.stil_ast.specs.Data.Texts.{same}
use Rattle.pat_read.specs.Statements.{only_name}

-- what a reader of a head says, where it is to say this
abbrev pub Says : {X Y : Type 0} → (X → Y) → Result X FormKind → Result Y FormKind → Type 0
Says view (Ok x) wanted = wanted ≡ Ok (view x)
Says view (Err kind) wanted = wanted ≡ Err kind

-- a statement that must have a block, or must have none
abbrev pub where_so : {X : Type 0} → Bool → Result X FormKind → Result X FormKind
where_so true said = said
where_so false said = Err Shape

-- the first lexeme of a head, if there is one
abbrev pub first_lexeme : List Lexeme → Option Lexeme
first_lexeme [] = None
first_lexeme (one ∷ rest) = Some one

-- a head begins with this keyword
abbrev pub is_first : List ℕ → List Lexeme → Bool
is_first keyword [] = false
is_first keyword (one ∷ rest) = is_keyword keyword one

-- the one lexeme of a head, if there is just one
abbrev pub only_of : List Lexeme → Option Lexeme
only_of (one ∷ []) = Some one
only_of _ = None

-- one name, or `""` for the unnamed block
abbrev pub name_or_empty : List Lexeme → Result (List ℕ) FormKind
name_or_empty (name [] ∷ []) = Ok []
name_or_empty rest = only_name rest

-- the title of a block, which may go without one; none and `""` are one
abbrev pub title_of : List Lexeme → Result (List ℕ) FormKind
title_of [] = Ok []
title_of (called ∷ rest) = name_or_empty (called ∷ rest)

-- one text in single quotes, and nothing behind it
abbrev pub only_text : List Lexeme → Result (List ℕ) FormKind
only_text (text bytes ∷ []) = Ok bytes
only_text _ = Err Shape

-- nothing
abbrev pub nothing : List Lexeme → Result (List ℕ) FormKind
nothing [] = Ok []
nothing _ = Err Shape

-- the block of a statement, empty where it has none
abbrev pub trees_in : Option Trees → Trees
trees_in None = end
trees_in (Some stmts) = stmts

-- what stands behind the keyword of a head
abbrev pub behind_first : List Lexeme → List Lexeme
behind_first [] = []
behind_first (keyword ∷ rest) = rest

-- what stands behind a statement's keyword
abbrev pub rest_at : Setting → Entry → List Lexeme
rest_at s e = behind_first (lexemes_at s e)

-- a keyword alone, with a block
abbrev pub bare_block : Setting → Entry → Result (List ℕ) FormFault
bare_block s e = at_statement e.first (where_so (is_some e.body) (nothing (rest_at s e)))

-- a keyword and a name, with a block: the name
abbrev pub named_block : Setting → Entry → Result (List ℕ) FormFault
named_block s e = at_statement e.first (where_so (is_some e.body) (only_name (rest_at s e)))

-- a keyword and a title, which may be left away, with a block: the title
abbrev pub titled_block : Setting → Entry → Result (List ℕ) FormFault
titled_block s e = at_statement e.first (where_so (is_some e.body) (title_of (rest_at s e)))

-- names that were declared, each under a title: the name is among them
abbrev pub is_declared : List (List ℕ × List ℕ) → List ℕ → List ℕ → Bool
is_declared declared title called = list_any (λ (d : List ℕ × List ℕ). same d.0 title && same d.1 called) declared

-- how many names were declared under a title
abbrev pub count_under : List (List ℕ × List ℕ) → List ℕ → ℕ
count_under declared title = count_by (λ (d : List ℕ × List ℕ). same d.0 title) declared

-- names under one title
abbrev pub under : List ℕ → List (List ℕ) → List (List ℕ × List ℕ)
under title names = map (λ (called : List ℕ). (title, called)) names
