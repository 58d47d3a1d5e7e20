-- What statements with texts in single quotes say, and the blocks of attributes behind them (IEEE 1450-1999, clauses
-- 14, 15 and 19).
use Rattle.std.specs.Prelude.{ℕ, List, [], ◌∷◌, codes, Result, Ok, Err, if◌then◌else◌}
use Rattle.stil_tree.specs.Trees.{Entry}
use Rattle.answers.specs.Reading.{and_then, stepping}
use Rattle.stil_form.specs.declared.fault.FormFault.{FormFault}
use Rattle.stil_form.specs.declared.fault.FormKind.{FormKind}
use Rattle.stil_form.specs.declared.fault.FormKind.TheVariants.{Shape, LeftOut}
use Rattle.stil_form.specs.declared.part.SignKind.TheVariants.{Equals}
use Rattle.stil_form.specs.Lexeme.{Lexeme, sign}
use Rattle.stil_form.specs.Words.{is_keyword, named_by}
use Rattle.stil_form.specs.Setting.{Setting, lexemes_at, line_at, at_statement, unskipped}
use Rattle.stil_ast.specs.declared.name.Quoted.{Quoted}
use Rattle.pat_read.specs.Statements.{is_there}
use Rattle.block_forms.specs.Heads.{only_text}

-- the text behind an `=`, and nothing behind it
abbrev pub text_behind : List Lexeme → Result (List ℕ) FormKind
text_behind (sign Equals ∷ rest) = only_text rest
text_behind _ = Err Shape

-- a name with this text
abbrev pub texted : List ℕ → List ℕ → Result (List ℕ × List ℕ) FormKind
texted called bytes = Ok (called, bytes)

-- `name = 'text'`: the name and the text
abbrev pub equal_text : List Lexeme → Result (List ℕ × List ℕ) FormKind
equal_text [] = Err Shape
equal_text (one ∷ rest) = and_then (is_there (named_by one)) (λ called. and_then (text_behind rest) (texted called))

-- the name and the text of `name = 'text'`, by a statement's head
abbrev pub equal_text_at : Setting → Entry → Result (List ℕ × List ℕ) FormFault
equal_text_at s e = at_statement e.first (equal_text (lexemes_at s e))

-- a text that is the token at an index, on that token's line
abbrev pub quoted_at : Setting → ℕ → List ℕ → Quoted
quoted_at s index bytes = record { text = bytes; line = line_at s.tokens index }

-- an attribute says nothing, but a Termination is left out
abbrev pub attribute_said : List Lexeme → Result (Unit {0}) FormKind
attribute_said [] = Ok tt
attribute_said (one ∷ rest) = if is_keyword (codes "Termination") one then Err LeftOut else Ok tt

-- the same of a statement
abbrev pub attribute_step : Setting → Unit {0} → Entry → Result (Unit {0}) FormFault
attribute_step s before e = at_statement e.first (attribute_said (lexemes_at s e))

-- the statements of a block of attributes
abbrev pub attributes : Setting → List Entry → Result (Unit {0}) FormFault
attributes s es = stepping (attribute_step s) tt (unskipped s es)
