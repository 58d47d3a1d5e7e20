-- Statements with texts in single quotes that are read have their form.
use Rattle.std.proofs.Common.{◌≡◌, ℕ, ◌+◌, ◌<◌, true, List, [], ◌∷◌, length, Result, Ok, subst, arith}
use Rattle.answers.specs.Reading.{and_then}
use Rattle.stil_tree.specs.Trees.{Entry}
use Rattle.stil_form.specs.declared.fault.FormKind.{FormKind}
use Rattle.stil_form.specs.declared.part.SignKind.TheVariants.{Equals}
use Rattle.stil_form.specs.Lexeme.{Lexeme, sign}
use Rattle.stil_form.specs.Words.{named_by}
use Rattle.stil_form.specs.Setting.{Setting, lexemes_at, line_at}
use Rattle.stil_ast.specs.Data.Texts.{is_name}
use Rattle.stil_ast.specs.Data.Forms.{is_line, is_quoted}
use Rattle.pat_read.specs.Statements.{is_there}
use Rattle.pat_read.specs.Accepted.{HasLines}
use Rattle.pat_read.proofs.AcceptedLemmas.{both_ok, said_at, within_tokens, first_line, is_name-named_by}
use Rattle.pat_read.proofs.AcceptedBodies.{there}
use Rattle.block_forms.specs.Quotes.{text_behind, texted, equal_text, equal_text_at, quoted_at}

-- what is answered is the same
pub same_ok : {X F : Type 0} (x y : X) → ◌≡◌ {A = Result X F} (Ok x) (Ok y) → x ≡ y
same_ok x y is = cc

-- a name that is there
pub is_name-there : (one : Lexeme) (called : List ℕ) → is_there (named_by one) ≡ Ok called → is_name called ≡ true
is_name-there one called is = is_name-named_by one called (there (named_by one) called is)

-- where a head has a lexeme there is a token, which has a line
pub line_in_head : (s : Setting) → HasLines s → (e : Entry) (n : ℕ) → n < length (lexemes_at s e)
    → is_line (line_at s.tokens (e.first + n)) ≡ true
line_in_head s lines e n there = lines (e.first + n) (within_tokens s e n there)

-- a text behind an `=` is the second token
text_behind-length : (rest : List Lexeme) (bytes : List ℕ) → text_behind rest ≡ Ok bytes → 1 < length rest
text_behind-length (sign Equals ∷ []) bytes is = cc
text_behind-length (sign Equals ∷ one ∷ rest) bytes is = omega arith
text_behind-length _ bytes is = cc

-- `name = 'text'` has a name, and its text is the third token
equal_text-is : (head : List Lexeme) (said : List ℕ × List ℕ) → equal_text head ≡ Ok said
    → (is_name said.0 ≡ true) × (2 < length head)
equal_text-is [] said is = cc
equal_text-is (one ∷ rest) said is =
    let head = both_ok (is_there (named_by one)) (λ called. and_then (text_behind rest) (texted called)) said is in
    let behind = both_ok (text_behind rest) (texted head.given) said head.made in
    let long = text_behind-length rest behind.given behind.met in (
      subst (λ (x : List ℕ × List ℕ). is_name x.0 ≡ true)
          (same_ok {F = FormKind} (head.given, behind.given) said behind.made)
          (is_name-there one head.given head.met),
      omega (arith, long),
    )

-- a statement of that form: the name, its own line, and that of its text
pub record IsEqualText (s : Setting) (e : Entry) (said : List ℕ × List ℕ) : Type 0 where
  pub named : is_name said.0 ≡ true
  pub lined : is_line (line_at s.tokens e.first) ≡ true
  pub quoted : is_quoted (quoted_at s (e.first + 2) said.1) ≡ true

pub equal_text_at-is : (s : Setting) → HasLines s → (e : Entry) (said : List ℕ × List ℕ)
    → equal_text_at s e ≡ Ok said
    → IsEqualText s e said
equal_text_at-is s lines e said is =
    let parts = equal_text-is (lexemes_at s e) said (said_at e.first (equal_text (lexemes_at s e)) said is) in
    record {
      named = parts.0;
      lined = first_line s lines e (omega (arith, parts.1));
      quoted = line_in_head s lines e 2 parts.1;
    }
