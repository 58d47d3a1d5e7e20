-- An assignment of one character to a signal is read.
use Rattle.std.proofs.Common.{◌≡◌, ℕ, false, List, [], ◌∷◌, length, take, drop, Option, Some, None, Result, Ok, refl, ap, ◌∙◌, arith}
use Rattle.stil_lex.specs.declared.token.Token.{Token}
use Rattle.answers.specs.Reading.{and_then}
use Rattle.stil_form.specs.declared.fault.FormKind.{FormKind}
use Rattle.stil_form.specs.declared.part.SignKind.TheVariants.{Equals}
use Rattle.stil_form.specs.Lexeme.{Lexeme, word, sign, lexeme_at, lexemes_of}
use Rattle.stil_form.specs.Fronts.{Ref, named, reference_front}
use Rattle.stil_form.specs.Setting.{setting, line_at}
use Rattle.stil_ast.specs.declared.body.Assignment.{Assignment}
use Rattle.stil_ast.specs.Meaning.Statements.{Item, a_character}
use Rattle.pat_read.specs.Data.{has_underscore, data_of}
use Rattle.pat_read.specs.References.{last_of, named_ref, assigned, assignment_by, assignment_of}
use Rattle.pat_read.specs.Body.{assignment_at}
use Rattle.line_texts.proofs.SettingLemmas.{lexemes_of-tokens_at}

-- data that are one character, behind a name and a sign
data_last : (bytes : List ℕ) (ts : List Token) (a b : Lexeme) (byte : ℕ)
    → lexemes_of bytes ts ≡ a ∷ b ∷ word (byte ∷ []) ∷ [] → has_underscore (byte ∷ []) ≡ false
    → data_of bytes (last_of 1 ts) ≡ Ok (a_character byte ∷ [])
data_last bytes [] a b byte are fits = absurd (omega (arith, ap length are))
data_last bytes (t ∷ []) a b byte are fits = absurd (omega (arith, ap length are))
data_last bytes (t ∷ u ∷ []) a b byte are fits = absurd (omega (arith, ap length are))
data_last bytes (t ∷ u ∷ v ∷ []) a b byte are fits =
    let same : lexeme_at bytes v ≡ word (byte ∷ []) = cc in
    rw same (rw fits refl)
data_last bytes (t ∷ u ∷ v ∷ x ∷ ts) a b byte are fits = absurd (omega (arith, ap length are))

-- an assignment of one character to a name
abbrev pub gives : List ℕ → ℕ → ℕ → Assignment
gives called byte line = record { reference = named_ref called None; items = a_character byte ∷ []; line = line }

-- what stands behind the name
abbrev pub equals_one : ℕ → List Lexeme
equals_one byte = sign Equals ∷ word (byte ∷ []) ∷ []

-- `name = character;` is read, where the first token is a reference of this name
pub assignment_said : (bytes : List ℕ) (tokens : List Token) (words : List (List ℕ)) (f : ℕ) (one : Lexeme) (called : List ℕ) (byte : ℕ)
    → take 3 (drop f (lexemes_of bytes tokens)) ≡ one ∷ equals_one byte
    → reference_front (one ∷ equals_one byte) ≡ Some (named called None, equals_one byte) → has_underscore (byte ∷ []) ≡ false
    → assignment_at (setting bytes tokens words) (record { first = f; count = 3; body = None }) ≡ Ok (gives called byte (line_at tokens f))
assignment_said bytes tokens words f one called byte head is_named fits =
    let ts = take 3 (drop f tokens) in
    let line = line_at tokens f in
    let found : data_of bytes (last_of 1 ts) ≡ Ok (a_character byte ∷ []) =
    data_last bytes ts one (sign Equals) byte (lexemes_of-tokens_at bytes tokens f 3 ∙ head) fits in
    ap (λ (ls : List Lexeme). assignment_of bytes ts line false ls) head
    ∙ ap (λ (o : Option (Ref × List Lexeme)). assignment_by bytes ts line false o) is_named
    ∙ ap (λ (d : Result (List Item) FormKind). and_then d (λ items. assigned line false (named called None) items)) found
