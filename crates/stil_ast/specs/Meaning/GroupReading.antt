-- How the items of a group expression are found. What is found is what `SpellsTerms` says, as a law states.
use Rattle.std.specs.Prelude.{◌≡◌, ℕ, ◌==◌, List, [], ◌∷◌, ◌++◌, Option, Some, None, Bool, true, false, if◌then◌else◌}
use Rattle.text_bytes.specs.Bytes.{is_word, is_blank}
use Rattle.stil_ast.specs.Meaning.GroupText.{Lexeme, word, quoted, plus, minus, opens, closes, dot, stray, Term, item_of, SpellsTerms}
use Rattle.stil_ast.specs.declared.name.NameRef.{NameRef}

-- what a byte is outside of quotes
pub data Kind : Type 0 where
  of_word : Kind
  of_quote : Kind
  of_blank : Kind
  of_sign : Kind

-- the kind of a byte
abbrev pub kind_of : ℕ → Kind
kind_of c = if is_word c then of_word else if c == 34 then of_quote else if is_blank c then of_blank else of_sign

-- where a byte stands: between lexemes, behind these bytes of a word, or behind these of a quoted name
pub data Within : Type 0 where
  between : Within
  in_word : List ℕ → Within
  in_quotes : List ℕ → Within

-- the lexeme of a sign
abbrev pub sign_of : ℕ → Lexeme
sign_of c =
    if c == 43 then plus else if c == 45 then minus else if c == 91 then opens
    else if c == 93 then closes else if c == 46 then dot else stray

-- a sign is a lexeme by itself; words and names come where they end
abbrev pub begun_by : Kind → ℕ → List Lexeme
begun_by of_word c = []
begun_by of_quote c = []
begun_by of_blank c = []
begun_by of_sign c = sign_of c ∷ []

-- the lexemes that are complete at a byte behind a word
abbrev pub ended_by : List ℕ → Kind → ℕ → List Lexeme
ended_by bytes of_word c = []
ended_by bytes of_quote c = word bytes ∷ []
ended_by bytes of_blank c = word bytes ∷ []
ended_by bytes of_sign c = word bytes ∷ sign_of c ∷ []

-- the lexemes that are complete at a byte
abbrev pub completed : Within → ℕ → List Lexeme
completed between c = begun_by (kind_of c) c
completed (in_word bytes) c = ended_by bytes (kind_of c) c
completed (in_quotes bytes) c = if c == 34 then quoted bytes ∷ [] else []

-- where the byte behind one stands, outside of quotes and behind these bytes of a word
abbrev pub behind_kind : List ℕ → Kind → ℕ → Within
behind_kind bytes of_word c = in_word (bytes ++ c ∷ [])
behind_kind bytes of_quote c = in_quotes []
behind_kind bytes of_blank c = between
behind_kind bytes of_sign c = between

-- where the byte behind this one stands
abbrev pub behind_byte : Within → ℕ → Within
behind_byte between c = behind_kind [] (kind_of c) c
behind_byte (in_word bytes) c = behind_kind bytes (kind_of c) c
behind_byte (in_quotes bytes) c = if c == 34 then between else in_quotes (bytes ++ c ∷ [])

-- what is open at the text's end
abbrev pub at_end : Within → List Lexeme
at_end between = []
at_end (in_word bytes) = word bytes ∷ []
at_end (in_quotes bytes) = stray ∷ []

-- the lexemes of bytes, from such a place on
abbrev pub lexemes : Within → List ℕ → List Lexeme
lexemes place [] = at_end place
lexemes place (c ∷ cs) = completed place c ++ lexemes (behind_byte place c) cs

-- an item and those behind it, where all have their form
abbrev pub with_item : Bool → Option NameRef → Option (List Term) → Option (List Term)
with_item adds (Some item) (Some terms) = Some (record { adds = adds; item = item } ∷ terms)
with_item adds _ _ = None

-- an expression is cut at its signs `+` and `-`
abbrev pub terms_from : Bool → List Lexeme → List Lexeme → Option (List Term)
terms_from adds item [] = with_item adds (item_of item) (Some [])
terms_from adds item (plus ∷ rest) = with_item adds (item_of item) (terms_from true [] rest)
terms_from adds item (minus ∷ rest) = with_item adds (item_of item) (terms_from false [] rest)
terms_from adds item (lexeme ∷ rest) = terms_from adds (item ++ lexeme ∷ []) rest

-- the items of a group's text, or none where it isn't a group expression
abbrev pub terms_of : List ℕ → Option (List Term)
terms_of text = terms_from true [] (lexemes between text)

-- the items that are found are those that the text spells
abbrev pub TermsAreSpelled : Type 0
TermsAreSpelled = (text : List ℕ) (terms : List Term) →
    (SpellsTerms text terms → terms_of text ≡ Some terms)
    × (terms_of text ≡ Some terms → SpellsTerms text terms)
