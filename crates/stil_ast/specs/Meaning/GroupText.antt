-- Group expressions: items joined by `+` and `-` (IEEE 1450-1999, clause 6, signal references).
use Rattle.std.specs.Prelude.{◌≡◌, ℕ, ◌<◌, ◌==◌, not, Bool, true, false, List, [], ◌∷◌, ◌++◌, Option, Some, None, length, if◌then◌else◌}
use Rattle.std.specs.List.{list_all}
use Rattle.text_bytes.specs.Lexemes.{Reads}
use Rattle.text_bytes.specs.Bytes.{is_word}
use Rattle.stil_ast.specs.Data.Texts.{is_name, is_bare_name, index_of}
use Rattle.stil_ast.specs.declared.name.IndexRange.{IndexRange}
use Rattle.stil_ast.specs.declared.name.NameRef.{NameRef}

-- what a group's text is a sequence of, where blanks are left out: words of letters, digits and `_`, names in double
-- quotes, and signs; what is none of these is stray
pub data Lexeme : Type 0 where
  word : List ℕ → Lexeme
  quoted : List ℕ → Lexeme
  plus : Lexeme
  minus : Lexeme
  opens : Lexeme
  closes : Lexeme
  dot : Lexeme
  stray : Lexeme

-- letters, digits and `_`
pub record IsWord (bytes text : List ℕ) : Type 0 where
  pub spelled : text ≡ bytes
  pub some : 0 < length bytes
  pub each : list_all is_word bytes ≡ true

-- bytes in double quotes, of which none is a double quote
pub record IsQuoted (bytes text : List ℕ) : Type 0 where
  pub spelled : text ≡ 34 ∷ (bytes ++ 34 ∷ [])
  pub each : list_all (λ c. not (c == 34)) bytes ≡ true

-- how a lexeme is written
abbrev pub IsLexeme : Lexeme → List ℕ → Type 0
IsLexeme (word bytes) text = IsWord bytes text
IsLexeme (quoted bytes) text = IsQuoted bytes text
IsLexeme plus text = text ≡ 43 ∷ []
IsLexeme minus text = text ≡ 45 ∷ []
IsLexeme opens text = text ≡ 91 ∷ []
IsLexeme closes text = text ≡ 93 ∷ []
IsLexeme dot text = text ≡ 46 ∷ []
IsLexeme stray text = ⊥

-- the name that a lexeme is
abbrev pub item_name : Lexeme → Option (List ℕ)
item_name (word bytes) = if is_bare_name bytes then Some bytes else None
item_name (quoted bytes) = if is_name bytes then Some bytes else None
item_name _ = None

-- the index that a lexeme is
abbrev pub item_index : Lexeme → Option ℕ
item_index (word bytes) = index_of bytes
item_index _ = None

-- indices that are both there
abbrev pub range_to : Option ℕ → Option ℕ → Option (Option IndexRange)
range_to (Some first) (Some last) = Some (Some (record { first = first; last = last }))
range_to _ _ = None

-- what stands behind `[` and a first index: `]`, or two dots, a last index and `]`
abbrev pub range_from : Lexeme → List Lexeme → Option (Option IndexRange)
range_from first (closes ∷ []) = range_to (item_index first) (item_index first)
range_from first (dot ∷ dot ∷ last ∷ closes ∷ []) = range_to (item_index first) (item_index last)
range_from first _ = None

-- what stands behind a name: nothing, `[n]` or `[n..n]`
abbrev pub range_behind : List Lexeme → Option (Option IndexRange)
range_behind [] = Some None
range_behind (opens ∷ first ∷ rest) = range_from first rest
range_behind _ = None

-- a name and its indices, where both are there
abbrev pub item_with : Option (List ℕ) → Option (Option IndexRange) → Option NameRef
item_with (Some name) (Some range) = Some (record { name = name; range = range })
item_with _ _ = None

-- the item that lexemes are
abbrev pub item_of : List Lexeme → Option NameRef
item_of [] = None
item_of (name ∷ rest) = item_with (item_name name) (range_behind rest)

-- an item of an expression, and whether its signals are added or removed
pub record Term : Type 0 where
  pub adds : Bool
  pub item : NameRef

-- the sign before an item
abbrev pub sign_before : Bool → Lexeme
sign_before true = plus
sign_before false = minus

-- lexemes that are items joined by signs; the first of them is added or removed as is said
pub data AreTerms : Bool → List Term → List Lexeme → Type 0 where
  one_item : (adds : Bool) (item : NameRef) (lexemes : List Lexeme) → item_of lexemes ≡ Some item
      → AreTerms adds (record { adds = adds; item = item } ∷ []) lexemes
  more_items : (adds : Bool) (item : NameRef) (lexemes : List Lexeme) (next : Bool) (terms : List Term)
      → (rest : List Lexeme)
      → item_of lexemes ≡ Some item → AreTerms next terms rest
      → AreTerms adds (record { adds = adds; item = item } ∷ terms) (lexemes ++ sign_before next ∷ rest)

-- the whole text is a group expression of these items, of which the first has no sign and is added
pub record SpellsTerms (text : List ℕ) (terms : List Term) : Type 0 where
  pub lexemes : List Lexeme
  pub reads : Reads IsLexeme lexemes text
  pub are : AreTerms true terms lexemes
