-- The pieces that a STIL text is made of: gaps and tokens, each by its spelling and by the text behind it.
use Rattle.std.specs.Prelude.{◌≡◌, ◌⊎◌, ℕ, true, false, ◌==◌, ◌||◌, List, [], ◌∷◌, ◌++◌}
use Rattle.std.specs.List.{list_all, list_any}
use Rattle.stil_lex.specs.Bytes.{line_feed, double_quote, single_quote, slash, star, open_brace, close_brace, may_be_quoted, has_pair}
use Rattle.text_bytes.specs.Bytes.{is_blank, is_word, is_printing, begins_with}
use Rattle.stil_lex.specs.declared.token.TokenKind.{TokenKind}
use Rattle.stil_lex.specs.declared.token.TokenKind.TheVariants.{Word, Name, Text, Sign}

-- the word that opens an annotation: `Ann`
abbrev pub ann : List ℕ
ann = 65 ∷ 110 ∷ 110 ∷ []

-- a text that ends with the pair of bytes, which stands nowhere before in it
pub record IsClosed (first second : ℕ) (text : List ℕ) : Type 0 where
  pub body : List ℕ
  pub spelled : text ≡ body ++ first ∷ second ∷ []
  pub no_earlier : has_pair first second (body ++ first ∷ []) ≡ false

-- one blank
pub record IsBlank (text : List ℕ) : Type 0 where
  pub byte : ℕ
  pub spelled : text ≡ byte ∷ []
  pub blank : is_blank byte ≡ true

-- a comment up to a line feed or the text's end: `// ..`
pub record IsLineComment (text after : List ℕ) : Type 0 where
  pub body : List ℕ
  pub spelled : text ≡ slash ∷ slash ∷ body
  pub one_line : list_any (λ b. b == line_feed) body ≡ false
  pub ends : (after ≡ []) ⊎ (begins_with (λ b. b == line_feed) after ≡ true)

-- a comment up to its closing mark: `/* .. */`
pub record IsComment (text : List ℕ) : Type 0 where
  pub rest : List ℕ
  pub spelled : text ≡ slash ∷ star ∷ rest
  pub closed : IsClosed star slash rest

-- the text goes on with blanks and `{*`, so that `Ann` before it opens an annotation
pub record OpensAnnotation (text : List ℕ) : Type 0 where
  pub blanks : List ℕ
  pub rest : List ℕ
  pub spelled : text ≡ blanks ++ open_brace ∷ star ∷ rest
  pub are_blank : list_all is_blank blanks ≡ true

-- an annotation: `Ann {* .. *}`
pub record IsAnnotation (text : List ℕ) : Type 0 where
  pub behind : List ℕ
  pub spelled : text ≡ ann ++ behind
  pub opens : OpensAnnotation behind
  pub closed : IsClosed star close_brace opens.rest

-- a gap, by its spelling and the text behind it
pub data IsGap (text after : List ℕ) : Type 0 where
  blank : IsBlank text → IsGap text after
  line_comment : IsLineComment text after → IsGap text after
  comment : IsComment text → IsGap text after
  annotation : IsAnnotation text → IsGap text after

-- a longest run of letters, digits and `_` that opens no annotation
pub record IsWord (text after : List ℕ) : Type 0 where
  pub not_empty : text ≡ [] → ⊥
  pub each : list_all is_word text ≡ true
  pub longest : begins_with is_word after ≡ false
  pub no_annotation : text ≡ ann → OpensAnnotation after → ⊥

-- text between two quotes of one kind, up to the second of them
pub record IsQuoted (quote : ℕ) (text : List ℕ) : Type 0 where
  pub body : List ℕ
  pub spelled : text ≡ quote ∷ (body ++ quote ∷ [])
  pub first : list_any (λ b. b == quote) body ≡ false
  pub each : list_all may_be_quoted body ≡ true

-- any other printing byte, where it opens no comment
pub record IsSign (byte : ℕ) (text after : List ℕ) : Type 0 where
  pub spelled : text ≡ byte ∷ []
  pub printing : is_printing byte ≡ true
  pub no_word : is_word byte ≡ false
  pub no_quote : (byte == double_quote || byte == single_quote) ≡ false
  pub no_comment : byte ≡ slash → begins_with (λ b. b == slash || b == star) after ≡ false

-- a token of a kind, by its spelling and the text behind it
abbrev pub IsToken : TokenKind → List ℕ → List ℕ → Type 0
IsToken Word text after = IsWord text after
IsToken Name text after = IsQuoted double_quote text
IsToken Text text after = IsQuoted single_quote text
IsToken (Sign byte) text after = IsSign byte text after

-- a piece: a gap with its spelling, or a token with its kind and spelling
pub data Piece : Type 0 where
  gap : List ℕ → Piece
  token : TokenKind → List ℕ → Piece

-- the bytes of a piece
abbrev pub spelling : Piece → List ℕ
spelling (gap text) = text
spelling (token kind text) = text

-- the piece is one, where `after` stands behind it
abbrev pub IsPiece : Piece → List ℕ → Type 0
IsPiece (gap text) after = IsGap text after
IsPiece (token kind text) after = IsToken kind text after
