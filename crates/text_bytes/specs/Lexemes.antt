-- Texts that are read as lexemes, with blanks before, between and behind them.
use Rattle.std.specs.Prelude.{◌≡◌, ℕ, true, List, [], ◌∷◌, ◌++◌}
use Rattle.std.specs.List.{list_all}
use Rattle.text_bytes.specs.Bytes.{is_blank}

-- a text of blanks, this lexeme as it is written, and the rest
pub record Begins {L : Type 0} (IsLexeme : L → List ℕ → Type 0) (lexeme : L) (Rest : List ℕ → Type 0) (text : List ℕ)
    : Type 0 where
  pub blanks : List ℕ
  pub piece : List ℕ
  pub rest : List ℕ
  pub spelled : text ≡ blanks ++ (piece ++ rest)
  pub are_blank : list_all is_blank blanks ≡ true
  pub is_lexeme : IsLexeme lexeme piece
  pub goes_on : Rest rest

-- a text of these lexemes, each written so, with blanks before, between and behind them
abbrev pub Reads : {L : Type 0} → (L → List ℕ → Type 0) → List L → List ℕ → Type 0
Reads IsLexeme [] text = list_all is_blank text ≡ true
Reads IsLexeme (lexeme ∷ lexemes) text = Begins IsLexeme lexeme (Reads IsLexeme lexemes) text
