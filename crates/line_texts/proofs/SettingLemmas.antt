-- What a reader of statements sees of a text's tokens, where no word is skipped.
use Rattle.std.proofs.Common.{◌≡◌, ℕ, ◌+◌, Bool, false, List, [], ◌∷◌, length, take, drop, Result, Ok, refl, sym, ap, ◌∙◌, arith, cond}
use Rattle.std.specs.Prelude.{not}
use Rattle.std.proofs.lemmas.List.{take-map, drop-map, drop-drop}
use Rattle.stil_lex.specs.Pieces.{Piece, gap, token}
use Rattle.stil_lex.specs.declared.token.Token.{Token}
use Rattle.stil_tree.specs.Trees.{Entry}
use Rattle.stil_form.specs.Lexeme.{Lexeme, word, name, text, sign, lexeme_at, lexemes_of}
use Rattle.stil_form.specs.Reading.{and_then, stepping, is_skipped}
use Rattle.stil_form.specs.Setting.{setting, lexemes_at, unskipped}
use Rattle.line_texts.specs.Said.{count_of}
use Rattle.line_texts.specs.Lexemes.{lexemes_in}

-- one step more
pub stepping-more : {S E F : Type 0} (step : S → E → Result S F) (s t : S) (e : E) (es : List E) → step s e ≡ Ok t
    → stepping step s (e ∷ es) ≡ stepping step t es
stepping-more step s t e es h = ap (λ r. and_then r (λ next. stepping step next es)) h

-- a head at a place behind one from which on the lexemes are known
pub head_behind : {X : Type 0} (all rest : List X) (at k n f : ℕ) → drop at all ≡ rest → f ≡ at + k
    → take n (drop f all) ≡ take n (drop k rest)
head_behind all rest at k n f is place =
    ap (λ i. take n (drop i all)) place ∙ ap (take n) (sym (drop-drop k at all) ∙ ap (drop k) is)

-- the lexemes of a head are those of its tokens
pub lexemes_of-tokens_at : (bytes : List ℕ) (tokens : List Token) (f n : ℕ)
    → lexemes_of bytes (take n (drop f tokens)) ≡ take n (drop f (lexemes_of bytes tokens))
lexemes_of-tokens_at bytes tokens f n =
    sym (ap (take n) (drop-map (lexeme_at bytes) f tokens) ∙ take-map (lexeme_at bytes) n (drop f tokens))

-- where no word is skipped, none is
pub not_skipped : (ls : List Lexeme) → is_skipped [] ls ≡ false
not_skipped [] = refl
not_skipped (word bytes ∷ rest) = refl
not_skipped (name bytes ∷ rest) = refl
not_skipped (text bytes ∷ rest) = refl
not_skipped (sign kind ∷ rest) = refl

-- and all statements are read
pub unskipped_all : (bytes : List ℕ) (tokens : List Token) (es : List Entry) → unskipped (setting bytes tokens []) es ≡ es
unskipped_all bytes tokens [] = refl
unskipped_all bytes tokens (e ∷ es) =
    ap (λ (b : Bool). cond (not b) (e ∷ unskipped (setting bytes tokens []) es) (unskipped (setting bytes tokens []) es))
    (not_skipped (lexemes_at (setting bytes tokens []) e))
    ∙ ap (λ (rest : List Entry). e ∷ rest) (unskipped_all bytes tokens es)

-- as many lexemes as tokens
pub length-lexemes_in : (ps : List Piece) → length (lexemes_in ps) ≡ count_of ps
length-lexemes_in [] = refl
length-lexemes_in (gap bytes ∷ ps) = length-lexemes_in ps
length-lexemes_in (token kind bytes ∷ ps) = omega (arith, length-lexemes_in ps)
