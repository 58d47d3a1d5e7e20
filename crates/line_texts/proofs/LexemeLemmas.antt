-- The lexemes of the tokens of pieces are those of the pieces.
use Rattle.std.proofs.Common.{◌≡◌, ℕ, ◌+◌, ◌-◌, List, [], ◌∷◌, ◌++◌, length, take, drop, refl, sym, ap, ◌∙◌, append_assoc, arith, inl, inr, length-drop, length-append, take_all, take_at}
use Rattle.std.specs.List.{flat_map}
use Rattle.std.proofs.lemmas.Bool.{cases_lt}
use Rattle.std.proofs.lemmas.List.{drop-append-le, take-append-le}
use Rattle.std.proofs.lemmas.List.Concat.{flat_map-cons}
use Rattle.std.proofs.Math.Seq.{drop-append-add}
use Rattle.stil_lex.specs.Pieces.{Piece, gap, token}
use Rattle.stil_lex.specs.Bytes.{double_quote, single_quote}
use Rattle.stil_lex.specs.Text.{quote_len, text_of}
use Rattle.stil_lex.specs.Tokens.{spelled, token_at, tokens_of}
use Rattle.stil_lex.specs.declared.token.TokenKind.{TokenKind}
use Rattle.stil_lex.specs.declared.token.TokenKind.TheVariants.{Word, Name, Text}
use Rattle.stil_form.specs.Lexeme.{Lexeme, lexeme_from, lexeme_at, lexemes_of}
use Rattle.line_texts.specs.Lexemes.{unquoted, lexemes_in}

-- what is taken of a text within its front
pub take-front : (n q : ℕ) (text after : List ℕ) → n ≡ (length text - q) - q → take n (drop q (text ++ after)) ≡ take n (drop q text)
take-front n q text after is =
    elim (cases_lt (length text) q) [
      | inl short ↦
          let none : n ≡ 0 = omega (arith, is, short) in
          ap (λ k. take k (drop q (text ++ after))) none ∙ sym (ap (λ k. take k (drop q text)) none)
      | inr long ↦
          ap (take n) (drop-append-le q text after long)
          ∙ take-append-le n (drop q text) after (omega (arith, is, long, length-drop q text))
    ]

-- a token has its own text
pub text_of-token : (before : List ℕ) (kind : TokenKind) (text after : List ℕ)
    → text_of (before ++ (text ++ after)) (token_at before kind text) ≡ unquoted kind text
text_of-token before kind text after =
    let q = quote_len kind in
    let n = (length before + length text - q) - (length before + q) in
    let same : n ≡ (length text - q) - q = omega arith in
    ap (take n) (drop-append-add before (text ++ after) q) ∙ take-front n q text after same
    ∙ ap (λ k. take k (drop q text)) same

-- the lexemes of pieces behind a text, before another
pub lexemes_of-pieces : (before : List ℕ) (ps : List Piece) (after : List ℕ)
    → lexemes_of (before ++ (spelled ps ++ after)) (tokens_of before ps) ≡ lexemes_in ps
lexemes_of-pieces before [] after = refl
lexemes_of-pieces before (gap text ∷ ps) after =
    ap (λ (bytes : List ℕ). lexemes_of bytes (tokens_of (before ++ text) ps))
    (ap (λ (ys : List ℕ). before ++ ys) (append_assoc text (spelled ps) after) ∙ sym (append_assoc before text (spelled ps ++ after)))
    ∙ lexemes_of-pieces (before ++ text) ps after
lexemes_of-pieces before (token kind text ∷ ps) after =
    let inside : before ++ ((text ++ spelled ps) ++ after) ≡ before ++ (text ++ (spelled ps ++ after)) =
    ap (λ (ys : List ℕ). before ++ ys) (append_assoc text (spelled ps) after) in
    let first : lexeme_at (before ++ ((text ++ spelled ps) ++ after)) (token_at before kind text) ≡ lexeme_from kind (unquoted kind text) =
    ap (λ (bytes : List ℕ). lexeme_at bytes (token_at before kind text)) inside
    ∙ ap (lexeme_from kind) (text_of-token before kind text (spelled ps ++ after)) in
    let rest : lexemes_of (before ++ ((text ++ spelled ps) ++ after)) (tokens_of (before ++ text) ps) ≡ lexemes_in ps =
    ap (λ (bytes : List ℕ). lexemes_of bytes (tokens_of (before ++ text) ps)) (inside ∙ sym (append_assoc before text (spelled ps ++ after)))
    ∙ lexemes_of-pieces (before ++ text) ps after in
    ap (λ (l : Lexeme). l ∷ lexemes_of (before ++ ((text ++ spelled ps) ++ after)) (tokens_of (before ++ text) ps)) first
    ∙ ap (λ (ls : List Lexeme). lexeme_from kind (unquoted kind text) ∷ ls) rest

-- the lexemes of pieces one after another
pub lexemes_in-append : (ps qs : List Piece) → lexemes_in (ps ++ qs) ≡ lexemes_in ps ++ lexemes_in qs
lexemes_in-append [] qs = refl
lexemes_in-append (gap text ∷ ps) qs = lexemes_in-append ps qs
lexemes_in-append (token kind text ∷ ps) qs =
    ap (λ (ls : List Lexeme). lexeme_from kind (unquoted kind text) ∷ ls) (lexemes_in-append ps qs)

-- the lexemes of the pieces of items one after another
pub lexemes_in-each : {X : Type 0} (of : X → List Piece) (xs : List X)
    → lexemes_in (flat_map of xs) ≡ flat_map (λ x. lexemes_in (of x)) xs
lexemes_in-each of [] = refl
lexemes_in-each of (x ∷ xs) =
    ap lexemes_in (flat_map-cons of x xs) ∙ lexemes_in-append (of x) (flat_map of xs)
    ∙ ap (λ (ls : List Lexeme). lexemes_in (of x) ++ ls) (lexemes_in-each of xs)
    ∙ sym (flat_map-cons (λ x. lexemes_in (of x)) x xs)

-- a word has its whole text
pub unquoted_word : (bytes : List ℕ) → unquoted Word bytes ≡ bytes
unquoted_word bytes = take_all (length bytes - 0 - 0) bytes (omega arith)

-- a name in quotes what stands between them
pub unquoted_name : (bytes : List ℕ) → unquoted Name (double_quote ∷ bytes ++ double_quote ∷ []) ≡ bytes
unquoted_name bytes =
    take_at bytes (double_quote ∷ []) (length (double_quote ∷ bytes ++ double_quote ∷ []) - 1 - 1)
    (omega (arith, length-append bytes (double_quote ∷ [])))

-- and so has a text
pub unquoted_text : (bytes : List ℕ) → unquoted Text (single_quote ∷ bytes ++ single_quote ∷ []) ≡ bytes
unquoted_text bytes =
    take_at bytes (single_quote ∷ []) (length (single_quote ∷ bytes ++ single_quote ∷ []) - 1 - 1)
    (omega (arith, length-append bytes (single_quote ∷ [])))
