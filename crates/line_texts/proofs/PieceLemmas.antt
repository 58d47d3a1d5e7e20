-- Pieces that pass the tests are pieces of a text.
use Rattle.std.proofs.Common.{◌≡◌, ℕ, true, false, List, [], ◌∷◌, ◌++◌, refl, sym, ap, subst, ◌∙◌, append_assoc}
use Rattle.std.proofs.lemmas.Bool.{and_parts, eqb-true, false≢true}
use Rattle.std.specs.Prelude.{◌==◌}
use Rattle.stil_lex.specs.Bytes.{double_quote, single_quote}
use Rattle.stil_lex.specs.Pieces.{Piece, gap, token, spelling, IsPiece, IsToken, IsSign}
use Rattle.stil_lex.specs.Tokens.{spelled, ArePieces, tokens_of, Reads}
use Rattle.stil_lex.specs.Slow.{sign_byte_test}
use Rattle.stil_lex.specs.declared.token.TokenKind.{TokenKind}
use Rattle.stil_lex.specs.declared.token.TokenKind.TheVariants.{Word, Name, Text, Sign}
use Rattle.stil_lex.proofs.Slowly.{gap_is, word_is, quoted_is, sign_is}
use Rattle.line_texts.specs.Tests.{is_sign_text, is_token, is_piece, are_pieces}

-- a sign
pub is_sign_text-is : (byte : ℕ) (text after : List ℕ) → is_sign_text byte text after ≡ true → IsSign byte text after
is_sign_text-is byte [] after h = absurd (false≢true h)
is_sign_text-is byte (b ∷ []) after h =
    let parts = and_parts (b == byte) (sign_byte_test byte after) h in
    subst (λ (c : ℕ). IsSign byte (c ∷ []) after) (sym (eqb-true b byte parts.0)) (sign_is byte after parts.1)
is_sign_text-is byte (b ∷ c ∷ text) after h = absurd (false≢true h)

-- a token
pub is_token-is : (kind : TokenKind) (text after : List ℕ) → is_token kind text after ≡ true → IsToken kind text after
is_token-is Word text after h = word_is text after h
is_token-is Name text after h = quoted_is double_quote text h
is_token-is Text text after h = quoted_is single_quote text h
is_token-is (Sign byte) text after h = is_sign_text-is byte text after h

-- a piece
pub is_piece-is : (p : Piece) (after : List ℕ) → is_piece p after ≡ true → IsPiece p after
is_piece-is (gap text) after h = gap_is text after h
is_piece-is (token kind text) after h = is_token-is kind text after h

-- pieces
pub are_pieces-are : (ps : List Piece) (after : List ℕ) → are_pieces ps after ≡ true → ArePieces ps after
are_pieces-are [] after h = tt
are_pieces-are (p ∷ ps) after h =
    let parts = and_parts (is_piece p (spelled ps ++ after)) (are_pieces ps after) h in
    (is_piece-is p (spelled ps ++ after) parts.0, are_pieces-are ps after parts.1)

-- the spellings of pieces one after another
pub spelled-append : (ps qs : List Piece) → spelled (ps ++ qs) ≡ spelled ps ++ spelled qs
spelled-append [] qs = refl
spelled-append (p ∷ ps) qs =
    ap (λ ys. spelling p ++ ys) (spelled-append ps qs) ∙ sym (append_assoc (spelling p) (spelled ps) (spelled qs))

-- pieces one after another, where each list stands before what is behind it
pub ArePieces-append : (ps qs : List Piece) (after : List ℕ) → ArePieces ps (spelled qs ++ after) → ArePieces qs after
    → ArePieces (ps ++ qs) after
ArePieces-append [] qs after are more = more
ArePieces-append (p ∷ ps) qs after are more =
    let behind : spelled ps ++ (spelled qs ++ after) ≡ spelled (ps ++ qs) ++ after =
    sym (ap (λ ys. ys ++ after) (spelled-append ps qs) ∙ append_assoc (spelled ps) (spelled qs) after) in
    (subst (IsPiece p) behind are.0, ArePieces-append ps qs after are.1 more)

-- the pieces of each item of a list, one after another, where those of an item stand before any text
pub ArePieces-each : {X : Type 0} (of : X → List Piece) → ((x : X) (after : List ℕ) → ArePieces (of x) after)
    → (join : List X → List Piece) → (join [] ≡ []) → ((x : X) (xs : List X) → join (x ∷ xs) ≡ of x ++ join xs)
    → (xs : List X) (after : List ℕ) → ArePieces (join xs) after
ArePieces-each of each join none more [] after = subst (λ (ps : List Piece). ArePieces ps after) (sym none) tt
ArePieces-each of each join none more (x ∷ xs) after =
    subst (λ (ps : List Piece). ArePieces ps after) (sym (more x xs))
    (ArePieces-append (of x) (join xs) after (each x (spelled (join xs) ++ after))
    (ArePieces-each of each join none more xs after))

-- the text of pieces has their tokens
pub reads_pieces : (ps : List Piece) → ArePieces ps [] → Reads (spelled ps) (tokens_of [] ps)
reads_pieces ps are = record { pieces = ps; each = are; whole = refl; are = refl }
