-- The tokens that lexing gives have lines, and their words are spelled of letters, digits and `_`; each statement that is
-- parsed of them begins with one of them.
use Rattle.std.proofs.Common.{◌≡◌, ℕ, zero, suc, ◌+◌, ◌-◌, ◌<◌, ◌≤◌, ◌==◌, Bool, true, ◌&&◌, List, [], ◌∷◌, ◌++◌, length, take, drop, refl, sym, ap, subst, ◌∙◌, arith, length-append, append_assoc, nat_le}
use Rattle.std.specs.List.{list_all}
use Rattle.std.proofs.lemmas.Bool.{and_parts, and_from, le-leb}
use Rattle.std.proofs.lemmas.List.Sums.{count_by-le-length}
use Rattle.std.proofs.Math.Seq.{take-append_seam, drop-append_seam}
use Rattle.text_bytes.specs.Limits.{most_bytes}
use Rattle.stil_lex.specs.Bytes.{line_feed}
use Rattle.stil_lex.specs.Pieces.{Piece, gap, token, spelling, IsPiece}
use Rattle.stil_lex.specs.Tokens.{spelled, ArePieces, line_behind, token_at, tokens_of, Reads}
use Rattle.stil_lex.specs.Text.{text_of}
use Rattle.stil_lex.specs.declared.token.Token.{Token}
use Rattle.stil_lex.specs.declared.token.TokenKind.{TokenKind}
use Rattle.stil_lex.specs.declared.token.TokenKind.TheVariants as kinds
use Rattle.stil_tree.specs.Trees.{Trees, end}
use Rattle.stil_tree.specs.Grammar.{ParsesAt, nothing, skipped, ended, nested, Parses}
use Rattle.stil_form.specs.Lexeme.{lexeme_at}
use Rattle.stil_form.specs.Setting.{Setting, setting, line_at}
use Rattle.stil_ast.specs.Data.Forms.{is_line}
use Rattle.pat_read.specs.Accepted.{is_spelled, AreSpelled, HasLines, AreLexed}
use Rattle.block_forms.proofs.AcceptedLemmas.{HaveLines}

-- a text behind another and in front of a third
cut_out : (before middle after : List ℕ) → take (length middle) (drop (length before) (before ++ middle ++ after)) ≡ middle
cut_out before middle after =
    ap (λ xs. take (length middle) (drop (length before) xs)) (append_assoc before middle after)
    ∙ ap (take (length middle)) (drop-append_seam before (middle ++ after)) ∙ take-append_seam middle after

-- the text of a word is its spelling
word_text : (before middle after : List ℕ)
    → text_of (before ++ middle ++ after) (token_at before kinds.Word middle) ≡ middle
word_text before middle after =
    let start : length before + 0 ≡ length before = omega arith in
    let size : length before + length middle - 0 - (length before + 0) ≡ length middle = omega arith in
    ap (λ n. take n (drop (length before + 0) (before ++ middle ++ after))) size
    ∙ ap (λ n. take (length middle) (drop n (before ++ middle ++ after))) start
    ∙ cut_out before middle after

-- a line of a text that is no longer than a text may be
line_fits : (before : List ℕ) → length before ≤ most_bytes → is_line (line_behind before) ≡ true
line_fits before short =
    let fits = count_by-le-length (λ b. b == line_feed) before in
    and_from (nat_le 1 (line_behind before)) (nat_le (line_behind before) 4294967295)
    (le-leb 1 (line_behind before) (omega arith)) (le-leb (line_behind before) 4294967295 (omega (arith, fits, short)))

-- a token with a line, whose word is spelled
abbrev Fits : List ℕ → Token → Bool
Fits bytes t = is_line t.line && is_spelled (lexeme_at bytes t)

token_fits : (bytes before middle after : List ℕ) (kind : TokenKind) → bytes ≡ before ++ middle ++ after
    → length before ≤ most_bytes → IsPiece (token kind middle) after → Fits bytes (token_at before kind middle) ≡ true
token_fits bytes before middle after kinds.Word whole short is =
    and_from (is_line (line_behind before)) (is_spelled (lexeme_at bytes (token_at before kinds.Word middle)))
    (line_fits before short)
    (ap (λ bs. is_spelled (lexeme_at bs (token_at before kinds.Word middle))) whole
    ∙ ap (list_all _) (word_text before middle after) ∙ is.each)
token_fits bytes before middle after kinds.Name whole short is =
    and_from (is_line (line_behind before)) true (line_fits before short) refl
token_fits bytes before middle after kinds.Text whole short is =
    and_from (is_line (line_behind before)) true (line_fits before short) refl
token_fits bytes before middle after (kinds.Sign byte) whole short is =
    and_from (is_line (line_behind before)) true (line_fits before short) refl

-- one piece more
moved : (bytes before : List ℕ) (p : Piece) (ps : List Piece) → bytes ≡ before ++ spelled (p ∷ ps)
    → bytes ≡ (before ++ spelling p) ++ spelled ps
moved bytes before p ps whole = whole ∙ sym (append_assoc before (spelling p) (spelled ps))

all_fit : (bytes before : List ℕ) (ps : List Piece) → bytes ≡ before ++ spelled ps → length bytes ≤ most_bytes
    → ArePieces ps [] → list_all (Fits bytes) (tokens_of before ps) ≡ true
all_fit bytes before [] whole short are = refl
all_fit bytes before (gap text ∷ ps) whole short are =
    all_fit bytes (before ++ text) ps (moved bytes before (gap text) ps whole) short are.1
all_fit bytes before (token kind text ∷ ps) whole short are =
    let next = moved bytes before (token kind text) ps whole in
    let size : length bytes ≡ length before + length (spelled (token kind text ∷ ps)) =
    ap length whole ∙ length-append before (spelled (token kind text ∷ ps)) in
    let here = subst (λ (after : List ℕ). IsPiece (token kind text) after) (append-none (spelled ps)) are.0 in
    and_from (Fits bytes (token_at before kind text)) (list_all (Fits bytes) (tokens_of (before ++ text) ps))
    (token_fits bytes before text (spelled ps) kind next (omega (arith, size, short)) here)
    (all_fit bytes (before ++ text) ps next short are.1)
  where
    append-none : (xs : List ℕ) → xs ++ [] ≡ xs
    append-none [] = refl
    append-none (x ∷ xs) = ap (λ ys. x ∷ ys) (append-none xs)

-- what holds of each token holds of the one at an index
line_there : (bytes : List ℕ) (tokens : List Token) (i : ℕ) → list_all (Fits bytes) tokens ≡ true → i < length tokens
    → is_line (line_at tokens i) ≡ true
line_there bytes [] i all within = absurd (omega (arith, within))
line_there bytes (t ∷ tokens) zero all within =
    (and_parts (is_line t.line) (is_spelled (lexeme_at bytes t)) (and_parts (Fits bytes t) (list_all (Fits bytes) tokens) all).0).0
line_there bytes (t ∷ tokens) (suc i) all within =
    line_there bytes tokens i (and_parts (Fits bytes t) (list_all (Fits bytes) tokens) all).1 (omega (arith, within))

words_there : (bytes : List ℕ) (tokens : List Token) → list_all (Fits bytes) tokens ≡ true → AreSpelled bytes tokens
words_there bytes [] all = refl
words_there bytes (t ∷ tokens) all =
    let each = and_parts (Fits bytes t) (list_all (Fits bytes) tokens) all in
    and_from (is_spelled (lexeme_at bytes t)) (list_all (λ x. is_spelled (lexeme_at bytes x)) tokens)
    (and_parts (is_line t.line) (is_spelled (lexeme_at bytes t)) each.0).1 (words_there bytes tokens each.1)

-- tokens of a text
pub are_lexed : (bytes : List ℕ) (tokens : List Token) (words : List (List ℕ)) → length bytes ≤ most_bytes
    → Reads bytes tokens → AreLexed (setting bytes tokens words)
are_lexed bytes tokens words short reads =
    let all : list_all (Fits bytes) tokens ≡ true =
    ap (list_all (Fits bytes)) reads.are ∙ all_fit bytes [] reads.pieces reads.whole short reads.each in
    record { lines = λ i within. line_there bytes tokens i all within; words = words_there bytes tokens all }

-- statements of tokens that have lines
have_lines : (s : Setting) → HasLines s → (depth at : ℕ) (t : Trees) (tokens : List Token)
    → at + length tokens ≤ length s.tokens → ParsesAt depth at t tokens → HaveLines s t
have_lines s lines depth at end [] fits (nothing _ _) = tt
have_lines s lines depth at t (stop ∷ rest) fits (skipped _ _ _ _ _ _ later) =
    have_lines s lines depth (at + 1) t rest (omega (arith, fits)) later
have_lines s lines depth at _ _ fits (ended _ _ more head stop rest _ _ _ later) =
    let size = length-append head (stop ∷ rest) in (
      lines at (omega (arith, fits, size)),
      have_lines s lines depth (at + length head + 1) more rest (omega (arith, fits, size)) later,
    )
have_lines s lines depth at _ _ fits (nested _ _ body more head open' inner close rest _ _ _ inside _ later) =
    let size = length-append head (open' ∷ (inner ++ close ∷ rest)) in
    let behind = length-append inner (close ∷ rest) in (
      lines at (omega (arith, fits, size, behind)),
      have_lines s lines (suc depth) (at + length head + 1) body inner (omega (arith, fits, size, behind)) inside,
      have_lines s lines depth (at + length head + 1 + length inner + 1) more rest (omega (arith, fits, size, behind)) later,
    )

pub statements_have_lines : (s : Setting) → HasLines s → (forest : Trees) → Parses s.tokens forest → HaveLines s forest
statements_have_lines s lines forest parses = have_lines s lines 0 0 forest s.tokens (omega arith) parses
