-- The tokens of statements that fit are these statements.
use Rattle.std.proofs.Common.{◌≡◌, ℕ, suc, ◌+◌, true, not, ◌&&◌, List, [], ◌∷◌, ◌++◌, length, refl, sym, ap, subst, ◌∙◌, arith, ltb}
use Rattle.std.specs.Prelude.{nat_lt}
use Rattle.std.proofs.lemmas.Bool.{and_parts, or_from, not-true, ltb-true}
use Rattle.std.specs.List.{list_any}
use Rattle.stil_lex.specs.Pieces.{Piece, gap, token}
use Rattle.stil_lex.specs.Tokens.{spelled, token_at, tokens_of}
use Rattle.stil_lex.specs.declared.token.Token.{Token}
use Rattle.stil_lex.specs.declared.token.TokenKind.TheVariants.{Sign}
use Rattle.stil_lex.proofs.Loop.{tokens_of-append}
use Rattle.stil_tree.specs.Signs.{semicolon, open_brace, close_brace, is_delimiter}
use Rattle.stil_tree.specs.Trees.{Trees}
use Rattle.stil_tree.specs.Grammar.{most_levels, AreHead, ParsesAt, ParsesAt.nothing, ParsesAt.ended, ParsesAt.nested}
use Rattle.line_texts.specs.Said.{Said, no_more, space, statement, braced, a_sign, pieces_of, count_of, trees_at}
use Rattle.line_texts.specs.Tests.{in_head, is_head, fits}

-- pieces have as many tokens as are counted
pub length-tokens_of : (before : List ℕ) (ps : List Piece) → length (tokens_of before ps) ≡ count_of ps
length-tokens_of before [] = refl
length-tokens_of before (gap text ∷ ps) = length-tokens_of (before ++ text) ps
length-tokens_of before (token kind text ∷ ps) = omega (arith, length-tokens_of (before ++ text) ps)

-- pieces one after another have the tokens of both
pub count_of-append : (ps qs : List Piece) → count_of (ps ++ qs) ≡ count_of ps + count_of qs
count_of-append [] qs = omega arith
count_of-append (gap text ∷ ps) qs = count_of-append ps qs
count_of-append (token kind text ∷ ps) qs = omega (arith, count_of-append ps qs)

-- the tokens of a head are a head
pub head_is : (before : List ℕ) (ps : List Piece) → is_head ps ≡ true → AreHead (tokens_of before ps)
head_is before [] h = refl
head_is before (gap text ∷ ps) h = head_is (before ++ text) ps h
head_is before (token kind text ∷ ps) h =
    let parts = and_parts (in_head kind) (is_head ps) h in
    or_from (is_delimiter (token_at before kind text)) (list_any is_delimiter (tokens_of (before ++ text) ps))
    (not-true _ parts.0) (head_is (before ++ text) ps parts.1)

-- a head that has a token is not empty
pub head_not_empty : (before : List ℕ) (ps : List Piece) → nat_lt 0 (count_of ps) ≡ true → tokens_of before ps ≡ [] → ⊥
head_not_empty before ps some none =
    let few = ap length none in
    omega (arith, ltb-true 0 (count_of ps) some, length-tokens_of before ps, few)

-- statements that fit are those of their tokens
pub said_parses : (depth at : ℕ) (before : List ℕ) (s : Said) → fits depth s ≡ true
    → ParsesAt depth at (trees_at at s) (tokens_of before (pieces_of s))
said_parses depth at before no_more h = nothing depth at
said_parses depth at before (space text more) h = said_parses depth at (before ++ text) more h
said_parses depth at before (statement head more) h =
    let parts = and_parts (nat_lt 0 (count_of head) && is_head head) (fits depth more) h in
    let form = and_parts (nat_lt 0 (count_of head)) (is_head head) parts.0 in
    let here = before ++ spelled head in
    let tokens = tokens_of before head in
    let stop = token_at here (Sign semicolon) (semicolon ∷ []) in
    let behind = here ++ (semicolon ∷ []) in
    let rest = tokens_of behind (pieces_of more) in
    let parsed : ParsesAt depth at (trees_at at (statement head more)) (tokens ++ stop ∷ rest) =
    subst (λ (n : ℕ). ParsesAt depth at (Rattle.stil_tree.specs.Trees.plain at n (trees_at (at + n + 1) more)) (tokens ++ stop ∷ rest))
    (length-tokens_of before head)
    (ended depth at (trees_at (at + length tokens + 1) more) tokens stop rest
    (head_not_empty before head form.0) (head_is before head form.1) refl
    (said_parses depth (at + length tokens + 1) behind more parts.1)) in
    subst (λ (ts : List Token). ParsesAt depth at (trees_at at (statement head more)) ts)
    (sym (tokens_of-append before head (a_sign semicolon ∷ pieces_of more))) parsed
said_parses depth at before (braced head body more) h =
    let parts = and_parts (nat_lt depth most_levels && is_head head) (fits (suc depth) body && fits depth more) h in
    let form = and_parts (nat_lt depth most_levels) (is_head head) parts.0 in
    let both = and_parts (fits (suc depth) body) (fits depth more) parts.1 in
    let here = before ++ spelled head in
    let tokens = tokens_of before head in
    let opening = token_at here (Sign open_brace) (open_brace ∷ []) in
    let inside = here ++ (open_brace ∷ []) in
    let inner = tokens_of inside (pieces_of body) in
    let closed = inside ++ spelled (pieces_of body) in
    let closing = token_at closed (Sign close_brace) (close_brace ∷ []) in
    let behind = closed ++ (close_brace ∷ []) in
    let rest = tokens_of behind (pieces_of more) in
    let all = tokens ++ opening ∷ (inner ++ closing ∷ rest) in
    let parsed : ParsesAt depth at (trees_at at (braced head body more)) all =
    subst (λ (m : ℕ). ParsesAt depth at (Rattle.stil_tree.specs.Trees.block at (count_of head) (trees_at (at + count_of head + 1) body)
    (trees_at (at + count_of head + 1 + m + 1) more)) all) (length-tokens_of inside (pieces_of body))
    (subst (λ (n : ℕ). ParsesAt depth at (Rattle.stil_tree.specs.Trees.block at n (trees_at (at + n + 1) body)
    (trees_at (at + n + 1 + length inner + 1) more)) all) (length-tokens_of before head)
    (nested depth at (trees_at (at + length tokens + 1) body) (trees_at (at + length tokens + 1 + length inner + 1) more) tokens
    opening inner closing rest (ltb-true depth most_levels form.0) (head_is before head form.1) refl
    (said_parses (suc depth) (at + length tokens + 1) inside body both.0) refl
    (said_parses depth (at + length tokens + 1 + length inner + 1) behind more both.1))) in
    subst (λ (ts : List Token). ParsesAt depth at (trees_at at (braced head body more)) ts)
    (sym (tokens_of-append before head (a_sign open_brace ∷ (pieces_of body ++ (a_sign close_brace ∷ pieces_of more)))
    ∙ ap (λ (ts : List Token). tokens ++ opening ∷ ts) (tokens_of-append inside (pieces_of body) (a_sign close_brace ∷ pieces_of more)))) parsed
