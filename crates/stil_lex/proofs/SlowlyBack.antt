-- Each piece passes the tests of the plain slow lexer, so that where it finds none there is none.
use Rattle.std.proofs.Common.{◌≡◌, ℕ, ◌+◌, ◌<◌, true, false, ◌&&◌, ◌||◌, not, Option, Some, None, List, [], ◌∷◌, ◌++◌, length, take, drop, refl, sym, ap, subst, ◌∙◌, inl, inr, ◌⊎◌, arith, eq-eqb, length-append, Result, Ok, Err}
use Rattle.std.specs.Prelude.{◌==◌, nat_lt}
use Rattle.std.specs.List.{list_all, list_any, position_or_len}
use Rattle.std.proofs.lemmas.Bool.{and_parts, and_from, or_from, false≢true, eqb-true, or_left, or_right, lt-ltb, ltb-true, cases_Bool, cases_order, not_from_false, and_left, and_right}
use Rattle.std.proofs.lemmas.List.{take_at, drop_at, take-append-drop, append-nil, length-drop}
use Rattle.stil_lex.specs.Bytes.{line_feed, double_quote, single_quote, slash, star, close_brace, may_be_quoted, starts_pair}
use Rattle.text_bytes.specs.Bytes.{is_word, is_printing, begins_with}
use Rattle.stil_lex.specs.Pieces.{spelling, IsPiece, IsBlank, IsLineComment, IsComment, IsAnnotation, IsClosed, IsGap, IsGap.blank, IsGap.line_comment, IsGap.comment, IsGap.annotation, IsWord, IsQuoted, IsSign, IsToken}
use Rattle.stil_lex.specs.Tokens.{spelled, Reads}
use Rattle.stil_lex.specs.Step.{pair_place, is_ann, mark_len, front_of}
use Rattle.stil_lex.specs.declared.token.Token.{Token}
use Rattle.stil_lex.specs.declared.token.TokenKind.{TokenKind}
use Rattle.stil_lex.specs.declared.token.TokenKind.TheVariants.{Word, Name, Text, Sign}
use Rattle.stil_lex.specs.declared.front.Front.{Front}
use Rattle.stil_lex.specs.declared.fault.LexFault.{LexFault}
use Rattle.stil_lex.specs.Slow.{blank_test, closed_test, ends_or_begins, line_test, comment_test, opened_test, annotation_test, gap_test, word_test, quoted_rest_test, quoted_test, comments_test, sign_byte_test, sign_test, IsKind, Begins}
use Rattle.stil_lex.proofs.Pairs.{pair_place-closed}
use Rattle.stil_lex.proofs.Words.{is_ann_is, opened_from_mark, mark_len-opens}
use Rattle.stil_lex.proofs.Pieces.{position-quote, position-none}
use Rattle.stil_lex.proofs.Slowly.{drop-mark_len}
use Rattle.stil_lex.proofs.Found.{IsFront, IsSo, piece_of}
use Rattle.stil_lex.proofs.Fronts.{front_is_so}
use Rattle.stil_lex.proofs.Readings.{Stops, one_reading, piece_not_empty}
use Rattle.stil_lex.proofs.Loop.{IsRead}

-- a blank passes
pub blank_test-is : (text : List ℕ) → IsBlank text → blank_test text ≡ true
blank_test-is text b = ap blank_test b.spelled ∙ b.blank

-- a text that its first pair ends passes
pub closed_test-is : (first second : ℕ) (text : List ℕ) → IsClosed first second text → closed_test first second text ≡ true
unfolding closed_test
closed_test-is first second text c =
    let place : pair_place first second text ≡ length c.body = ap (pair_place first second) c.spelled ∙ pair_place-closed first second c.body [] c.no_earlier in
    let long : length text ≡ length c.body + 2 = ap length c.spelled ∙ length-append c.body (first ∷ second ∷ []) in
    eq-eqb (pair_place first second text + 2) (length text) (omega (arith, place, long))

-- a comment up to the line's end passes
pub line_test-is : (text after : List ℕ) → IsLineComment text after → line_test text after ≡ true
unfolding line_test
line_test-is text after l =
    let feed = λ (b : ℕ). b == line_feed in
    let none : list_any feed text ≡ false = ap (list_any feed) l.spelled ∙ or_from (slash == line_feed) (list_any feed (slash ∷ l.body)) refl (or_from (slash == line_feed) (list_any feed l.body) refl l.one_line) in
    let whole : (position_or_len feed text == length text) ≡ true = eq-eqb _ _ (position-none feed text none) in
    and_from (starts_pair slash slash text && position_or_len feed text == length text) (ends_or_begins line_feed after)
    (and_from (starts_pair slash slash text) (position_or_len feed text == length text) (ap (starts_pair slash slash) l.spelled) whole)
    (ends after l.ends)
  where
    ends : (ys : List ℕ) → (ys ≡ []) ⊎ (begins_with (λ b. b == line_feed) ys ≡ true) → ends_or_begins line_feed ys ≡ true
    ends [] h = refl
    ends (b ∷ ys) (inl e) = absurd (omega (arith, ap length e))
    ends (b ∷ ys) (inr h) = h

-- a comment up to its closing mark passes
pub comment_test-is : (text : List ℕ) → IsComment text → comment_test text ≡ true
unfolding comment_test
comment_test-is text k =
    and_from (starts_pair slash star text) (closed_test star slash (drop 2 text)) (ap (starts_pair slash star) k.spelled)
    (ap (λ ys. closed_test star slash (drop 2 ys)) k.spelled ∙ closed_test-is star slash k.rest k.closed)

-- an annotation passes
pub annotation_test-is : (text : List ℕ) → IsAnnotation text → annotation_test text ≡ true
unfolding annotation_test
annotation_test-is text a =
    let o = a.opens in
    let len = mark_len-opens a.behind o in
    let opened : opened_test text ≡ true = ap opened_test a.spelled ∙ lt-ltb 0 (mark_len a.behind) (omega (arith, len)) in
    let behind : drop 3 text ≡ a.behind = ap (drop 3) a.spelled in
    and_from (opened_test text) (closed_test star close_brace (drop (mark_len (drop 3 text)) (drop 3 text))) opened
    (ap (λ ys. closed_test star close_brace (drop (mark_len ys) ys)) behind ∙ (ap (closed_test star close_brace) (drop-mark_len a.behind o) ∙ closed_test-is star close_brace o.rest a.closed))

-- a gap passes
pub gap_test-is : (text after : List ℕ) → IsGap text after → gap_test text after ≡ true
gap_test-is text after (blank b) =
    or_left ((blank_test text || line_test text after) || comment_test text) (annotation_test text)
    (or_left (blank_test text || line_test text after) (comment_test text) (or_left (blank_test text) (line_test text after) (blank_test-is text b)))
gap_test-is text after (line_comment l) =
    or_left ((blank_test text || line_test text after) || comment_test text) (annotation_test text)
    (or_left (blank_test text || line_test text after) (comment_test text) (or_right (blank_test text) (line_test text after) (line_test-is text after l)))
gap_test-is text after (comment k) =
    or_left ((blank_test text || line_test text after) || comment_test text) (annotation_test text)
    (or_right (blank_test text || line_test text after) (comment_test text) (comment_test-is text k))
gap_test-is text after (annotation a) =
    or_right ((blank_test text || line_test text after) || comment_test text) (annotation_test text) (annotation_test-is text a)

-- a word passes
pub word_test-is : (text after : List ℕ) → IsWord text after → word_test text after ≡ true
unfolding word_test
word_test-is text after w =
    let opens = is_ann text && nat_lt 0 (mark_len after) in
    let none : opens ≡ false =
    elim (cases_Bool opens) [
      | inl opened ↦
          let parts = and_parts (is_ann text) (nat_lt 0 (mark_len after)) opened in
          absurd (w.no_annotation (is_ann_is text parts.0) (opened_from_mark after (ltb-true 0 (mark_len after) parts.1)).opens)
      | inr fails ↦ fails
    ] in
    and_from ((nat_lt 0 (length text) && list_all is_word text) && not (begins_with is_word after)) (not opens)
    (and_from (nat_lt 0 (length text) && list_all is_word text) (not (begins_with is_word after))
    (and_from (nat_lt 0 (length text)) (list_all is_word text) (filled text w.not_empty) w.each)
    (not_from_false (begins_with is_word after) w.longest))
    (not_from_false opens none)
  where
    filled : (xs : List ℕ) → (xs ≡ [] → ⊥) → nat_lt 0 (length xs) ≡ true
    filled [] h = absurd (h refl)
    filled (x ∷ xs) h = lt-ltb 0 (length (x ∷ xs)) (omega arith)

-- a Name or a Text passes
pub quoted_test-is : (quote : ℕ) (text : List ℕ) → IsQuoted quote text → quoted_test quote text ≡ true
unfolding quoted_rest_test
quoted_test-is quote text q =
    let rest = q.body ++ quote ∷ [] in
    let n = position_or_len (λ b. b == quote) rest in
    let place : n ≡ length q.body = position-quote quote q.body [] q.first in
    let width : (n + 1 == length rest) ≡ true = eq-eqb (n + 1) (length rest) (omega (arith, place, length-append q.body (quote ∷ []))) in
    let front : take n rest ≡ q.body = take_at q.body (quote ∷ []) n (sym place) in
    ap (quoted_test quote) q.spelled
    ∙ and_from (quote == quote) (n + 1 == length rest && list_all may_be_quoted (take n rest)) (eq-eqb quote quote refl)
    (and_from (n + 1 == length rest) (list_all may_be_quoted (take n rest)) width (ap (list_all may_be_quoted) front ∙ q.each))

-- a sign begins no comment
pub comments_test-is : (byte : ℕ) (after : List ℕ)
    → (byte ≡ slash → begins_with (λ b. b == slash || b == star) after ≡ false) → comments_test byte after ≡ false
unfolding comments_test
comments_test-is byte after h =
    elim (cases_Bool (byte == slash)) [
      | inl is ↦ and_right (byte == slash) (begins_with (λ b. b == slash) after || begins_with (λ b. b == star) after) (neither after (h (eqb-true byte slash is)))
      | inr other ↦ and_left (byte == slash) (begins_with (λ b. b == slash) after || begins_with (λ b. b == star) after) other
    ]
  where
    neither : (ys : List ℕ) → begins_with (λ b. b == slash || b == star) ys ≡ false
        → (begins_with (λ b. b == slash) ys || begins_with (λ b. b == star) ys) ≡ false
    neither [] none = refl
    neither (b ∷ ys) none = none

-- a sign passes
pub sign_test-is : (byte : ℕ) (text after : List ℕ) → IsSign byte text after → sign_test text after ≡ true
unfolding sign_byte_test
sign_test-is byte text after s =
    ap (λ ys. sign_test ys after) s.spelled
    ∙ and_from ((is_printing byte && not (is_word byte)) && not (byte == double_quote || byte == single_quote)) (not (comments_test byte after))
    (and_from (is_printing byte && not (is_word byte)) (not (byte == double_quote || byte == single_quote))
    (and_from (is_printing byte) (not (is_word byte)) s.printing (not_from_false (is_word byte) s.no_word))
    (not_from_false (byte == double_quote || byte == single_quote) s.no_quote))
    (not_from_false (comments_test byte after) (comments_test-is byte after s.no_comment))

-- where no test passes, the text is no token
pub no_token : (text after : List ℕ) → word_test text after ≡ false → quoted_test double_quote text ≡ false → quoted_test single_quote text ≡ false
    → sign_test text after ≡ false → (kind : TokenKind) → IsToken kind text after → ⊥
no_token text after word double single sign Word w = false≢true (sym word ∙ word_test-is text after w)
no_token text after word double single sign Name q = false≢true (sym double ∙ quoted_test-is double_quote text q)
no_token text after word double single sign Text q = false≢true (sym single ∙ quoted_test-is single_quote text q)
no_token text after word double single sign (Sign byte) s = false≢true (sym sign ∙ sign_test-is byte text after s)

-- no piece of fewer bytes begins the text
abbrev pub NoneBelow : ℕ → List ℕ → Type 0
NoneBelow len text = (kind : Option TokenKind) (k : ℕ) → k < len → Begins kind k text → ⊥

-- one byte more
pub none_below-more : (len : ℕ) (text : List ℕ) → NoneBelow len text → gap_test (take len text) (drop len text) ≡ false
    → ((kind : TokenKind) → IsToken kind (take len text) (drop len text) → ⊥) → NoneBelow (len + 1) text
none_below-more len text none no_gap n_token kind k below b =
    elim (cases_order k len) [
      | inl same ↦ is_none kind (subst (λ (n : ℕ). IsKind kind (take n text) (drop n text)) same b.is_kind)
      | inr (inl less) ↦ none kind k less b
      | inr (inr more) ↦ absurd (omega (arith, below, more))
    ]
  where
    is_none : (kind : Option TokenKind) → IsKind kind (take len text) (drop len text) → ⊥
    is_none None g = false≢true (sym no_gap ∙ gap_test-is (take len text) (drop len text) g)
    is_none (Some kind) t = n_token kind t

-- a front of a text begins it
pub front_begins : (text : List ℕ) (kind : Option TokenKind) (len : ℕ) → IsFront text kind len → Begins kind len text
front_begins text kind len f =
    let long : length text ≡ length f.by + length f.after = ap length f.spelled ∙ length-append f.by f.after in
    let front : take len text ≡ f.by = ap (take len) f.spelled ∙ take_at f.by f.after len (sym f.is_len) in
    let back : drop len text ≡ f.after = ap (drop len) f.spelled ∙ drop_at f.by f.after len (sym f.is_len) in
    record {
      within = omega (arith, long, f.is_len);
      some = omega (arith, f.is_len, piece_not_empty (piece_of kind f.by) f.after f.piece, long_of kind f.by);
      is_kind = is_kind kind (rw (front, back) f.piece);
    }
  where
    long_of : (kind : Option TokenKind) (by : List ℕ) → length (spelling (piece_of kind by)) ≡ length by
    long_of None by = refl
    long_of (Some kind) by = refl

    is_kind : (kind : Option TokenKind) → IsPiece (piece_of kind (take len text)) (drop len text) → IsKind kind (take len text) (drop len text)
    is_kind None p = p
    is_kind (Some kind) p = p

-- where no piece begins a text, nothing stands at its front
pub stops_where_none : (text : List ℕ) → ((kind : Option TokenKind) (len : ℕ) → Begins kind len text → ⊥) → Stops text
stops_where_none [] none = inl refl
stops_where_none (b ∷ rest) none = by_front (front_of 0 (b ∷ rest)) refl (front_is_so 0 b rest)
  where
    by_front : (found : Result Front LexFault) → found ≡ front_of 0 (b ∷ rest) → IsSo (b ∷ rest) 0 found → Stops (b ∷ rest)
    by_front (Ok f) is so = absurd (none f.kind f.len (front_begins (b ∷ rest) f.kind f.len so))
    by_front (Err fault) is so = inr (0, fault, sym is)

-- a text of which a front is read, and whose rest no piece begins, has no tokens
pub no_reading : (bytes : List ℕ) (at line : ℕ) (tokens others : List Token) → IsRead bytes at line tokens → at < length bytes
    → ((kind : Option TokenKind) (len : ℕ) → Begins kind len (drop at bytes) → ⊥) → Reads bytes others → ⊥
no_reading bytes at line tokens others r below none reads =
    let whole : spelled r.pieces ++ drop at bytes ≡ spelled reads.pieces ++ [] =
    ap (λ ys. ys ++ drop at bytes) (sym r.whole) ∙ (take-append-drop at bytes ∙ (reads.whole ∙ sym (append-nil (spelled reads.pieces)))) in
    let same = one_reading r.pieces reads.pieces (drop at bytes) [] r.each reads.each (stops_where_none (drop at bytes) none) (inl refl) whole in
    omega (arith, below, length-drop at bytes, ap length same.1)
