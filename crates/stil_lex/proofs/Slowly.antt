-- What the plain slow lexer finds is a piece.
use Rattle.std.proofs.Common.{◌≡◌, ℕ, ◌+◌, ◌<◌, true, false, ◌&&◌, ◌||◌, not, Option, Some, None, List, [], ◌∷◌, ◌++◌, length, take, drop, refl, sym, ap, ◌∙◌, inl, inr, ◌⊎◌, arith, append_assoc, eq-eqb, length-append, slice_index_or}
use Rattle.std.specs.Prelude.{◌==◌, nat_lt, count_by}
use Rattle.std.specs.List.{list_all, list_any, position_or_len}
use Rattle.std.proofs.lemmas.Bool.{and_parts, and_cases, or_cases, or_parts, eqb-true, false≢true, ltb-true, not-true, lt-ltb, and_from}
use Rattle.std.proofs.lemmas.List.{take_at, drop_at, take-append-drop, nil_from_length, length-take-le}
use Rattle.stil_lex.specs.Bytes.{line_feed, double_quote, single_quote, slash, star, open_brace, close_brace, may_be_quoted, starts_pair}
use Rattle.text_bytes.specs.Bytes.{is_word, is_printing, begins_with}
use Rattle.stil_lex.specs.Pieces.{ann, OpensAnnotation, IsClosed, IsGap, IsGap.blank, IsGap.line_comment, IsGap.comment, IsGap.annotation, IsWord, IsQuoted, IsSign}
use Rattle.stil_lex.specs.Tokens.{line_behind}
use Rattle.stil_lex.specs.Step.{pair_place, is_ann, mark_len, kept}
use Rattle.stil_lex.specs.declared.token.Token.{Token}
use Rattle.stil_lex.specs.declared.token.TokenKind.{TokenKind}
use Rattle.stil_lex.specs.Slow.{blank_test, closed_test, ends_or_begins, line_test, comment_test, opened_test, annotation_test, gap_test, word_test, quoted_rest_test, quoted_test, comments_test, sign_byte_test, sign_test, Begins}
use Rattle.stil_lex.proofs.Pairs.{pair_cases, starts_pair_is}
use Rattle.stil_lex.proofs.Words.{is_ann_is, opened_from_mark, mark_len-opens}
use Rattle.stil_lex.proofs.Found.{IsFront}
use Rattle.stil_lex.proofs.Loop.{IsRead, goes_on}
use Rattle.stil_lex.proofs.Quotes.{quote_cases}

-- a blank
pub blank_is : (text after : List ℕ) → blank_test text ≡ true → IsGap text after
blank_is [] after h = absurd (false≢true h)
blank_is (b ∷ []) after h = blank record { byte = b; spelled = refl; blank = h }
blank_is (b ∷ c ∷ text) after h = absurd (false≢true h)

-- a text that the first pair ends
pub closed_is : (first second : ℕ) (text : List ℕ) → closed_test first second text ≡ true → IsClosed first second text
unfolding closed_test
closed_is first second text h =
    let width = eqb-true (pair_place first second text + 2) (length text) h in
    elim (pair_cases first second text) [
      | inl f ↦
          let none : f.after ≡ [] = nil_from_length f.after (omega (arith, width, f.place, ap length f.spelled ∙ length-append f.body (first ∷ second ∷ f.after))) in
          record { body = f.body; spelled = f.spelled ∙ ap (λ ys. f.body ++ first ∷ second ∷ ys) none; no_earlier = f.no_earlier }
      | inr n ↦ absurd (omega (arith, width, n.1))
    ]

-- a byte that has no place in a text stands nowhere in it
pub list_any-no_place : (byte : ℕ) (text : List ℕ) → position_or_len (λ b. b == byte) text ≡ length text
    → list_any (λ b. b == byte) text ≡ false
list_any-no_place byte text e =
    elim (quote_cases byte text) [
      | inl f ↦ absurd (omega (arith, e, f.place, ap length f.spelled ∙ length-append f.body (byte ∷ f.after)))
      | inr n ↦ n.0
    ]

-- a comment up to the line's end
pub line_is : (text after : List ℕ) → line_test text after ≡ true → IsGap text after
unfolding line_test
line_is text after h =
    let place = position_or_len (λ b. b == line_feed) text in
    let parts = and_parts (starts_pair slash slash text && place == length text) (ends_or_begins line_feed after) h in
    let front = and_parts (starts_pair slash slash text) (place == length text) parts.0 in
    let found = starts_pair_is slash slash text front.0 in
    line_comment record {
      body = found.0;
      spelled = found.1;
      one_line =
          (or_parts (slash == line_feed || slash == line_feed) (list_any (λ b. b == line_feed) found.0)
          (ap (list_any (λ b. b == line_feed)) (sym found.1) ∙ list_any-no_place line_feed text (eqb-true place (length text) front.1))).1;
      ends = ends after parts.1;
    }
  where
    ends : (ys : List ℕ) → ends_or_begins line_feed ys ≡ true → (ys ≡ []) ⊎ (begins_with (λ b. b == line_feed) ys ≡ true)
    ends [] e = inl refl
    ends (b ∷ ys) e = inr e

-- a comment up to its closing mark
pub comment_is : (text after : List ℕ) → comment_test text ≡ true → IsGap text after
unfolding comment_test
comment_is text after h =
    let parts = and_parts (starts_pair slash star text) (closed_test star slash (drop 2 text)) h in
    let found = starts_pair_is slash star text parts.0 in
    comment record { rest = found.0; spelled = found.1; closed = closed_is star slash found.0 (ap (λ ys. closed_test star slash (drop 2 ys)) (sym found.1) ∙ parts.1) }

-- what opens an annotation
pub opened_is : (text : List ℕ) → opened_test text ≡ true → (text ≡ ann ++ drop 3 text) × (0 < mark_len (drop 3 text))
opened_is [] h = absurd (false≢true h)
opened_is (x ∷ []) h = absurd (false≢true h)
opened_is (x ∷ y ∷ []) h = absurd (false≢true h)
opened_is (x ∷ y ∷ z ∷ behind) h =
    let parts = and_parts (is_ann (x ∷ y ∷ z ∷ [])) (nat_lt 0 (mark_len behind)) h in
    (ap (λ ys. ys ++ behind) (is_ann_is (x ∷ y ∷ z ∷ []) parts.0), ltb-true 0 (mark_len behind) parts.1)

-- what stands behind the opening of an annotation
pub drop-mark_len : (behind : List ℕ) (o : OpensAnnotation behind) → drop (mark_len behind) behind ≡ o.rest
drop-mark_len behind o =
    let mark = o.blanks ++ open_brace ∷ star ∷ [] in
    let long : length mark ≡ mark_len behind = length-append o.blanks (open_brace ∷ star ∷ []) ∙ sym (mark_len-opens behind o) in
    ap (drop (mark_len behind)) (o.spelled ∙ sym (append_assoc o.blanks (open_brace ∷ star ∷ []) o.rest)) ∙ drop_at mark o.rest (mark_len behind) long

-- an annotation
pub annotation_is : (text after : List ℕ) → annotation_test text ≡ true → IsGap text after
unfolding annotation_test
annotation_is text after h =
    let behind = drop 3 text in
    let parts = and_parts (opened_test text) (closed_test star close_brace (drop (mark_len behind) behind)) h in
    let front = opened_is text parts.0 in
    let o = opened_from_mark behind front.1 in
    annotation record {
      behind = behind;
      spelled = front.0;
      opens = o.opens;
      closed = closed_is star close_brace o.opens.rest (ap (closed_test star close_brace) (sym (drop-mark_len behind o.opens)) ∙ parts.1);
    }

-- a gap
pub gap_is : (text after : List ℕ) → gap_test text after ≡ true → IsGap text after
gap_is text after h =
    elim (or_cases ((blank_test text || line_test text after) || comment_test text) (annotation_test text) h) [
      | inr a ↦ annotation_is text after a
      | inl three ↦
          elim (or_cases (blank_test text || line_test text after) (comment_test text) three) [
            | inr k ↦ comment_is text after k
            | inl two ↦
                elim (or_cases (blank_test text) (line_test text after) two) [ inl b ↦ blank_is text after b | inr l ↦ line_is text after l ]
          ]
    ]

-- a word
pub word_is : (text after : List ℕ) → word_test text after ≡ true → IsWord text after
unfolding word_test
word_is text after h =
    let opens = is_ann text && nat_lt 0 (mark_len after) in
    let parts = and_parts ((nat_lt 0 (length text) && list_all is_word text) && not (begins_with is_word after)) (not opens) h in
    let three = and_parts (nat_lt 0 (length text) && list_all is_word text) (not (begins_with is_word after)) parts.0 in
    let two = and_parts (nat_lt 0 (length text)) (list_all is_word text) three.0 in
    record {
      not_empty = λ e. absurd (omega (arith, ltb-true 0 (length text) two.0, ap length e));
      each = two.1;
      longest = not-true (begins_with is_word after) three.1;
      no_annotation = λ e o.
          let marked : 0 < mark_len after = omega (arith, mark_len-opens after o) in
          false≢true (sym (not-true opens parts.1) ∙ and_from (is_ann text) (nat_lt 0 (mark_len after)) (ap is_ann e) (lt-ltb 0 (mark_len after) marked));
    }

-- a Name or a Text
pub quoted_is : (quote : ℕ) (text : List ℕ) → quoted_test quote text ≡ true → IsQuoted quote text
unfolding quoted_rest_test
quoted_is quote [] h = absurd (false≢true h)
quoted_is quote (b ∷ rest) h =
    let n = position_or_len (λ c. c == quote) rest in
    let parts = and_parts (b == quote) (quoted_rest_test quote rest) h in
    let both = and_parts (n + 1 == length rest) (list_all may_be_quoted (take n rest)) parts.1 in
    let width = eqb-true (n + 1) (length rest) both.0 in
    elim (quote_cases quote rest) [
      | inl f ↦
          let none : f.after ≡ [] = nil_from_length f.after (omega (arith, width, f.place, ap length f.spelled ∙ length-append f.body (quote ∷ f.after))) in
          let front : take n rest ≡ f.body = ap (take n) f.spelled ∙ take_at f.body (quote ∷ f.after) n (sym f.place) in
          let first = eqb-true b quote parts.0 in
          let spelled : rest ≡ f.body ++ quote ∷ [] = f.spelled ∙ ap (λ ys. f.body ++ quote ∷ ys) none in
          record {
            body = f.body;
            spelled = ap (λ c. c ∷ rest) first ∙ ap (λ ys. quote ∷ ys) spelled;
            first = f.first;
            each = ap (list_all may_be_quoted) (sym front) ∙ both.1;
          }
      | inr all ↦ absurd (omega (arith, width, all.1))
    ]

-- a slash that begins no comment
pub comments_none : (byte : ℕ) (after : List ℕ) → comments_test byte after ≡ false → byte ≡ slash
    → (begins_with (λ b. b == slash) after || begins_with (λ b. b == star) after) ≡ false
unfolding comments_test
comments_none byte after h e =
    elim (and_cases (byte == slash) (begins_with (λ b. b == slash) after || begins_with (λ b. b == star) after) h) [
      | inl differs ↦ absurd (false≢true (sym differs ∙ eq-eqb byte slash e))
      | inr none ↦ none
    ]

-- neither of two bytes begins the text
pub neither_begins : (after : List ℕ)
    → (begins_with (λ b. b == slash) after || begins_with (λ b. b == star) after) ≡ false → begins_with (λ b. b == slash || b == star) after ≡ false
neither_begins [] h = refl
neither_begins (b ∷ after) h = h

-- a sign
pub sign_is : (byte : ℕ) (after : List ℕ) → sign_byte_test byte after ≡ true → IsSign byte (byte ∷ []) after
unfolding sign_byte_test comments_test
sign_is byte after h =
    let parts = and_parts ((is_printing byte && not (is_word byte)) && not (byte == double_quote || byte == single_quote)) (not (comments_test byte after)) h in
    let three = and_parts (is_printing byte && not (is_word byte)) (not (byte == double_quote || byte == single_quote)) parts.0 in
    let two = and_parts (is_printing byte) (not (is_word byte)) three.0 in
    record {
      spelled = refl;
      printing = two.0;
      no_word = not-true (is_word byte) two.1;
      no_quote = not-true (byte == double_quote || byte == single_quote) three.1;
      no_comment = λ e. neither_begins after (comments_none byte after (not-true (comments_test byte after) parts.1) e);
    }

-- what begins a text so, stands at its front
pub begins_front : (text : List ℕ) (kind : Option TokenKind) (len : ℕ) → Begins kind len text → IsFront text kind len
begins_front text None len b =
    record { by = take len text; after = drop len text; spelled = sym (take-append-drop len text); is_len = sym (length-take-le len text b.within); piece = b.is_kind }
begins_front text (Some kind) len b =
    record { by = take len text; after = drop len text; spelled = sym (take-append-drop len text); is_len = sym (length-take-le len text b.within); piece = b.is_kind }

-- what is read, with the line counted anew
pub relined : (bytes : List ℕ) (at line : ℕ) (tokens : List Token) → IsRead bytes at line tokens → IsRead bytes at (line_behind (take at bytes)) tokens
relined bytes at line tokens r = record { pieces = r.pieces; each = r.each; whole = r.whole; are = r.are; within = r.within; is_line = refl }

-- one piece more
pub goes_on_slowly : (bytes : List ℕ) (at : ℕ) (tokens : List Token) (kind : Option TokenKind) (len : ℕ)
    → IsRead bytes at (line_behind (take at bytes)) tokens → Begins kind len (drop at bytes)
    → IsRead bytes (at + len) (line_behind (take (at + len) bytes)) (tokens ++ kept kind at (at + len) (line_behind (take at bytes)))
goes_on_slowly bytes at tokens kind len r b =
    let line = line_behind (take at bytes) in
    let feeds = count_by (λ c. c == line_feed) (take len (drop at bytes)) in
    relined bytes (at + len) (line + feeds) (tokens ++ kept kind at (at + len) line) (goes_on bytes at line tokens kind len feeds r (begins_front (drop at bytes) kind len b) refl)

-- a sign that is the whole text
pub sign_text_is : (text after : List ℕ) → sign_test text after ≡ true → IsSign (slice_index_or text 0 0) text after
sign_text_is [] after h = absurd (false≢true h)
sign_text_is (b ∷ []) after h = sign_is b after h
sign_text_is (b ∷ c ∷ text) after h = absurd (false≢true h)
