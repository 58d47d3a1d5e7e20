-- What `front_of` says of the front of a text is so.
use Rattle.std.proofs.Common.{◌≡◌, ℕ, true, false, ◌||◌, not, List, [], ◌∷◌, Result, Ok, Err, refl, sym, ap, subst, ◌∙◌, inl, inr, ◌⊎◌, arith, eq-eqb, cond}
use Rattle.std.specs.Prelude.{◌==◌}
use Rattle.std.proofs.lemmas.Bool.{cond_both, eqb-true, false≢true, and_cases, or_from, not-false}
use Rattle.std.specs.List.{position_or_len}
use Rattle.stil_lex.specs.Bytes.{starts_pair, line_feed, slash, star, double_quote, single_quote}
use Rattle.text_bytes.specs.Bytes.{begins_with, is_word, is_blank, is_printing}
use Rattle.stil_lex.specs.Pieces.{IsGap.blank, IsGap.line_comment, IsGap.comment}
use Rattle.stil_lex.specs.Step.{a_gap, a_token, closed_front, word_front, quoted_front, sign_front, front_of}
use Rattle.stil_lex.specs.declared.token.TokenKind.TheVariants.{Name, Text, Sign}
use Rattle.stil_lex.specs.declared.front.Front.{Front}
use Rattle.stil_lex.specs.declared.fault.LexFault.{LexFault}
use Rattle.stil_lex.specs.declared.fault.LexFault.TheVariants.{BadByte}
use Rattle.stil_lex.proofs.Pairs.{starts_pair_is}
use Rattle.text_bytes.proofs.Spans.{span, list_any-not}
use Rattle.stil_lex.proofs.Found.{IsSo, closed_is_so}
use Rattle.stil_lex.proofs.Words.{word_is_so}
use Rattle.stil_lex.proofs.Quotes.{quoted_is_so}

-- a comment up to the line's end is found as it is
pub line_comment_is_so : (at : ℕ) (rest : List ℕ) → IsSo (slash ∷ slash ∷ rest) at (Ok (a_gap (position_or_len (λ b. b == line_feed) (slash ∷ slash ∷ rest))))
line_comment_is_so at rest =
    let s = span (λ b. not (b == line_feed)) rest in
    record {
      by = slash ∷ slash ∷ s.front;
      after = s.back;
      spelled = ap (λ ys. slash ∷ slash ∷ ys) s.spelled;
      is_len = omega (arith, s.len);
      piece = line_comment record {
        body = s.front;
        spelled = refl;
        one_line = list_any-not (λ b. b == line_feed) s.front s.each;
        ends = ends s.back s.stops;
      };
    }
  where
    ends : (back : List ℕ) → begins_with (λ b. not (b == line_feed)) back ≡ false → (back ≡ []) ⊎ (begins_with (λ b. b == line_feed) back ≡ true)
    ends [] stops = inl refl
    ends (b ∷ back) stops = inr (not-false (b == line_feed) stops)

-- a comment up to its closing mark is found as it is
pub comment_is_so : (at : ℕ) (rest : List ℕ) → IsSo (slash ∷ star ∷ rest) at (closed_front at 2 star slash (slash ∷ star ∷ rest))
comment_is_so at rest =
    closed_is_so at 2 star slash (slash ∷ star ∷ []) rest refl
    (λ by after e closed. comment record { rest = by; spelled = refl; closed = closed })
    (λ n_one. (refl, inl record { after = rest; spelled = refl; no_end = n_one }))

-- a sign that begins no comment has none of the two bytes behind it
pub no_comment : (b : ℕ) (rest : List ℕ) → starts_pair slash slash (b ∷ rest) ≡ false → starts_pair slash star (b ∷ rest) ≡ false
    → b ≡ slash → begins_with (λ c. c == slash || c == star) rest ≡ false
no_comment b [] line mark is_slash = refl
no_comment b (c ∷ rest) line mark is_slash =
    let test = eq-eqb b slash is_slash in
    or_from (c == slash) (c == star)
    (elim (and_cases (b == slash) (c == slash) line) [ inl e ↦ absurd (false≢true (sym e ∙ test)) | inr e ↦ e ])
    (elim (and_cases (b == slash) (c == star) mark) [ inl e ↦ absurd (false≢true (sym e ∙ test)) | inr e ↦ e ])

-- a sign or a comment is found as it is
pub sign_is_so : (at b : ℕ) (rest : List ℕ) → is_printing b ≡ true → is_word b ≡ false → (b == double_quote || b == single_quote) ≡ false
    → IsSo (b ∷ rest) at (sign_front at b (b ∷ rest))
unfolding sign_front
sign_is_so at b rest printing n_word n_quote =
    let text = b ∷ rest in
    let or_sign = cond (starts_pair slash star text) (closed_front at 2 star slash text) (Ok (a_token (Sign b) 1)) in
    cond_both (starts_pair slash slash text) (Ok (a_gap (position_or_len (λ c. c == line_feed) text))) or_sign (IsSo text at)
    (λ line.
    let found = starts_pair_is slash slash text line in
    subst (λ (t : List ℕ). IsSo t at (Ok (a_gap (position_or_len (λ c. c == line_feed) t)))) (sym found.1) (line_comment_is_so at found.0))
    (λ n_line.
    cond_both (starts_pair slash star text) (closed_front at 2 star slash text) (Ok (a_token (Sign b) 1)) (IsSo text at)
    (λ mark.
    let found = starts_pair_is slash star text mark in
    subst (λ (t : List ℕ). IsSo t at (closed_front at 2 star slash t)) (sym found.1) (comment_is_so at found.0))
    (λ n_mark. record {
      by = b ∷ [];
      after = rest;
      spelled = refl;
      is_len = refl;
      piece = record { spelled = refl; printing = printing; no_word = n_word; no_quote = n_quote; no_comment = no_comment b rest n_line n_mark };
    }))

-- what is found at the front of a text is so
pub front_is_so : (at b : ℕ) (rest : List ℕ) → IsSo (b ∷ rest) at (front_of at (b ∷ rest))
unfolding front_of
front_is_so at b rest =
    let text = b ∷ rest in
    let P : Result Front LexFault → Type 0 = IsSo text at in
    let printed = cond (is_printing b) (sign_front at b text) (Err (BadByte at)) in
    let single = cond (b == single_quote) (quoted_front at single_quote Text rest) printed in
    let double = cond (b == double_quote) (quoted_front at double_quote Name rest) single in
    let blanks = cond (is_blank b) (Ok (a_gap 1)) double in
    cond_both (is_word b) (word_front at text) blanks P
    (λ word. word_is_so at text word)
    (λ n_word. cond_both (is_blank b) (Ok (a_gap 1)) double P
    (λ is. record { by = b ∷ []; after = rest; spelled = refl; is_len = refl; piece = blank record { byte = b; spelled = refl; blank = is } })
    (λ n_blank. cond_both (b == double_quote) (quoted_front at double_quote Name rest) single P
    (λ is. rw (eqb-true b double_quote is) (quoted_is_so at double_quote Name rest refl (λ t u q. q)))
    (λ n_double. cond_both (b == single_quote) (quoted_front at single_quote Text rest) printed P
    (λ is. rw (eqb-true b single_quote is) (quoted_is_so at single_quote Text rest refl (λ t u q. q)))
    (λ n_single. cond_both (is_printing b) (sign_front at b text) (Err (BadByte at)) P
    (λ printing. sign_is_so at b rest printing n_word (or_from _ _ n_double n_single))
    (λ n_print. inl (refl, record { byte = b; after = rest; spelled = refl; no_blank = n_blank; no_print = n_print }))))))
