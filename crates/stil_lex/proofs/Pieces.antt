-- What stands at the front of a text is what `front_of` says.
use Rattle.std.proofs.Common.{◌≡◌, ℕ, ◌+◌, ◌<◌, Bool, true, false, ◌&&◌, ◌||◌, not, List, [], ◌∷◌, ◌++◌, length, take, drop, Ok, Err, refl, sym, ap, subst, ◌∙◌, inl, inr, ◌⊎◌, arith, append_assoc, eq-eqb, ne_eqb, length-append, eqb}
use Rattle.std.specs.Prelude.{◌==◌, nat_lt}
use Rattle.std.proofs.lemmas.Bool.{cond-true, cond-false, eqb-true, false≢true, and_parts, and_from, or_parts, cases_Bool, false_from_ne_true, le-ltb, lt-ltb, ltb-true, and_left, and_right}
use Rattle.std.proofs.lemmas.List.{drop_at, take_at, append-nil}
use Rattle.std.specs.List.{list_all, list_any, prefix_len, position_or_len}
use Rattle.stil_lex.specs.Bytes.{starts_pair, may_be_quoted, line_feed, slash, star, open_brace, close_brace, double_quote, single_quote}
use Rattle.text_bytes.specs.Bytes.{begins_with, is_word, is_blank, is_printing}
use Rattle.stil_lex.specs.Pieces.{Piece, gap, token, spelling, ann, IsPiece, IsToken, IsGap, IsGap.blank, IsGap.line_comment, IsGap.comment, IsGap.annotation, IsClosed, IsWord, IsQuoted, IsSign}
use Rattle.stil_lex.specs.Step.{a_gap, a_token, closed_front, word_front, quoted_front, sign_front, front_of, mark_len, is_ann, pair_place}
use Rattle.stil_lex.specs.declared.token.TokenKind.{TokenKind}
use Rattle.stil_lex.specs.declared.token.TokenKind.TheVariants.{Word, Name, Text, Sign}
use Rattle.stil_lex.specs.declared.front.Front.{Front}
use Rattle.stil_lex.specs.declared.fault.LexFault.TheVariants.{BadByte, OpenQuote, OpenComment}
use Rattle.stil_lex.proofs.Pairs.{pair_place-closed}
use Rattle.text_bytes.proofs.ByteLemmas.{is_word-blank, is_printing-blank, blanks_no_word}
use Rattle.text_bytes.proofs.Spans.{prefix_len-span, list_all-not}
use Rattle.stil_lex.proofs.Words.{mark_len-blanks, is_ann_is, opened_from_mark}

-- the front of a piece
abbrev pub front_for : Piece → Front
front_for (gap text) = a_gap (length text)
front_for (token kind text) = a_token kind (length text)

-- a blank is found as it is
pub blank_is_found : (at b : ℕ) (rest : List ℕ) → is_blank b ≡ true → front_of at (b ∷ rest) ≡ Ok (a_gap 1)
unfolding front_of
blank_is_found at b rest h = rw (is_word-blank b h, h)

-- a comment or an annotation whose opening is read
pub closed_is_found : (at n first second : ℕ) (opening text after : List ℕ) → n ≡ length opening → IsClosed first second text
    → closed_front at n first second (opening ++ (text ++ after)) ≡ Ok (a_gap (length (opening ++ text)))
unfolding closed_front
closed_is_found at n first second opening text after is_n closed =
    let rest = text ++ after in
    let spelled : rest ≡ closed.body ++ first ∷ second ∷ after = ap (λ ys. ys ++ after) closed.spelled ∙ simp append_assoc in
    let behind : drop n (opening ++ rest) ≡ rest = drop_at opening rest n (sym is_n) in
    let place : pair_place first second rest ≡ length closed.body = ap (pair_place first second) spelled ∙ pair_place-closed first second closed.body after closed.no_earlier in
    let long : length text ≡ length closed.body + 2 = ap length closed.spelled ∙ length-append closed.body (first ∷ second ∷ []) in
    let less : eqb (pair_place first second rest) (length rest) ≡ false =
    ne_eqb _ _ (λ e. omega (arith, e, place, long, length-append text after)) in
    rw behind (cond-false (pair_place first second rest == length rest) (Err (OpenComment at)) (Ok (a_gap (n + pair_place first second rest + 2))) less
    ∙ ap (λ k. Ok (a_gap k)) (omega (arith, place, long, is_n, length-append opening text)))

-- the first quote stands behind a body without one
pub position-quote : (quote : ℕ) (body after : List ℕ) → list_any (λ b. b == quote) body ≡ false
    → position_or_len (λ b. b == quote) (body ++ quote ∷ after) ≡ length body
position-quote quote body after first =
    prefix_len-span (λ b. not (b == quote)) body (quote ∷ after) (list_all-not (λ b. b == quote) body first) (ap not (eq-eqb quote quote refl))

-- where there is none, its place is the end
pub position-none : (test : ℕ → Bool) (text : List ℕ) → list_any test text ≡ false → position_or_len test text ≡ length text
position-none test text none =
    ap (λ ys. prefix_len (λ b. not (test b)) ys) (sym (append-nil text)) ∙ prefix_len-span (λ b. not (test b)) text [] (list_all-not test text none) refl

-- a closed quote whose bytes may be quoted is found as it is
pub quoted_is_found : (at quote : ℕ) (kind : TokenKind) (body after : List ℕ) → list_any (λ b. b == quote) body ≡ false → list_all may_be_quoted body ≡ true
    → quoted_front at quote kind (body ++ quote ∷ after) ≡ Ok (a_token kind (length body + 2))
unfolding quoted_front
quoted_is_found at quote kind body after first each =
    let rest = body ++ quote ∷ after in
    let n = position_or_len (λ b. b == quote) rest in
    let place : n ≡ length body = position-quote quote body after first in
    let front : take n rest ≡ body = take_at body (quote ∷ after) n (sym place) in
    let less : eqb n (length rest) ≡ false = ne_eqb _ _ (λ e. omega (arith, e, place, length-append body (quote ∷ after))) in
    let all : prefix_len may_be_quoted body ≡ length body =
    ap (prefix_len may_be_quoted) (sym (append-nil body)) ∙ prefix_len-span may_be_quoted body [] each refl in
    cond-false (n == length rest) (Err (OpenQuote at)) _ less
    ∙ rw (front, place, all) (cond-false (nat_lt (length body) (length body)) (Err (BadByte (at + 1 + length body))) (Ok (a_token kind (length body + 2))) (le-ltb (length body) (length body) (omega arith)))

-- a comment up to the line's end is found as it is
pub line_comment_is_found : (at : ℕ) (body after : List ℕ) → list_any (λ b. b == line_feed) body ≡ false
    → (after ≡ []) ⊎ (begins_with (λ b. b == line_feed) after ≡ true)
    → front_of at (slash ∷ slash ∷ (body ++ after)) ≡ Ok (a_gap (length (slash ∷ slash ∷ body)))
unfolding front_of sign_front is_word is_blank is_printing
line_comment_is_found at body after one_line ends =
    let stops : begins_with (λ b. not (b == line_feed)) after ≡ false = elim ends [ inl e ↦ ap (begins_with (λ b. not (b == line_feed))) e | inr h ↦ no_feed after h ] in
    let len = prefix_len-span (λ b. not (b == line_feed)) body after (list_all-not (λ b. b == line_feed) body one_line) stops in
    ap (λ n. Ok (a_gap n)) (omega (arith, len))
  where
    no_feed : (text : List ℕ) → begins_with (λ b. b == line_feed) text ≡ true → begins_with (λ b. not (b == line_feed)) text ≡ false
    no_feed [] h = absurd (false≢true h)
    no_feed (b ∷ text) h = ap not h

-- a comment up to its closing mark is found as it is
pub comment_is_found : (at : ℕ) (rest after : List ℕ) → IsClosed star slash rest
    → front_of at (slash ∷ star ∷ (rest ++ after)) ≡ Ok (a_gap (length (slash ∷ star ∷ rest)))
unfolding front_of sign_front is_word is_blank is_printing
comment_is_found at rest after closed = closed_is_found at 2 star slash (slash ∷ star ∷ []) rest after refl closed

-- the test of the word is right the other way too, and behind the word stands the rest
pub word_is_found : (at : ℕ) (text after : List ℕ) → IsWord text after → front_of at (text ++ after) ≡ Ok (a_token Word (length text))
unfolding front_of word_front
word_is_found at [] after w = absurd (w.not_empty refl)
word_is_found at (b ∷ more) after w =
    let text = b ∷ more in
    let all = text ++ after in
    let starts = (and_parts (is_word b) (list_all is_word more) w.each).0 in
    let len : prefix_len is_word all ≡ length text = prefix_len-span is_word text after w.each w.longest in
    let front : take (prefix_len is_word all) all ≡ text = take_at text after _ (sym len) in
    let test = is_ann (take (prefix_len is_word all) all) && nat_lt 0 (mark_len (drop 3 all)) in
    let fails : test ≡ false = false_from_ne_true test (λ passes.
    let parts = and_parts (is_ann (take (prefix_len is_word all) all)) (nat_lt 0 (mark_len (drop 3 all))) passes in
    let is_it : text ≡ ann = sym front ∙ is_ann_is _ parts.0 in
    let behind : drop 3 all ≡ after = ap (λ ys. drop 3 (ys ++ after)) is_it in
    let marked : 0 < mark_len after = rw (ap mark_len behind) at (ltb-true 0 (mark_len (drop 3 all)) parts.1) in
    w.no_annotation is_it (opened_from_mark after marked).opens) in
    cond-true (is_word b) _ _ starts
    ∙ (cond-false test (closed_front at (3 + mark_len (drop 3 all)) star close_brace all) (Ok (a_token Word (prefix_len is_word all))) fails
    ∙ ap (λ n. Ok (a_token Word n)) len)

-- no blank and no mark goes on with a word
pub no_word_behind : (blanks more : List ℕ) → list_all is_blank blanks ≡ true → begins_with is_word (blanks ++ open_brace ∷ more) ≡ false
unfolding is_word
no_word_behind blanks more are = blanks_no_word blanks (open_brace ∷ more) are refl

-- what opens an annotation is read as the code reads one
pub annotation_front : (at : ℕ) (blanks more : List ℕ) → list_all is_blank blanks ≡ true
    → front_of at (ann ++ (blanks ++ open_brace ∷ star ∷ more))
    ≡ closed_front at (3 + (length blanks + 2)) star close_brace (ann ++ (blanks ++ open_brace ∷ star ∷ []) ++ more)
unfolding front_of word_front is_word
annotation_front at blanks more are =
    let behind = blanks ++ open_brace ∷ star ∷ more in
    let all = ann ++ behind in
    let len : prefix_len is_word all ≡ 3 = prefix_len-span is_word ann behind refl (no_word_behind blanks (star ∷ more) are) in
    let mark : mark_len behind ≡ length blanks + 2 = mark_len-blanks blanks more are in
    let test = is_ann (take (prefix_len is_word all) all) && nat_lt 0 (mark_len behind) in
    let passes : test ≡ true = and_from _ _ (ap (λ n. is_ann (take n all)) len) (lt-ltb 0 (mark_len behind) (omega arith)) in
    cond-true test (closed_front at (3 + mark_len behind) star close_brace all) (Ok (a_token Word (prefix_len is_word all))) passes
    ∙ (ap (λ n. closed_front at (3 + n) star close_brace all) mark ∙ ap (λ ys. closed_front at (3 + (length blanks + 2)) star close_brace (ann ++ ys)) (simp append_assoc))

-- an annotation is found as it is
pub annotation_is_found : (at : ℕ) (blanks rest after : List ℕ) → list_all is_blank blanks ≡ true → IsClosed star close_brace rest
    → front_of at (ann ++ ((blanks ++ open_brace ∷ star ∷ rest) ++ after)) ≡ Ok (a_gap (length (ann ++ (blanks ++ open_brace ∷ star ∷ rest))))
annotation_is_found at blanks rest after are closed =
    let opening = ann ++ (blanks ++ open_brace ∷ star ∷ []) in
    let joined : (blanks ++ open_brace ∷ star ∷ rest) ++ after ≡ blanks ++ open_brace ∷ star ∷ (rest ++ after) = simp append_assoc in
    let long : length (opening ++ rest) ≡ length (ann ++ (blanks ++ open_brace ∷ star ∷ rest)) = simp length-append (omega arith) in
    ap (λ ys. front_of at (ann ++ ys)) joined
    ∙ (annotation_front at blanks (rest ++ after) are
    ∙ (closed_is_found at (3 + (length blanks + 2)) star close_brace opening rest after (simp length-append (omega arith)) closed
    ∙ ap (λ n. Ok (a_gap n)) long))

-- a byte with another one behind it than the pair has
pub starts_pair-other : (first second b : ℕ) (after : List ℕ)
    → (b ≡ first → begins_with (λ c. c == second) after ≡ false) → starts_pair first second (b ∷ after) ≡ false
starts_pair-other first second b [] other = refl
starts_pair-other first second b (c ∷ after) other =
    elim (cases_Bool (b == first)) [
      | inl is ↦ and_right (b == first) (c == second) (other (eqb-true b first is))
      | inr differs ↦ and_left (b == first) (c == second) differs
    ]

-- behind a sign `/` stands neither `/` nor `*`
pub neither_behind : (after : List ℕ) → begins_with (λ c. c == slash || c == star) after ≡ false
    → (begins_with (λ c. c == slash) after ≡ false) × (begins_with (λ c. c == star) after ≡ false)
neither_behind [] h = (refl, refl)
neither_behind (c ∷ after) h = or_parts (c == slash) (c == star) h

-- a sign is found as it is
pub sign_is_found : (at b : ℕ) (text after : List ℕ) → IsSign b text after → front_of at (b ∷ after) ≡ Ok (a_token (Sign b) 1)
unfolding front_of sign_front
sign_is_found at b text after s =
    let quotes = or_parts (b == double_quote) (b == single_quote) s.no_quote in
    let n_blank : is_blank b ≡ false = false_from_ne_true (is_blank b) (λ is. false≢true (sym (is_printing-blank b is) ∙ s.printing)) in
    let line : starts_pair slash slash (b ∷ after) ≡ false = starts_pair-other slash slash b after (λ e. (neither_behind after (s.no_comment e)).0) in
    let mark : starts_pair slash star (b ∷ after) ≡ false = starts_pair-other slash star b after (λ e. (neither_behind after (s.no_comment e)).1) in
    rw (s.no_word, n_blank, quotes.0, quotes.1, s.printing, line, mark)

-- a gap is found as it is
pub gap_is_found : (at : ℕ) (text after : List ℕ) → IsGap text after → front_of at (text ++ after) ≡ Ok (a_gap (length text))
gap_is_found at text after (blank b) =
    subst (λ (t : List ℕ). front_of at (t ++ after) ≡ Ok (a_gap (length t))) (sym b.spelled) (blank_is_found at b.byte after b.blank)
gap_is_found at text after (line_comment l) =
    subst (λ (t : List ℕ). front_of at (t ++ after) ≡ Ok (a_gap (length t))) (sym l.spelled) (line_comment_is_found at l.body after l.one_line l.ends)
gap_is_found at text after (comment k) =
    subst (λ (t : List ℕ). front_of at (t ++ after) ≡ Ok (a_gap (length t))) (sym k.spelled) (comment_is_found at k.rest after k.closed)
gap_is_found at text after (annotation a) =
    subst (λ (t : List ℕ). front_of at (t ++ after) ≡ Ok (a_gap (length t))) (sym (a.spelled ∙ ap (λ ys. ann ++ ys) a.opens.spelled))
    (annotation_is_found at a.opens.blanks a.opens.rest after a.opens.are_blank a.closed)

-- a quoted text is found as it is
pub name_is_found : (at : ℕ) (text after : List ℕ) → IsQuoted double_quote text → front_of at (text ++ after) ≡ Ok (a_token Name (length text))
unfolding front_of is_word is_blank
name_is_found at text after q =
    subst (λ (t : List ℕ). front_of at (t ++ after) ≡ Ok (a_token Name (length t))) (sym q.spelled)
    (ap (quoted_front at double_quote Name) (append_assoc q.body (double_quote ∷ []) after)
    ∙ (quoted_is_found at double_quote Name q.body after q.first q.each
    ∙ ap (λ n. Ok (a_token Name n)) (simp length-append (omega arith))))

-- the same of single quotes
pub text_is_found : (at : ℕ) (text after : List ℕ) → IsQuoted single_quote text → front_of at (text ++ after) ≡ Ok (a_token Text (length text))
unfolding front_of is_word is_blank
text_is_found at text after q =
    subst (λ (t : List ℕ). front_of at (t ++ after) ≡ Ok (a_token Text (length t))) (sym q.spelled)
    (ap (quoted_front at single_quote Text) (append_assoc q.body (single_quote ∷ []) after)
    ∙ (quoted_is_found at single_quote Text q.body after q.first q.each
    ∙ ap (λ n. Ok (a_token Text n)) (simp length-append (omega arith))))

-- a token is found as it is
pub token_is_found : (at : ℕ) (kind : TokenKind) (text after : List ℕ) → IsToken kind text after → front_of at (text ++ after) ≡ Ok (a_token kind (length text))
token_is_found at Word text after w = word_is_found at text after w
token_is_found at Name text after q = name_is_found at text after q
token_is_found at Text text after q = text_is_found at text after q
token_is_found at (Sign b) text after s =
    subst (λ (t : List ℕ). front_of at (t ++ after) ≡ Ok (a_token (Sign b) (length t))) (sym s.spelled) (sign_is_found at b text after s)

-- a piece is found as it is
pub piece_is_found : (at : ℕ) (p : Piece) (after : List ℕ) → IsPiece p after → front_of at (spelling p ++ after) ≡ Ok (front_for p)
piece_is_found at (gap text) after g = gap_is_found at text after g
piece_is_found at (token kind text) after t = token_is_found at kind text after t
