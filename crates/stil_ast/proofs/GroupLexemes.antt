-- The lexemes of a group's text are found as they are spelled, in one way where no word stands directly behind a word.
use Rattle.std.proofs.Common.{◌≡◌, ◌⊎◌, ℕ, ◌<◌, Bool, true, false, not, ◌&&◌, ◌||◌, List, [], ◌∷◌, ◌++◌, length, refl, sym, ap, subst, ◌∙◌, inl, inr, append_assoc, append-nil, arith, if◌then◌else◌}
use Rattle.std.specs.Prelude.{◌==◌}
use Rattle.std.specs.List.{list_all}
use Rattle.std.proofs.lemmas.Bool.{and_parts, and_from, cond-true, cond-false, eqb-true, true≢false, not-true, not_from_false, or_cases}
use Rattle.text_bytes.proofs.LexemeLemmas.{reads-blank}
use Rattle.text_bytes.specs.Lexemes.{Reads}
use Rattle.text_bytes.specs.Bytes.{is_word, is_blank}
use Rattle.stil_ast.specs.Meaning.GroupText.{Lexeme, word, quoted, plus, minus, opens, closes, dot, stray, IsLexeme}
use Rattle.stil_ast.specs.Meaning.GroupReading.{Kind, of_word, of_quote, of_blank, of_sign, kind_of, Within, between, in_word, in_quotes, sign_of, begun_by, ended_by, behind_kind, lexemes}

-- what may be a lexeme of a text
abbrev pub is_fine : Lexeme → Bool
is_fine (word bytes) = true
is_fine (quoted bytes) = true
is_fine plus = true
is_fine minus = true
is_fine opens = true
is_fine closes = true
is_fine dot = true
is_fine stray = false

-- a blank is no byte of a word and no quote
abbrev OnlyBlank : ℕ → Type 0
OnlyBlank c = (is_word c ≡ false) × ((c == 34) ≡ false) × (is_blank c ≡ true)

at_byte : (P : ℕ → Type 0) (byte c : ℕ) → P byte → (c == byte) ≡ true → P c
at_byte P byte c holds e = subst P (sym (eqb-true c byte e)) holds

blank_alone : (c : ℕ) → is_blank c ≡ true → OnlyBlank c
unfolding is_word is_blank
blank_alone c e = by_last (or_cases (c == 32 || c == 9 || c == 10 || c == 12) (c == 13) e)
  where
    by_first : ((c == 32) ≡ true) ⊎ ((c == 9) ≡ true) → OnlyBlank c
    by_first (inl is) = at_byte OnlyBlank 32 c (refl, refl, refl) is
    by_first (inr is) = at_byte OnlyBlank 9 c (refl, refl, refl) is

    by_second : ((c == 32 || c == 9) ≡ true) ⊎ ((c == 10) ≡ true) → OnlyBlank c
    by_second (inl more) = by_first (or_cases (c == 32) (c == 9) more)
    by_second (inr is) = at_byte OnlyBlank 10 c (refl, refl, refl) is

    by_third : ((c == 32 || c == 9 || c == 10) ≡ true) ⊎ ((c == 12) ≡ true) → OnlyBlank c
    by_third (inl more) = by_second (or_cases (c == 32 || c == 9) (c == 10) more)
    by_third (inr is) = at_byte OnlyBlank 12 c (refl, refl, refl) is

    by_last : ((c == 32 || c == 9 || c == 10 || c == 12) ≡ true) ⊎ ((c == 13) ≡ true) → OnlyBlank c
    by_last (inl more) = by_third (or_cases (c == 32 || c == 9 || c == 10) (c == 12) more)
    by_last (inr is) = at_byte OnlyBlank 13 c (refl, refl, refl) is

kind_of-blank : (c : ℕ) → is_blank c ≡ true → kind_of c ≡ of_blank
kind_of-blank c e =
    let only = blank_alone c e in
    cond-false (is_word c) of_word (if c == 34 then of_quote else if is_blank c then of_blank else of_sign) only.0
    ∙ cond-false (c == 34) of_quote (if is_blank c then of_blank else of_sign) only.1
    ∙ cond-true (is_blank c) of_blank of_sign only.2

kind_of-word : (c : ℕ) → is_word c ≡ true → kind_of c ≡ of_word
kind_of-word c e = cond-true (is_word c) of_word (if c == 34 then of_quote else if is_blank c then of_blank else of_sign) e

-- what each kind says of a byte
abbrev IsOfKind : ℕ → Kind → Type 0
IsOfKind c of_word = is_word c ≡ true
IsOfKind c of_quote = c ≡ 34
IsOfKind c of_blank = is_blank c ≡ true
IsOfKind c of_sign = Unit {0}

of_kind : (c : ℕ) → IsOfKind c (kind_of c)
of_kind c = by_word (is_word c) refl
  where
    by_blank : (b : Bool) → is_blank c ≡ b → IsOfKind c (if b then of_blank else of_sign)
    by_blank true e = e
    by_blank false e = tt

    by_quote : (b : Bool) → (c == 34) ≡ b → IsOfKind c (if b then of_quote else if is_blank c then of_blank else of_sign)
    by_quote true e = eqb-true c 34 e
    by_quote false e = by_blank (is_blank c) refl

    by_word : (b : Bool) → is_word c ≡ b
        → IsOfKind c (if b then of_word else if c == 34 then of_quote else if is_blank c then of_blank else of_sign)
    by_word true e = e
    by_word false e = by_quote (c == 34) refl

-- a lexeme in front, without blanks before it
lexeme_first : (l : Lexeme) (ls : List Lexeme) (piece rest text : List ℕ) → text ≡ piece ++ rest → IsLexeme l piece → Reads IsLexeme ls rest
    → Reads IsLexeme (l ∷ ls) text
lexeme_first l ls piece rest text e is r =
    record { blanks = []; piece = piece; rest = rest; spelled = e; are_blank = refl; is_lexeme = is; goes_on = r }

-- a sign is spelled as it is
one_sign : (l other : Lexeme) (byte c : ℕ) → IsLexeme l (byte ∷ []) → (is_fine other ≡ true → IsLexeme other (c ∷ []))
    → (b : Bool) → (c == byte) ≡ b → is_fine (if b then l else other) ≡ true
    → IsLexeme (if b then l else other) (c ∷ [])
one_sign l other byte c is more true e h = subst (λ x. IsLexeme l (x ∷ [])) (sym (eqb-true c byte e)) is
one_sign l other byte c is more false e h = more h

sign_spelled : (c : ℕ) → is_fine (sign_of c) ≡ true → IsLexeme (sign_of c) (c ∷ [])
sign_spelled c =
    one_sign plus _ 43 c refl
    (one_sign minus _ 45 c refl
    (one_sign opens _ 91 c refl
    (one_sign closes _ 93 c refl
    (one_sign dot stray 46 c refl (λ h. absurd (true≢false (sym h))) (c == 46) refl)
    (c == 93) refl)
    (c == 91) refl)
    (c == 45) refl)
    (c == 43) refl

-- what lexemes from a place on say of the bytes that are open there and those behind
abbrev ReadsFrom : Within → List Lexeme → List ℕ → Type 0
ReadsFrom between ls text = Reads IsLexeme ls text
ReadsFrom (in_word w) ls text = 0 < length w → list_all is_word w ≡ true → Reads IsLexeme ls (w ++ text)
ReadsFrom (in_quotes w) ls text = list_all (λ c. not (c == 34)) w ≡ true → Reads IsLexeme ls (34 ∷ (w ++ text))

abbrev fine : List Lexeme → Bool
fine ls = list_all is_fine ls

all_with : (test : ℕ → Bool) (w : List ℕ) (c : ℕ) → list_all test w ≡ true → test c ≡ true → list_all test (w ++ c ∷ []) ≡ true
all_with test [] c h e = and_from (test c) true e refl
all_with test (x ∷ w) c h e =
    let parts = and_parts (test x) (list_all test w) h in
    and_from (test x) (list_all test (w ++ c ∷ [])) parts.0 (all_with test w c parts.1 e)

-- what is found from each place on in a text is spelled
abbrev SpelledOn : List ℕ → Type 0
SpelledOn text = (place : Within) → fine (lexemes place text) ≡ true → ReadsFrom place (lexemes place text) text

-- a byte between lexemes
step_between : (c : ℕ) (cs : List ℕ) → SpelledOn cs → (k : Kind) → IsOfKind c k
    → fine (begun_by k c ++ lexemes (behind_kind [] k c) cs) ≡ true
    → Reads IsLexeme (begun_by k c ++ lexemes (behind_kind [] k c) cs) (c ∷ cs)
step_between c cs next of_word is h = next (in_word (c ∷ [])) h (omega arith) (and_from (is_word c) true is refl)
step_between c cs next of_quote is h =
    subst (λ x. Reads IsLexeme (lexemes (in_quotes []) cs) (x ∷ cs)) (sym is) (next (in_quotes []) h refl)
step_between c cs next of_blank is h = reads-blank IsLexeme (lexemes between cs) c cs is (next between h)
step_between c cs next of_sign is h =
    let parts = and_parts (is_fine (sign_of c)) (fine (lexemes between cs)) h in
    lexeme_first (sign_of c) (lexemes between cs) (c ∷ []) cs (c ∷ cs) refl (sign_spelled c parts.0) (next between parts.1)

some_bytes : (w : List ℕ) (c : ℕ) → 0 < length (w ++ c ∷ [])
some_bytes [] c = omega arith
some_bytes (x ∷ w) c = omega arith

-- a byte behind a word
step_word : (w : List ℕ) (c : ℕ) (cs : List ℕ) → SpelledOn cs → (k : Kind) → IsOfKind c k
    → fine (ended_by w k c ++ lexemes (behind_kind w k c) cs) ≡ true
    → 0 < length w → list_all is_word w ≡ true
    → Reads IsLexeme (ended_by w k c ++ lexemes (behind_kind w k c) cs) (w ++ c ∷ cs)
step_word w c cs next of_word is h some each =
    subst (Reads IsLexeme (lexemes (in_word (w ++ c ∷ [])) cs)) (append_assoc w (c ∷ []) cs)
    (next (in_word (w ++ c ∷ [])) h (some_bytes w c) (all_with is_word w c each is))
step_word w c cs next of_quote is h some each =
    lexeme_first (word w) (lexemes (in_quotes []) cs) w (c ∷ cs) (w ++ c ∷ cs) refl (record { spelled = refl; some = some; each = each })
    (subst (λ x. Reads IsLexeme (lexemes (in_quotes []) cs) (x ∷ cs)) (sym is) (next (in_quotes []) h refl))
step_word w c cs next of_blank is h some each =
    lexeme_first (word w) (lexemes between cs) w (c ∷ cs) (w ++ c ∷ cs) refl (record { spelled = refl; some = some; each = each })
    (reads-blank IsLexeme (lexemes between cs) c cs is (next between h))
step_word w c cs next of_sign is h some each =
    let parts = and_parts (is_fine (sign_of c)) (fine (lexemes between cs)) h in
    lexeme_first (word w) (sign_of c ∷ lexemes between cs) w (c ∷ cs) (w ++ c ∷ cs) refl (record { spelled = refl; some = some; each = each })
    (lexeme_first (sign_of c) (lexemes between cs) (c ∷ []) cs (c ∷ cs) refl (sign_spelled c parts.0) (next between parts.1))

-- a byte in quotes
step_quotes : (w : List ℕ) (c : ℕ) (cs : List ℕ) → SpelledOn cs → (b : Bool) → (c == 34) ≡ b
    → fine ((if b then quoted w ∷ [] else []) ++ lexemes (if b then between else in_quotes (w ++ c ∷ [])) cs) ≡ true
    → list_all (λ x. not (x == 34)) w ≡ true
    → Reads IsLexeme ((if b then quoted w ∷ [] else []) ++ lexemes (if b then between else in_quotes (w ++ c ∷ [])) cs) (34 ∷ (w ++ c ∷ cs))
step_quotes w c cs next true e h each =
    lexeme_first (quoted w) (lexemes between cs) (34 ∷ (w ++ 34 ∷ [])) cs (34 ∷ (w ++ c ∷ cs))
    (ap (λ x. 34 ∷ (w ++ x ∷ cs)) (eqb-true c 34 e) ∙ ap (λ (t : List ℕ). 34 ∷ t) (sym (append_assoc w (34 ∷ []) cs)))
    (record { spelled = refl; each = each }) (next between h)
step_quotes w c cs next false e h each =
    subst (λ (t : List ℕ). Reads IsLexeme (lexemes (in_quotes (w ++ c ∷ [])) cs) (34 ∷ t)) (append_assoc w (c ∷ []) cs)
    (next (in_quotes (w ++ c ∷ [])) h (all_with (λ x. not (x == 34)) w c each (not_from_false (c == 34) e)))

-- the lexemes that are found are spelled
spelled_from : (text : List ℕ) → SpelledOn text
spelled_from [] between h = refl
spelled_from [] (in_word w) h =
    λ some each. lexeme_first (word w) [] w [] (w ++ []) refl (record { spelled = refl; some = some; each = each }) refl
spelled_from [] (in_quotes w) h = absurd (true≢false (sym h))
spelled_from (c ∷ cs) between h = step_between c cs (spelled_from cs) (kind_of c) (of_kind c) h
spelled_from (c ∷ cs) (in_word w) h = step_word w c cs (spelled_from cs) (kind_of c) (of_kind c) h
spelled_from (c ∷ cs) (in_quotes w) h = step_quotes w c cs (spelled_from cs) (c == 34) refl h

pub found_are_spelled : (text : List ℕ) → fine (lexemes between text) ≡ true → Reads IsLexeme (lexemes between text) text
found_are_spelled text h = spelled_from text between h

-- no word stands directly behind a word
abbrev pub begins_apart : List Lexeme → Bool
begins_apart (word w ∷ ls) = false
begins_apart _ = true

abbrev pub are_apart : List Lexeme → Bool
are_apart [] = true
are_apart (word w ∷ ls) = begins_apart ls && are_apart ls
are_apart (l ∷ ls) = are_apart ls

-- blanks say nothing
over_blanks : (blanks text : List ℕ) → list_all is_blank blanks ≡ true → lexemes between (blanks ++ text) ≡ lexemes between text
over_blanks [] text h = refl
over_blanks (c ∷ blanks) text h =
    let parts = and_parts (is_blank c) (list_all is_blank blanks) h in
    ap (λ k. begun_by k c ++ lexemes (behind_kind [] k c) (blanks ++ text)) (kind_of-blank c parts.0) ∙ over_blanks blanks text parts.1

-- a byte that ends a word, or the text's end
abbrev EndsWord : List ℕ → Type 0
EndsWord [] = Unit {0}
EndsWord (c ∷ text) = is_word c ≡ false

-- at such a byte the word is complete
word_ends : (w : List ℕ) (text : List ℕ) → EndsWord text → lexemes (in_word w) text ≡ word w ∷ lexemes between text
word_ends w [] e = refl
word_ends w (c ∷ cs) e = by_kind (kind_of c) (of_kind c)
  where
    by_kind : (k : Kind) → IsOfKind c k
        → ended_by w k c ++ lexemes (behind_kind w k c) cs ≡ word w ∷ (begun_by k c ++ lexemes (behind_kind [] k c) cs)
    by_kind of_word is = absurd (true≢false (sym is ∙ e))
    by_kind of_quote is = refl
    by_kind of_blank is = refl
    by_kind of_sign is = refl

over_word : (w v text : List ℕ) → list_all is_word v ≡ true → EndsWord text
    → lexemes (in_word w) (v ++ text) ≡ word (w ++ v) ∷ lexemes between text
over_word w [] text h e = word_ends w text e ∙ ap (λ (x : List ℕ). word x ∷ lexemes between text) (sym (append-nil w))
over_word w (c ∷ v) text h e =
    let parts = and_parts (is_word c) (list_all is_word v) h in
    ap (λ k. ended_by w k c ++ lexemes (behind_kind w k c) (v ++ text)) (kind_of-word c parts.0)
    ∙ over_word (w ++ c ∷ []) v text parts.1 e
    ∙ ap (λ (x : List ℕ). word x ∷ lexemes between text) (append_assoc w (c ∷ []) v)

whole_word : (w text : List ℕ) → 0 < length w → list_all is_word w ≡ true → EndsWord text
    → lexemes between (w ++ text) ≡ word w ∷ lexemes between text
whole_word [] text some h e = absurd (let no_bytes : ⊥ = omega (arith, some) in no_bytes)
whole_word (c ∷ v) text some h e =
    let parts = and_parts (is_word c) (list_all is_word v) h in
    ap (λ k. begun_by k c ++ lexemes (behind_kind [] k c) (v ++ text)) (kind_of-word c parts.0)
    ∙ over_word (c ∷ []) v text parts.1 e

over_quoted : (w v text : List ℕ) → list_all (λ c. not (c == 34)) v ≡ true
    → lexemes (in_quotes w) (v ++ 34 ∷ text) ≡ quoted (w ++ v) ∷ lexemes between text
over_quoted w [] text h = ap (λ (x : List ℕ). quoted x ∷ lexemes between text) (sym (append-nil w))
over_quoted w (c ∷ v) text h =
    let parts = and_parts (not (c == 34)) (list_all (λ x. not (x == 34)) v) h in
    ap (λ b. (if b then quoted w ∷ [] else []) ++ lexemes (if b then between else in_quotes (w ++ c ∷ [])) (v ++ 34 ∷ text)) (not-true (c == 34) parts.0)
    ∙ over_quoted (w ++ c ∷ []) v text parts.1
    ∙ ap (λ (x : List ℕ). quoted x ∷ lexemes between text) (append_assoc w (c ∷ []) v)

-- one lexeme, behind which no word goes on
one_lexeme : (l : Lexeme) (piece text : List ℕ) → IsLexeme l piece → (is_word_then : (w : List ℕ) → l ≡ word w → EndsWord text)
    → lexemes between (piece ++ text) ≡ l ∷ lexemes between text
unfolding is_word is_blank
one_lexeme (word w) piece text is e =
    ap (λ (p : List ℕ). lexemes between (p ++ text)) is.spelled ∙ whole_word w text is.some is.each (e w refl)
one_lexeme (quoted w) piece text is e =
    ap (λ (p : List ℕ). lexemes between (p ++ text)) is.spelled
    ∙ ap (λ (t : List ℕ). lexemes (in_quotes []) t) (append_assoc w (34 ∷ []) text)
    ∙ over_quoted [] w text is.each
one_lexeme plus piece text is e = ap (λ (p : List ℕ). lexemes between (p ++ text)) is
one_lexeme minus piece text is e = ap (λ (p : List ℕ). lexemes between (p ++ text)) is
one_lexeme opens piece text is e = ap (λ (p : List ℕ). lexemes between (p ++ text)) is
one_lexeme closes piece text is e = ap (λ (p : List ℕ). lexemes between (p ++ text)) is
one_lexeme dot piece text is e = ap (λ (p : List ℕ). lexemes between (p ++ text)) is
one_lexeme stray piece text is e = absurd is

-- a text of lexemes that don't begin with a word begins with no byte of one
behind_blanks : (blanks text : List ℕ) → list_all is_blank blanks ≡ true → EndsWord text → EndsWord (blanks ++ text)
behind_blanks [] text h e = e
behind_blanks (c ∷ blanks) text h e =
    (blank_alone c (and_parts (is_blank c) (list_all is_blank blanks) h).0).0

piece_ends : (l : Lexeme) (ls : List Lexeme) (piece rest : List ℕ) → begins_apart (l ∷ ls) ≡ true → IsLexeme l piece
    → EndsWord (piece ++ rest)
unfolding is_word
piece_ends (word w) ls piece rest h is = absurd (true≢false (sym h))
piece_ends (quoted w) ls piece rest h is = subst (λ (p : List ℕ). EndsWord (p ++ rest)) (sym is.spelled) refl
piece_ends plus ls piece rest h is = subst (λ (p : List ℕ). EndsWord (p ++ rest)) (sym is) refl
piece_ends minus ls piece rest h is = subst (λ (p : List ℕ). EndsWord (p ++ rest)) (sym is) refl
piece_ends opens ls piece rest h is = subst (λ (p : List ℕ). EndsWord (p ++ rest)) (sym is) refl
piece_ends closes ls piece rest h is = subst (λ (p : List ℕ). EndsWord (p ++ rest)) (sym is) refl
piece_ends dot ls piece rest h is = subst (λ (p : List ℕ). EndsWord (p ++ rest)) (sym is) refl
piece_ends stray ls piece rest h is = absurd is

text_ends : (ls : List Lexeme) (text : List ℕ) → begins_apart ls ≡ true → Reads IsLexeme ls text → EndsWord text
text_ends [] text h r = subst EndsWord (append-nil text) (behind_blanks text [] r tt)
text_ends (l ∷ ls) text h b =
    subst EndsWord (sym b.spelled) (behind_blanks b.blanks (b.piece ++ b.rest) b.are_blank (piece_ends l ls b.piece b.rest h b.is_lexeme))

apart_behind : (l : Lexeme) (ls : List Lexeme) (w : List ℕ) → l ≡ word w → are_apart (l ∷ ls) ≡ true → begins_apart ls ≡ true
apart_behind l ls w e h =
    let here : are_apart (word w ∷ ls) ≡ true = subst (λ (x : Lexeme). are_apart (x ∷ ls) ≡ true) e h in
    (and_parts (begins_apart ls) (are_apart ls) here).0

apart_rest : (l : Lexeme) (ls : List Lexeme) → are_apart (l ∷ ls) ≡ true → are_apart ls ≡ true
apart_rest (word w) ls h = (and_parts (begins_apart ls) (are_apart ls) h).1
apart_rest (quoted w) ls h = h
apart_rest plus ls h = h
apart_rest minus ls h = h
apart_rest opens ls h = h
apart_rest closes ls h = h
apart_rest dot ls h = h
apart_rest stray ls h = h

-- spelled lexemes are found, where no word stands directly behind a word
pub spelled_are_found : (ls : List Lexeme) (text : List ℕ) → Reads IsLexeme ls text → are_apart ls ≡ true → lexemes between text ≡ ls
spelled_are_found [] text r h =
    ap (lexemes between) (sym (append-nil text)) ∙ over_blanks text [] r
spelled_are_found (l ∷ ls) text b h =
    ap (lexemes between) b.spelled ∙ over_blanks b.blanks (b.piece ++ b.rest) b.are_blank
    ∙ one_lexeme l b.piece b.rest b.is_lexeme (λ w e. text_ends ls b.rest (apart_behind l ls w e h) b.goes_on)
    ∙ ap (λ (more : List Lexeme). l ∷ more) (spelled_are_found ls b.rest b.goes_on (apart_rest l ls h))
