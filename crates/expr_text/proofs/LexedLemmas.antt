-- The lexemes that are found in a text are those that it is read as.
use Rattle.std.proofs.Common.{◌≡◌, ℕ, zero, suc, ◌+◌, ◌-◌, ◌<◌, Bool, true, false, List, [], ◌∷◌, ◌++◌, length, drop, Option, Some, None, refl, sym, ap, subst, ◌∙◌, inl, inr, arith}
use Rattle.std.specs.Prelude.{◌==◌}
use Rattle.std.proofs.lemmas.Bool.{and_parts, cases_Bool, cond-true, cond-false, false≢true, false_from_ne_true}
use Rattle.std.proofs.lemmas.List.{drop_at, append-nil}
use Rattle.std.specs.List.{list_all, prefix_len}
use Rattle.text_bytes.proofs.LexemeLemmas.{reads-blank}
use Rattle.text_bytes.specs.Lexemes.{Reads}
use Rattle.expr_text.specs.Bytes.{open_paren, point}
use Rattle.text_bytes.specs.Bytes.{is_blank, is_digit, begins_name, is_word, begins_with}
use Rattle.expr_text.specs.Tree.{Tree}
use Rattle.expr_text.specs.Lexeme.{Lexeme, literal, word, operator, opening, comma, closing, IsLexeme}
use Rattle.expr_text.specs.Front.{begins, paren_len, sign_front, front_of, in_front, going, lexed}
use Rattle.expr_text.specs.Machine.{Frame, Sum, State, before, behind, refused, step, run, outcome}
use Rattle.expr_text.specs.declared.expr.Operator.TheVariants.{Plus, Minus, Times, Over}
use Rattle.text_bytes.proofs.Spans.{cut}
use Rattle.expr_text.proofs.FrontLemmas.{front_is_so}
use Rattle.expr_text.proofs.FoundLemmas.{EndsOperand, is_operand, front_is_found}
use Rattle.text_bytes.proofs.ByteLemmas.{blanks_no_word, in_blanks}

-- skipped bytes
pub lexed-skipped : (n : ℕ) (text : List ℕ) → lexed n text ≡ lexed 0 (drop n text)
unfolding lexed
lexed-skipped zero text = refl
lexed-skipped (suc n) [] = refl
lexed-skipped (suc n) (b ∷ text) = lexed-skipped n text

-- a blank
pub lexed-blank : (b : ℕ) (text : List ℕ) → is_blank b ≡ true → lexed 0 (b ∷ text) ≡ lexed 0 text
unfolding lexed
lexed-blank b text h = cond-true (is_blank b) (lexed 0 text) _ h

-- what is no blank
pub lexed-front : (b : ℕ) (text : List ℕ) → is_blank b ≡ false
    → lexed 0 (b ∷ text) ≡ going (front_of (b ∷ text)) (λ n. lexed n text)
unfolding lexed
lexed-front b text h = cond-false (is_blank b) (lexed 0 text) (going (front_of (b ∷ text)) (λ n. lexed n text)) h

-- no bytes
pub lexed-nothing : lexed 0 [] ≡ Some []
unfolding lexed
lexed-nothing = refl

-- blanks
pub lexed-blanks : (blanks text : List ℕ) → list_all is_blank blanks ≡ true → lexed 0 (blanks ++ text) ≡ lexed 0 text
lexed-blanks [] text h = refl
lexed-blanks (b ∷ blanks) text h =
    let parts = and_parts (is_blank b) (list_all is_blank blanks) h in
    lexed-blank b (blanks ++ text) parts.0 ∙ lexed-blanks blanks text parts.1

-- a lexeme before others that are found
in_front_is : (l : Lexeme) (o : Option (List Lexeme)) (ls : List Lexeme) → in_front l o ≡ Some ls
    → (more : List Lexeme) × (o ≡ Some more) × (ls ≡ l ∷ more)
in_front_is l None ls e = let clash : ◌≡◌ {A = Option (List Lexeme)} None (Some ls) = e in cc
in_front_is l (Some more) ls e =
    let same : ◌≡◌ {A = Option (List Lexeme)} (Some (l ∷ more)) (Some ls) = e in
    let is : ls ≡ l ∷ more = cc in
    (more, refl, is)

-- bytes behind a front
drop_front : (b : ℕ) (text piece rest : List ℕ) (n : ℕ) → b ∷ text ≡ piece ++ rest → n ≡ length piece → 0 < n
    → drop (n - 1) text ≡ rest
drop_front b text [] rest n e is some = absurd (omega (arith, is, some))
drop_front b text (p ∷ piece) rest n e is some =
    let same : text ≡ piece ++ rest = cc in
    ap (drop (n - 1)) same ∙ drop_at piece rest (n - 1) (omega (arith, is))

-- a lexeme that is found, and others behind it
reads-front : (b : ℕ) (text : List ℕ) (ls : List Lexeme)
    → ((n : ℕ) (ms : List Lexeme) → lexed n text ≡ Some ms → Reads IsLexeme ms (drop n text))
    → (front : Option (Lexeme × ℕ)) → front_of (b ∷ text) ≡ front → going front (λ n. lexed n text) ≡ Some ls
    → Reads IsLexeme ls (b ∷ text)
reads-front b text ls again None is h = let clash : ◌≡◌ {A = Option (List Lexeme)} None (Some ls) = h in cc
reads-front b text ls again (Some front) is h =
    let found = front_is_so b text front.0 front.1 is in
    let others = in_front_is front.0 (lexed (front.1 - 1) text) ls h in
    let more = again (front.1 - 1) others.0 others.1 in
    let rest = drop_front b text found.piece found.rest front.1 found.spelled found.length_is found.some in
    let reads : Reads IsLexeme (front.0 ∷ others.0) (b ∷ text) = record {
      blanks = [];
      piece = found.piece;
      rest = found.rest;
      spelled = found.spelled;
      are_blank = refl;
      is_lexeme = found.is;
      goes_on = subst (Reads IsLexeme others.0) rest more;
    } in
    subst (λ (xs : List Lexeme). Reads IsLexeme xs (b ∷ text)) (sym others.2) reads

-- the lexemes that are found are read
pub lexed_is_so : (skipped : ℕ) (text : List ℕ) (ls : List Lexeme) → lexed skipped text ≡ Some ls
    → Reads IsLexeme ls (drop skipped text)
unfolding lexed
lexed_is_so zero [] ls e =
    let same : ◌≡◌ {A = Option (List Lexeme)} (Some []) (Some ls) = e in
    let is : [] ≡ ls = cc in
    subst (λ (xs : List Lexeme). Reads IsLexeme xs []) is refl
lexed_is_so (suc n) [] ls e =
    let same : ◌≡◌ {A = Option (List Lexeme)} (Some []) (Some ls) = e in
    let is : [] ≡ ls = cc in
    subst (λ (xs : List Lexeme). Reads IsLexeme xs []) is refl
lexed_is_so (suc n) (b ∷ text) ls e = lexed_is_so n text ls e
lexed_is_so zero (b ∷ text) ls e =
    elim (cases_Bool (is_blank b)) [
      | inl t ↦ reads-blank IsLexeme ls b text t (lexed_is_so zero text ls (sym (cond-true (is_blank b) (lexed 0 text) _ t) ∙ e))
      | inr f ↦
          reads-front b text ls (λ n ms h. lexed_is_so n text ms h) (front_of (b ∷ text)) refl
          (sym (cond-false (is_blank b) (lexed 0 text) (going (front_of (b ∷ text)) (λ n. lexed n text)) f) ∙ e)
    ]

-- a lexeme that may stand behind an operand
abbrev pub may_follow : Lexeme → Bool
may_follow (literal n) = false
may_follow (word bytes) = false
may_follow (operator op) = true
may_follow (opening bound) = false
may_follow comma = true
may_follow closing = true

-- no lexemes, or a first one that may stand behind an operand
abbrev pub Follow : List Lexeme → Type 0
Follow [] = Unit {0}
Follow (l ∷ ls) = may_follow l ≡ true

-- no operand has another one behind it
abbrev pub AreApart : List Lexeme → Type 0
AreApart [] = Unit {0}
AreApart (l ∷ ls) = (is_operand l ≡ true → Follow ls) × AreApart ls

-- a refusal stays
run-refused : (ls : List Lexeme) → run refused ls ≡ refused
run-refused [] = refl
run-refused (l ∷ ls) = run-refused ls

-- a refusal has no outcome
never : {A : Type 0} (ls : List Lexeme) (t : Tree) → outcome (run refused ls) ≡ Some t → A
never ls t e = let clash : ◌≡◌ {A = Option Tree} None (Some t) = sym (ap outcome (run-refused ls)) ∙ e in cc

-- behind a factor stands what may
follows : (fs : List Frame) (s : Sum) (x : Tree) (ls : List Lexeme) (t : Tree) → outcome (run (behind fs s x) ls) ≡ Some t
    → Follow ls
follows fs s x [] t e = tt
follows fs s x (literal n ∷ ls) t e = never ls t e
follows fs s x (word bytes ∷ ls) t e = never ls t e
follows fs s x (operator op ∷ ls) t e = refl
follows fs s x (opening bound ∷ ls) t e = never ls t e
follows fs s x (comma ∷ ls) t e = refl
follows fs s x (closing ∷ ls) t e = refl

-- lexemes with a tree have no operand behind an operand
pub are_apart : (state : State) (ls : List Lexeme) (t : Tree) → outcome (run state ls) ≡ Some t → AreApart ls
are_apart state [] t e = tt
are_apart (before fs s) (literal n ∷ ls) t e = (λ h. follows fs s _ ls t e, are_apart (step (before fs s) (literal n)) ls t e)
are_apart (before fs s) (word bytes ∷ ls) t e =
    (λ h. follows fs s _ ls t e, are_apart (step (before fs s) (word bytes)) ls t e)
are_apart (before fs s) (operator op ∷ ls) t e = never ls t e
are_apart (before fs s) (opening bound ∷ ls) t e =
    (λ h. absurd (false≢true h), are_apart (step (before fs s) (opening bound)) ls t e)
are_apart (before fs s) (comma ∷ ls) t e = never ls t e
are_apart (before fs s) (closing ∷ ls) t e = never ls t e
are_apart (behind fs s x) (literal n ∷ ls) t e = never ls t e
are_apart (behind fs s x) (word bytes ∷ ls) t e = never ls t e
are_apart (behind fs s x) (operator op ∷ ls) t e =
    (λ h. absurd (false≢true h), are_apart (step (behind fs s x) (operator op)) ls t e)
are_apart (behind fs s x) (opening bound ∷ ls) t e = never ls t e
are_apart (behind fs s x) (comma ∷ ls) t e = (λ h. absurd (false≢true h), are_apart (step (behind fs s x) comma) ls t e)
are_apart (behind fs s x) (closing ∷ ls) t e = (λ h. absurd (false≢true h), are_apart (step (behind fs s x) closing) ls t e)
are_apart refused (l ∷ ls) t e = never ls t e

-- a text behind blanks that ends the operand before them
record Ends (text : List ℕ) : Type 0 where
  no_word : begins_with is_word text ≡ false
  no_point : begins point text ≡ false
  no_paren : begins open_paren text ≡ false
  no_blank : begins_with is_blank text ≡ false

-- a sign that may stand behind an operand
sign_ends : (b : ℕ) (rest : List ℕ) → is_word b ≡ false → (b == point) ≡ false → (b == open_paren) ≡ false
    → is_blank b ≡ false → Ends (b ∷ rest)
sign_ends b rest h k l m = record { no_word = h; no_point = k; no_paren = l; no_blank = m }

lexeme_ends : (l : Lexeme) (piece rest : List ℕ) → may_follow l ≡ true → IsLexeme l piece → Ends (piece ++ rest)
unfolding begins_name is_digit is_blank is_word
lexeme_ends (literal n) piece rest h is = absurd (false≢true h)
lexeme_ends (word bytes) piece rest h is = absurd (false≢true h)
lexeme_ends (operator Plus) piece rest h is =
    subst (λ (ys : List ℕ). Ends (ys ++ rest)) (sym is) (sign_ends 43 rest refl refl refl refl)
lexeme_ends (operator Minus) piece rest h is =
    subst (λ (ys : List ℕ). Ends (ys ++ rest)) (sym is) (sign_ends 45 rest refl refl refl refl)
lexeme_ends (operator Times) piece rest h is =
    subst (λ (ys : List ℕ). Ends (ys ++ rest)) (sym is) (sign_ends 42 rest refl refl refl refl)
lexeme_ends (operator Over) piece rest h is =
    subst (λ (ys : List ℕ). Ends (ys ++ rest)) (sym is) (sign_ends 47 rest refl refl refl refl)
lexeme_ends (opening bound) piece rest h is = absurd (false≢true h)
lexeme_ends comma piece rest h is =
    subst (λ (ys : List ℕ). Ends (ys ++ rest)) (sym is) (sign_ends 44 rest refl refl refl refl)
lexeme_ends closing piece rest h is =
    subst (λ (ys : List ℕ). Ends (ys ++ rest)) (sym is) (sign_ends 41 rest refl refl refl refl)

-- no blank is a point
blank_no_point : (b : ℕ) → is_blank b ≡ true → (b == point) ≡ false
blank_no_point b h = in_blanks (λ c. (c == point) ≡ false) refl refl refl refl refl b h

blanks_no_point : (blanks rest : List ℕ) → list_all is_blank blanks ≡ true → begins point rest ≡ false
    → begins point (blanks ++ rest) ≡ false
blanks_no_point [] rest each h = h
blanks_no_point (b ∷ blanks) rest each h = blank_no_point b (and_parts (is_blank b) (list_all is_blank blanks) each).0

-- no parenthesis behind blanks
no_paren_behind : (blanks rest : List ℕ) → list_all is_blank blanks ≡ true → Ends rest → paren_len (blanks ++ rest) ≡ 0
unfolding paren_len
no_paren_behind blanks rest each e =
    let all = blanks ++ rest in
    let c = cut is_blank blanks rest each e.no_blank in
    cond-false (begins open_paren (drop (prefix_len is_blank all) all)) (prefix_len is_blank all + 1) 0
    (ap (begins open_paren) c.back_is ∙ e.no_paren)

-- blanks, and behind them what ends an operand
ends_behind : (blanks rest : List ℕ) → list_all is_blank blanks ≡ true → Ends rest → EndsOperand (blanks ++ rest)
ends_behind blanks rest each e = record {
  no_word = blanks_no_word blanks rest each e.no_word;
  no_point = blanks_no_point blanks rest each e.no_point;
  no_paren = no_paren_behind blanks rest each e;
}

-- behind an operand, lexemes that may stand there end it
pub follow_ends : (ls : List Lexeme) (text : List ℕ) → Reads IsLexeme ls text → Follow ls → EndsOperand text
follow_ends [] text r f =
    let nothing : Ends [] = record { no_word = refl; no_point = refl; no_paren = refl; no_blank = refl } in
    subst EndsOperand (append-nil text) (ends_behind text [] r nothing)
follow_ends (l ∷ ls) text r f =
    subst EndsOperand (sym r.spelled)
    (ends_behind r.blanks (r.piece ++ r.rest) r.are_blank (lexeme_ends l r.piece r.rest f r.is_lexeme))

-- no lexeme begins with a blank
front-blank : (b : ℕ) (text : List ℕ) → is_blank b ≡ true → front_of (b ∷ text) ≡ None
unfolding front_of begins_name is_digit sign_front is_word
front-blank b text h = in_blanks (λ c. front_of (c ∷ text) ≡ None) refl refl refl refl refl b h

-- a lexeme that is found at the front
lexed-found : (all : List ℕ) (l : Lexeme) (piece rest : List ℕ) → all ≡ piece ++ rest → front_of all ≡ Some (l, length piece)
    → lexed 0 all ≡ in_front l (lexed 0 rest)
unfolding front_of
lexed-found [] l piece rest e found = let clash : ◌≡◌ {A = Option (Lexeme × ℕ)} None (Some (l, length piece)) = found in cc
lexed-found (b ∷ text) l piece rest e found =
    let other : is_blank b ≡ false = false_from_ne_true (is_blank b) (λ t.
    let clash : ◌≡◌ {A = Option (Lexeme × ℕ)} None (Some (l, length piece)) = sym (front-blank b text t) ∙ found in
    cc) in
    let is = front_is_so b text l (length piece) found in
    lexed-front b text other
    ∙ ap (λ (front : Option (Lexeme × ℕ)). going front (λ n. lexed n text)) found
    ∙ ap (in_front l) (lexed-skipped (length piece - 1) text
    ∙ ap (lexed 0) (drop_front b text piece rest (length piece) e refl is.some))

-- the lexemes that are read are found, where no operand has another one behind it
pub so_is_lexed : (ls : List Lexeme) (text : List ℕ) → Reads IsLexeme ls text → AreApart ls → lexed 0 text ≡ Some ls
so_is_lexed [] text r a = ap (lexed 0) (sym (append-nil text)) ∙ lexed-blanks text [] r ∙ lexed-nothing
so_is_lexed (l ∷ ls) text r a =
    let found = front_is_found l r.piece r.rest r.is_lexeme (λ h. follow_ends ls r.rest r.goes_on (a.0 h)) in
    ap (lexed 0) r.spelled
    ∙ lexed-blanks r.blanks (r.piece ++ r.rest) r.are_blank
    ∙ lexed-found (r.piece ++ r.rest) l r.piece r.rest refl found
    ∙ ap (in_front l) (so_is_lexed ls r.rest r.goes_on a.1)
