-- No line is made of parts in two ways, and what the code finds at the front of a text is what
-- stands there.
use Rattle.std.proofs.Common.{◌≡◌, ℕ, suc, ◌<◌, true, false, cond, List, [], ◌∷◌, ◌++◌, length, take, drop, Some, None, refl, sym, ap, ◌∙◌, subst, arith, inl, inr, eqb, append_assoc, length-append, take-append-drop}
use Rattle.std.specs.List.{AllPass}
use Rattle.std.proofs.lemmas.List.{take_at, drop_at, append-nil}
use Rattle.std.proofs.lemmas.List.Elements.{All-nil, All-cons, All-head, All-tail}
use Rattle.std.proofs.lemmas.Bool.{cases_Bool, cond_both, eqb-true}
use Rattle.std.proofs.lemmas.Grind.{common_steps}
use Rattle.bench_net.specs.declared.line.Delimiter.{Delimiter}
use Rattle.bench_net.specs.declared.line.Delimiter.TheVariants.{Open, Close, Comma, Equals}
use Rattle.bench_net.specs.Line.{is_gap, is_name_byte, Lexeme, word, delimiter, written, goes_on, delimiter_byte, IsPart, IsComment, Ends, Begins, Spells}
use Rattle.bench_net.specs.Step.{skipped, name_len, Step, ends, bad, begins, delimiter_step, front_step, pins_read}

-- the blanks in front
abbrev gap_of : List ℕ → List ℕ
gap_of [] = []
gap_of (b ∷ bs) = cond (is_gap b) (b ∷ gap_of bs) []

gap_of-skipped : (text : List ℕ) → text ≡ gap_of text ++ skipped text
gap_of-skipped [] = refl
gap_of-skipped (b ∷ bs) =
    elim (cases_Bool (is_gap b)) [
      | inl e ↦ rw (e) (ap (λ t. b ∷ t) (gap_of-skipped bs))
      | inr e ↦ rw (e) refl
    ]

gap_of-blank : (text : List ℕ) → AllPass is_gap (gap_of text)
gap_of-blank [] = All-nil (λ b. is_gap b ≡ true)
gap_of-blank (b ∷ bs) =
    elim (cases_Bool (is_gap b)) [
      | inl e ↦ rw (e) (All-cons (λ x. is_gap x ≡ true) b (gap_of bs) e (gap_of-blank bs))
      | inr e ↦ rw (e) (All-nil (λ x. is_gap x ≡ true))
    ]

skipped-gap : (gap rest : List ℕ) → AllPass is_gap gap → skipped (gap ++ rest) ≡ skipped rest
skipped-gap [] rest h = refl
skipped-gap (b ∷ bs) rest h =
    let e = All-head (λ x. is_gap x ≡ true) b bs h in
    rw (e) (skipped-gap bs rest (All-tail (λ x. is_gap x ≡ true) b bs h))

skipped-none : (b : ℕ) (bs : List ℕ) → is_gap b ≡ false → skipped (b ∷ bs) ≡ b ∷ bs
skipped-none b bs e = rw (e) refl

-- a byte of a name is no blank
name_byte-blank : (b : ℕ) → is_name_byte b ≡ true → is_gap b ≡ false
name_byte-blank b h = grind (arith, common_steps)

-- the parts so far, and those of the rest, are those of the line; and a line that is made of parts
-- leaves a rest that is
pub record Parsing (parts : List Lexeme) (rest line : List ℕ) : Type 0 where
  pub forth : (ps : List Lexeme) → Spells ps rest → Spells (parts ++ ps) line
  pub back : (ps : List Lexeme) → Spells ps line → (qs : List Lexeme) × Spells qs rest

-- the pins so far, in front of those of the rest, are those of the list
pub record Listing (pins : List (List ℕ)) (rest parts : List Lexeme) : Type 0 where
  pub some : (ns : List (List ℕ)) → pins_read rest ≡ Some ns → pins_read parts ≡ Some (pins ++ ns)
  pub none : pins_read rest ≡ None → pins_read parts ≡ None

-- what stands in front of a text that begins with no blank
pub record Starts (p : Lexeme) (text rest : List ℕ) : Type 0 where
  pub whole : text ≡ written p ++ rest
  pub part_is : IsPart p rest

goes_on-drop : (text : List ℕ) → goes_on (drop (name_len text) text) ≡ false
goes_on-drop [] = refl
goes_on-drop (b ∷ bs) =
    elim (cases_Bool (is_name_byte b)) [ inl e ↦ rw (e) (goes_on-drop bs) | inr e ↦ rw (e) e ]

AllPass-name : (text : List ℕ) → AllPass is_name_byte (take (name_len text) text)
AllPass-name [] = All-nil (λ x. is_name_byte x ≡ true)
AllPass-name (b ∷ bs) =
    elim (cases_Bool (is_name_byte b)) [
      | inl e ↦ rw (e) (All-cons (λ x. is_name_byte x ≡ true) b (take (name_len bs) bs) e
          (AllPass-name bs))
      | inr e ↦ rw (e) (All-nil (λ x. is_name_byte x ≡ true))
    ]

name_len-word : (w rest : List ℕ) → AllPass is_name_byte w → goes_on rest ≡ false
    → name_len (w ++ rest) ≡ length w
name_len-word [] [] h g = refl
name_len-word [] (b ∷ bs) h g = rw (g) refl
name_len-word (b ∷ w) rest h g =
    let e = All-head (λ x. is_name_byte x ≡ true) b w h in
    rw (e) (ap suc (name_len-word w rest (All-tail (λ x. is_name_byte x ≡ true) b w h) g))

take-name : (w rest : List ℕ) → take (length w) (w ++ rest) ≡ w
take-name w rest = take_at w rest (length w) refl

drop-name : (w rest : List ℕ) → drop (length w) (w ++ rest) ≡ rest
drop-name w rest = drop_at w rest (length w) refl

-- the step at a text whose first byte is of a name
name_step : (b : ℕ) (bs : List ℕ) → is_name_byte b ≡ true → front_step (b ∷ bs)
    ≡ begins (word (take (name_len (b ∷ bs)) (b ∷ bs))) (drop (name_len (b ∷ bs)) (b ∷ bs))
name_step b bs e = rw (e) refl

word-step : (w rest : List ℕ) → IsPart (word w) rest → front_step (w ++ rest) ≡ begins (word w) rest
word-step [] rest h = absurd (omega (arith, h.0))
word-step (b ∷ w) rest h =
    let e : is_name_byte b ≡ true = All-head (λ x. is_name_byte x ≡ true) b w h.1 in
    let n : name_len ((b ∷ w) ++ rest) ≡ length (b ∷ w) = name_len-word (b ∷ w) rest h.1 h.2 in
    name_step b (w ++ rest) e
    ∙ ap (λ k. begins (word (take k ((b ∷ w) ++ rest))) (drop k ((b ∷ w) ++ rest))) n
    ∙ ap (λ t. begins (word t) (drop (length (b ∷ w)) ((b ∷ w) ++ rest))) (take-name (b ∷ w) rest)
    ∙ ap (λ t. begins (word (b ∷ w)) t) (drop-name (b ∷ w) rest)

delimiter-step : (m : Delimiter) (rest : List ℕ) → front_step (delimiter_byte m ∷ rest) ≡ begins (delimiter m) rest
delimiter-step Open rest = refl
delimiter-step Close rest = refl
delimiter-step Comma rest = refl
delimiter-step Equals rest = refl

-- what is written begins with no blank
skipped-written : (p : Lexeme) (rest : List ℕ) → IsPart p rest → skipped (written p ++ rest)
    ≡ written p ++ rest
skipped-written (word []) rest h = absurd (omega (arith, h.0))
skipped-written (word (b ∷ w)) rest h = skipped-none b (w
    ++ rest) (name_byte-blank b (All-head (λ x. is_name_byte x ≡ true) b w h.1))
skipped-written (delimiter Open) rest h = refl
skipped-written (delimiter Close) rest h = refl
skipped-written (delimiter Comma) rest h = refl
skipped-written (delimiter Equals) rest h = refl

written-step : (p : Lexeme) (rest : List ℕ) → IsPart p rest → front_step (written p ++ rest)
    ≡ begins p rest
written-step (word w) rest h = word-step w rest h
written-step (delimiter m) rest h = delimiter-step m rest

-- a part that the text begins with is what the code finds there
pub step-Begins : (p : Lexeme) (text rest : List ℕ) → Begins p text rest → front_step (skipped text)
    ≡ begins p rest
step-Begins p text rest h =
    ap (λ t. front_step (skipped t)) h.whole
    ∙ ap front_step (skipped-gap h.gap (written p ++ rest) h.blank)
    ∙ ap front_step (skipped-written p rest h.part_is)
    ∙ written-step p rest h.part_is

comment-step : (rest : List ℕ) → IsComment rest → front_step (skipped rest) ≡ ends
comment-step [] h = refl
comment-step (b ∷ bs) h = rw (h) refl

pub step-Ends : (text : List ℕ) → Ends text → front_step (skipped text) ≡ ends
step-Ends text h =
    ap (λ t. front_step (skipped t)) h.whole
    ∙ ap front_step (skipped-gap h.gap h.rest h.blank)
    ∙ comment-step h.rest h.comment

-- what a step says of a text that begins with no blank
abbrev StepIs : List ℕ → Step → Type 0
StepIs text ends = IsComment text
StepIs text bad = Unit {0}
StepIs text (begins p rest) = Starts p text rest

sign_is : (b : ℕ) (bs : List ℕ) → StepIs (b ∷ bs) (delimiter_step b bs)
sign_is b bs =
    cond_both (eqb b 35) _ _ (StepIs (b ∷ bs)) (λ e. eqb-true b 35 e) (λ _.
    cond_both (eqb b 40) _ _ (StepIs (b ∷ bs))
    (λ e. record { whole = ap (λ x. x ∷ bs) (eqb-true b 40 e); part_is = tt }) (λ _.
    cond_both (eqb b 41) _ _ (StepIs (b ∷ bs))
    (λ e. record { whole = ap (λ x. x ∷ bs) (eqb-true b 41 e); part_is = tt }) (λ _.
    cond_both (eqb b 44) _ _ (StepIs (b ∷ bs))
    (λ e. record { whole = ap (λ x. x ∷ bs) (eqb-true b 44 e); part_is = tt }) (λ _.
    cond_both (eqb b 61) _ _ (StepIs (b ∷ bs))
    (λ e. record { whole = ap (λ x. x ∷ bs) (eqb-true b 61 e); part_is = tt }) (λ _. tt)))))

word_starts : (b : ℕ) (bs : List ℕ) → is_name_byte b ≡ true
    → Starts (word (take (name_len (b ∷ bs)) (b ∷ bs))) (b ∷ bs) (drop (name_len (b ∷ bs)) (b ∷ bs))
word_starts b bs e = record {
  whole = sym (take-append-drop (name_len (b ∷ bs)) (b ∷ bs));
  part_is = (rw (e) (omega arith), AllPass-name (b ∷ bs), goes_on-drop (b ∷ bs));
}

step_is : (text : List ℕ) → StepIs text (front_step text)
step_is [] = tt
step_is (b ∷ bs) = cond_both (is_name_byte b) _ _ (StepIs (b ∷ bs)) (word_starts b bs)
    (λ _. sign_is b bs)

-- what the code finds is what stands there
pub Begins-step : (p : Lexeme) (text rest : List ℕ) → front_step (skipped text) ≡ begins p rest
    → Begins p text rest
Begins-step p text rest e =
    let starts = subst (StepIs (skipped text)) e (step_is (skipped text)) in
    record {
      gap = gap_of text;
      whole = gap_of-skipped text ∙ ap (λ t. gap_of text ++ t) starts.whole;
      blank = gap_of-blank text;
      part_is = starts.part_is;
    }

pub Ends-step : (text : List ℕ) → front_step (skipped text) ≡ ends → Ends text
Ends-step text e = record {
  gap = gap_of text;
  rest = skipped text;
  whole = gap_of-skipped text;
  blank = gap_of-blank text;
  comment = subst (StepIs (skipped text)) e (step_is (skipped text));
}

ends_begins : (s : Step) (p : Lexeme) (rest : List ℕ) → s ≡ ends → s ≡ begins p rest → ⊥
ends_begins s p rest e b = cc

ends_bad : (s : Step) → s ≡ ends → s ≡ bad → ⊥
ends_bad s e b = cc

begins_bad : (s : Step) (p : Lexeme) (rest : List ℕ) → s ≡ begins p rest → s ≡ bad → ⊥
begins_bad s p rest e b = cc

same_rest : (s : Step) (p q : Lexeme) (r t : List ℕ) → s ≡ begins p r → s ≡ begins q t → r ≡ t
same_rest s p q r t e b = cc

same_part : (s : Step) (p q : Lexeme) (r t : List ℕ) → s ≡ begins p r → s ≡ begins q t → p ≡ q
same_part s p q r t e b = cc

-- what is read of a text that begins with a part
rest_parsed : (p : Lexeme) (text more : List ℕ) → Begins p text more → (qs : List Lexeme)
    → Spells qs text → (rs : List Lexeme) × Spells rs more
rest_parsed p text more b [] s = absurd
    (ends_begins (front_step (skipped text)) p more (step-Ends text s) (step-Begins p text more b))
rest_parsed p text more b (q ∷ qs) s = (
  qs,
  subst (Spells qs) (same_rest (front_step (skipped text)) q p s.0 more
      (step-Begins q text s.0 s.1) (step-Begins p text more b)) s.2,
)

pub Parsing-goes_on : (parts : List Lexeme) (p : Lexeme) (rest more line : List ℕ)
    → front_step (skipped rest) ≡ begins p more → Parsing parts rest line
    → Parsing (parts ++ p ∷ []) more line
Parsing-goes_on parts p rest more line e h =
    let b = Begins-step p rest more e in
    record {
      forth = λ ps s. subst (λ (qs : List Lexeme). Spells qs line)
          (sym (append_assoc parts (p ∷ []) ps)) (h.forth (p ∷ ps) (more, b, s));
      back = λ ps s. rest_parsed p rest more b (h.back ps s).0 (h.back ps s).1;
    }

pub Parsing-is_done : (parts : List Lexeme) (rest line : List ℕ) → front_step (skipped rest) ≡ ends
    → Parsing parts rest line → Spells parts line
Parsing-is_done parts rest line e h =
    subst (λ (qs : List Lexeme). Spells qs line) (append-nil parts) (h.forth [] (Ends-step rest e))

not_parsed : (rest : List ℕ) → front_step (skipped rest) ≡ bad → (qs : List Lexeme) → Spells qs rest
    → ⊥
not_parsed rest e [] s = ends_bad (front_step (skipped rest)) (step-Ends rest s) e
not_parsed rest e (q ∷ qs) s = begins_bad (front_step (skipped rest)) q s.0
    (step-Begins q rest s.0 s.1) e

pub Parsing-stops : (parts : List Lexeme) (rest line : List ℕ) → front_step (skipped rest) ≡ bad
    → Parsing parts rest line → (ps : List Lexeme) → Spells ps line → ⊥
Parsing-stops parts rest line e h ps s = not_parsed rest e (h.back ps s).0 (h.back ps s).1

pub front-shorter : (p : Lexeme) (rest more : List ℕ) → front_step (skipped rest) ≡ begins p more
    → length more < length rest
front-shorter p rest more e =
    let b = Begins-step p rest more e in
    let whole = ap length b.whole in
    let some = written_some p more b.part_is in
    omega (arith, whole, length-append b.gap (written p ++ more), length-append (written p) more)
  where
    written_some : (p : Lexeme) (more : List ℕ) → IsPart p more → 0 < length (written p)
    written_some (word w) more h = h.0
    written_some (delimiter m) more h = omega arith

-- a line is made of parts in one way at most
pub one_spelling : (ps qs : List Lexeme) (text : List ℕ) → Spells ps text → Spells qs text → ps ≡ qs
one_spelling [] [] text s t = refl
one_spelling [] (q ∷ qs) text s t = absurd
    (ends_begins (front_step (skipped text)) q t.0 (step-Ends text s) (step-Begins q text t.0 t.1))
one_spelling (p ∷ ps) [] text s t = absurd
    (ends_begins (front_step (skipped text)) p s.0 (step-Ends text t) (step-Begins p text s.0 s.1))
one_spelling (p ∷ ps) (q ∷ qs) text s t =
    let a = step-Begins p text s.0 s.1 in
    let b = step-Begins q text t.0 t.1 in
    let same = same_rest (front_step (skipped text)) q p t.0 s.0 b a in
    ap (λ x. x ∷ ps) (same_part (front_step (skipped text)) p q s.0 t.0 a b)
    ∙ ap (λ xs. q ∷ xs) (one_spelling ps qs s.0 s.2 (subst (Spells qs) same t.2))
