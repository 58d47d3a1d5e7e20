-- The fault of a text is one, and texts of the kind have none.
use Rattle.std.proofs.Common.{◌≡◌, ℕ, ◌+◌, ◌<◌, true, List, [], ◌∷◌, ◌++◌, length, refl, sym, ap, subst, ◌∙◌, inl, inr, arith, append_assoc, length-append}
use Rattle.std.proofs.lemmas.Bool.{cases_order}
use Rattle.std.proofs.lemmas.List.{append-nil}
use Rattle.text_bytes.specs.Texts.{AreLines}
use Rattle.text_bytes.proofs.TextLemmas.{lines_behind}
use Rattle.part_lines.specs.Lines.{is_one_line, ended, lines_in}
use Rattle.part_lines.specs.LineFault.{Begins, NoLine, wrong, unended, short, IsLineFault}
use Rattle.part_lines.specs.Reading.{IsNext, GoesOn}
use Rattle.part_lines.proofs.LineLemmas.{one_reading, one_or_next, ended_is_more, ended_not_empty, cut_further, end_begins, lines_in-append}

-- ---- fronts

-- what begins with a longer front begins with a shorter one
pub begins_shorter : (Whole : List ℕ → Type 0) (front more : List ℕ) → Begins Whole (front ++ more) → Begins Whole front
begins_shorter Whole front more begins = record {
  back = more ++ begins.back;
  whole = subst Whole (append_assoc front more begins.back) begins.whole;
}

-- ---- one fault

-- where a text of the kind goes on by a line, the next line is right
no_line_apart : (Whole : List ℕ → Type 0) (front rest line later : List ℕ) → IsNext rest line → Begins Whole (front ++ ended line) →
    NoLine Whole front rest → ⊥
no_line_apart Whole front rest line later next begins (wrong other behind is one none) =
    let same = one_reading other line behind next.later one next.one (sym is ∙ next.is) in
    none (subst (λ (l : List ℕ). Begins Whole (front ++ ended l)) (sym same.0) begins)
no_line_apart Whole front rest line later next begins (unended byte behind is one) =
    ended_is_more line next.later (ap is_one_line (sym next.is) ∙ one)
no_line_apart Whole front rest line later next begins (short none no_whole) =
    ended_not_empty line next.later (sym next.is ∙ none)

-- a fault doesn't stand before lines that are right
not_before : (Whole : List ℕ → Type 0) (f1 r1 f2 r2 : List ℕ) → f1 ++ r1 ≡ f2 ++ r2 → length f1 < length f2 → AreLines f2 →
    Begins Whole f2 → NoLine Whole f1 r1 → ⊥
not_before Whole f1 r1 f2 r2 e shorter lines begins none =
    let cut = cut_further f1 r1 f2 r2 e (omega arith) in
    let some : 0 < length cut.0 = let size : length f2 ≡ length (f1 ++ cut.0) = ap length cut.1 in let sum = length-append f1 cut.0 in omega arith in
    let first = end_begins f1 cut.0 some (subst AreLines cut.1 lines) in
    let next : IsNext r1 first.0 = record {
      one = first.1.one;
      later = first.1.later ++ r2;
      is = cut.2 ∙ ap (λ t. t ++ r2) first.1.is ∙ append_assoc (ended first.0) first.1.later r2;
    } in
    let goes_on : Begins Whole (f1 ++ ended first.0) =
    begins_shorter Whole (f1 ++ ended first.0) first.1.later
    (subst (Begins Whole) (cut.1 ∙ ap (λ t. f1 ++ t) first.1.is ∙ sym (append_assoc f1 (ended first.0) first.1.later)) begins) in
    no_line_apart Whole f1 r1 first.0 [] next goes_on none

-- fronts of one length are one
same_front : (a x b y : List ℕ) → a ++ x ≡ b ++ y → length a ≡ length b → a ≡ b
same_front a x b y e size =
    let cut = cut_further a x b y e (omega arith) in
    let none : length cut.0 ≡ 0 = let len = ap length cut.1 in let sum = length-append a cut.0 in omega arith in
    sym (cut.1 ∙ ap (λ t. a ++ t) (empty cut.0 none) ∙ append-nil a)
  where
    empty : (xs : List ℕ) → length xs ≡ 0 → xs ≡ []
    empty [] e = refl
    empty (x ∷ xs) e = absurd (omega arith)

-- a text has at most one fault
pub one_fault : (Whole : List ℕ → Type 0) (text : List ℕ) (m n : ℕ) → IsLineFault Whole text m → IsLineFault Whole text n → m ≡ n
one_fault Whole text m n p q =
    elim (cases_order (length p.front) (length q.front)) [
      | inl same ↦ p.number ∙ ap (λ f. lines_in f + 1) (same_front p.front p.rest q.front q.rest (sym p.whole ∙ q.whole) same) ∙ sym q.number
      | inr (inl before) ↦
          absurd (not_before Whole p.front p.rest q.front q.rest (sym p.whole ∙ q.whole) before q.lines q.begins p.next)
      | inr (inr behind) ↦
          absurd (not_before Whole q.front q.rest p.front p.rest (sym q.whole ∙ p.whole) behind p.lines p.begins q.next)
    ]

-- behind whole lines of a text of the kind, nothing is wrong
whole_is_right : (Whole : List ℕ → Type 0) (front rest : List ℕ) → AreLines (front ++ rest) → Whole (front ++ rest) →
    NoLine Whole front rest → ⊥
whole_is_right Whole front rest lines whole (wrong line later is one none) =
    none (record {
      back = later;
      whole = subst Whole (ap (λ t. front ++ t) is ∙ sym (append_assoc front (ended line) later)) whole;
    })
whole_is_right Whole front rest lines whole (unended byte later is one) =
    let first = end_begins front rest (let size = ap length is in omega arith) lines in
    ended_is_more first.0 first.1.later (ap is_one_line (sym first.1.is) ∙ one)
whole_is_right Whole front rest lines whole (short none no_whole) =
    no_whole (subst Whole (ap (λ t. front ++ t) none ∙ append-nil front) whole)

-- a text of the kind has no fault, where those of the kind are whole lines
pub no_fault_where_whole : (Whole : List ℕ → Type 0) (text : List ℕ) (n : ℕ) → AreLines text → Whole text →
    IsLineFault Whole text n → ⊥
no_fault_where_whole Whole text n lines whole fault =
    whole_is_right Whole fault.front fault.rest (subst AreLines fault.whole lines) (subst Whole fault.whole whole) fault.next

-- ---- what goes on

-- what goes on as it is
pub goes_on_at_once : (Whole : List ℕ → Type 0) → GoesOn Whole Whole []
goes_on_at_once Whole = record { whole = λ back w. w; only = λ back w. w }

-- one step behind another
pub goes_on_more : (Whole Rest Last : List ℕ → Type 0) (front more : List ℕ) → GoesOn Whole Rest front → GoesOn Rest Last more →
    GoesOn Whole Last (front ++ more)
goes_on_more Whole Rest Last front more first second = record {
  whole = λ back last. subst Whole (sym (append_assoc front more back)) (first.whole (more ++ back) (second.whole back last));
  only = λ back w. second.only back (first.only (more ++ back) (subst Whole (append_assoc front more back) w));
}

-- what begins so behind a front
pub begins_behind : (Whole Rest : List ℕ → Type 0) (front more : List ℕ) → GoesOn Whole Rest front → Begins Rest more →
    Begins Whole (front ++ more)
begins_behind Whole Rest front more goes begins = record {
  back = begins.back;
  whole = subst Whole (sym (append_assoc front more begins.back)) (goes.whole (more ++ begins.back) begins.whole);
}

-- the same, back
pub begins_there : (Whole Rest : List ℕ → Type 0) (front more : List ℕ) → GoesOn Whole Rest front → Begins Whole (front ++ more) →
    Begins Rest more
begins_there Whole Rest front more goes begins = record {
  back = begins.back;
  whole = goes.only (more ++ begins.back) (subst Whole (append_assoc front more begins.back) begins.whole);
}

-- what is no next line behind a front is none of the whole text
pub no_line_behind : (Whole Rest : List ℕ → Type 0) (front more rest : List ℕ) → GoesOn Whole Rest front → NoLine Rest more rest →
    NoLine Whole (front ++ more) rest
no_line_behind Whole Rest front more rest goes (wrong line later is one none) =
    wrong line later is one
    (λ begins. none (begins_there Whole Rest front (more ++ ended line) goes (subst (Begins Whole) (append_assoc front more (ended line)) begins)))
no_line_behind Whole Rest front more rest goes (unended byte later is one) = unended byte later is one
no_line_behind Whole Rest front more rest goes (short none no_whole) =
    short none (λ w. no_whole (subst Rest (append-nil more) (goes.only (more ++ []) (subst Whole (sym (append-nil (front ++ more)) ∙ append_assoc front more []) w))))

-- a fault of what stands behind lines is one of the whole text
pub fault_behind : (Whole Rest : List ℕ → Type 0) (front text : List ℕ) (n : ℕ) → AreLines front → GoesOn Whole Rest front →
    IsLineFault Rest text n → IsLineFault Whole (front ++ text) (lines_in front + n)
fault_behind Whole Rest front text n lines goes fault = record {
  front = front ++ fault.front;
  rest = fault.rest;
  whole = ap (λ t. front ++ t) fault.whole ∙ sym (append_assoc front fault.front fault.rest);
  lines = lines_behind front fault.front lines fault.lines;
  number = let sum = lines_in-append front fault.front in let was = fault.number in omega arith;
  begins = begins_behind Whole Rest front fault.front goes fault.begins;
  next = no_line_behind Whole Rest front fault.front fault.rest goes fault.next;
}

-- Where each text of the kind begins with a line that is allowed, and this text begins with none of them, its first line
-- is its fault.
pub first_line_fault : (Whole Allowed : List ℕ → Type 0) (text : List ℕ) → Begins Whole [] →
    ((whole : List ℕ) → Whole whole → (line : List ℕ) × IsNext whole line × Allowed line) →
    ((line : List ℕ) → IsNext text line → Allowed line → ⊥) → IsLineFault Whole text 1
first_line_fault Whole Allowed text begins allowed none =
    let next : NoLine Whole [] text = elim (one_or_next text) [
      | inl one ↦ by_end text one refl
      | inr (line, found) ↦ wrong line found.later found.is found.one (λ more.
          let first = allowed (ended line ++ more.back) more.whole in
          let same = one_reading line first.0 more.back first.1.later found.one first.1.one first.1.is in
          none line found (subst Allowed (sym same.0) first.2))
    ] in
    record {
      front = [];
      rest = text;
      whole = refl;
      lines = inl refl;
      number = refl;
      begins = begins;
      next = next;
    }
  where
    by_end : (rest : List ℕ) → is_one_line rest ≡ true → rest ≡ text → NoLine Whole [] text
    by_end [] one is = short (sym is) (λ w. let first = allowed [] w in ended_not_empty first.0 first.1.later (sym first.1.is))
    by_end (b ∷ bytes) one is = unended b bytes (sym is) (ap is_one_line (sym is) ∙ one)

-- Where the text of the kind ends here, and this text doesn't, its first line is its fault.
pub end_fault : (Whole : List ℕ → Type 0) (text : List ℕ) → Whole [] → ((whole : List ℕ) → Whole whole → whole ≡ []) →
    (text ≡ [] → ⊥) → IsLineFault Whole text 1
end_fault Whole text ends only more = record {
  front = [];
  rest = text;
  whole = refl;
  lines = inl refl;
  number = refl;
  begins = record { back = []; whole = ends };
  next = elim (one_or_next text) [
    | inl one ↦ by_end text one refl
    | inr (line, found) ↦
        wrong line found.later found.is found.one (λ longer.
        ended_not_empty line longer.back (only (ended line ++ longer.back) longer.whole))
  ];
}
  where
    by_end : (rest : List ℕ) → is_one_line rest ≡ true → rest ≡ text → NoLine Whole [] text
    by_end [] one is = absurd (more (sym is))
    by_end (b ∷ bytes) one is = unended b bytes (sym is) (ap is_one_line (sym is) ∙ one)
