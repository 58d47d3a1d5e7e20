-- Which line of a text is its fault, where the reading of a part's text stops.
use Rattle.std.proofs.Common.{◌≡◌, ℕ, ◌+◌, ◌<◌, ◌≤◌, ◌&&◌, ◌⊎◌, Bool, true, false, List, [], ◌∷◌, ◌++◌, length, take, drop, refl, sym, ap, ◌∙◌, subst, arith, inl, inr, append_assoc}
use Rattle.std.specs.Prelude.{codes, Option, Some, None, is_some, Result, Ok, Err, MatchResult}
use Rattle.std.specs.List.{flat_map}
use Rattle.std.specs.Str.{bytes_eq}
use Rattle.std.proofs.lemmas.List.{append-nil, take-append-drop}
use Rattle.std.proofs.lemmas.Bool.{and_parts, false≢true}
use Rattle.std.proofs.lemmas.Grind.{flat_map-append}
use Rattle.std.proofs.lemmas.Slice.Eq.{bytes_eq-Decides}
use Rattle.text_bytes.specs.Bytes.{is_digit}
use Rattle.text_bytes.specs.Texts.{AreLines}
use Rattle.text_bytes.proofs.TextLemmas.{lines_behind}
use Rattle.part_lines.specs.Lines.{is_one_line, ended, lines_in}
use Rattle.part_lines.specs.declared.fault.LineFault.{LineFault}
use Rattle.part_lines.specs.declared.fault.LineFault.TheVariants.{NoMemory, Line}
use Rattle.part_lines.specs.LineFault.{NoLine, wrong, unended, short, IsLineFault}
use Rattle.grade_parts.specs.Log.{GradeLog, Stuck, Tells, is_good, AreFaults, counts_line, log_text, IsLog}
use Rattle.grade_parts.specs.Turns.{open_net, comes_next, AreInTurn, AreEnded, IsPartBehind, HasGood, IsPartOf}
use Rattle.grade_parts.specs.Held.{lines_of, AreHeld}
use Rattle.grade_parts.specs.Step.{Known, Knows, AreMore, IsFirst, LacksGood, LacksNext, AreFront, counts_text}
use Rattle.grade_parts.specs.Reads.{IsGoodSaid, is_good_of, IsReadPart, ReadsPart}
use Rattle.part_lines.proofs.LineLemmas.{one_reading, ended_not_empty, lines_ended}
use Rattle.part_lines.proofs.FaultLemmas.{no_fault_where_whole, one_fault}
use Rattle.grade_parts.proofs.LineLemmas.{one_first, Opening, empty, open_end, begins, opening_of, count-line}
use Rattle.grade_parts.proofs.LogLemmas.{counts_body, counts_one, counts_no_fault, fault_one, good_one, log_front, one_log}
use Rattle.grade_parts.proofs.TurnLemmas.{AreNamed, turn_faults, turn_split, turn_join, one_turn, Closes, closed, turn_known, lacks_known}

-- ---- texts of a part

-- Behind parts that told of some faults, this was read: the line of a good die, and lines that tell of these faults, each
-- in its turn.
pub record IsFrontOf (said : Option (List ℕ)) (before : List Stuck) (last : Bool) (good : List ℕ) (xs : List (List ℕ))
    (told : List Stuck) : Type 0 where
  pub fits : is_good good ≡ true
  pub same : is_good_of said good ≡ true
  pub turn : AreInTurn before xs told
  pub named : AreNamed (before ++ told)

-- the lines of a good die and of faults
abbrev pub front_of : List ℕ → List (List ℕ) → List ℕ
front_of good xs = ended good ++ flat_map ended xs

-- with the line of their counts they are the text of a grade
pub log_of : (good : List ℕ) (xs : List (List ℕ)) → is_good good ≡ true → AreFaults xs
    → IsLog (front_of good xs ++ counts_line xs) (record { good = good; faults = xs })
unfolding log_text
log_of good xs fits are = record { are = record { good = fits; faults = are }; is = refl }

has_good : (said : Option (List ℕ)) (good : List ℕ) (xs : List (List ℕ)) → is_good_of said good ≡ true
    → HasGood said (record { good = good; faults = xs })
has_good None good xs e = tt
has_good (Some line) good xs e = sym ((bytes_eq-Decides line good).0 e)

-- they are a part, where no net lacks its fault at 1 behind the last one
pub part_of : (said : Option (List ℕ)) (before : List Stuck) (last : Bool) (good : List ℕ) (xs : List (List ℕ)) (told : List Stuck)
    → IsFrontOf said before last good xs told → AreEnded last (before ++ told)
    → IsPartOf said before last (front_of good xs ++ counts_line xs)
part_of said before last good xs told front done = (
  record { good = good; faults = xs },
  told,
  record {
    is_log = log_of good xs front.fits (turn_faults before xs told front.turn);
    in_turn = front.turn;
    ended = done;
  },
  has_good said good xs front.same,
)

-- some text of a part begins so
some_back : (said : Option (List ℕ)) (before : List Stuck) (last : Bool) (good : List ℕ) (xs : List (List ℕ)) (told : List Stuck)
    → IsFrontOf said before last good xs told → (back : List ℕ) × IsPartOf said before last (front_of good xs ++ back)
some_back said before last good xs told front =
    let more = closed (before ++ told) front.named in
    let lines = xs ++ more.lines in
    let all = told ++ more.told in
    let turn : AreInTurn before lines all = turn_join xs more.lines before told more.told front.turn more.turn in
    let done : AreEnded last (before ++ all) =
    λ _. ap open_net (sym (append_assoc before told more.told)) ∙ more.none in
    let text : front_of good lines ++ counts_line lines ≡ front_of good xs ++ (flat_map ended more.lines ++ counts_line lines) =
    ap (λ (l : List ℕ). (ended good ++ l) ++ counts_line lines) (flat_map-append ended xs more.lines)
    ∙ ap (λ (l : List ℕ). l ++ counts_line lines) (sym (append_assoc (ended good) (flat_map ended xs) (flat_map ended more.lines)))
    ∙ append_assoc (front_of good xs) (flat_map ended more.lines) (counts_line lines) in (
      flat_map ended more.lines ++ counts_line lines,
      subst (IsPartOf said before last) text (
        record { good = good; faults = lines },
        all,
        record {
          is_log = log_of good lines front.fits (turn_faults before lines all turn);
          in_turn = turn;
          ended = done;
        },
        has_good said good lines front.same,
      ),
    )

-- behind the lines of faults a text of a part goes on so
pub record GoesOnSo (before : List Stuck) (last : Bool) (xs : List (List ℕ)) (told : List Stuck) (rest : List ℕ) : Type 0 where
  pub lines : List (List ℕ)
  pub all : List (List ℕ)
  pub later : List Stuck
  pub turn : AreInTurn (before ++ told) lines later
  pub all_is : all ≡ xs ++ lines
  pub rest_is : flat_map ended lines ++ counts_line all ≡ rest
  pub done : AreEnded last (before ++ (told ++ later))

goes_on : (said : Option (List ℕ)) (before : List Stuck) (last : Bool) (good : List ℕ) (xs : List (List ℕ)) (told : List Stuck)
    (rest text : List ℕ) → IsFrontOf said before last good xs told
    → IsPartOf said before last text → text ≡ front_of good xs ++ rest → GoesOnSo before last xs told rest
goes_on said before last good xs told rest text front part e =
    let log = part.0 in
    let found = log_front good xs rest text log front.fits (turn_faults before xs told front.turn) part.2.is_log
    (e ∙ append_assoc (ended good) (flat_map ended xs) rest) in
    let split = turn_split xs found.1.0 before part.1
    (subst (λ (l : List (List ℕ)). AreInTurn before l part.1) found.1.1 part.2.in_turn) in
    let same : split.0 ≡ told = one_turn xs before split.0 told split.3 front.turn in
    record {
      lines = found.1.0;
      all = log.faults;
      later = split.1;
      turn = subst (λ (t : List Stuck). AreInTurn (before ++ t) found.1.0 split.1) same split.4;
      all_is = found.1.1;
      rest_is = found.1.3;
      done = λ is. ap (λ (t : List Stuck). open_net (before ++ (t ++ split.1))) (sym same)
          ∙ ap (λ (t : List Stuck). open_net (before ++ t)) (sym split.2) ∙ part.2.ended is;
    }

front_lines : (good : List ℕ) (xs : List (List ℕ)) → AreLines (front_of good xs)
front_lines good xs = lines_behind (ended good) (flat_map ended xs) (inr (good, refl)) (lines_ended xs)

count-faults : (xs : List (List ℕ)) → AreFaults xs → (rest : List ℕ) → lines_in (flat_map ended xs ++ rest) ≡ lines_in rest + length xs
count-faults [] are rest = omega arith
count-faults (x ∷ xs) are rest =
    ap lines_in (append_assoc (ended x) (flat_map ended xs) rest)
    ∙ count-line x (flat_map ended xs ++ rest) (fault_one x are.0) ∙ omega (arith, count-faults xs are.1 rest)

count-front : (good : List ℕ) (xs : List (List ℕ)) (rest : List ℕ) → is_good good ≡ true → AreFaults xs
    → lines_in (front_of good xs ++ rest) ≡ lines_in rest + length xs + 1
count-front good xs rest fits are =
    ap lines_in (append_assoc (ended good) (flat_map ended xs) rest)
    ∙ count-line good (flat_map ended xs ++ rest) (good_one good fits) ∙ omega (arith, count-faults xs are rest)

-- ---- no next line

nothing : (line rest : List ℕ) → [] ≡ ended line ++ rest → ⊥
nothing line rest e = ended_not_empty line rest (sym e)

-- no fault of those that come next stands there, nor the line of the counts where no net lacks its fault at 1
pub record HasNoNext (before : List Stuck) (last : Bool) (xs : List (List ℕ)) (told : List Stuck) (rest : List ℕ) : Type 0 where
  pub no_fault : (line later : List ℕ) (stuck : Stuck) → rest ≡ ended line ++ later → Tells line stuck
      → comes_next (open_net (before ++ told)) (before ++ told) stuck ≡ true → ⊥
  pub no_counts : (later : List ℕ) → rest ≡ counts_line xs ++ later → AreEnded last (before ++ told) → ⊥

-- no text of a part goes on with such a line
no_such : (before : List Stuck) (last : Bool) (xs lines all : List (List ℕ)) (told more : List Stuck) (line later back : List ℕ)
    → HasNoNext before last xs told (ended line ++ later) → is_one_line line ≡ true
    → AreInTurn (before ++ told) lines more → all ≡ xs ++ lines → flat_map ended lines ++ counts_line all ≡ ended line ++ back
    → AreEnded last (before ++ (told ++ more)) → ⊥
no_such before last xs [] all told [] line later back none one turn is e done =
    let same : all ≡ xs = is ∙ append-nil xs in
    let both = one_reading (counts_body all) line [] back (counts_one all) one (append-nil (counts_line all) ∙ e) in
    none.no_counts later (ap (λ (l : List ℕ). ended l ++ later) (sym both.0 ∙ ap counts_body same))
    (λ q. ap (λ (t : List Stuck). open_net (before ++ t)) (sym (append-nil told)) ∙ done q)
no_such before last xs [] all told (m ∷ more) line later back none one turn is e done = turn
no_such before last xs (l ∷ lines) all told [] line later back none one turn is e done = turn
no_such before last xs (l ∷ lines) all told (m ∷ more) line later back none one turn is e done =
    let both = one_reading l line (flat_map ended lines ++ counts_line all) back (fault_one l (m, turn.0)) one
    (sym (append_assoc (ended l) (flat_map ended lines) (counts_line all)) ∙ e) in
    none.no_fault line later m refl (subst (λ (t : List ℕ). Tells t m) both.0 turn.0) turn.1

-- nor ends there
no_end : (more all : List (List ℕ)) → flat_map ended more ++ counts_line all ≡ [] → ⊥
no_end [] all e = cc
no_end (m ∷ more) all e =
    nothing m (flat_map ended more ++ counts_line all) (sym e ∙ append_assoc (ended m) (flat_map ended more) (counts_line all))

-- nor goes on behind the line of the counts
no_more : (before : List Stuck) (xs lines all : List (List ℕ)) (told : List Stuck) (line back : List ℕ) → AreInTurn before lines told
    → all ≡ xs ++ lines → flat_map ended lines ++ counts_line all ≡ counts_line xs ++ (ended line ++ back) → ⊥
no_more before xs [] all told line back are is e =
    let both = one_reading (counts_body all) (counts_body xs) [] (ended line ++ back) (counts_one all) (counts_one xs)
    (append-nil (counts_line all) ∙ e) in
    nothing line back both.1
no_more before xs (m ∷ lines) all [] line back are is e = are
no_more before xs (m ∷ lines) all (stuck ∷ told) line back are is e =
    let both = one_reading m (counts_body xs) (flat_map ended lines ++ counts_line all) (ended line ++ back)
    (fault_one m (stuck, are.0)) (counts_one xs) (sym (append_assoc (ended m) (flat_map ended lines) (counts_line all)) ∙ e) in
    counts_no_fault xs stuck (subst (λ (t : List ℕ). Tells t stuck) both.0 are.0)

-- what stands behind the lines of faults is no next line
no_next : (said : Option (List ℕ)) (before : List Stuck) (last : Bool) (good : List ℕ) (xs : List (List ℕ)) (told : List Stuck)
    (rest : List ℕ) → IsFrontOf said before last good xs told → HasNoNext before last xs told rest → Opening rest
    → NoLine (IsPartOf said before last) (front_of good xs) rest
no_next said before last good xs told rest front none (empty e) =
    short e (λ w.
    (let found = goes_on said before last good xs told [] (front_of good xs) front w (sym (append-nil (front_of good xs))) in
    no_end found.lines found.all found.rest_is))
no_next said before last good xs told rest front none (open_end byte later e one) = unended byte later e one
no_next said before last good xs told rest front none (begins l later e one) =
    wrong l later e one (λ whole.
    (let found = goes_on said before last good xs told (ended l ++ whole.back) ((front_of good xs ++ ended l) ++ whole.back) front
    whole.whole (append_assoc (front_of good xs) (ended l) whole.back) in
    no_such before last xs found.lines found.all told found.later l later whole.back
    (subst (HasNoNext before last xs told) e none) one found.turn found.all_is found.rest_is found.done))

-- what stands behind the line of the counts is no next line
no_next_behind : (said : Option (List ℕ)) (before : List Stuck) (last : Bool) (good : List ℕ) (xs : List (List ℕ)) (told : List Stuck)
    (rest : List ℕ) (b : ℕ) (later : List ℕ) → IsFrontOf said before last good xs told → rest ≡ b ∷ later → Opening rest
    → NoLine (IsPartOf said before last) (front_of good xs ++ counts_line xs) rest
no_next_behind said before last good xs told rest b later front is (empty e) = absurd (some_none (sym is ∙ e))
  where
    some_none : b ∷ later ≡ [] → ⊥
    some_none e = cc
no_next_behind said before last good xs told rest b later front is (open_end byte after e one) = unended byte after e one
no_next_behind said before last good xs told rest b later front is (begins l after e one) =
    wrong l after e one (λ whole.
    (let lines = front_of good xs in
    let found = goes_on said before last good xs told (counts_line xs ++ (ended l ++ whole.back))
    (((lines ++ counts_line xs) ++ ended l) ++ whole.back) front whole.whole
    (append_assoc (lines ++ counts_line xs) (ended l) whole.back ∙ append_assoc lines (counts_line xs) (ended l ++ whole.back)) in
    no_more (before ++ told) xs found.lines found.all found.later l whole.back found.turn found.all_is found.rest_is))

-- ---- the fault

-- the line behind those of faults
pub fault_next : (said : Option (List ℕ)) (before : List Stuck) (last : Bool) (good : List ℕ) (xs : List (List ℕ)) (told : List Stuck)
    (rest text : List ℕ) (n : ℕ) → IsFrontOf said before last good xs told → HasNoNext before last xs told rest
    → text ≡ front_of good xs ++ rest → n ≡ length xs + 2 → IsLineFault (IsPartOf said before last) text n
fault_next said before last good xs told rest text n front none e count =
    let are = turn_faults before xs told front.turn in
    let some = some_back said before last good xs told front in
    record {
      front = front_of good xs;
      rest = rest;
      whole = e;
      lines = front_lines good xs;
      number = omega (arith, count, count-front good xs [] front.fits are, ap lines_in (append-nil (front_of good xs)));
      begins = record { back = some.0; whole = some.1 };
      next = no_next said before last good xs told rest front none (opening_of rest);
    }

-- the line behind that of the counts
pub fault_behind : (said : Option (List ℕ)) (before : List Stuck) (last : Bool) (good : List ℕ) (xs : List (List ℕ)) (told : List Stuck)
    (rest text : List ℕ) (b : ℕ) (later : List ℕ) (n : ℕ) → IsFrontOf said before last good xs told → AreEnded last (before ++ told)
    → rest ≡ b ∷ later → text ≡ front_of good xs ++ (counts_line xs ++ rest) → n ≡ length xs + 3
    → IsLineFault (IsPartOf said before last) text n
fault_behind said before last good xs told rest text b later n front done is e count =
    let lines = front_of good xs in
    let are = turn_faults before xs told front.turn in
    let one : lines_in (counts_line xs) ≡ 1 = ap lines_in (sym (append-nil (counts_line xs)))
    ∙ count-line (counts_body xs) [] (counts_one xs) in
    record {
      front = lines ++ counts_line xs;
      rest = rest;
      whole = e ∙ sym (append_assoc lines (counts_line xs) rest);
      lines = lines_behind lines (counts_line xs) (front_lines good xs) (inr (counts_body xs, refl));
      number = omega (arith, count, count-front good xs (counts_line xs) front.fits are, one);
      begins = record {
        back = [];
        whole = subst (IsPartOf said before last) (sym (append-nil (lines ++ counts_line xs)))
            (part_of said before last good xs told front done);
      };
      next = no_next_behind said before last good xs told rest b later front is (opening_of rest);
    }

-- the first line
pub fault_first : (Whole : List ℕ → Type 0) (some text : List ℕ) → Whole some → (Whole [] → ⊥)
    → ((line later back : List ℕ) → text ≡ ended line ++ later → is_one_line line ≡ true → Whole (ended line ++ back) → ⊥)
    → IsLineFault Whole text 1
fault_first Whole some text is none no_line =
    record {
      front = [];
      rest = text;
      whole = refl;
      lines = inl refl;
      number = refl;
      begins = record { back = some; whole = is };
      next = at (opening_of text);
    }
  where
    at : Opening text → NoLine Whole [] text
    at (empty e) = short e none
    at (open_end byte later e one) = unended byte later e one
    at (begins l later e one) = wrong l later e one (λ whole. no_line l later whole.back e one whole.whole)

no_log : (log : GradeLog) → IsLog [] log → ⊥
unfolding log_text
no_log log is =
    nothing log.good (flat_map ended log.faults ++ counts_line log.faults)
    (is.is ∙ append_assoc (ended log.good) (flat_map ended log.faults) (counts_line log.faults))

first_good : (l back : List ℕ) (log : GradeLog) → is_one_line l ≡ true → IsLog (ended l ++ back) log → l ≡ log.good
unfolding log_text
first_good l back log one is =
    (one_reading l log.good back (flat_map ended log.faults ++ counts_line log.faults) one (good_one log.good is.are.good)
    (is.is ∙ append_assoc (ended log.good) (flat_map ended log.faults) (counts_line log.faults))).0

good_for : (said : Option (List ℕ)) → IsGoodSaid said → (good : List ℕ) × (is_good good ≡ true) × (is_good_of said good ≡ true)
unfolding is_digit
good_for None is = (codes "good none", refl, refl)
good_for (Some good) is = (good, is, (bytes_eq-Decides good good).1 refl)

same_good : (said : Option (List ℕ)) (log : GradeLog) → HasGood said log → is_good_of said log.good ≡ true
same_good None log has = refl
same_good (Some good) log has = (bytes_eq-Decides good log.good).1 (sym has)

-- where no line of a good die stands that may be this one
pub fault_good : (said : Option (List ℕ)) (before : List Stuck) (last : Bool) (text : List ℕ) → IsGoodSaid said → AreNamed before
    → ((line later : List ℕ) → text ≡ ended line ++ later → is_one_line line ≡ true → is_good line ≡ true
    → is_good_of said line ≡ true → ⊥)
    → IsLineFault (IsPartOf said before last) text 1
fault_good said before last text is named none =
    let good = good_for said is in
    let front : IsFrontOf said before last good.0 [] [] = record {
      fits = good.1;
      same = good.2;
      turn = tt;
      named = subst AreNamed (sym (append-nil before)) named;
    } in
    let some = some_back said before last good.0 [] [] front in
    fault_first (IsPartOf said before last) (front_of good.0 [] ++ some.0) text some.1 (λ w. no_log w.0 w.2.is_log)
    (λ l later back e one w.
    (let same = first_good l back w.0 one w.2.is_log in
    none l later e one (ap is_good same ∙ w.2.is_log.are.good) (ap (is_good_of said) same ∙ same_good said w.0 w.3)))

-- where none stands, or another
pub none_there : (said : Option (List ℕ)) (text : List ℕ) → LacksGood text
    → (line later : List ℕ) → text ≡ ended line ++ later → is_one_line line ≡ true → is_good line ≡ true
    → is_good_of said line ≡ true → ⊥
none_there said text lacks line later e one good same = false≢true (sym (lacks line later e one) ∙ good)

pub other_there : (said : Option (List ℕ)) (text first : List ℕ) → IsFirst text first → is_good_of said first ≡ false
    → (line later : List ℕ) → text ≡ ended line ++ later → is_one_line line ≡ true → is_good line ≡ true
    → is_good_of said line ≡ true → ⊥
other_there said text first is other line later e one good same =
    false≢true (sym other ∙ ap (is_good_of said) (sym (one_first text first line later is one e)) ∙ same)

-- ---- what was read

-- a text by the line of its good die and by those of its faults
front_at : (text good rest : List ℕ) (end all hits : ℕ) (known now : Known) → IsFirst text good
    → rest ≡ drop (length good + 1) text
    → AreFront rest end all hits known now → text ≡ front_of good (lines_of (take end rest)) ++ drop end rest
front_at text good rest end all hits known now first is front =
    first.whole
    ∙ ap (λ (l : List ℕ). ended good ++ l)
    (sym is ∙ sym (take-append-drop end rest) ∙ ap (λ (l : List ℕ). l ++ drop end rest) front.held.whole)
    ∙ sym (append_assoc (ended good) (flat_map ended (lines_of (take end rest))) (drop end rest))

counts-held : (text : List ℕ) (all hits : ℕ) → AreHeld text all hits → counts_text all hits ≡ counts_line (lines_of text)
counts-held text all hits held = λ i. counts_text (held.count i) (held.found i)

-- what is known before a text is read, and where its faults end
pub record IsAt (said : Option (List ℕ)) (before : List Stuck) (text good rest : List ℕ) (end all hits : ℕ) (known now : Known)
    : Type 0 where
  pub knows : Knows known before
  pub fits : is_good good ≡ true
  pub same : is_good_of said good ≡ true
  pub is_first : IsFirst text good
  pub rest_is : rest ≡ drop (length good + 1) text
  pub front : AreFront rest end all hits known now

front_is : (said : Option (List ℕ)) (before : List Stuck) (last : Bool) (text good rest : List ℕ) (end all hits : ℕ) (known now : Known)
    → (at : IsAt said before text good rest end all hits known now)
    → IsFrontOf said before last good (lines_of (take end rest)) at.front.told × Knows now (before ++ at.front.told)
front_is said before last text good rest end all hits known now at =
    let turn = turn_known (lines_of (take end rest)) known now before at.front.told at.knows at.front.more in
    (record { fits = at.fits; same = at.same; turn = turn.0; named = turn.1.named }, turn.1)

pub rest_found : (said : Option (List ℕ)) (before : List Stuck) (last : Bool) (text good rest left : List ℕ) (end all hits : ℕ)
    (known now : Known) (log : GradeLog) → IsAt said before text good rest end all hits known now
    → (last ≡ true → now.waiting ≡ None) → drop end rest ≡ counts_text all hits ++ left → left ≡ []
    → log.good ≡ good → log.faults ≡ lines_of (take end rest) → IsReadPart said before last text log now
rest_found said before last text good rest left end all hits known now log at done behind none same faults =
    let xs = lines_of (take end rest) in
    let front = front_is said before last text good rest end all hits known now at in
    let whole = front_at text good rest end all hits known now at.is_first at.rest_is at.front
    ∙ ap (λ (l : List ℕ). front_of good xs ++ l)
    (behind ∙ (λ i. counts-held (take end rest) all hits at.front.held i ++ none i) ∙ append-nil (counts_line xs)) in
    let made = log_of good xs at.fits at.front.held.are in
    let equal : record { good = good; faults = xs } ≡ log = λ i. record { good = sym same i; faults = sym faults i } in
    subst (λ (l : GradeLog). IsReadPart said before last text l now) equal (record {
      told = at.front.told;
      is_part = record {
        is_log = record { are = made.are; is = whole ∙ made.is };
        in_turn = front.0.turn;
        ended = λ is. sym front.1.waits ∙ done is;
      };
      same = has_good said good xs at.same;
      knows = front.1;
    })

pub rest_next : (said : Option (List ℕ)) (before : List Stuck) (last : Bool) (text good rest : List ℕ) (end all hits n : ℕ)
    (known now : Known) → IsAt said before text good rest end all hits known now
    → ((left : List ℕ) → drop end rest ≡ counts_text all hits ++ left → (last ≡ true → now.waiting ≡ None) → ⊥) → n ≡ all + 2
    → IsLineFault (IsPartOf said before last) text n
rest_next said before last text good rest end all hits n known now at none count =
    let xs = lines_of (take end rest) in
    let front = front_is said before last text good rest end all hits known now at in
    fault_next said before last good xs at.front.told (drop end rest) text n front.0
    (record {
      no_fault = λ line later stuck is tells comes.
          lacks_known now (before ++ at.front.told) (drop end rest) line later stuck front.1 at.front.last is tells comes;
      no_counts = λ later e done.
          none later (e ∙ ap (λ (l : List ℕ). l ++ later) (sym (counts-held (take end rest) all hits at.front.held)))
          (λ is. front.1.waits ∙ done is);
    })
    (front_at text good rest end all hits known now at.is_first at.rest_is at.front)
    (count ∙ ap (λ (k : ℕ). k + 2) at.front.held.count)

pub rest_behind : (said : Option (List ℕ)) (before : List Stuck) (last : Bool) (text good rest left : List ℕ) (end all hits n : ℕ)
    (known now : Known) → IsAt said before text good rest end all hits known now → (last ≡ true → now.waiting ≡ None)
    → drop end rest ≡ counts_text all hits ++ left → 0 < length left → n ≡ all + 3 → IsLineFault (IsPartOf said before last) text n
rest_behind said before last text good rest left end all hits n known now at done behind some count = by_left left behind some
  where
    by_left : (left : List ℕ) → drop end rest ≡ counts_text all hits ++ left → 0 < length left
        → IsLineFault (IsPartOf said before last) text n
    by_left [] behind some = absurd (omega (arith, some))
    by_left (b ∷ later) behind some =
        let xs = lines_of (take end rest) in
        let front = front_is said before last text good rest end all hits known now at in
        fault_behind said before last good xs at.front.told (b ∷ later) text b later n front.0 (λ is. sym front.1.waits ∙ done is) refl
        (front_at text good rest end all hits known now at.is_first at.rest_is at.front
        ∙ ap (λ (l : List ℕ). front_of good xs ++ l)
        (behind ∙ ap (λ (l : List ℕ). l ++ b ∷ later) (counts-held (take end rest) all hits at.front.held)))
        (count ∙ ap (λ (k : ℕ). k + 3) at.front.held.count)

-- whether a net lacks its fault at 1 behind the last part
pub not_short : (last : Bool) (waiting : Option (List ℕ)) → (last && is_some waiting) ≡ false → last ≡ true → waiting ≡ None
not_short last None e is = refl
not_short last (Some net) e is = absurd (false≢true (sym e ∙ (λ i. is i && true)))

pub short_so : (last : Bool) (waiting : Option (List ℕ)) → (last && is_some waiting) ≡ true → (last ≡ true → waiting ≡ None) → ⊥
short_so last None e done = false≢true (and_parts last false e).1
short_so last (Some net) e done = let none = done (and_parts last true e).0 in cc

-- where the faults end
pub front_so : (text rest : List ℕ) (end all hits : ℕ) (known before now : Known) → AreHeld (take end text) all hits
    → (told : List Stuck) × AreMore known (lines_of (take end text)) told before → end ≤ length text → all ≤ end
    → rest ≡ drop end text → (now ≡ before) × LacksNext before rest → AreFront text end all hits known now
front_so text rest end all hits known before now held so_far within few is none = record {
  held = held;
  told = so_far.0;
  more = subst (AreMore known (lines_of (take end text)) so_far.0) (sym none.0) so_far.1;
  within = within;
  last = subst (λ (k : Known). LacksNext k (drop end text)) (sym none.0) (subst (LacksNext before) is none.1);
  few = few;
}

-- ---- one answer

log_lines : (t : List ℕ) (log : GradeLog) → IsLog t log → AreLines t
unfolding log_text
log_lines t log is =
    let front = front_of log.good log.faults in
    inr (front ++ counts_body log.faults, is.is ∙ sym (append_assoc front (counts_body log.faults) (codes "\n")))

-- a text that is that of a part has no fault
pub no_fault : (said : Option (List ℕ)) (before told : List Stuck) (last : Bool) (text : List ℕ) (log : GradeLog) (n : ℕ)
    → IsPartBehind before last text log told → HasGood said log → IsLineFault (IsPartOf said before last) text n → ⊥
no_fault said before told last text log n is has at =
    no_fault_where_whole (IsPartOf said before last) text n (log_lines text log is.is_log) (log, told, is, has) at

-- what is read is the one thing that the text says, and a fault is the one that it has
pub reads_only : (said : Option (List ℕ)) (before told : List Stuck) (last : Bool) (text : List ℕ) (log : GradeLog) (now : Known)
    (r : Result GradeLog LineFault) → ReadsPart said before last text now r → IsPartBehind before last text log told → HasGood said log
    → MatchResult r (λ l. l ≡ log) (λ e. e ≡ NoMemory)
reads_only said before told last text log now (Ok l) reads is has = one_log text l log reads.is_part.is_log is.is_log
reads_only said before told last text log now (Err NoMemory) reads is has = refl
reads_only said before told last text log now (Err (Line n)) reads is has =
    absurd (no_fault said before told last text log n is has reads)

pub reads_refused : (said : Option (List ℕ)) (before : List Stuck) (last : Bool) (text : List ℕ) (n : ℕ) (now : Known)
    (r : Result GradeLog LineFault) → ReadsPart said before last text now r → IsLineFault (IsPartOf said before last) text n
    → MatchResult r (λ _. ⊥) (λ e. (e ≡ NoMemory) ⊎ (e ≡ Line n))
reads_refused said before last text n now (Ok l) reads at = no_fault said before reads.told last text l n reads.is_part reads.same at
reads_refused said before last text n now (Err NoMemory) reads at = inl refl
reads_refused said before last text n now (Err (Line m)) reads at =
    inr (ap Line (one_fault (IsPartOf said before last) text m n reads at))
