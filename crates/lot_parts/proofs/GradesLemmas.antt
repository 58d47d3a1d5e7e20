-- The texts of the parts of a grade, read one after another, and the answer where they are merged.
use Rattle.std.proofs.Common.{◌≡◌, ℕ, ◌+◌, ◌<◌, ◌≤◌, ◌==◌, Bool, true, false, List, [], ◌∷◌, ◌++◌, length, drop, get_or, Option, refl, sym, ap, ◌∙◌, subst, append_assoc, arith, inl, inr, length-append, length-drop, String, string_bytes}
use Rattle.std.specs.Prelude.{None}
use Rattle.std.specs.declared.alloc.Global.{Global}
use Rattle.std.proofs.lemmas.Bool.{cases_Bool, eqb-true, eq-eqb, false≢true}
use Rattle.std.proofs.lemmas.Grind.{flat_map-append}
use Rattle.std.proofs.lemmas.List.{append-nil, drop_all, get_or-map}
use Rattle.text_bytes.proofs.ListLemmas.{all_append, split_more}
use Rattle.tester_types.specs.Outside.{Files, HasRisen, gained, GainsFront}
use Rattle.tool_inputs.specs.declared.status.Status.TheVariants.{Done, WriteFault}
use Rattle.part_lines.specs.declared.fault.LineFault.{LineFault}
use Rattle.part_lines.specs.declared.fault.LineFault.TheVariants as fault
use Rattle.part_lines.specs.LineFault.{IsLineFault}
use Rattle.grade_parts.specs.Log.{GradeLog, Stuck, IsLog}
use Rattle.grade_parts.specs.Turns.{open_net, AreInTurn, IsPartOf, HasGood, all_lines, AreTold, good_of}
use Rattle.grade_parts.specs.Merged.{AreParts, merged_text}
use Rattle.grade_parts.specs.Step.{Known, Knows}
use Rattle.grade_parts.specs.Reads.{IsReadPart, IsPartFault}
use Rattle.grade_parts.proofs.TurnLemmas.{turn_join}
use Rattle.lot_parts.specs.Words.{words_seen}
use Rattle.lot_parts.specs.Files.{ArePartFiles}
use Rattle.lot_parts.specs.declared.outcome.Outcome.{Outcome}
use Rattle.lot_parts.specs.declared.outcome.Outcome.TheVariants.{Ended}
use Rattle.lot_parts.specs.declared.refusal.PartRefusal.{PartRefusal}
use Rattle.lot_parts.specs.Refusals.{outcome_of, line_of, IsRefusalBy}
use Rattle.lot_parts.specs.Endings.{EndsAs, AnswersAs}
use Rattle.lot_parts.specs.Grades.{Agree, AreLogTexts, are_none, IsTextRefused, IsMergeRefused, MergeWants}
use Rattle.lot_parts.specs.Grades.IsTextRefused.{no_memory, of_text}
use Rattle.lot_parts.specs.Grades.MergeWants.{are_merged, is_refused}

-- ---- one after another

-- the texts up to a number are read
pub record AreRead (texts : List (List ℕ)) (number : ℕ) (logs : List GradeLog) : Type 0 where
  pub front : List (List ℕ)
  pub split : texts ≡ front ++ drop number texts
  pub long : length front ≡ number
  pub are : AreLogTexts front logs

-- one text more
logs_push : (texts : List (List ℕ)) (text : List ℕ) (logs : List GradeLog) (log : GradeLog) → AreLogTexts texts logs → IsLog text log
    → AreLogTexts (texts ++ text ∷ []) (logs ++ log ∷ [])
logs_push [] text [] log are is = (is, tt)
logs_push [] text (l ∷ ls) log are is = absurd are
logs_push (t ∷ ts) text [] log are is = absurd are
logs_push (t ∷ ts) text (l ∷ ls) log are is = (are.0, logs_push ts text ls log are.1 is)

pub next_read : (texts : List (List ℕ)) (number : ℕ) (logs logs' : List GradeLog) (text : List ℕ) (log : GradeLog)
    → number < length texts → text ≡ get_or texts number text → AreRead texts number logs → IsLog text log → logs' ≡ logs ++ log ∷ []
    → AreRead texts (number + 1) logs'
next_read texts number logs logs' text log within is read found more = record {
  front = read.front ++ text ∷ [];
  split = split_more texts read.front number text within is read.split
      ∙ sym (append_assoc read.front (text ∷ []) (drop (number + 1) texts));
  long = length-append read.front (text ∷ []) ∙ ap (λ (n : ℕ). n + 1) read.long;
  are = subst (AreLogTexts (read.front ++ text ∷ [])) (sym more) (logs_push read.front text logs log read.are found);
}

-- behind the last all are
pub all_read : (texts : List (List ℕ)) (number : ℕ) (logs : List GradeLog) → length texts ≤ number → AreRead texts number logs
    → AreLogTexts texts logs
all_read texts number logs past read =
    subst (λ (l : List (List ℕ)). AreLogTexts l logs)
    (sym (read.split ∙ ap (λ (l : List (List ℕ)). read.front ++ l) (drop_all number texts past) ∙ append-nil read.front)) read.are

-- the file at a place
pub file_at : (files : List (String Global)) (number : ℕ) (item : String Global) (seen : List ℕ) → number < length files
    → item ≡ get_or files number item → seen ≡ string_bytes item → seen ≡ get_or (words_seen files) number []
file_at files number item seen within is seen_is =
    seen_is ∙ ap string_bytes is ∙ sym (get_or-map string_bytes files number item [] within)

-- ---- what was told

-- what these parts told of is known, and behind all texts no net lacks its fault at 1
pub record AreKnown (logs : List GradeLog) (known : Known) (number all : ℕ) : Type 0 where
  pub agree : Agree logs
  pub told : List Stuck
  pub in_turn : AreTold logs told
  pub knows : Knows known told
  pub ended : number ≡ all → open_net told ≡ None

pub none_known : (known : Known) (all : ℕ) → Knows known [] → AreKnown [] known 0 all
none_known known all knows = record {
  agree = tt;
  told = [];
  in_turn = tt;
  knows = knows;
  ended = λ _. refl;
}

agree_more : (logs : List GradeLog) (log : GradeLog) → Agree logs → HasGood (good_of logs) log → Agree (logs ++ log ∷ [])
agree_more [] log agree has = tt
agree_more (first ∷ logs) log agree has =
    all_append (λ (x : GradeLog). x.good ≡ first.good) logs (log ∷ []) agree (has, tt)

lines_more : (logs : List GradeLog) (log : GradeLog) → all_lines (logs ++ log ∷ []) ≡ all_lines logs ++ log.faults
lines_more logs log =
    flat_map-append (λ (l : GradeLog). l.faults) logs (log ∷ [])
    ∙ ap (λ (l : List (List ℕ)). all_lines logs ++ l) (append-nil log.faults)

-- one part more
pub known_more : (logs logs' seen : List GradeLog) (log : GradeLog) (text : List ℕ) (known now : Known) (number all : ℕ) (last : Bool)
    → seen ≡ logs → last ≡ (number + 1 == all) → (known_of : AreKnown logs known number all)
    → IsReadPart (good_of seen) known_of.told last text log now → logs' ≡ logs ++ log ∷ [] → AreKnown logs' now (number + 1) all
known_more logs logs' seen log text known now number all last same is_last known_of read more =
    let turn : AreTold (logs ++ log ∷ []) (known_of.told ++ read.told) =
    subst (λ (l : List (List ℕ)). AreInTurn [] l (known_of.told ++ read.told)) (sym (lines_more logs log))
    (turn_join (all_lines logs) log.faults [] known_of.told read.told known_of.in_turn read.is_part.in_turn) in
    subst (λ (l : List GradeLog). AreKnown l now (number + 1) all) (sym more) (record {
      agree = agree_more logs log known_of.agree (subst (λ (l : List GradeLog). HasGood (good_of l) log) same read.same);
      told = known_of.told ++ read.told;
      in_turn = turn;
      knows = read.knows;
      ended = λ e. read.is_part.ended (is_last ∙ eq-eqb (number + 1) all e);
    })

-- behind the last text none is left
last_left : (texts : List (List ℕ)) (number : ℕ) → number < length texts → (number + 1 == length texts) ≡ are_none (drop (number + 1) texts)
last_left texts number within =
    elim (cases_Bool (number + 1 == length texts)) [
      | inl y ↦ y ∙ sym (ap are_none (drop_all (number + 1) texts (omega (arith, eqb-true (number + 1) (length texts) y))))
      | inr other ↦ other ∙ sym (some_left (drop (number + 1) texts)
          (omega (arith, length-drop (number + 1) texts, within, not_all (number + 1) (length texts) other)))
    ]
  where
    some_left : (l : List (List ℕ)) → 0 < length l → are_none l ≡ false
    some_left [] some = absurd (omega (arith, some))
    some_left (x ∷ l) some = refl

    not_all : (m n : ℕ) → (m == n) ≡ false → m ≡ n → ⊥
    not_all m n other same = false≢true (sym other ∙ eq-eqb m n same)

-- the next text isn't taken
pub next_refused : (files texts : List (List ℕ)) (number : ℕ) (logs seen : List GradeLog) (known now : Known) (file text : List ℕ)
    (last : Bool) (e : LineFault) (r : PartRefusal) → number < length texts → text ≡ get_or texts number text
    → file ≡ get_or files number [] → AreRead texts number logs → seen ≡ logs → last ≡ (number + 1 == length texts)
    → (known_of : AreKnown logs known number (length texts)) → IsPartFault (good_of seen) known_of.told last text e
    → IsRefusalBy file e r → IsTextRefused files texts r
next_refused files texts number logs seen known now file text last fault.NoMemory r within is file_is read same is_last known_of why none =
    no_memory none
next_refused files texts number logs seen known now file text last (fault.Line m) r within is file_is read same is_last known_of why
    (inl none) = no_memory none
next_refused files texts number logs seen known now file text last (fault.Line m) r within is file_is read same is_last known_of why
    (inr refused) =
    of_text file m (record {
      front = read.front;
      text = text;
      later = drop (number + 1) texts;
      texts_are = split_more texts read.front number text within is read.split;
      file_is = file_is ∙ ap (λ (n : ℕ). get_or files n []) (sym read.long);
      logs = logs;
      before = read.are;
      agree = known_of.agree;
      told = known_of.told;
      in_turn = known_of.in_turn;
      fault = subst (λ (b : Bool). IsLineFault (IsPartOf (good_of logs) known_of.told b) text m)
          (is_last ∙ last_left texts number within)
          (subst (λ (l : List GradeLog). IsLineFault (IsPartOf (good_of l) known_of.told last) text m) same why);
    }) refused

-- ---- the answer

-- there are as many as texts
pub some_logs : (texts : List (List ℕ)) (logs : List GradeLog) → 0 < length texts → AreLogTexts texts logs → 0 < length logs
some_logs [] logs some are = absurd (omega (arith, some))
some_logs (t ∷ ts) [] some are = absurd are
some_logs (t ∷ ts) (l ∷ ls) some are = omega arith

-- grades that are merged
pub merged_answers : (told : Option Files) (before now : ℕ) (files texts : List (List ℕ)) (logs : List GradeLog)
    (held held' : Option (List ℕ)) (faults faults' : ℕ) (result : Outcome) → 0 < length logs → ArePartFiles told files texts
    → AreLogTexts texts logs → AreParts logs
    → ((first : GradeLog) (later : List GradeLog) → logs ≡ first ∷ later
    → EndsAs held faults (Ended Done) (merged_text first later) result held' faults')
    → AnswersAs (MergeWants told before now files) held faults result held' faults'
merged_answers told before now files texts [] held held' faults faults' result some files_are are agree ends =
    absurd (omega (arith, some))
merged_answers told before now files texts (first ∷ later) held held' faults faults' result some files_are are agree ends = record {
  outcome = Ended Done;
  text = merged_text first later;
  wanted = are_merged refl texts files_are first later are agree refl;
  ends = ends first later refl;
}

-- a put that is whole, and one that isn't
pub whole_ends : (held held' : Option (List ℕ)) (faults faults' : ℕ) (seen logs : List GradeLog) → seen ≡ logs
    → ((first : GradeLog) (later : List GradeLog) → seen ≡ first ∷ later → held' ≡ gained held (merged_text first later))
    → faults ≤ faults' → (first : GradeLog) (later : List GradeLog) → logs ≡ first ∷ later
    → EndsAs held faults (Ended Done) (merged_text first later) (Ended Done) held' faults'
whole_ends held held' faults faults' seen logs same puts count first later is =
    record { ends = inl (refl, puts first later (same ∙ is)); count = count }

pub front_ends : (held held' : Option (List ℕ)) (faults faults' : ℕ) (seen logs : List GradeLog) → seen ≡ logs
    → ((first : GradeLog) (later : List GradeLog) → seen ≡ first ∷ later → GainsFront held (merged_text first later) held')
    → faults ≤ faults' → HasRisen faults faults' → (first : GradeLog) (later : List GradeLog) → logs ≡ first ∷ later
    → EndsAs held faults (Ended Done) (merged_text first later) (Ended WriteFault) held' faults'
front_ends held held' faults faults' seen logs same puts count risen first later is =
    record { ends = inr (refl, puts first later (same ∙ is), risen); count = count }

-- grades that aren't
pub refused_answers : (told : Option Files) (before now : ℕ) (files : List (List ℕ)) (r : PartRefusal)
    (held held' : Option (List ℕ)) (faults faults' : ℕ) (result : Outcome) → IsMergeRefused told before now files r
    → EndsAs held faults (outcome_of r) (line_of r) result held' faults'
    → AnswersAs (MergeWants told before now files) held faults result held' faults'
refused_answers told before now files r held held' faults faults' result cause ends = record {
  outcome = outcome_of r;
  text = line_of r;
  wanted = is_refused r cause refl refl;
  ends = ends;
}
