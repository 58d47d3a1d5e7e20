-- The datalogs of the parts of a plan, read one after another, and the answer where they are merged.
use Rattle.std.proofs.Common.{◌≡◌, ℕ, zero, suc, ◌+◌, ◌<◌, ◌≤◌, List, [], ◌∷◌, ◌++◌, length, drop, get_or, Option, refl, sym, ap, ◌∙◌, subst, append_assoc, arith, inl, inr, length-append}
use Rattle.std.specs.Prelude.{slice_index_or, IfOk, IfErr, MatchResult, Result, Vec}
use Rattle.std.specs.Borrow.{Bor}
use Rattle.std.specs.declared.alloc.Global.{Global}
use Rattle.std.proofs.lemmas.List.{append-nil, drop_all}
use Rattle.std.proofs.lemmas.Result.{MatchResult-from_both}
use Rattle.text_bytes.proofs.ListLemmas.{split_more}
use Rattle.tester_types.specs.Outside.{Files, HasRisen, gained, GainsFront}
use Rattle.plan_rows.specs.declared.row.Row.{Row}
use Rattle.plan_parts.specs.Cut.{sites_with_dies}
use Rattle.tool_inputs.specs.declared.status.Status.TheVariants.{Done, WriteFault}
use Rattle.tool_inputs.specs.Inputs.{IsPlanFile}
use Rattle.part_lines.specs.declared.fault.LineFault.{LineFault}
use Rattle.part_lines.specs.declared.fault.LineFault.TheVariants as fault
use Rattle.log_parts.specs.Log.{DieLog}
use Rattle.log_parts.specs.Slices.{SlicedLog, IsSliced, lent_sites}
use Rattle.log_parts.specs.Merged.{names_in, merged_text, no_log, IsOfPart, AreOfPlan}
use Rattle.log_parts.specs.Step.{IsFaultOf, AreOneLineEach}
use Rattle.lot_parts.specs.Files.{ArePartFiles}
use Rattle.lot_parts.specs.declared.outcome.Outcome.{Outcome}
use Rattle.lot_parts.specs.declared.outcome.Outcome.TheVariants.{Ended}
use Rattle.lot_parts.specs.declared.refusal.PartRefusal.{PartRefusal}
use Rattle.lot_parts.specs.Refusals.{outcome_of, line_of, IsRefusalBy}
use Rattle.lot_parts.specs.Endings.{EndsAs, AnswersAs}
use Rattle.lot_parts.specs.Merging.{AreSliced, AreLogTexts, IsTextRefused, IsMergeRefused, MergeWants}
use Rattle.lot_parts.specs.Merging.IsTextRefused.{no_memory, of_text}
use Rattle.lot_parts.specs.Merging.MergeWants.{are_merged, is_refused}

-- ---- what is said

-- what datalogs say of which this was read
record AreSaid (rows : List Row) (parts part : ℕ) (texts : List (List ℕ)) (slices : List SlicedLog) : Type 0 where
  pub logs : List (List (List DieLog))
  pub are : AreLogTexts rows parts part texts logs
  pub count : length logs ≡ length slices
  pub each : (k : ℕ) → k < length slices → IsOfPart rows parts (part + k) (slice_index_or logs k []) (slice_index_or slices k no_log)

-- one datalog, and those behind it
said_one : (rows : List Row) (parts part : ℕ) (text : List ℕ) (slice : SlicedLog) → (s : IsSliced (names_in parts part rows) text slice)
    → IsOfPart rows parts part s.logs slice
said_one rows parts part text slice s = record { are = s.is_log.are; texts = s.texts; bins = s.bins }

are_said : (rows : List Row) (parts part : ℕ) (texts : List (List ℕ)) (slices : List SlicedLog)
    → AreSliced rows parts part texts slices → AreSaid rows parts part texts slices
are_said rows parts part [] [] are = record { logs = []; are = tt; count = refl; each = λ k h. absurd (omega (arith, h)) }
are_said rows parts part [] (s ∷ ss) are = absurd are
are_said rows parts part (t ∷ ts) [] are = absurd are
are_said rows parts part (t ∷ ts) (s ∷ ss) are =
    let later = are_said rows parts (part + 1) ts ss are.1 in
    record {
      logs = are.0.logs ∷ later.logs;
      are = (are.0.is_log, later.are);
      count = ap suc later.count;
      each = each_said rows parts part t s ss are.0 later.logs later.each;
    }
  where
    each_said : (rows : List Row) (parts part : ℕ) (t : List ℕ) (s : SlicedLog) (ss : List SlicedLog)
        → (is : IsSliced (names_in parts part rows) t s) → (logs : List (List (List DieLog)))
        → ((k : ℕ) → k < length ss → IsOfPart rows parts (part + 1 + k) (slice_index_or logs k []) (slice_index_or ss k no_log))
        → (k : ℕ) → k < length (s ∷ ss)
        → IsOfPart rows parts (part + k) (slice_index_or (is.logs ∷ logs) k []) (slice_index_or (s ∷ ss) k no_log)
    each_said rows parts part t s ss is logs each zero h =
        let same : part ≡ part + zero = omega arith in
        subst (λ (p : ℕ). IsOfPart rows parts p is.logs s) same (said_one rows parts part t s is)
    each_said rows parts part t s ss is logs each (suc k) h =
        let same : part + 1 + k ≡ part + suc k = omega arith in
        subst (λ (p : ℕ). IsOfPart rows parts p (slice_index_or logs k []) (slice_index_or ss k no_log)) same (each k (omega (arith, h)))

-- ---- one text

-- the names that are lent are those of the part
lent_so : (rows : List Row) (parts part : ℕ) (seen names : List (Vec (Bor (List ℕ)) Global)) → seen ≡ names
    → lent_sites names ≡ names_in parts part rows → lent_sites seen ≡ names_in parts part rows
lent_so rows parts part seen names is same = ap lent_sites is ∙ same

-- they have no line feeds
pub one_line_so : (rows : List Row) (parts part : ℕ) (seen names : List (Vec (Bor (List ℕ)) Global)) → seen ≡ names
    → lent_sites names ≡ names_in parts part rows → AreOneLineEach (names_in parts part rows) → AreOneLineEach (lent_sites seen)
one_line_so rows parts part seen names is same are = subst AreOneLineEach (sym (lent_so rows parts part seen names is same)) are

-- what is read by them, or the fault
pub read_so : (rows : List Row) (parts part : ℕ) (seen names : List (Vec (Bor (List ℕ)) Global)) (text : List ℕ)
    (r : Result SlicedLog LineFault) → seen ≡ names → lent_sites names ≡ names_in parts part rows
    → IfOk r (IsSliced (lent_sites seen) text) → IfErr r (IsFaultOf (lent_sites seen) text)
    → MatchResult r (IsSliced (names_in parts part rows) text) (IsFaultOf (names_in parts part rows) text)
read_so rows parts part seen names text r is same found why =
    subst (λ (n : List (List (List ℕ))). MatchResult r (IsSliced n text) (IsFaultOf n text)) (lent_so rows parts part seen names is same)
    (MatchResult-from_both r (IsSliced (lent_sites seen) text) (IsFaultOf (lent_sites seen) text) found why)

-- ---- one after another

-- the texts up to a number are read
pub record AreRead (rows : List Row) (parts : ℕ) (texts : List (List ℕ)) (number : ℕ) (slices : List SlicedLog) : Type 0 where
  pub front : List (List ℕ)
  pub split : texts ≡ front ++ drop number texts
  pub long : length front ≡ number
  pub are : AreSliced rows parts 0 front slices

-- one text more
slices_push : (rows : List Row) (parts part : ℕ) (texts : List (List ℕ)) (text : List ℕ) (slices : List SlicedLog) (slice : SlicedLog)
    → AreSliced rows parts part texts slices → IsSliced (names_in parts (part + length texts) rows) text slice
    → AreSliced rows parts part (texts ++ text ∷ []) (slices ++ slice ∷ [])
slices_push rows parts part [] text [] slice are is =
    let same : part + 0 ≡ part = omega arith in
    (subst (λ (p : ℕ). IsSliced (names_in parts p rows) text slice) same is, tt)
slices_push rows parts part [] text (s ∷ ss) slice are is = absurd are
slices_push rows parts part (t ∷ ts) text [] slice are is = absurd are
slices_push rows parts part (t ∷ ts) text (s ∷ ss) slice are is =
    let same : part + length (t ∷ ts) ≡ part + 1 + length ts = omega arith in (
      are.0,
      slices_push rows parts (part + 1) ts text ss slice are.1
          (subst (λ (p : ℕ). IsSliced (names_in parts p rows) text slice) same is),
    )

pub next_read : (rows : List Row) (parts : ℕ) (texts : List (List ℕ)) (number : ℕ) (slices slices' : List SlicedLog) (text : List ℕ)
    (slice : SlicedLog) → number < length texts → text ≡ get_or texts number text → AreRead rows parts texts number slices
    → IsSliced (names_in parts number rows) text slice → slices' ≡ slices ++ slice ∷ [] → AreRead rows parts texts (number + 1) slices'
next_read rows parts texts number slices slices' text slice within is read found more =
    let same : number ≡ 0 + length read.front = omega (arith, read.long) in
    record {
      front = read.front ++ text ∷ [];
      split = split_more texts read.front number text within is read.split
          ∙ sym (append_assoc read.front (text ∷ []) (drop (number + 1) texts));
      long = length-append read.front (text ∷ []) ∙ ap (λ (n : ℕ). n + 1) read.long;
      are = subst (AreSliced rows parts 0 (read.front ++ text ∷ [])) (sym more)
          (slices_push rows parts 0 read.front text slices slice read.are
          (subst (λ (p : ℕ). IsSliced (names_in parts p rows) text slice) same found));
    }

-- behind the last all are
pub all_read : (rows : List Row) (parts : ℕ) (texts : List (List ℕ)) (number : ℕ) (slices : List SlicedLog) → length texts ≤ number
    → AreRead rows parts texts number slices → AreSliced rows parts 0 texts slices
all_read rows parts texts number slices past read =
    subst (λ (l : List (List ℕ)). AreSliced rows parts 0 l slices)
    (sym (read.split ∙ ap (λ (l : List (List ℕ)). read.front ++ l) (drop_all number texts past) ∙ append-nil read.front)) read.are

-- the next text isn't taken
pub next_refused : (rows : List Row) (files texts : List (List ℕ)) (parts number : ℕ) (slices : List SlicedLog) (file text : List ℕ)
    (e : LineFault) (r : PartRefusal) → parts ≡ length files → number < length texts → text ≡ get_or texts number text
    → file ≡ get_or files number [] → AreRead rows parts texts number slices → IsFaultOf (names_in parts number rows) text e
    → IsRefusalBy file e r → IsTextRefused rows files texts r
next_refused rows files texts parts number slices file text fault.NoMemory r all within is file_is read why cause = no_memory cause
next_refused rows files texts parts number slices file text (fault.Line m) r all within is file_is read why (inl none) = no_memory none
next_refused rows files texts parts number slices file text (fault.Line m) r all within is file_is read why (inr same) =
    let said = are_said rows parts 0 read.front slices read.are in
    of_text file m (record {
      front = read.front;
      text = text;
      later = drop (number + 1) texts;
      texts_are = split_more texts read.front number text within is read.split;
      file_is = file_is ∙ ap (λ (n : ℕ). get_or files n []) (sym read.long);
      logs = said.logs;
      before = subst (λ (p : ℕ). AreLogTexts rows p 0 read.front said.logs) all said.are;
      fault = subst (λ (p : ℕ). IsFaultOf (names_in p (length read.front) rows) text (fault.Line m)) all
          (subst (λ (k : ℕ). IsFaultOf (names_in parts k rows) text (fault.Line m)) (sym read.long) why);
    }) same

-- ---- the answer

-- there are as many as texts
sliced_long : (rows : List Row) (parts part : ℕ) (texts : List (List ℕ)) (slices : List SlicedLog) → AreSliced rows parts part texts slices
    → length slices ≡ length texts
sliced_long rows parts part [] [] are = refl
sliced_long rows parts part [] (s ∷ ss) are = absurd are
sliced_long rows parts part (t ∷ ts) [] are = absurd are
sliced_long rows parts part (t ∷ ts) (s ∷ ss) are = ap suc (sliced_long rows parts (part + 1) ts ss are.1)

-- and there are some
pub some_logs : (rows : List Row) (parts : ℕ) (texts : List (List ℕ)) (slices : List SlicedLog) → 0 < length texts
    → AreSliced rows parts 0 texts slices → 0 < length slices
some_logs rows parts texts slices some are = omega (arith, some, sliced_long rows parts 0 texts slices are)

-- what is read of as many files
pub sliced_same : (rows : List Row) (parts parts' : ℕ) (seen texts : List (List ℕ)) (slices : List SlicedLog) → parts' ≡ parts
    → seen ≡ texts → AreSliced rows parts 0 seen slices → AreSliced rows parts' 0 texts slices
sliced_same rows parts parts' seen texts slices all same are =
    subst (λ (p : ℕ). AreSliced rows p 0 texts slices) (sym all) (subst (λ (l : List (List ℕ)). AreSliced rows parts 0 l slices) same are)

-- datalogs that are merged
pub merged_answers : (told : Option Files) (before now : ℕ) (plan : List ℕ) (files texts : List (List ℕ)) (rows : List Row)
    (sites : List ℕ) (slices : List SlicedLog) (held held' : Option (List ℕ)) (faults faults' : ℕ) (result : Outcome)
    → IsPlanFile told plan rows → sites ≡ sites_with_dies rows → length files ≡ length texts → ArePartFiles told files texts
    → AreSliced rows (length files) 0 texts slices
    → ((parts : List (List (List DieLog))) → AreOfPlan rows parts sites slices
    → EndsAs held faults (Ended Done) (merged_text rows parts) result held' faults')
    → AnswersAs (MergeWants told before now plan files) held faults result held' faults'
merged_answers told before now plan files texts rows sites slices held held' faults faults' result is_plan sites_are long files_are are ends =
    let said = are_said rows (length files) 0 texts slices are in
    let all : length files ≡ length slices = omega (arith, long, sliced_long rows (length files) 0 texts slices are) in
    record {
      outcome = Ended Done;
      text = merged_text rows said.logs;
      wanted = are_merged refl rows is_plan texts files_are said.logs said.are refl;
      ends = ends said.logs (record {
        are_sites = sites_are;
        count = said.count;
        each = λ k h.
            let same : 0 + k ≡ k = omega arith in
            subst (λ (n : ℕ). IsOfPart rows n k (slice_index_or said.logs k []) (slice_index_or slices k no_log)) all
            (subst (λ (p : ℕ). IsOfPart rows (length files) p (slice_index_or said.logs k []) (slice_index_or slices k no_log)) same (said.each k h));
      });
    }

-- a put that is whole, and one that isn't
pub whole_ends : (held held' : Option (List ℕ)) (faults faults' : ℕ) (rows : List Row) (seen sites : List ℕ) (seens slices : List SlicedLog)
    → seen ≡ sites → seens ≡ slices
    → ((of : List Row) (parts : List (List (List DieLog))) → AreOfPlan of parts seen seens → held' ≡ gained held (merged_text of parts))
    → faults ≤ faults' → (parts : List (List (List DieLog))) → AreOfPlan rows parts sites slices
    → EndsAs held faults (Ended Done) (merged_text rows parts) (Ended Done) held' faults'
whole_ends held held' faults faults' rows seen sites seens slices same all puts count parts are = record {
  ends = inl (
    refl,
    puts rows parts (subst (λ (s : List ℕ). AreOfPlan rows parts s seens) (sym same)
        (subst (λ (l : List SlicedLog). AreOfPlan rows parts sites l) (sym all) are)),
  );
  count = count;
}

pub front_ends : (held held' : Option (List ℕ)) (faults faults' : ℕ) (rows : List Row) (seen sites : List ℕ) (seens slices : List SlicedLog)
    → seen ≡ sites → seens ≡ slices
    → ((of : List Row) (parts : List (List (List DieLog))) → AreOfPlan of parts seen seens → GainsFront held (merged_text of parts) held')
    → faults ≤ faults' → HasRisen faults faults' → (parts : List (List (List DieLog))) → AreOfPlan rows parts sites slices
    → EndsAs held faults (Ended Done) (merged_text rows parts) (Ended WriteFault) held' faults'
front_ends held held' faults faults' rows seen sites seens slices same all puts count risen parts are = record {
  ends = inr (
    refl,
    puts rows parts (subst (λ (s : List ℕ). AreOfPlan rows parts s seens) (sym same)
        (subst (λ (l : List SlicedLog). AreOfPlan rows parts sites l) (sym all) are)),
    risen,
  );
  count = count;
}

-- datalogs that aren't
pub refused_answers : (told : Option Files) (before now : ℕ) (plan : List ℕ) (files : List (List ℕ)) (r : PartRefusal)
    (held held' : Option (List ℕ)) (faults faults' : ℕ) (result : Outcome) → IsMergeRefused told before now plan files r
    → EndsAs held faults (outcome_of r) (line_of r) result held' faults'
    → AnswersAs (MergeWants told before now plan files) held faults result held' faults'
refused_answers told before now plan files r held held' faults faults' result cause ends = record {
  outcome = outcome_of r;
  text = line_of r;
  wanted = is_refused r cause refl refl;
  ends = ends;
}
