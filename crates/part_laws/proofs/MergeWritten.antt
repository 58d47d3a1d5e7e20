-- What `merge` writes of the texts of runs of all parts: `merge_writes_uncut_text`, `merge_writes_quiet_text`.
use Rattle.std.proofs.Common.{◌≡◌, ℕ, zero, suc, ◌+◌, List, [], ◌∷◌, length, map, get_or, refl, sym, ap, ◌∙◌, subst, arith}
use Rattle.std.specs.Prelude.{Option, Some, None, slice_get}
use Rattle.std.specs.Option.{option_map}
use Rattle.std.proofs.lemmas.List.{length-map}
use Rattle.std.proofs.lemmas.Option.{same_Some, slice_get-map}
use Rattle.tester_types.specs.Outside.{Files, file_of}
use Rattle.die_sim.specs.Socket.{Told}
use Rattle.plan_rows.specs.declared.row.Row.{Row}
use Rattle.plan_rows.specs.Plan.{IsPlan}
use Rattle.plan_rows.proofs.PlanLemmas.{one_plan}
use Rattle.tool_inputs.specs.declared.status.Status.{Status}
use Rattle.tool_inputs.specs.declared.status.Status.TheVariants.{Done}
use Rattle.tool_inputs.specs.Inputs.{Inputs, bound_of}
use Rattle.lot_laws.specs.Uncut.{uncut_text}
use Rattle.stil_tool.specs.Alone.{LotRun}
use Rattle.stil_tool.proofs.OneTextLemmas.{never_done}
use Rattle.log_parts.specs.Log.{DieLog, IsLog}
use Rattle.log_parts.specs.Merged.{names_in, merged_text}
use Rattle.lot_parts.specs.declared.outcome.Outcome.TheVariants.{Ended, RefusedPart}
use Rattle.lot_parts.specs.declared.refusal.PartRefusal.{PartRefusal}
use Rattle.lot_parts.specs.declared.refusal.PartRefusal.TheVariants as refusal
use Rattle.lot_parts.specs.Refusals.{outcome_of}
use Rattle.lot_parts.specs.Files.{ArePartFiles}
use Rattle.lot_parts.proofs.LoadLemmas.{files_long}
use Rattle.lot_parts.specs.Merging.{AreLogTexts, MergeWants, are_merged, is_refused}
use Rattle.part_laws.specs.Runs.{AreRunsOfParts}
use Rattle.part_laws.specs.Laws.{AreLogsOf}
use Rattle.part_laws.specs.Divided.{AreAllUncut, MergeWritesUncutText, MergeWritesQuietText}
use Rattle.part_laws.proofs.MergedLaws.{merged_uncut, quiet_are_uncut}

-- ---- files of parts

-- each file has one text
pub files_one : (told : Files) (names texts texts' : List (List ℕ)) → ArePartFiles (Some told) names texts
    → ArePartFiles (Some told) names texts' → texts ≡ texts'
files_one told [] [] [] have have' = refl
files_one told [] [] (text' ∷ texts') have have' = absurd have'
files_one told [] (text ∷ texts) texts' have have' = absurd have
files_one told (name ∷ names) [] texts' have have' = absurd have
files_one told (name ∷ names) (text ∷ texts) [] have have' = absurd have'
files_one told (name ∷ names) (text ∷ texts) (text' ∷ texts') have have' =
    ap (λ (t : List ℕ). t ∷ texts) (same_Some text text' (sym have.0 ∙ have'.0))
    ∙ ap (λ (l : List (List ℕ)). text' ∷ l) (files_one told names texts texts' have.1 have'.1)

-- ---- what their texts say

logs_long : (rows : List Row) (parts part : ℕ) (texts : List (List ℕ)) (logs : List (List (List DieLog)))
    → AreLogTexts rows parts part texts logs → length logs ≡ length texts
logs_long rows parts part [] [] say = refl
logs_long rows parts part [] (log ∷ logs) say = absurd say
logs_long rows parts part (text ∷ texts) [] say = absurd say
logs_long rows parts part (text ∷ texts) (log ∷ logs) say = ap suc (logs_long rows parts (part + 1) texts logs say.1)

none_there : {A : Type 0} {x : A} → ◌≡◌ {A = Option A} None (Some x) → ⊥
none_there e = cc

logs_at : (rows : List Row) (parts part : ℕ) (texts : List (List ℕ)) (logs : List (List (List DieLog)))
    → AreLogTexts rows parts part texts logs → (k : ℕ) (text : List ℕ) → slice_get texts k ≡ Some text
    → IsLog (names_in parts (part + k) rows) text (get_or logs k [])
logs_at rows parts part [] logs say k text got = absurd (none_there got)
logs_at rows parts part (t ∷ texts) [] say k text got = absurd say
logs_at rows parts part (t ∷ texts) (log ∷ logs) say zero text got =
    subst (λ (n : ℕ). IsLog (names_in parts n rows) text log) (omega arith)
    (subst (λ (x : List ℕ). IsLog (names_in parts part rows) x log) (same_Some t text got) say.0)
logs_at rows parts part (t ∷ texts) (log ∷ logs) say (suc k) text got =
    subst (λ (n : ℕ). IsLog (names_in parts n rows) text (get_or logs k [])) (omega arith)
    (logs_at rows parts (part + 1) texts logs say.1 k text got)

-- ---- no refusal is done

same_ended : (a b : Status) → Ended a ≡ Ended b → a ≡ b
same_ended a b e = cc

pub never_merged : (r : PartRefusal) → Ended Done ≡ outcome_of r → ⊥
never_merged (refusal.Of why) same = never_done why (same_ended Done _ same)
never_merged (refusal.Part file line) same = absurd (let no : Ended Done ≡ RefusedPart = same in cc)

-- ---- what is written

module _ {S : Type 0} (tells : S → Told) (files : Files) (program plan : List ℕ) (inputs : Inputs) (runs : List (LotRun tells))
    (given : AreRunsOfParts tells files program plan inputs runs) (uncut : AreAllUncut runs) where
  -- the texts of the runs
  abbrev texts_of : List (List ℕ)
  texts_of = map (λ (run : LotRun tells). run.text) runs

  texts_long : length texts_of ≡ length runs
  texts_long = length-map runs (λ (run : LotRun tells). run.text)

  -- what they say, in the words of the law on runs
  say_of : (logs : List (List (List DieLog))) → AreLogTexts inputs.rows (length runs) 0 texts_of logs → AreLogsOf inputs runs logs
  say_of logs say = (
    logs_long inputs.rows (length runs) 0 texts_of logs say ∙ texts_long,
    λ part run got.
        subst (λ (n : ℕ). IsLog (names_in (length runs) n inputs.rows) run.text (get_or logs part [])) (omega arith)
        (logs_at inputs.rows (length runs) 0 texts_of logs say part run.text
        (slice_get-map (λ (r : LotRun tells). r.text) runs part ∙ ap (option_map (λ (r : LotRun tells). r.text)) got)),
  )

  writes : (told : Files) (before now : ℕ) (name : List ℕ) (names : List (List ℕ)) (text : List ℕ)
      → file_of files plan ≡ file_of told name → ArePartFiles (Some told) names texts_of
      → MergeWants (Some told) before now name names (Ended Done) text → text ≡ uncut_text (bound_of inputs)
  writes told before now name names text planned have (is_refused r cause answer line) = absurd (never_merged r answer)
  writes told before now name names text planned have (are_merged done rows is texts read logs say written) =
      let bytes : is.bytes ≡ given.are.rows.bytes =
      same_Some is.bytes given.are.rows.bytes (sym is.file.are ∙ sym planned ∙ given.are.rows.file.are) in
      let rows_are : rows ≡ inputs.rows =
      one_plan given.are.rows.bytes rows inputs.rows (subst (λ (x : List ℕ). IsPlan x rows) bytes is.plan) given.are.rows.plan in
      let texts_are : texts ≡ texts_of = files_one told names texts texts_of read have in
      let long : length names ≡ length runs = files_long (Some told) names texts_of have ∙ texts_long in
      let of_texts : AreLogTexts rows (length names) 0 texts_of logs =
      subst (λ (l : List (List ℕ)). AreLogTexts rows (length names) 0 l logs) texts_are say in
      let of_runs : AreLogTexts rows (length runs) 0 texts_of logs =
      subst (λ (n : ℕ). AreLogTexts rows n 0 texts_of logs) long of_texts in
      let of_plan : AreLogTexts inputs.rows (length runs) 0 texts_of logs =
      subst (λ (l : List Row). AreLogTexts l (length runs) 0 texts_of logs) rows_are of_runs in
      written ∙ ap (λ (l : List Row). merged_text l logs) rows_are
      ∙ merged_uncut tells files program plan inputs runs given uncut logs (say_of logs of_plan)

module _ {S : Type 0} (tells : S → Told) where
  pub merge_writes_uncut_text : MergeWritesUncutText tells
  merge_writes_uncut_text files program plan inputs runs given text is uncut =
      writes tells files program plan inputs runs given uncut is.told is.before is.now is.name is.names text is.one_plan is.texts is.is

  pub merge_writes_quiet_text : MergeWritesQuietText tells
  merge_writes_quiet_text files program plan inputs runs given text is quiet =
      merge_writes_uncut_text files program plan inputs runs given text is (quiet_are_uncut tells runs quiet)
