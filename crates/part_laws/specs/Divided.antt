-- What the merged text of the parts of a plan is where neither a live stop nor a lost contact cuts a try: without a run
-- of the whole plan, and however many parts there are.
use Rattle.std.specs.Prelude.{◌≡◌, ℕ, Some, List, map, slice_get}
use Rattle.tester_types.specs.Outside.{Files, file_of}
use Rattle.die_sim.specs.Socket.{Told}
use Rattle.tool_inputs.specs.Inputs.{Inputs, bound_of}
use Rattle.lot_laws.specs.Alone.{IsOneProgram, AreOneNets, AreUncut}
use Rattle.lot_laws.specs.Uncut.{uncut_text}
use Rattle.stil_tool.specs.Alone.{LotRun, records_at}
use Rattle.stil_tool.specs.Quiet.{IsQuiet}
use Rattle.log_parts.specs.Log.{DieLog}
use Rattle.log_parts.specs.Merged.{merged_text}
use Rattle.tool_inputs.specs.declared.status.Status.TheVariants.{Done}
use Rattle.lot_parts.specs.declared.outcome.Outcome.TheVariants.{Ended}
use Rattle.lot_parts.specs.Files.{ArePartFiles}
use Rattle.lot_parts.specs.Merging.{MergeWants}
use Rattle.part_laws.specs.Runs.{AreRunsOfParts}
use Rattle.part_laws.specs.Laws.{AreLogsOf}

-- neither live stops nor contacts cut a try of these runs
abbrev pub AreAllUncut : {S : Type 0} {tells : S → Told} → List (LotRun tells) → Type 0
AreAllUncut {tells = tells} runs =
    (part : ℕ) (run : LotRun tells) → slice_get runs part ≡ Some run → (site : ℕ) → AreUncut (records_at run site)

-- in none of these runs was a stop said or a fault counted
abbrev pub AreAllQuiet : {S : Type 0} {tells : S → Told} → List (LotRun tells) → Type 0
AreAllQuiet {tells = tells} runs = (part : ℕ) (run : LotRun tells) → slice_get runs part ≡ Some run → IsQuiet run

-- Where nothing cuts a try of a part, the merged text is that of the bound plan without cuts.
abbrev pub MergedIsUncutText : {S : Type 0} → (S → Told) → Type 0
MergedIsUncutText tells =
    (files : Files) (program plan : List ℕ) (inputs : Inputs) (runs : List (LotRun tells))
    → AreRunsOfParts tells files program plan inputs runs → (logs : List (List (List DieLog)))
    → AreLogsOf inputs runs logs → AreAllUncut runs → merged_text inputs.rows logs ≡ uncut_text (bound_of inputs)

-- So it is where no stop was said and no fault was counted.
abbrev pub MergedIsQuietText : {S : Type 0} → (S → Told) → Type 0
MergedIsQuietText tells =
    (files : Files) (program plan : List ℕ) (inputs : Inputs) (runs : List (LotRun tells))
    → AreRunsOfParts tells files program plan inputs runs → (logs : List (List (List DieLog)))
    → AreLogsOf inputs runs logs → AreAllQuiet runs → merged_text inputs.rows logs ≡ uncut_text (bound_of inputs)

-- Runs of the parts of a plan, and runs of the parts of the same plan divided otherwise, on files of their own with the
-- same bytes, and what their texts say.
pub record AreTwoDivisions {S : Type 0} (tells : S → Told) (inputs inputs' : Inputs) (runs runs' : List (LotRun tells))
    (logs logs' : List (List (List DieLog))) : Type 0 where
  pub files : Files
  pub program : List ℕ
  pub plan : List ℕ
  pub others : Files
  pub program' : List ℕ
  pub plan' : List ℕ
  pub are : AreRunsOfParts tells files program plan inputs runs
  pub are' : AreRunsOfParts tells others program' plan' inputs' runs'
  pub one_program : IsOneProgram files others program program'
  pub one_plan : file_of files plan ≡ file_of others plan'
  pub nets : (site : ℕ) → AreOneNets files others inputs.rows site
  pub say : AreLogsOf inputs runs logs
  pub say' : AreLogsOf inputs' runs' logs'

-- Two divisions of one plan merge to one text where nothing cuts a try of either.
abbrev pub OneDivision : {S : Type 0} → (S → Told) → Type 0
OneDivision tells =
    (inputs inputs' : Inputs) (runs runs' : List (LotRun tells)) (logs logs' : List (List (List DieLog)))
    → AreTwoDivisions tells inputs inputs' runs runs' logs logs' → AreAllUncut runs → AreAllUncut runs'
    → merged_text inputs.rows logs ≡ merged_text inputs'.rows logs'

-- So they do where no stop was said and no fault was counted.
abbrev pub OneQuietDivision : {S : Type 0} → (S → Told) → Type 0
OneQuietDivision tells =
    (inputs inputs' : Inputs) (runs runs' : List (LotRun tells)) (logs logs' : List (List (List DieLog)))
    → AreTwoDivisions tells inputs inputs' runs runs' logs logs' → AreAllQuiet runs → AreAllQuiet runs'
    → merged_text inputs.rows logs ≡ merged_text inputs'.rows logs'

-- `merge` of `lots` was done on a plan with the bytes of this one and on files with the texts of these runs, and wrote
-- this text.
pub record MergesRuns {S : Type 0} (tells : S → Told) (files : Files) (plan : List ℕ) (runs : List (LotRun tells))
    (text : List ℕ) : Type 0 where
  pub told : Files
  pub before : ℕ
  pub now : ℕ
  pub name : List ℕ
  pub names : List (List ℕ)
  pub one_plan : file_of files plan ≡ file_of told name
  pub texts : ArePartFiles (Some told) names (map (λ (run : LotRun tells). run.text) runs)
  pub is : MergeWants (Some told) before now name names (Ended Done) text

-- So what `merge` writes of runs of all parts is the text of the bound plan without cuts, where nothing cuts a try.
abbrev pub MergeWritesUncutText : {S : Type 0} → (S → Told) → Type 0
MergeWritesUncutText tells =
    (files : Files) (program plan : List ℕ) (inputs : Inputs) (runs : List (LotRun tells))
    → AreRunsOfParts tells files program plan inputs runs → (text : List ℕ) → MergesRuns tells files plan runs text
    → AreAllUncut runs → text ≡ uncut_text (bound_of inputs)

-- So it is where no stop was said and no fault was counted.
abbrev pub MergeWritesQuietText : {S : Type 0} → (S → Told) → Type 0
MergeWritesQuietText tells =
    (files : Files) (program plan : List ℕ) (inputs : Inputs) (runs : List (LotRun tells))
    → AreRunsOfParts tells files program plan inputs runs → (text : List ℕ) → MergesRuns tells files plan runs text
    → AreAllQuiet runs → text ≡ uncut_text (bound_of inputs)
