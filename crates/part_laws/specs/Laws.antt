-- What is so of the datalogs of the parts of a plan.
use Rattle.std.specs.Prelude.{◌≡◌, ℕ, Some, List, length, map, slice_get, slice_index_or}
use Rattle.tester_types.specs.Outside.{Files, file_of}
use Rattle.die_sim.specs.Socket.{Told}
use Rattle.tool_inputs.specs.Inputs.{Inputs, bound_of}
use Rattle.lot_laws.specs.Alone.{IsOneProgram, AreOneNets, AreUncut}
use Rattle.stil_tool.specs.Lot.{IsLot}
use Rattle.stil_tool.specs.Alone.{LotRun, records_at}
use Rattle.log_parts.specs.Log.{DieLog, IsLog}
use Rattle.log_parts.specs.Merged.{names_in, merged_text}
use Rattle.part_laws.specs.Runs.{AreRunsOfParts, joined}

-- these are what the datalogs of runs of the parts say, in order
abbrev pub AreLogsOf : {S : Type 0} {tells : S → Told} → Inputs → List (LotRun tells)
    → List (List (List DieLog)) → Type 0
AreLogsOf {tells = tells} inputs runs logs =
    (length logs ≡ length runs)
    × ((part : ℕ) (run : LotRun tells) → slice_get runs part ≡ Some run
    → IsLog (names_in (length runs) part inputs.rows) run.text (slice_index_or logs part List.[]))

-- The text of a run of a part is a datalog of the part: so it is read, and not refused.
abbrev pub RunsAreRead : {S : Type 0} → (S → Told) → Type 0
RunsAreRead tells =
    (files : Files) (program plan : List ℕ) (inputs : Inputs) (runs : List (LotRun tells))
    → AreRunsOfParts tells files program plan inputs runs
    → (logs : List (List (List DieLog))) × AreLogsOf inputs runs logs

-- The merged text of the datalogs of all parts is a datalog of the whole plan, for the tester that the parts' testers
-- are together: at each site with dies the socket that it had in its part.
abbrev pub MergedIsLot : {S : Type 0} → (S → Told) → Type 0
MergedIsLot {S = S} tells =
    (files : Files) (program plan : List ℕ) (inputs : Inputs) (runs : List (LotRun tells))
    → AreRunsOfParts tells files program plan inputs runs → (logs : List (List (List DieLog)))
    → AreLogsOf inputs runs logs → (idle : S)
    → IsLot tells (bound_of inputs) (joined idle (map (λ (run : LotRun tells). run.old) runs) inputs.rows)
    (joined idle (map (λ (run : LotRun tells). run.new) runs) inputs.rows) (merged_text inputs.rows logs)

-- Where neither live stops nor contacts cut a try of a part, nor one of another run of the whole plan, that run prints
-- the merged text.
abbrev pub MergedIsOneText : {S : Type 0} → (S → Told) → Type 0
MergedIsOneText tells =
    (files : Files) (program plan : List ℕ) (inputs : Inputs) (runs : List (LotRun tells))
    → AreRunsOfParts tells files program plan inputs runs → (logs : List (List (List DieLog)))
    → AreLogsOf inputs runs logs
    → ((part : ℕ) (run : LotRun tells) → slice_get runs part ≡ Some run → (site : ℕ) → AreUncut (records_at run site))
    → (whole : LotRun tells) → IsOneProgram files whole.files program whole.program
    → file_of files plan ≡ file_of whole.files whole.plan
    → ((site : ℕ) → AreOneNets files whole.files inputs.rows site) → ((site : ℕ) → AreUncut (records_at whole site))
    → whole.text ≡ merged_text inputs.rows logs
