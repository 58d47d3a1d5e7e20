-- The datalogs of runs of parts are read: `runs_are_read`.
use Rattle.std.proofs.Common.{◌≡◌, ◌⊎◌, ℕ, ◌<◌, ◌≤◌, List, [], length, map, Some, sym, ◌∙◌, subst, arith, inl, inr}
use Rattle.std.specs.Prelude.{slice_get}
use Rattle.std.specs.List.{range_with_len}
use Rattle.std.proofs.lemmas.Bool.{cases_lt}
use Rattle.std.proofs.lemmas.List.FromFn.{length-map-range_with_len, get_or-map-range_with_len}
use Rattle.std.proofs.lemmas.Option.{same_Some, slice_get_within}
use Rattle.text_bytes.proofs.ListLemmas.{slice_get-there}
use Rattle.tester_types.specs.Outside.{Files}
use Rattle.die_sim.specs.Socket.{Told}
use Rattle.tool_inputs.specs.Inputs.{Inputs}
use Rattle.stil_tool.specs.Alone.{LotRun}
use Rattle.log_parts.specs.Log.{DieLog, IsLog}
use Rattle.log_parts.specs.Merged.{names_in}
use Rattle.part_laws.specs.Runs.{AreRunsOfParts}
use Rattle.part_laws.specs.Laws.{AreLogsOf, RunsAreRead}
use Rattle.part_laws.proofs.RunParts.{logs_made, run_is_log}

-- ---- the datalogs of runs are read

module _ {S : Type 0} (tells : S → Told) (files : Files) (program plan : List ℕ) (inputs : Inputs) (runs : List (LotRun tells))
    (given : AreRunsOfParts tells files program plan inputs runs) where
  -- what the run of a part says, where there is such a part
  said_by : (part : ℕ) → (part < length runs) ⊎ (length runs ≤ part) → List (List DieLog)
  said_by part (inl less) =
      let found = slice_get-there runs part less in
      logs_made tells files program plan inputs given.are (length runs) part less found.0 (given.each part found.0 found.1)
  said_by part (inr none) = []

  -- it is what the text says
  said_is : (part : ℕ) (run : LotRun tells) → slice_get runs part ≡ Some run
      → (o : (part < length runs) ⊎ (length runs ≤ part))
      → IsLog (names_in (length runs) part inputs.rows) run.text (said_by part o)
  unfolding said_by
  said_is part run got (inl less) =
      let found = slice_get-there runs part less in
      let same : found.0 ≡ run = same_Some found.0 run (sym found.1 ∙ got) in
      subst (λ (r : LotRun tells). IsLog (names_in (length runs) part inputs.rows) r.text
      (logs_made tells files program plan inputs given.are (length runs) part less found.0 (given.each part found.0 found.1))) same
      (run_is_log tells files program plan inputs given.are (length runs) part less found.0 (given.each part found.0 found.1))
  said_is part run got (inr none) = absurd (omega (arith, none, slice_get_within runs part run got))

  -- the logs of all
  all_logs : List (List (List DieLog))
  all_logs = map (λ part. said_by part (cases_lt part (length runs))) (range_with_len 0 (length runs))

  -- they are what the texts say
  are_read : AreLogsOf inputs runs all_logs
  unfolding all_logs
  are_read = (
    length-map-range_with_len (λ part. said_by part (cases_lt part (length runs))) 0 (length runs),
    λ part run got.
        subst (λ (l : List (List DieLog)). IsLog (names_in (length runs) part inputs.rows) run.text l)
        (sym (get_or-map-range_with_len (λ p. said_by p (cases_lt p (length runs))) 0 (length runs) part part []
        (slice_get_within runs part run got) (omega arith))) (said_is part run got (cases_lt part (length runs))),
  )

-- so each text is read
pub runs_are_read : {S : Type 0} (tells : S → Told) → RunsAreRead tells
runs_are_read tells files program plan inputs runs given =
    (all_logs tells files program plan inputs runs given, are_read tells files program plan inputs runs given)
