-- How many polls a site takes: one for each batch that it comes to, and one for a try that has none.
use Rattle.std.specs.Prelude.{◌≡◌, ℕ, ◌+◌, ◌==◌, max, if◌then◌else◌, List, length, is_some, sum_by, Some, None}
use Rattle.std.specs.List.{position_or_len}
use Rattle.std.specs.Option.{option_map_or}
use Rattle.tester_types.specs.declared.record.Verdict.{Verdict}
use Rattle.tester_types.specs.declared.record.Verdict.TheVariants as verdict
use Rattle.tester_types.specs.declared.record.Trial.{Trial}
use Rattle.tester_types.specs.declared.record.Record.{Record}
use Rattle.site_meaning.specs.Part.{Part}
use Rattle.site_meaning.specs.Trials.{Batch, batches_of, reached}
use Rattle.site_meaning.specs.Polls.{Running, Seat}

-- the number of the batch in which an instant is reached with a call
unfoldable pub batch_at : ℕ → List Batch → ℕ
batch_at at batches = position_or_len (λ (batch : Batch). is_some (reached at batch.cycles)) batches

-- the polls of a try with this verdict, by the batches that it would have: one more than the number of the batch in
-- which or before which it ended, and 1 where it ended at its load or has no batch
abbrev pub polls_by : List Batch → Verdict → ℕ
polls_by batches verdict.Pass = max 1 (length batches)
polls_by batches (verdict.Fail exec) = max 1 (length batches)
polls_by batches (verdict.Stopped batch by) = batch + 1
polls_by batches (verdict.Contact at) = if at == 0 then 1 else batch_at at batches + 1

-- the polls of a recorded try of a die
unfoldable pub polls_in : Part → ℕ → Trial → ℕ
polls_in part die recorded = polls_by (batches_of part die recorded.number) recorded.verdict

-- those of tries
abbrev pub polls_of_tries : Part → ℕ → List Trial → ℕ
polls_of_tries part die trials = sum_by (polls_in part die) trials

-- those of a record
abbrev pub polls_of : Part → Record → ℕ
polls_of part entry = polls_of_tries part entry.die entry.trials

-- the batches that a try has come to, if one runs
abbrev pub batches_so_far : Seat → ℕ
batches_so_far seat = option_map_or (λ (running : Running). running.batch) seat.running 0

-- the polls of a touchdown so far
abbrev pub polls_so_far : Part → Seat → ℕ
polls_so_far part seat = polls_of_tries part seat.die seat.trials + batches_so_far seat

-- a poll counts 1: the touchdown goes on, or its record tells all of its polls
pub record Counts (part : Part) (old new : Seat) : Type 0 where
  pub on : new.waiting ≡ None → polls_so_far part new ≡ polls_so_far part old + 1
  pub over : (entry : Record) → new.waiting ≡ Some entry → polls_of part entry ≡ polls_so_far part old + 1
