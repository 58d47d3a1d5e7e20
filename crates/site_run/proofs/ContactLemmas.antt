-- Contact that a poll loses is lost in the batch that it runs, or at the load.
use Rattle.std.proofs.Common.{◌≡◌, ℕ, ◌+◌, true, Option, Some, None, cond, refl, length}
use Rattle.std.specs.Prelude.{nat_lt, is_some}
use Rattle.std.specs.Option.{option_map_or}
use Rattle.std.proofs.lemmas.Bool.{cond_both, eqb-true}
use Rattle.tester_types.specs.declared.record.By.TheVariants as by
use Rattle.tester_types.specs.declared.record.Verdict.TheVariants as verdict
use Rattle.packed_code.specs.Cycles.{cycles_of}
use Rattle.site_meaning.specs.Part.{Part, order_in}
use Rattle.site_meaning.specs.Trials.{Lost, reached}
use Rattle.site_meaning.specs.Polls.{Running, Seat, Step, goes, ends, unloaded, ended_now, ended_at, with_exec, next_exec, onward, settled, next_played, after_batch, run_batch, is_ordered, before_batch, try_now, fresh_try, is_at_load, arrived, stepped_try}
use Rattle.site_run.specs.Contact.{EndsAtContact, IsLostInPoll, IsInBatch}

-- a try that goes on, or passes, loses no contact
onward_loses_none : (part : Part) (number : ℕ) (running : Running) (from at : ℕ) → EndsAtContact (onward part number running from) at → ⊥
unfolding onward
onward_loses_none part number running from at = by (next_exec part.code from)
  where
    by : (o : Option ℕ) → EndsAtContact (option_map_or (λ exec. goes (with_exec running exec)) o (ends (ended_now number running verdict.Pass))) at → ⊥
    by None lost = cc lost
    by (Some exec) lost = lost

-- nor does one that is behind its batch
settled_loses_none : (part : Part) (number : ℕ) (running : Running) (at : ℕ) → EndsAtContact (settled part number running) at → ⊥
unfolding settled
settled_loses_none part number running at =
    cond_both (nat_lt running.done (length (cycles_of part.code running.exec))) (goes running)
    (cond (nat_lt 0 running.total) (ends (ended_now number running (verdict.Fail running.exec))) (onward part number running (running.exec + 1)))
    (λ (s : Step). EndsAtContact s at → ⊥) (λ _. λ lost. lost)
    (λ _. cond_both (nat_lt 0 running.total) (ends (ended_now number running (verdict.Fail running.exec)))
    (onward part number running (running.exec + 1)) (λ (s : Step). EndsAtContact s at → ⊥) (λ _. λ lost. cc lost)
    (λ _. onward_loses_none part number running (running.exec + 1) at))

-- a batch loses contact where it is reached
lost_in_run : (part : Part) (die number at : ℕ) (running : Running) → EndsAtContact (run_batch part die number (Some at) running) at
    → is_some (reached at (next_played part die number running)) ≡ true
unfolding run_batch
lost_in_run part die number at running = by (reached at (next_played part die number running))
  where
    by : (o : Option Lost)
        → EndsAtContact (option_map_or (λ lost. ends (ended_at part number running at lost)) o (settled part number (after_batch part die number running))) at
        → is_some o ≡ true
    by None lost = absurd (settled_loses_none part number (after_batch part die number running) at lost)
    by (Some there) lost = refl

-- so does a try before its batch
lost_before : (part : Part) (seat : Seat) (at : ℕ) (running : Running) → EndsAtContact (before_batch part (Some at) seat running) at
    → IsInBatch part seat at (goes running)
unfolding before_batch
lost_before part seat at running =
    cond_both (nat_lt seat.taken seat.word) live planned Leads (λ _. λ lost. cc lost)
    (λ _. cond_both (is_ordered (order_in part seat.die (try_now seat)) running.batch) stopped
    (run_batch part seat.die (try_now seat) (Some at) running) Leads (λ _. λ lost. cc lost)
    (λ _. lost_in_run part seat.die (try_now seat) at running))
  where
    live : Step
    live = ends (ended_now (try_now seat) running (verdict.Stopped running.batch (by.Desk seat.word)))

    stopped : Step
    stopped = ends (ended_now (try_now seat) running (verdict.Stopped running.batch by.Plan))

    planned : Step
    planned = cond (is_ordered (order_in part seat.die (try_now seat)) running.batch) stopped (run_batch part seat.die (try_now seat) (Some at) running)

    Leads : Step → Type 0
    Leads s = EndsAtContact s at → IsInBatch part seat at (goes running)

-- where a try arrives, it loses contact in its batch or at its load
pub lost_in_batch : (part : Part) (seat : Seat) (at : ℕ) → IsLostInPoll part seat at → IsInBatch part seat at (arrived part (Some at) seat)
unfolding arrived
lost_in_batch part seat at lost = running_so seat.running lost.ends_there
  where
    Leads : Step → Type 0
    Leads s = EndsAtContact (stepped_try part (Some at) seat s) at → IsInBatch part seat at s

    fresh : Running
    fresh = fresh_try part seat.die (try_now seat)

    begun : Step
    begun = cond (is_at_load (Some at)) (ends (unloaded (try_now seat))) (onward part (try_now seat) fresh 0)

    going : (s : Step) → ((number : ℕ) → EndsAtContact s number → ⊥) → Leads s
    going (goes running) none = lost_before part seat at running
    going (ends trial) none = λ there. absurd (none at there)

    running_so : (o : Option Running) → Leads (option_map_or goes o begun)
    running_so None =
        cond_both (is_at_load (Some at)) (ends (unloaded (try_now seat))) (onward part (try_now seat) fresh 0) Leads
        (λ load. λ _. eqb-true at 0 load) (λ _. going (onward part (try_now seat) fresh 0) (onward_loses_none part (try_now seat) fresh 0))
    running_so (Some running) = lost_before part seat at running
