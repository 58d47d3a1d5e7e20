-- A site at the end of a try, as a poll has it.
use Rattle.std.proofs.Common.{◌≡◌, ℕ, ◌+◌, Bool, true, false, cond, [], ◌∷◌, ◌++◌, length, Option, None, sym, ap, ◌∙◌}
use Rattle.std.specs.Prelude.{◌&&◌, nat_lt}
use Rattle.std.specs.Option.{option_map}
use Rattle.tester_types.specs.declared.record.Trial.{Trial}
use Rattle.plan_rows.specs.declared.row.LotRow.{LotRow}
use Rattle.plan_rows.specs.Rows.{lot_of}
use Rattle.lot_plan.specs.Bound.{Bound}
use Rattle.die_sim.specs.Socket.{Told}
use Rattle.tester_types.specs.declared.record.By.TheVariants as by
use Rattle.tester_types.specs.declared.record.Verdict.TheVariants as verdict
use Rattle.site_meaning.specs.Part.{Part, part_of, lot_in, order_in}
use Rattle.site_meaning.specs.Records.{is_fail}
use Rattle.site_meaning.specs.Polls.{Running, Seat, Step, ends, ended_now, try_now, with_record, with_trial, is_ordered, run_batch, before_batch}
use Rattle.site_meaning.proofs.PartLemmas.{lot_in-part_of}
use Rattle.site_run.specs.declared.run.Run.{Run}
use Rattle.site_run.specs.Seat.{running_of}

-- the site with one more try of its die
abbrev pub with_try : Seat → Trial → Seat
with_try seat trial = record seat { trials = seat.trials ++ trial ∷ []; running = None }

pub ended_so : (part : Part) (seat : Seat) (trial : Trial) (b : Bool)
    → (is_fail trial.verdict && nat_lt (try_now seat) (lot_in part).tries) ≡ b
    → with_trial part seat trial ≡ cond b (with_try seat trial) (with_record part seat trial)
unfolding with_trial
ended_so part seat trial b is = ap (λ (c : Bool). cond c (with_try seat trial) (with_record part seat trial)) is

module _ (plan : Bound) (site : ℕ) (part : Part) (seat : Seat) (trial : Trial) (same : part ≡ part_of plan site) where
  -- it is tried again, or its touchdown has ended
  pub ended_by : (again b : Bool) → again ≡ (is_fail trial.verdict && nat_lt (length seat.trials + 1) (lot_of plan.rows).tries)
      → again ≡ b → with_trial part seat trial ≡ cond b (with_try seat trial) (with_record part seat trial)
  ended_by again b is so =
      ended_so part seat trial b
      (ap (λ (l : LotRow). is_fail trial.verdict && nat_lt (length seat.trials + 1) l.tries)
      (ap (λ (p : Part). lot_in p) same ∙ lot_in-part_of plan site) ∙ sym is ∙ so)

-- no try runs
pub none_runs : (told : Told) (running : Option Run) → running ≡ None → option_map (running_of told) running ≡ None
none_runs told running none = ap (option_map (running_of told)) none

-- ---- a try before its next batch

module _ (part : Part) (contact : Option ℕ) (seat : Seat) (running : Running) where
  -- what follows where no live stop ends it
  abbrev by_plan : Step
  by_plan = cond (is_ordered (order_in part seat.die (try_now seat)) running.batch)
      (ends (ended_now (try_now seat) running (verdict.Stopped running.batch by.Plan)))
      (run_batch part seat.die (try_now seat) contact running)

  pub before_live : nat_lt seat.taken seat.word ≡ true
      → before_batch part contact seat running
      ≡ ends (ended_now (try_now seat) running (verdict.Stopped running.batch (by.Desk seat.word)))
  unfolding before_batch
  before_live live =
      ap (λ (b : Bool). cond b (ends (ended_now (try_now seat) running (verdict.Stopped running.batch (by.Desk seat.word)))) by_plan) live

  before_plan : nat_lt seat.taken seat.word ≡ false → before_batch part contact seat running ≡ by_plan
  unfolding before_batch
  before_plan live =
      ap (λ (b : Bool). cond b (ends (ended_now (try_now seat) running (verdict.Stopped running.batch (by.Desk seat.word)))) by_plan) live

  pub before_order : nat_lt seat.taken seat.word ≡ false → is_ordered (order_in part seat.die (try_now seat)) running.batch ≡ true
      → before_batch part contact seat running ≡ ends (ended_now (try_now seat) running (verdict.Stopped running.batch by.Plan))
  before_order live ordered =
      before_plan live
      ∙ ap (λ (b : Bool). cond b (ends (ended_now (try_now seat) running (verdict.Stopped running.batch by.Plan)))
      (run_batch part seat.die (try_now seat) contact running)) ordered

  pub before_run : nat_lt seat.taken seat.word ≡ false → is_ordered (order_in part seat.die (try_now seat)) running.batch ≡ false
      → before_batch part contact seat running ≡ run_batch part seat.die (try_now seat) contact running
  before_run live ordered =
      before_plan live
      ∙ ap (λ (b : Bool). cond b (ends (ended_now (try_now seat) running (verdict.Stopped running.batch by.Plan)))
      (run_batch part seat.die (try_now seat) contact running)) ordered
