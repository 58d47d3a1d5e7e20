-- A try that stands before its next batch, as a poll has it: a live stop ends it, else the plan's order does, else the batch runs.
use Rattle.std.proofs.Common.{◌≡◌, ℕ, ℤ, ◌+◌, ◌<◌, Bool, true, false, cond, List, [], length, Option, sym, ap, ◌∙◌, subst, inl, inr}
use Rattle.std.specs.Prelude.{Result, Ok, Err, IfOk, IsTrue, ◌↔◌, ◌||◌, nat_lt}
use Rattle.std.proofs.lemmas.Bool.{cases_lt, le-ltb}
use Rattle.tester_types.specs.declared.outside.NoMemory.{NoMemory}
use Rattle.tester_types.specs.declared.record.Trial.{Trial}
use Rattle.tester_types.specs.declared.record.By.TheVariants as by
use Rattle.tester_types.specs.declared.record.Verdict.TheVariants as verdict
use Rattle.packed_code.specs.Program.{Program}
use Rattle.die_sim.specs.Die.{Image, device_of}
use Rattle.die_sim.specs.Socket.{Told, Calls}
use Rattle.plan_rows.specs.Rows.{lot_of, dies_at}
use Rattle.lot_plan.specs.Bound.{Bound, image_of, stop_of}
use Rattle.lot_plan.specs.Skews.{site_skews}
use Rattle.site_meaning.specs.Part.{Part, part_of, order_in}
use Rattle.site_meaning.specs.Polls.{Running, Seat, Step, ends, ended_now, try_now, is_ordered, run_batch, before_batch}
use Rattle.site_meaning.proofs.PartLemmas.{order_in-part_of}
use Rattle.site_run.specs.declared.site.Site.{Site}
use Rattle.site_run.specs.declared.run.Run.{Run}
use Rattle.site_run.specs.declared.run.Move.{Move}
use Rattle.cycle_run.specs.Cycle.{stand_of}
use Rattle.site_run.specs.Taped.{calls_of_batch, calls_of_next, IsTaped}
use Rattle.site_run.specs.Seat.{running_of, IsPlanned, IsMove, contact_of}
use Rattle.site_run.specs.Site.{try_of, IsSeatOf}
use Rattle.site_run.proofs.PlanLemmas.{is_planned}
use Rattle.site_run.proofs.SiteLemmas.{before_live, before_order, before_run}

-- a number that isn't a live stop
pub not_live : (taken stops : ℕ) (b : Bool) → IsTrue b ↔ (taken < stops) → b ≡ false → nat_lt taken stops ≡ false
not_live taken stops b iff no_stop =
    elim (cases_lt taken stops) [
      | inl l ↦ absurd (let yes_stop = iff.1 l in cc (yes_stop, no_stop))
      | inr l ↦ le-ltb taken stops l
    ]

module _ (plan : Bound) (site : Site) (stops : ℕ) (part : Part) (seat : Seat) (contact : Option ℕ) (running : Running)
    (same : part ≡ part_of plan site.site) (is : IsSeatOf stops site seat) where
  number_is : try_now seat ≡ try_of site
  number_is = ap (λ (l : List Trial). length l + 1) is.trials

  live_is : (b : Bool) → nat_lt site.state.taken stops ≡ b → nat_lt seat.taken seat.word ≡ b
  live_is b live =
      ap (λ (n : ℕ). nat_lt n seat.word) is.taken ∙ ap (λ (n : ℕ). nat_lt site.state.taken n) is.word_is ∙ live

  order_is : (order : Option ℕ) (b : Bool) → order ≡ stop_of plan.rows site.site site.die (try_of site) → is_ordered order running.batch ≡ b
      → is_ordered (order_in part seat.die (try_now seat)) running.batch ≡ b
  order_is order b stop ordered =
      ap (λ (o : Option ℕ). is_ordered o running.batch)
      (ap (λ (p : Part). order_in p seat.die (try_now seat)) same
      ∙ order_in-part_of plan site.site seat.die (try_now seat)
      ∙ ap (λ (d : ℕ). stop_of plan.rows site.site d (try_now seat)) is.die
      ∙ ap (stop_of plan.rows site.site site.die) number_is
      ∙ sym stop) ∙ ordered

  -- the calls of its next batch, where no stop comes first
  next_calls : (b : Bool) → (nat_lt seat.taken seat.word || is_ordered (order_in part seat.die (try_now seat)) running.batch) ≡ b
      → calls_of_next part seat running ≡ cond b [] (calls_of_batch part seat.die (try_now seat) running)
  unfolding calls_of_next
  next_calls b stop = ap (λ (c : Bool). cond c [] (calls_of_batch part seat.die (try_now seat) running)) stop

  pub no_calls_live : nat_lt site.state.taken stops ≡ true → calls_of_next part seat running ≡ []
  no_calls_live live =
      next_calls true (ap (λ (c : Bool). c || is_ordered (order_in part seat.die (try_now seat)) running.batch) (live_is true live))

  pub no_calls_ordered : (order : Option ℕ) → nat_lt site.state.taken stops ≡ false
      → order ≡ stop_of plan.rows site.site site.die (try_of site) → is_ordered order running.batch ≡ true → calls_of_next part seat running ≡ []
  no_calls_ordered order live stop ordered =
      next_calls true
      (ap (λ (c : Bool). c || is_ordered (order_in part seat.die (try_now seat)) running.batch) (live_is false live)
      ∙ order_is order true stop ordered)

  all_calls : (order : Option ℕ) → nat_lt site.state.taken stops ≡ false
      → order ≡ stop_of plan.rows site.site site.die (try_of site) → is_ordered order running.batch ≡ false
      → calls_of_next part seat running ≡ calls_of_batch part site.die (try_of site) running
  all_calls order live stop ordered =
      next_calls false
      (ap (λ (c : Bool). c || is_ordered (order_in part seat.die (try_now seat)) running.batch) (live_is false live)
      ∙ order_is order false stop ordered)
      ∙ ap (λ (d : ℕ). calls_of_batch part d (try_now seat) running) is.die
      ∙ ap (λ (n : ℕ). calls_of_batch part site.die n running) number_is

  pub ends_live : nat_lt site.state.taken stops ≡ true
      → before_batch part contact seat running ≡ ends (ended_now (try_of site) running (verdict.Stopped running.batch (by.Desk stops)))
  ends_live live =
      before_live part contact seat running (live_is true live)
      ∙ ap (λ (n : ℕ). ends (ended_now n running (verdict.Stopped running.batch (by.Desk seat.word)))) number_is
      ∙ ap (λ (w : ℕ). ends (ended_now (try_of site) running (verdict.Stopped running.batch (by.Desk w)))) is.word_is

  pub ends_ordered : (order : Option ℕ) → nat_lt site.state.taken stops ≡ false → order ≡ stop_of plan.rows site.site site.die (try_of site)
      → is_ordered order running.batch ≡ true
      → before_batch part contact seat running ≡ ends (ended_now (try_of site) running (verdict.Stopped running.batch by.Plan))
  ends_ordered order live stop ordered =
      before_order part contact seat running (live_is false live) (order_is order true stop ordered)
      ∙ ap (λ (n : ℕ). ends (ended_now n running (verdict.Stopped running.batch by.Plan))) number_is

  pub runs_it : (order : Option ℕ) → nat_lt site.state.taken stops ≡ false → order ≡ stop_of plan.rows site.site site.die (try_of site)
      → is_ordered order running.batch ≡ false
      → before_batch part contact seat running ≡ run_batch part site.die (try_of site) contact running
  runs_it order live stop ordered =
      before_run part contact seat running (live_is false live) (order_is order false stop ordered)
      ∙ ap (λ (d : ℕ). run_batch part d (try_now seat) contact running) is.die
      ∙ ap (λ (n : ℕ). run_batch part site.die n contact running) number_is

-- what the plan says of the try that runs
planned_so : (plan : Bound) (site : Site) (code : Program) (image : Image) (skews : List ℤ) (most keep : ℕ) (part : Part)
    → part ≡ part_of plan site.site → plan.program ≡ code → image ≡ image_of plan site.site site.die (try_of site)
    → skews ≡ site_skews plan site.site → most ≡ (lot_of plan.rows).batch → keep ≡ (lot_of plan.rows).keep
    → site.die < length (dies_at site.site plan.rows)
    → IsPlanned part site.die (try_of site) (stand_of code skews (device_of image)) most keep
planned_so plan site code image skews most keep part same program image_is skews_are most_is keep_is die =
    let all = is_planned plan site.site site.die (try_of site) code part same program die in
    let a = subst (λ (l : List ℤ). IsPlanned part site.die (try_of site) (stand_of code l (device_of (image_of plan site.site site.die (try_of site))))
    (lot_of plan.rows).batch (lot_of plan.rows).keep) (sym skews_are) all in
    let b = subst (λ (i : Image). IsPlanned part site.die (try_of site) (stand_of code skews (device_of i)) (lot_of plan.rows).batch (lot_of plan.rows).keep)
    (sym image_is) a in
    let c = subst (λ (n : ℕ). IsPlanned part site.die (try_of site) (stand_of code skews (device_of image)) n (lot_of plan.rows).keep) (sym most_is) b in
    subst (λ (n : ℕ). IsPlanned part site.die (try_of site) (stand_of code skews (device_of image)) most n) (sym keep_is) c

-- the batch that runs is that of a poll
pub runs_now : (plan : Bound) (site : Site) (stops : ℕ) (code : Program) (image : Image) (skews : List ℤ) (most keep : ℕ) (order : Option ℕ)
    (told told' : Told) (old new : Run) (result : Result Move NoMemory)
    → plan.program ≡ code → image ≡ image_of plan site.site site.die (try_of site) → skews ≡ site_skews plan site.site
    → most ≡ (lot_of plan.rows).batch → keep ≡ (lot_of plan.rows).keep → site.die < length (dies_at site.site plan.rows)
    → nat_lt site.state.taken stops ≡ false → order ≡ stop_of plan.rows site.site site.die (try_of site) → is_ordered order old.batch ≡ false
    → IfOk result (λ m. (part : Part) (die number : ℕ) → IsPlanned part die number (stand_of code skews (device_of image)) most keep
    → IsMove number told' new m (run_batch part die number (contact_of m) (running_of told old)))
    → IfOk result (λ m. (part : Part) (seat : Seat) → part ≡ part_of plan site.site → IsSeatOf stops site seat
    → IsMove (try_of site) told' new m (before_batch part (contact_of m) seat (running_of told old)))
runs_now plan site stops code image skews most keep order told told' old new (Ok m) program image_is skews_are most_is keep_is die live stop ordered polled =
    λ part seat same is.
    subst (λ (s : Step). IsMove (try_of site) told' new m s)
    (sym (runs_it plan site stops part seat (contact_of m) (running_of told old) same is order live stop ordered))
    (polled part site.die (try_of site)
    (planned_so plan site code image skews most keep part same program image_is skews_are most_is keep_is die))
runs_now plan site stops code image skews most keep order told told' old new (Err e) program image_is skews_are most_is keep_is die live stop ordered polled = tt

-- and puts its calls on a tape
pub taped_so : (plan : Bound) (site : Site) (stops : ℕ) (code : Program) (image : Image) (skews : List ℤ) (most keep : ℕ) (order : Option ℕ)
    (told told' : Told) (old : Run) (result : Result Move NoMemory)
    → plan.program ≡ code → image ≡ image_of plan site.site site.die (try_of site) → skews ≡ site_skews plan site.site
    → most ≡ (lot_of plan.rows).batch → keep ≡ (lot_of plan.rows).keep → site.die < length (dies_at site.site plan.rows)
    → nat_lt site.state.taken stops ≡ false → order ≡ stop_of plan.rows site.site site.die (try_of site) → is_ordered order old.batch ≡ false
    → IfOk result (λ m. (part : Part) (die number : ℕ) → IsPlanned part die number (stand_of code skews (device_of image)) most keep
    → IsTaped (contact_of m) (calls_of_batch part die number (running_of told old)) told.tape told'.tape)
    → IfOk result (λ m. (part : Part) (seat : Seat) → part ≡ part_of plan site.site → IsSeatOf stops site seat
    → IsTaped (contact_of m) (calls_of_next part seat (running_of told old)) told.tape told'.tape)
taped_so plan site stops code image skews most keep order told told' old (Ok m) program image_is skews_are most_is keep_is die live stop ordered taped =
    λ part seat same is.
    subst (λ (calls : Calls). IsTaped (contact_of m) calls told.tape told'.tape)
    (sym (all_calls plan site stops part seat (contact_of m) (running_of told old) same is order live stop ordered))
    (taped part site.die (try_of site)
    (planned_so plan site code image skews most keep part same program image_is skews_are most_is keep_is die))
taped_so plan site stops code image skews most keep order told told' old (Err e) program image_is skews_are most_is keep_is die live stop ordered taped = tt
