-- What comes of the try of a site, as a poll has it.
use Rattle.std.proofs.Common.{◌≡◌, ℕ, zero, suc, ◌≤◌, false, Option, Some, None, IfSome, refl, sym, subst, arith}
use Rattle.std.specs.Prelude.{nat_lt}
use Rattle.tester_types.specs.Outside.{HasRisen}
use Rattle.tester_types.specs.declared.record.Verdict.{Verdict}
use Rattle.tester_types.specs.declared.record.Verdict.TheVariants as verdict
use Rattle.die_sim.specs.Die.{device_of}
use Rattle.die_sim.specs.Socket.{Told}
use Rattle.pattern_mem.specs.Memory.{Memory}
use Rattle.lot_plan.specs.Bound.{Bound, image_of}
use Rattle.plan_rows.specs.Rows.{lot_of}
use Rattle.site_meaning.specs.Part.{Part, part_of}
use Rattle.site_meaning.specs.Polls.{Seat, Step, ends, ended_now, unloaded, before_batch}
use Rattle.site_run.specs.declared.site.Site.{Site}
use Rattle.site_run.specs.declared.run.Run.{Run}
use Rattle.site_run.specs.declared.run.Move.{Move}
use Rattle.site_run.specs.declared.run.Move.TheVariants as move
use Rattle.site_run.specs.declared.trial.Outcome.{Outcome}
use Rattle.site_run.specs.declared.trial.Outcome.TheVariants as outcome
use Rattle.site_run.specs.Taped.{calls_of_next, IsTaped}
use Rattle.site_run.specs.Seat.{running_of, IsMove, contact_by, contact_of, GoesOnSo, StandsLater}
use Rattle.site_run.specs.Contact.{EndsAtContact}
use Rattle.site_run.specs.Site.{try_of, IsSeatOf, IsOutcome, HasLost, Advances, OutcomeFits, IsOutcomeOf}

-- where a move loses contact, it comes no earlier than the batch begins
late_of : (old new : Run) (m : Move) → StandsLater old new m → IfSome (contact_of m) (λ at. old.at.time ≤ at)
late_of old new move.More later = tt
late_of old new move.Next later = tt
late_of old new (move.Ends v) later = later

-- nothing is lost where nothing is
live_of : (o : Option ℕ) (P : Type 0) → o ≡ Some 0 → IfSome o (λ at. P) → P
live_of None P is some = cc
live_of (Some at) P is some = some

-- an outcome is that of a step that ends with contact lost
lost_as : (told : Told) (end : Outcome) (step : Step) (at : ℕ) → IsOutcome told end step → EndsAtContact step at → HasLost end at
lost_as told (outcome.Goes run) step at is there = subst (λ (s : Step). EndsAtContact s at) is there
lost_as told (outcome.Ends trial) step at is there = subst (λ (s : Step). EndsAtContact s at) is there

-- a try that ends with contact lost has that verdict
lost_by : (told : Told) (number : ℕ) (run : Run) (v : Verdict) (end : Outcome)
    → ((step : Step) → (contact_by v ≡ Some 0 → ⊥) → IsMove number told run (move.Ends v) step → IsOutcome told end step)
    → (contact_by v ≡ Some 0 → end ≡ outcome.Ends (unloaded number))
    → IfSome (contact_by v) (HasLost end)
lost_by told number run verdict.Pass end on none = tt
lost_by told number run (verdict.Fail exec) end on none = tt
lost_by told number run (verdict.Stopped batch by) end on none = tt
lost_by told number run (verdict.Contact zero) end on none = subst (λ (o : Outcome). HasLost o 0) (sym (none refl)) refl
lost_by told number run (verdict.Contact (suc n)) end on none =
    let step : Step = ends (ended_now number (running_of told run) (verdict.Contact (suc n))) in
    lost_as told end step (suc n) (on step (λ e. let z : suc n ≡ 0 = cc in omega (arith, z)) refl) refl

lost_of : (told : Told) (number : ℕ) (run : Run) (m : Move) (end : Outcome)
    → ((step : Step) → (contact_of m ≡ Some 0 → ⊥) → IsMove number told run m step → IsOutcome told end step)
    → (contact_of m ≡ Some 0 → end ≡ outcome.Ends (unloaded number))
    → IfSome (contact_of m) (HasLost end)
lost_of told number run move.More end on none = tt
lost_of told number run move.Next end on none = tt
lost_of told number run (move.Ends v) end on none = lost_by told number run v end on none

-- what a move comes to
pub advances_by : (plan : Bound) (stops : ℕ) (site : Site) (told told' : Told) (old new : Run) (m : Move) (end : Outcome)
    → ((part : Part) (seat : Seat) → part ≡ part_of plan site.site → IsSeatOf stops site seat
    → IsMove (try_of site) told' new m (before_batch part (contact_of m) seat (running_of told old)))
    → StandsLater old new m → IfSome (contact_of m) (λ at. HasRisen told.count told'.count)
    → IfSome (contact_of m) (λ at. nat_lt site.state.taken stops ≡ false)
    → ((t : Told) (step : Step) → (contact_of m ≡ Some 0 → ⊥) → IsMove (try_of site) t new m step → IsOutcome t end step)
    → (contact_of m ≡ Some 0 → end ≡ outcome.Ends (unloaded (try_of site)))
    → ((part : Part) (seat : Seat) → part ≡ part_of plan site.site → IsSeatOf stops site seat
    → IsTaped (contact_of m) (calls_of_next part seat (running_of told old)) told.tape told'.tape)
    → Advances plan stops site told told' old end
advances_by plan stops site told told' old new m end polled later cause live on none tape = record {
  contact = contact_of m;
  cause = cause;
  tape = tape;
  on = λ part seat same is apart. on told' (before_batch part (contact_of m) seat (running_of told old)) apart (polled part seat same is);
  lost = lost_of told' (try_of site) new m end (on told') none;
  none = λ zero_is. (none zero_is, live_of (contact_of m) (nat_lt site.state.taken stops ≡ false) zero_is live);
  late = late_of old new m later;
}

-- a try that goes on can be run again
pub fits_by : (mem : Memory) (plan : Bound) (told' : Told) (site : Site) (old new : Run) (m : Move) (end : Outcome) → IsOutcomeOf new m end
    → GoesOnSo mem.code (device_of (image_of plan site.site site.die (try_of site))) told' new m → StandsLater old new m
    → new.at.bench.checker.count.keep ≡ (lot_of plan.rows).keep
    → OutcomeFits mem plan told' site end
fits_by mem plan told' site old new move.More end of fits later keep =
    subst (OutcomeFits mem plan told' site) (sym of)
    (record { runs = fits.0; more = fits.1; later = let l = later.0 in omega (arith, l); keep = keep })
fits_by mem plan told' site old new move.Next end of fits later keep =
    subst (OutcomeFits mem plan told' site) (sym of)
    (record { runs = fits.0; more = fits.1; later = let l = later.0 in omega (arith, l); keep = keep })
fits_by mem plan told' site old new (move.Ends v) (outcome.Goes run) of fits later keep = absurd of
fits_by mem plan told' site old new (move.Ends v) (outcome.Ends trial) of fits later keep = tt
