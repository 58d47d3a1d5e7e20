-- What comes of a tape whose calls were recorded.
use Rattle.std.proofs.Common.{◌≡◌, ℕ, ℤ, ◌<◌, ◌≤◌, Bool, true, false, List, [], ◌++◌, length, Option, Result, Ok, Err, sym, ap, ◌∙◌, subst, arith}
use Rattle.std.specs.Prelude.{IfOk, OnOk, MatchResult}
use Rattle.std.proofs.lemmas.Bool.{false≢true}
use Rattle.packed_code.specs.Program.{Program}
use Rattle.die_sim.specs.Die.{Image, device_of}
use Rattle.die_sim.specs.Socket.{Calls}
use Rattle.die_sim.specs.Tape.{TapeState}
use Rattle.plan_rows.specs.Rows.{dies_at, lot_of}
use Rattle.lot_plan.specs.Bound.{Bound, image_of, stop_of}
use Rattle.lot_plan.specs.Skews.{site_skews}
use Rattle.site_meaning.specs.Playing.{Going, starting}
use Rattle.site_meaning.specs.Trials.{execs_of}
use Rattle.cycle_run.specs.Cycle.{stand_of}
use Rattle.vcd_dump.specs.declared.execs.Way.{Way}
use Rattle.vcd_dump.specs.declared.fault.TapeFault.{TapeFault}
use Rattle.vcd_dump.specs.declared.fault.TapeFault.TheVariants as fault
use Rattle.vcd_text.specs.Dump.{Var}
use Rattle.vcd_text.specs.Sound.{IsSound}
use Rattle.vcd_dump.specs.Recording.{Recording}
use Rattle.vcd_dump.specs.Taken.{tape_of, drives_in, most_drives}
use Rattle.vcd_dump.specs.Play.{calls_from, RecordsSo}
use Rattle.vcd_dump.proofs.TapeLemmas.{tape_is, drives-append}

-- what the recorder answers
abbrev pub Hands : Recording → TapeState → Type 0
Hands r tape = (tape.calls ≡ r.calls) × (r.over ≡ false) × (drives_in r.calls ≤ most_drives)

abbrev pub Refuses : Recording → TapeFault → Type 0
Refuses r e = (e ≡ fault.TapeTooLong) × (most_drives < drives_in r.calls)

module _ (all : Calls) (old new : Way) (none : old.recorder.calls ≡ []) where
  pub finish_calls : (whole : Bool) → RecordsSo whole all old new → (r : Result TapeState TapeFault)
      → MatchResult r (Hands new.recorder) (Refuses new.recorder)
      → IfOk r (λ tape. tape.calls ≡ all)
  finish_calls true records (Ok tape) hands = hands.0 ∙ records ∙ ap (λ c. c ++ all) none
  finish_calls false records (Ok tape) hands = absurd (false≢true (sym hands.1 ∙ records.2))
  finish_calls whole records (Err e) hands = tt

  pub finish_sound : (vars : List Var) (whole : Bool) → RecordsSo whole all old new → (r : Result TapeState TapeFault)
      → MatchResult r (Hands new.recorder) (Refuses new.recorder)
      → IsSound vars all → IfOk r (λ tape. IsSound vars tape.calls)
  finish_sound vars true records (Ok tape) hands sound =
      subst (IsSound vars) (sym (hands.0 ∙ records ∙ ap (λ c. c ++ all) none)) sound
  finish_sound vars false records (Ok tape) hands sound = absurd (false≢true (sym hands.1 ∙ records.2))
  finish_sound vars whole records (Err e) hands sound = tt

  pub finish_few : (whole : Bool) → RecordsSo whole all old new → (r : Result TapeState TapeFault)
      → MatchResult r (Hands new.recorder) (Refuses new.recorder)
      → OnOk r (drives_in all ≤ most_drives)
  finish_few true records (Ok tape) hands =
      omega (arith, hands.2, ap drives_in (records ∙ ap (λ c. c ++ all) none))
  finish_few false records (Ok tape) hands = absurd (false≢true (sym hands.1 ∙ records.2))
  finish_few whole records (Err e) hands = tt

  pub finish_long : (whole : Bool) → RecordsSo whole all old new → (r : Result TapeState TapeFault)
      → MatchResult r (Hands new.recorder) (Refuses new.recorder)
      → r ≡ Err fault.TapeTooLong → most_drives < drives_in all
  finish_long whole records (Ok tape) refuses is = absurd cc
  finish_long true records (Err e) refuses is =
      omega (arith, refuses.1, ap drives_in (records ∙ ap (λ c. c ++ all) none))
  finish_long false records (Err e) refuses is =
      omega (arith, refuses.1, ap drives_in (records.1 ∙ ap (λ c. c ++ all) none), drives-append new.recorder.calls records.0)

-- all calls, by what the plan says
pub all_is : (plan : Bound) (site : ℕ) (code : Program) (image : Image) (skews : List ℤ) (batch : ℕ) (order : Option ℕ) (going : Going)
    → plan.program ≡ code → 0 < length (dies_at site plan.rows) → 1 ≤ (lot_of plan.rows).batch
    → image ≡ image_of plan site 0 1 → skews ≡ site_skews plan site → batch ≡ (lot_of plan.rows).batch → order ≡ stop_of plan.rows site 0 1
    → going ≡ starting (device_of image)
    → calls_from (stand_of code skews (device_of image)) batch 0 going order (execs_of code) ≡ tape_of plan site
all_is plan site code image skews batch order going program within some image_is skews_are batch_is order_is going_is =
    ap (λ (g : Going). calls_from (stand_of code skews (device_of image)) batch 0 g order (execs_of code)) going_is
    ∙ ap (λ (i : Image). calls_from (stand_of code skews (device_of i)) batch 0 (starting (device_of i)) order (execs_of code)) image_is
    ∙ ap (λ (l : List ℤ). calls_from (stand_of code l (device_of (image_of plan site 0 1))) batch 0 (starting (device_of (image_of plan site 0 1))) order (execs_of code)) skews_are
    ∙ ap (λ n. calls_from (stand_of code (site_skews plan site) (device_of (image_of plan site 0 1))) n 0 (starting (device_of (image_of plan site 0 1))) order (execs_of code)) batch_is
    ∙ ap (λ (o : Option ℕ). calls_from (stand_of code (site_skews plan site) (device_of (image_of plan site 0 1))) (lot_of plan.rows).batch 0
    (starting (device_of (image_of plan site 0 1))) o (execs_of code)) order_is
    ∙ sym (tape_is plan site code program within some)
