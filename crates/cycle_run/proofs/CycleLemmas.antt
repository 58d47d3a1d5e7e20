-- A cycle from its first moment to its end, or to the moment at which contact is lost.
use Rattle.std.proofs.Common.{◌≡◌, ℕ, ℤ, List, [], ◌∷◌, ◌++◌, refl, sym, ap, ◌∙◌, subst}
use Rattle.std.specs.Prelude.{Result, Ok, Err, OnOk, IfErr}
use Rattle.std.proofs.lemmas.List.{append-nil, append_assoc}
use Rattle.tester_types.specs.declared.record.Fail.{Fail}
use Rattle.tester_types.specs.declared.cycle.Cycle.{Cycle}
use Rattle.tester_types.specs.declared.cycle.Moment.{Moment}
use Rattle.packed_code.specs.Program.{Program}
use Rattle.die_sim.specs.Die.{Device}
use Rattle.strobe_check.specs.Entry.{Entry}
use Rattle.strobe_check.specs.Fails.{fails}
use Rattle.strobe_check.specs.History.{Held, HasSeen, SeesEnd}
use Rattle.site_meaning.specs.Playing.{Along, Whose, PlayedMoment, bound_of, after_moment, after_moments, entry_of, entries_in, moments_in, played_moment, moments_played}
use Rattle.cycle_run.specs.declared.stop.Stop.{Stop}
use Rattle.cycle_run.specs.declared.stop.Stop.TheVariants as stop
use Rattle.cycle_run.specs.Cycle.{Point, point_at, going_at, stand_of, closed_with, IsBetween, PlaysCycle, LosesContact}
use Rattle.cycle_run.specs.Step.{along_at, IsReady, with_entries, GoesThrough, Closes, StopsIn, Stops, StopsCycle}
use Rattle.cycle_run.proofs.StepLemmas.{after_moments-none, after_moments-next, entries_in-next, entries_in-none}

-- where no cycle is open, one can begin
pub begins : (device : Device) (point : Point) → IsBetween device point → IsReady device point
begins device point between = record {
  loaded = between.loaded;
  state = between.state;
  history = closed_with device between.keep between.found;
  seen = between.seen;
  bound = refl;
}

-- the fails of a cycle that is closed
closed_fails : (device : Device) (whose : Whose) (moments : List Moment) (old new : Point) (held : Held) → GoesThrough device whose moments old new
    → SeesEnd new.held held
    → (keep : ℕ) (found : List Fail) → HasSeen (closed_with device keep found) old.held
    → HasSeen (closed_with device keep (found ++ fails (bound_of device) (entries_in device whose (along_at old) moments))) held
closed_fails device whose moments old new held goes ends keep found seen =
    ends (with_entries (closed_with device keep found) (entries_in device whose (along_at old) moments))
    (goes.sees (closed_with device keep found) refl seen)

-- a cycle's moments, and its end
pub closes : (device : Device) (whose : Whose) (moments : List Moment) (old new : Point) (held : Held) → GoesThrough device whose moments old new
    → SeesEnd new.held held → Closes device whose moments old (point_at held new.last new.told)
closes device whose moments old new held goes ends = record {
  die = goes.die;
  priors = goes.priors;
  finds = closed_fails device whose moments old new held goes ends;
  tape = goes.tape;
}

-- no cycle is open behind it
pub is_between : (device : Device) (whose : Whose) (moments : List Moment) (old new : Point) (held : Held)
    → GoesThrough device whose moments old new → SeesEnd new.held held → IsBetween device old → IsReady device new
    → IsBetween device (point_at held new.last new.told)
is_between device whose moments old new held goes ends between ready = record {
  loaded = ready.loaded;
  state = ready.state;
  keep = between.keep;
  found = between.found ++ fails (bound_of device) (entries_in device whose (along_at old) moments);
  seen = closed_fails device whose moments old new held goes ends between.keep between.found between.seen;
}

-- ---- in the words of a cycle

-- it is the cycle of its number and start
pub plays_cycle : (code : Program) (skews : List ℤ) (device : Device) (exec start number : ℕ) (cycle : Cycle) (moments : List Moment)
    (old new : Point)
    → moments ≡ moments_in (stand_of code skews device) start cycle
    → Closes device (record { exec = exec; cycle = number; mark = cycle.mark }) moments old new
    → PlaysCycle (stand_of code skews device) exec (going_at old start number) cycle old new
plays_cycle code skews device exec start number cycle moments old new are closes =
    let whose : Whose = record { exec = exec; cycle = number; mark = cycle.mark } in
    let c = subst (λ (ms : List Moment). Closes device whose ms old new) are closes in
    record { die = c.die; priors = c.priors; finds = c.finds; tape = c.tape }

-- a moment among those that are played
pub played-split : (device : Device) (whose : Whose) (along : Along) (before : List Entry) (done later : List Moment) (moment : Moment)
    → moments_played device whose along before (done ++ moment ∷ later)
    ≡ moments_played device whose along before done
    ++ played_moment device (after_moments device along done) (before ++ entries_in device whose along done) moment
    ∷ moments_played device whose (after_moment device (after_moments device along done) moment)
    ((before ++ entries_in device whose along done)
    ++ entry_of device whose moment (after_moment device (after_moments device along done) moment).die ∷ []) later
unfolding moments_played
played-split device whose along before [] later moment =
    let none = after_moments-none device along in
    let nothing : before ≡ before ++ entries_in device whose along [] =
    sym (append-nil before) ∙ ap (λ (l : List Entry). before ++ l) (sym (entries_in-none device whose along)) in
    ap (λ (a : Along). played_moment device a before moment ∷ moments_played device whose (after_moment device a moment)
    (before ++ entry_of device whose moment (after_moment device a moment).die ∷ []) later) (sym none)
    ∙ ap (λ (l : List Entry). played_moment device (after_moments device along []) l moment
    ∷ moments_played device whose (after_moment device (after_moments device along []) moment)
    (l ++ entry_of device whose moment (after_moment device (after_moments device along []) moment).die ∷ []) later) nothing
played-split device whose along before (first ∷ done) later moment =
    let next = after_moment device along first in
    let entry = entry_of device whose first next.die in
    let own = played_moment device along before first in
    let all : (before ++ entry ∷ []) ++ entries_in device whose next done ≡ before ++ entries_in device whose along (first ∷ done) =
    append_assoc before (entry ∷ []) (entries_in device whose next done)
    ∙ ap (λ (l : List Entry). before ++ l) (sym (entries_in-next device whose along first done)) in
    let rest = λ (a : Along) (l : List Entry). played_moment device a l moment ∷ moments_played device whose (after_moment device a moment)
    (l ++ entry_of device whose moment (after_moment device a moment).die ∷ []) later in
    ap (λ (l : List PlayedMoment). own ∷ l)
    (played-split device whose next (before ++ entry ∷ []) done later moment
    ∙ ap (λ (a : Along). moments_played device whose next (before ++ entry ∷ []) done ++ rest a ((before ++ entry ∷ []) ++ entries_in device whose next done))
    (sym (after_moments-next device along first done))
    ∙ ap (λ (l : List Entry). moments_played device whose next (before ++ entry ∷ []) done ++ rest (after_moments device along (first ∷ done)) l) all)

-- a moment of a cycle at which contact is lost
stops_in_cycle : (code : Program) (skews : List ℤ) (device : Device) (exec start number : ℕ) (cycle : Cycle) (instant : ℕ) (old new : Point)
    → IsBetween device old
    → StopsIn device (record { exec = exec; cycle = number; mark = cycle.mark }) (moments_in (stand_of code skews device) start cycle)
    old new instant
    → LosesContact (stand_of code skews device) exec (going_at old start number) cycle old new instant
stops_in_cycle code skews device exec start number cycle instant old new between s =
    let whose : Whose = record { exec = exec; cycle = number; mark = cycle.mark } in
    let along = along_at old in
    let closed = closed_with device between.keep between.found in
    record {
      at = record {
        done = s.done;
        moment = s.moment;
        later = s.later;
        split = s.split;
        then = s.then;
        earlier = moments_played device whose along [] s.done;
        rest = moments_played device whose (after_moment device (after_moments device along s.done) s.moment)
            (entries_in device whose along s.done
            ++ entry_of device whose s.moment (after_moment device (after_moments device along s.done) s.moment).die ∷ []) s.later;
        played = ap (moments_played device whose along []) s.split ∙ played-split device whose along [] s.done s.later s.moment;
        calls = s.calls closed refl between.seen;
      };
      finds = λ keep found seen. record {
        history = with_entries (closed_with device keep found) (entries_in device whose along s.done);
        seen = s.sees (closed_with device keep found) refl seen;
        keeps = refl;
        all = refl;
      };
      tape = s.tape;
    }

-- why a cycle stops
pub stops_cycle : (code : Program) (skews : List ℤ) (device : Device) (exec start number : ℕ) (cycle : Cycle) (moments : List Moment)
    (old new : Point) (why : Stop)
    → moments ≡ moments_in (stand_of code skews device) start cycle → IsBetween device old
    → Stops device (record { exec = exec; cycle = number; mark = cycle.mark }) moments old new why
    → StopsCycle (stand_of code skews device) exec (going_at old start number) cycle old new why
stops_cycle code skews device exec start number cycle moments old new stop.NoMemory are between stops = tt
stops_cycle code skews device exec start number cycle moments old new (stop.Contact instant) are between stops =
    stops_in_cycle code skews device exec start number cycle instant old new between
    (subst (λ (ms : List Moment). StopsIn device (record { exec = exec; cycle = number; mark = cycle.mark }) ms old new instant) are stops)

-- what the moments' end says is what the cycle's says
pub cycle_plays : (code : Program) (skews : List ℤ) (device : Device) (exec start number : ℕ) (cycle : Cycle) (moments : List Moment)
    (old new : Point) (result : Result (Unit {0}) Stop)
    → moments ≡ moments_in (stand_of code skews device) start cycle
    → OnOk result (Closes device (record { exec = exec; cycle = number; mark = cycle.mark }) moments old new)
    → OnOk result (PlaysCycle (stand_of code skews device) exec (going_at old start number) cycle old new)
cycle_plays code skews device exec start number cycle moments old new (Ok done) are closes =
    plays_cycle code skews device exec start number cycle moments old new are closes
cycle_plays code skews device exec start number cycle moments old new (Err why) are closes = tt

pub cycle_stops : (code : Program) (skews : List ℤ) (device : Device) (exec start number : ℕ) (cycle : Cycle) (moments : List Moment)
    (old new : Point) (result : Result (Unit {0}) Stop)
    → moments ≡ moments_in (stand_of code skews device) start cycle → IsBetween device old
    → IfErr result (λ why. Stops device (record { exec = exec; cycle = number; mark = cycle.mark }) moments old new why)
    → IfErr result (λ why. StopsCycle (stand_of code skews device) exec (going_at old start number) cycle old new why)
cycle_stops code skews device exec start number cycle moments old new (Ok done) are between stops = tt
cycle_stops code skews device exec start number cycle moments old new (Err why) are between stops =
    stops_cycle code skews device exec start number cycle moments old new why are between stops
