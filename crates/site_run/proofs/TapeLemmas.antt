-- What a batch puts on a tape: all of its calls, or those up to a contact, `lost_taped`.
use Rattle.std.proofs.Common.{◌≡◌, ℕ, ◌+◌, ◌<◌, ◌≤◌, Bool, true, false, List, [], ◌∷◌, ◌++◌, Option, None, Some, refl, sym, ap, ◌∙◌, subst, arith, inl, inr}
use Rattle.std.specs.Prelude.{◌⊎◌, filter, nat_lt, nat_le, Result, Ok, Err, IfOk}
use Rattle.std.specs.List.{AllByRecursion}
use Rattle.std.proofs.lemmas.Bool.{cond-true, cond-false, lt-ltb, le-ltb, lt-leb, le-leb}
use Rattle.std.proofs.lemmas.List.{append-nil, append_assoc}
use Rattle.std.proofs.lemmas.List.Elements.{filter-append}
use Rattle.text_bytes.proofs.ListLemmas.{all_append, all_from}
use Rattle.tester_types.specs.declared.level.Drive.{Drive}
use Rattle.tester_types.specs.declared.cycle.Cycle.{Cycle}
use Rattle.tester_types.specs.declared.cycle.Moment.{Moment}
use Rattle.tester_types.specs.declared.outside.NoMemory.{NoMemory}
use Rattle.packed_code.specs.Conditions.{IsProgram}
use Rattle.packed_code.specs.Cycles.{period_of}
use Rattle.die_sim.specs.Die.{Device}
use Rattle.die_sim.specs.Socket.{Calls}
use Rattle.packed_code.proofs.Lists.{all_of_any}
use Rattle.site_meaning.specs.Playing.{Stand, Going, Along, along_of, driven, after_moment, after_moments, moments_in, after_cycle}
use Rattle.site_meaning.specs.Part.{Part, stand_for}
use Rattle.site_meaning.specs.Trials.{after_cycles}
use Rattle.site_meaning.specs.Polls.{Running, Seat, rests, arrived, next_cycles}
use Rattle.site_run.specs.declared.run.Move.{Move}
use Rattle.cycle_run.specs.Tape.{call_at, call_of, calls_in, calls_of_cycle, with_calls}
use Rattle.cycle_run.specs.Cycle.{IsCallAt}
use Rattle.cycle_run.specs.Batch.{calls_of_cycles, Between, going_in, LosesContactIn}
use Rattle.site_run.specs.Taped.{calls_of_batch, calls_of_step, calls_of_poll, calls_before, calls_until, IsTaped}
use Rattle.cycle_run.specs.Step.{FitCode}
use Rattle.site_run.specs.Seat.{IsPlanned, contact_of}
use Rattle.cycle_run.proofs.StepLemmas.{calls_in-append, calls_in-next, calls_in-one}
use Rattle.cycle_run.specs.BatchLaws.{with-append, after_cycles-next, calls-append, calls-next}
use Rattle.site_run.proofs.HitLemmas.{Rising, cycle_rises, cycle_between, below_one, behind_one, call_inside, time_grows}

-- ---- items that are kept

keeps_all : {X : Type 0} (test : X → Bool) (xs : List X) → AllByRecursion (λ (x : X). test x ≡ true) xs → filter test xs ≡ xs
keeps_all test [] all = refl
keeps_all {X} test (x ∷ xs) all =
    cond-true (test x) (x ∷ filter test xs) (filter test xs) all.0 ∙ ap (λ (l : List X). x ∷ l) (keeps_all test xs all.1)

keeps_none : {X : Type 0} (test : X → Bool) (xs : List X) → AllByRecursion (λ (x : X). test x ≡ false) xs → filter test xs ≡ []
keeps_none test [] all = refl
keeps_none test (x ∷ xs) all = cond-false (test x) (x ∷ filter test xs) (filter test xs) all.0 ∙ keeps_none test xs all.1

-- ---- instants of calls

-- a call
abbrev Call : Type 0
Call = ℕ × List (ℕ × Drive)

-- calls at instants of this kind
abbrev AllAt : (ℕ → Type 0) → Calls → Type 0
AllAt At calls = AllByRecursion (λ (c : Call). At c.0) calls

module _ (at : ℕ) (early own late : Calls) (before : AllAt (λ t. t < at) early) (there : AllAt (λ t. t ≡ at) own)
    (behind : AllAt (λ t. at < t) late) where
  -- those before an instant
  before_is : calls_before at (early ++ (own ++ late)) ≡ early
  before_is =
      let test = λ (c : Call). nat_lt c.0 at in
      let a = keeps_all test early (all_from (λ (c : Call). c.0 < at) (λ (c : Call). test c ≡ true) (λ c h. lt-ltb c.0 at h) early before) in
      let b = keeps_none test own
      (all_from (λ (c : Call). c.0 ≡ at) (λ (c : Call). test c ≡ false) (λ c h. le-ltb c.0 at (omega (arith, h))) own there) in
      let d = keeps_none test late
      (all_from (λ (c : Call). at < c.0) (λ (c : Call). test c ≡ false) (λ c h. le-ltb c.0 at (omega (arith, h))) late behind) in
      filter-append test early (own ++ late)
      ∙ ap (λ (l : Calls). l ++ filter test (own ++ late)) a
      ∙ ap (λ (l : Calls). early ++ l) (filter-append test own late)
      ∙ ap (λ (l : Calls). early ++ (l ++ filter test late)) b
      ∙ ap (λ (l : Calls). early ++ l) d
      ∙ append-nil early

  -- those up to it
  until_is : calls_until at (early ++ (own ++ late)) ≡ early ++ own
  until_is =
      let test = λ (c : Call). nat_le c.0 at in
      let a = keeps_all test early
      (all_from (λ (c : Call). c.0 < at) (λ (c : Call). test c ≡ true) (λ c h. le-leb c.0 at (omega (arith, h))) early before) in
      let b = keeps_all test own
      (all_from (λ (c : Call). c.0 ≡ at) (λ (c : Call). test c ≡ true) (λ c h. le-leb c.0 at (omega (arith, h))) own there) in
      let d = keeps_none test late
      (all_from (λ (c : Call). at < c.0) (λ (c : Call). test c ≡ false) (λ c h. lt-leb c.0 at h) late behind) in
      filter-append test early (own ++ late)
      ∙ ap (λ (l : Calls). l ++ filter test (own ++ late)) a
      ∙ ap (λ (l : Calls). early ++ l) (filter-append test own late)
      ∙ ap (λ (l : Calls). early ++ (l ++ filter test late)) b
      ∙ ap (λ (l : Calls). early ++ (own ++ l)) d
      ∙ ap (λ (l : Calls). early ++ l) (append-nil own)

-- none is before the first instant
pub before_zero : (calls : Calls) → calls_before 0 calls ≡ []
before_zero calls =
    keeps_none (λ (c : Call). nat_lt c.0 0) calls
    (all_of_any (λ (c : Call). nat_lt c.0 0 ≡ false) calls (λ c. le-ltb c.0 0 (omega arith)))

-- ---- the calls of moments and of cycles

call_all : (At : ℕ → Type 0) (at : ℕ) (drives : List (ℕ × Drive)) → At at → AllAt At (call_at at drives)
call_all At at [] here = tt
call_all At at (d ∷ ds) here = (here, tt)

calls_in-all : (At : ℕ → Type 0) (device : Device) (along : Along) (moments : List Moment)
    → AllByRecursion (λ (m : Moment). At m.at) moments → AllAt At (calls_in device along moments)
unfolding calls_in
calls_in-all At device along [] all = tt
calls_in-all At device along (m ∷ ms) all =
    all_append (λ (c : Call). At c.0) (call_of device along m) (calls_in device (after_moment device along m) ms)
    (call_all At m.at (driven device along.priors m) all.0) (calls_in-all At device (after_moment device along m) ms all.1)

module _ (stand : Stand) (fit : FitCode stand.code stand.skews) (program : IsProgram stand.code) where
  cycle_all : (At : ℕ → Type 0) (going : Going) (cycle : Cycle)
      → ((t : ℕ) → going.time ≤ t → t < (after_cycle stand going cycle).time → At t) → AllAt At (calls_of_cycle stand going cycle)
  cycle_all At going cycle so =
      let end = going.time + period_of stand.code.tables cycle.table in
      calls_in-all At stand.device (along_of going) (moments_in stand going.time cycle)
      (all_from (λ (m : Moment). (going.time ≤ m.at) × (m.at < end)) (λ (m : Moment). At m.at) (λ m h. so m.at h.0 h.1)
      (moments_in stand going.time cycle) (cycle_between stand going.time cycle fit program))

  -- none comes before the first cycle starts
  all_since : (At : ℕ → Type 0) (going : Going) (cycles : List Cycle) → ((t : ℕ) → going.time ≤ t → At t)
      → AllAt At (calls_of_cycles stand going cycles)
  unfolding calls_of_cycles
  all_since At going [] so = tt
  all_since At going (cycle ∷ cycles) so =
      let next = after_cycle stand going cycle in
      all_append (λ (c : Call). At c.0) (calls_of_cycle stand going cycle) (calls_of_cycles stand next cycles)
      (cycle_all At going cycle (λ t low high. so t low)) (all_since At next cycles (λ t low. so t (omega (arith, low))))

  -- each comes before the last one ends
  all_until : (At : ℕ → Type 0) (going : Going) (cycles : List Cycle) → ((t : ℕ) → t < (after_cycles stand going cycles).time → At t)
      → AllAt At (calls_of_cycles stand going cycles)
  unfolding calls_of_cycles
  all_until At going [] so = tt
  all_until At going (cycle ∷ cycles) so =
      let next = after_cycle stand going cycle in
      let end = ap (λ (g : Going). g.time) (after_cycles-next stand going cycle cycles) in
      let grows = time_grows stand fit program 0 next cycles in
      all_append (λ (c : Call). At c.0) (calls_of_cycle stand going cycle) (calls_of_cycles stand next cycles)
      (cycle_all At going cycle (λ t low high. so t (omega (arith, end, grows, high))))
      (all_until At next cycles (λ t below. so t (omega (arith, end, below))))

-- ---- where contact is lost

module _ (stand : Stand) (fit : FitCode stand.code stand.skews) (program : IsProgram stand.code) (exec : ℕ) (done later : List Cycle)
    (going mid : Going) (cycle : Cycle) (at : ℕ) (is : mid ≡ after_cycles stand going done) (call : IsCallAt stand exec mid cycle at) where
  -- what goes along into its moment
  abbrev along : Along
  along = after_moments stand.device (along_of mid) call.done

  -- the calls of the cycles before
  abbrev earlier : Calls
  earlier = calls_of_cycles stand going done

  -- those of earlier moments of the cycle
  abbrev opened : Calls
  opened = calls_in stand.device (along_of mid) call.done

  abbrev own : Calls
  own = call_of stand.device along call.moment

  -- those of later ones
  abbrev closed : Calls
  closed = calls_in stand.device (after_moment stand.device along call.moment) call.later

  -- those of the cycles behind
  abbrev others : Calls
  others = calls_of_cycles stand (after_cycle stand mid cycle) later

  cycle_is : calls_of_cycle stand mid cycle ≡ opened ++ (own ++ closed)
  cycle_is =
      ap (calls_in stand.device (along_of mid)) call.split
      ∙ calls_in-append stand.device (along_of mid) call.done (call.moment ∷ call.later)
      ∙ ap (λ (l : Calls). opened ++ l) (calls_in-next stand.device along call.moment call.later)

  all_is : calls_of_cycles stand going (done ++ cycle ∷ later) ≡ (earlier ++ opened) ++ (own ++ (closed ++ others))
  all_is =
      calls-append stand going done (cycle ∷ later)
      ∙ ap (λ (g : Going). earlier ++ calls_of_cycles stand g (cycle ∷ later)) (sym is)
      ∙ ap (λ (l : Calls). earlier ++ l)
      (calls-next stand mid cycle later
      ∙ ap (λ (l : Calls). l ++ others) cycle_is
      ∙ append_assoc opened (own ++ closed) others
      ∙ ap (λ (l : Calls). opened ++ l) (append_assoc own closed others))
      ∙ sym (append_assoc earlier opened (own ++ (closed ++ others)))

  rises : Rising (call.done ++ call.moment ∷ call.later)
  rises = subst Rising call.split (cycle_rises stand mid.time cycle)

  early_all : AllAt (λ t. t < at) (earlier ++ opened)
  early_all =
      let inside = call_inside stand fit program exec mid cycle at call in
      let time = ap (λ (g : Going). g.time) is in
      all_append (λ (c : Call). c.0 < at) earlier opened
      (all_until stand fit program (λ t. t < at) going done (λ t below. omega (arith, time, inside.0, below)))
      (calls_in-all (λ t. t < at) stand.device (along_of mid) call.done
      (all_from (λ (m : Moment). m.at < call.moment.at) (λ (m : Moment). m.at < at) (λ m h. omega (arith, h, call.then)) call.done
      (below_one call.done call.later call.moment rises)))

  late_all : AllAt (λ t. at < t) (closed ++ others)
  late_all =
      let inside = call_inside stand fit program exec mid cycle at call in
      all_append (λ (c : Call). at < c.0) closed others
      (calls_in-all (λ t. at < t) stand.device (after_moment stand.device along call.moment) call.later
      (all_from (λ (m : Moment). call.moment.at < m.at) (λ (m : Moment). at < m.at) (λ m h. omega (arith, h, call.then)) call.later
      (behind_one call.done call.later call.moment rises)))
      (all_since stand fit program (λ t. at < t) (after_cycle stand mid cycle) later (λ t low. omega (arith, inside.1, low)))

  own_all : AllAt (λ t. t ≡ at) own
  own_all = call_all (λ t. t ≡ at) call.moment.at (driven stand.device along.priors call.moment) call.then

  cut_before : calls_before at (calls_of_cycles stand going (done ++ cycle ∷ later)) ≡ earlier ++ opened
  cut_before = ap (calls_before at) all_is ∙ before_is at (earlier ++ opened) own (closed ++ others) early_all own_all late_all

  cut_until : calls_until at (calls_of_cycles stand going (done ++ cycle ∷ later))
      ≡ earlier ++ calls_in stand.device (along_of mid) (call.done ++ call.moment ∷ [])
  cut_until =
      ap (calls_until at) all_is ∙ until_is at (earlier ++ opened) own (closed ++ others) early_all own_all late_all
      ∙ append_assoc earlier opened own
      ∙ ap (λ (l : Calls). earlier ++ l)
      (ap (λ (l : Calls). opened ++ l) (sym (calls_in-one stand.device along call.moment))
      ∙ sym (calls_in-append stand.device (along_of mid) call.done (call.moment ∷ [])))

-- the calls of cycles in which contact is lost
pub lost_taped : (stand : Stand) (exec : ℕ) (cycles : List Cycle) (old new : Between) (instant : ℕ) → FitCode stand.code stand.skews
    → IsProgram stand.code → LosesContactIn stand exec cycles old new instant
    → IsTaped (Some instant) (calls_of_cycles stand (going_in old) cycles) old.point.told.tape new.point.told.tape
lost_taped stand exec cycles old new instant fit program l =
    subst (λ (cs : List Cycle). IsTaped (Some instant) (calls_of_cycles stand (going_in old) cs) old.point.told.tape new.point.told.tape) (sym l.split)
    (by l.loses.tape)
  where
    tape : Option Calls
    tape = old.point.told.tape

    then : Option Calls
    then = new.point.told.tape

    done : Calls
    done = calls_of_cycles stand (going_in old) l.done

    -- behind the cycles before
    behind : (more : Calls) → then ≡ with_calls l.mid.point.told.tape more → then ≡ with_calls tape (done ++ more)
    behind more e =
        e ∙ ap (λ (t : Option Calls). with_calls t more) l.plays.tape ∙ with-append tape done more

    by : (then ≡ with_calls l.mid.point.told.tape (calls_in stand.device (along_of (going_in l.mid)) l.loses.at.done))
        ⊎ (then ≡ with_calls l.mid.point.told.tape
        (calls_in stand.device (along_of (going_in l.mid)) (l.loses.at.done ++ l.loses.at.moment ∷ [])))
        → IsTaped (Some instant) (calls_of_cycles stand (going_in old) (l.done ++ l.cycle ∷ l.later)) tape then
    by (inl e) = inl (behind _ e ∙ ap (with_calls tape) (sym (cut_before stand fit program exec l.done l.later (going_in old) (going_in l.mid) l.cycle
        instant l.plays.going l.loses.at)))
    by (inr e) = inr (behind _ e ∙ ap (with_calls tape) (sym (cut_until stand fit program exec l.done l.later (going_in old) (going_in l.mid) l.cycle
        instant l.plays.going l.loses.at)))

-- ---- the batch of a poll

-- its calls
pub batch_calls : (part : Part) (die number most keep : ℕ) (stand : Stand) (running : Running) (cycles : List Cycle)
    → IsPlanned part die number stand most keep → cycles ≡ next_cycles part running
    → calls_of_cycles stand running.going cycles ≡ calls_of_batch part die number running
unfolding calls_of_batch
batch_calls part die number most keep stand running cycles planned is =
    ap (λ (s : Stand). calls_of_cycles s running.going cycles) (sym planned.stand_is)
    ∙ ap (calls_of_cycles (stand_for part die number) running.going) is

-- a batch that is run to its end
pub taped_now : (most keep : ℕ) (stand : Stand) (running : Running) (old new : Option Calls) (result : Result Move NoMemory)
    → IfOk result (λ m. contact_of m ≡ None)
    → ((part : Part) (die number : ℕ) → IsPlanned part die number stand most keep
    → new ≡ with_calls old (calls_of_batch part die number running))
    → IfOk result (λ m. (part : Part) (die number : ℕ) → IsPlanned part die number stand most keep
    → IsTaped (contact_of m) (calls_of_batch part die number running) old new)
taped_now most keep stand running old new (Ok m) quiet taped = λ part die number planned.
    subst (λ (o : Option ℕ). IsTaped o (calls_of_batch part die number running) old new) (sym quiet) (taped part die number planned)
taped_now most keep stand running old new (Err e) quiet taped = tt

-- ---- a poll

-- a site that has something to do
pub poll_calls : (part : Part) (seat : Seat) → rests part seat ≡ false
    → calls_of_poll part seat ≡ calls_of_step part seat (arrived part None seat)
unfolding calls_of_poll
poll_calls part seat works = cond-false (rests part seat) [] (calls_of_step part seat (arrived part None seat)) works
