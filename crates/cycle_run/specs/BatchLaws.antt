-- Cycles of an executive are played one after another, or one of them loses contact: what is played composes.
use Rattle.std.proofs.Common.{◌≡◌, ℕ, ◌+◌, ◌≤◌, List, [], ◌∷◌, ◌++◌, Option, Some, None, refl, sym, ap, ◌∙◌, subst}
use Rattle.std.specs.Prelude.{slice_get}
use Rattle.std.specs.Option.{option_map_or}
use Rattle.std.proofs.lemmas.List.{append-nil, append_assoc}
use Rattle.std.proofs.lemmas.List.Sums.{fold-append}
use Rattle.tester_types.proofs.OutsideLemmas.{risen_behind}
use Rattle.tester_types.specs.declared.wave.Table.{Table}
use Rattle.tester_types.specs.declared.record.Fail.{Fail}
use Rattle.tester_types.specs.declared.cycle.Cycle.{Cycle}
use Rattle.packed_code.specs.Cycles.{period_of}
use Rattle.die_sim.specs.Socket.{Calls}
use Rattle.strobe_check.specs.History.{HasSeen}
use Rattle.site_meaning.specs.Playing.{Stand, Going, PlayedCycle, played_cycle, after_cycle}
use Rattle.site_meaning.specs.Trials.{played, after_cycles, fails_in}
use Rattle.cycle_run.specs.Tape.{calls_of_cycle, with_calls}
use Rattle.cycle_run.specs.Cycle.{closed_with, PlaysCycle, LosesContact}
use Rattle.cycle_run.specs.declared.stop.Stop.{Stop}
use Rattle.cycle_run.specs.declared.stop.Stop.TheVariants as stop
use Rattle.cycle_run.specs.Batch.{calls_of_cycles, Between, going_in, PlaysCycles, LosesContactIn, StopsAmong}
use Rattle.cycle_run.specs.Step.{StopsCycle, HasCause}
use Rattle.site_meaning.proofs.PlayedLemmas.{fails_in-append}

-- ---- calls behind calls

-- a tape without more calls
pub with-none : (tape : Option Calls) → with_calls tape [] ≡ tape
with-none None = refl
with-none (Some calls) = ap (λ (c : Calls). Some c) (append-nil calls)

-- a tape with calls and more calls
pub with-append : (tape : Option Calls) (ones others : Calls)
    → with_calls (with_calls tape ones) others ≡ with_calls tape (ones ++ others)
with-append None ones others = refl
with-append (Some calls) ones others = ap (λ (c : Calls). Some c) (append_assoc calls ones others)

-- ---- cycles behind cycles

pub after_cycles-append : (stand : Stand) (going : Going) (ones others : List Cycle)
    → after_cycles stand going (ones ++ others) ≡ after_cycles stand (after_cycles stand going ones) others
unfolding after_cycles
after_cycles-append stand going ones others = fold-append (after_cycle stand) going ones others

pub after_cycles-next : (stand : Stand) (going : Going) (cycle : Cycle) (later : List Cycle)
    → after_cycles stand going (cycle ∷ later) ≡ after_cycles stand (after_cycle stand going cycle) later
unfolding after_cycles
after_cycles-next stand going cycle later = refl

pub after_cycles-none : (stand : Stand) (going : Going) → after_cycles stand going [] ≡ going
unfolding after_cycles
after_cycles-none stand going = refl

played-append : (stand : Stand) (exec : ℕ) (going : Going) (ones others : List Cycle)
    → played stand exec going (ones ++ others)
    ≡ played stand exec going ones ++ played stand exec (after_cycles stand going ones) others
unfolding played
played-append stand exec going [] others =
    ap (λ (g : Going). played stand exec g others) (sym (after_cycles-none stand going))
played-append stand exec going (cycle ∷ ones) others =
    let next = after_cycle stand going cycle in
    ap (λ (l : List PlayedCycle). played_cycle stand exec going cycle ∷ l)
    (played-append stand exec next ones others
    ∙ ap (λ (g : Going). played stand exec next ones ++ played stand exec g others)
    (sym (after_cycles-next stand going cycle ones)))

pub fails_in-one : (stand : Stand) (exec : ℕ) (going : Going) (cycle : Cycle)
    → fails_in (played stand exec going (cycle ∷ [])) ≡ (played_cycle stand exec going cycle).fails
unfolding fails_in played
fails_in-one stand exec going cycle = append-nil (played_cycle stand exec going cycle).fails

pub fails_in-next : (stand : Stand) (exec : ℕ) (going : Going) (cycle : Cycle) (later : List Cycle)
    → fails_in (played stand exec going (cycle ∷ later))
    ≡ (played_cycle stand exec going cycle).fails ++ fails_in (played stand exec (after_cycle stand going cycle) later)
unfolding fails_in played
fails_in-next stand exec going cycle later = refl

pub fails_in-none : (stand : Stand) (exec : ℕ) (going : Going) → fails_in (played stand exec going []) ≡ []
unfolding fails_in played
fails_in-none stand exec going = refl

pub calls-append : (stand : Stand) (going : Going) (ones others : List Cycle)
    → calls_of_cycles stand going (ones ++ others)
    ≡ calls_of_cycles stand going ones ++ calls_of_cycles stand (after_cycles stand going ones) others
unfolding calls_of_cycles
calls-append stand going [] others =
    ap (λ (g : Going). calls_of_cycles stand g others) (sym (after_cycles-none stand going))
calls-append stand going (cycle ∷ ones) others =
    let next = after_cycle stand going cycle in
    ap (λ (l : Calls). calls_of_cycle stand going cycle ++ l)
    (calls-append stand next ones others
    ∙ ap (λ (g : Going). calls_of_cycles stand next ones ++ calls_of_cycles stand g others)
    (sym (after_cycles-next stand going cycle ones)))
    ∙ sym (append_assoc (calls_of_cycle stand going cycle) (calls_of_cycles stand next ones)
    (calls_of_cycles stand (after_cycles stand going (cycle ∷ ones)) others))

pub calls-next : (stand : Stand) (going : Going) (cycle : Cycle) (later : List Cycle)
    → calls_of_cycles stand going (cycle ∷ later)
    ≡ calls_of_cycle stand going cycle ++ calls_of_cycles stand (after_cycle stand going cycle) later
unfolding calls_of_cycles
calls-next stand going cycle later = refl

calls-one : (stand : Stand) (going : Going) (cycle : Cycle)
    → calls_of_cycles stand going (cycle ∷ []) ≡ calls_of_cycle stand going cycle
unfolding calls_of_cycles
calls-one stand going cycle = append-nil (calls_of_cycle stand going cycle)

pub calls-none : (stand : Stand) (going : Going) → calls_of_cycles stand going [] ≡ []
unfolding calls_of_cycles
calls-none stand going = refl

-- ---- one cycle

-- the period of a table that is found
pub period_is : (tables : List Table) (number : ℕ) (table : Table) → slice_get tables number ≡ Some table
    → period_of tables number ≡ table.period
period_is tables number table found = ap (λ (t : Option Table). option_map_or (λ u. u.period) t 0) found

pub plays_one : (stand : Stand) (exec : ℕ) (cycle : Cycle) (old new : Between)
    → PlaysCycle stand exec (going_in old) cycle old.point new.point
    → new.time ≡ old.time + period_of stand.code.tables cycle.table → new.number ≡ old.number + 1
    → PlaysCycles stand exec (cycle ∷ []) old new
plays_one stand exec cycle old new plays time number = record {
  going = (λ i. record { die = plays.die i; priors = plays.priors i; time = time i; number = number i })
      ∙ sym (after_cycles-next stand (going_in old) cycle []
      ∙ after_cycles-none stand (after_cycle stand (going_in old) cycle));
  finds = λ keep found seen.
      subst (λ (l : List Fail). HasSeen (closed_with stand.device keep (found ++ l)) new.point.held)
      (sym (fails_in-one stand exec (going_in old) cycle)) (plays.finds keep found seen);
  tape = plays.tape ∙ ap (with_calls old.point.told.tape) (sym (calls-one stand (going_in old) cycle));
}

-- no cycle leaves all as it is
pub plays_none : (stand : Stand) (exec : ℕ) (old : Between) → PlaysCycles stand exec [] old old
plays_none stand exec old = record {
  going = sym (after_cycles-none stand (going_in old));
  finds = λ keep found seen.
      subst (λ (l : List Fail). HasSeen (closed_with stand.device keep l) old.point.held)
      (sym (ap (λ (l : List Fail). found ++ l) (fails_in-none stand exec (going_in old)) ∙ append-nil found)) seen;
  tape = sym (with-none old.point.told.tape)
      ∙ ap (with_calls old.point.told.tape) (sym (calls-none stand (going_in old)));
}

pub loses_one : (stand : Stand) (exec : ℕ) (cycle : Cycle) (later : List Cycle) (old new : Between) (instant : ℕ)
    → LosesContact stand exec (going_in old) cycle old.point new.point instant → new.number ≡ old.number
    → LosesContactIn stand exec (cycle ∷ later) old new instant
loses_one stand exec cycle later old new instant loses number = record {
  done = [];
  cycle = cycle;
  later = later;
  split = refl;
  mid = old;
  plays = plays_none stand exec old;
  loses = loses;
  number = number;
}

-- ---- cycles one after another

module _ (stand : Stand) (exec : ℕ) (ones : List Cycle) (old mid new : Between)
    (first : PlaysCycles stand exec ones old mid) where
  pub plays-append : (others : List Cycle) → PlaysCycles stand exec others mid new
      → PlaysCycles stand exec (ones ++ others) old new
  plays-append others then = record {
    going = then.going ∙ ap (λ (g : Going). after_cycles stand g others) first.going
        ∙ sym (after_cycles-append stand (going_in old) ones others);
    finds = λ keep found seen.
        subst (λ (l : List Fail). HasSeen (closed_with stand.device keep l) new.point.held)
        (append_assoc found (fails_in (played stand exec (going_in old) ones))
        (fails_in (played stand exec (going_in mid) others))
        ∙ ap (λ (l : List Fail). found ++ l)
        (ap (λ (g : Going). fails_in (played stand exec (going_in old) ones) ++ fails_in (played stand exec g others))
        first.going
        ∙ sym (fails_in-append (played stand exec (going_in old) ones)
        (played stand exec (after_cycles stand (going_in old) ones) others))
        ∙ ap fails_in (sym (played-append stand exec (going_in old) ones others))))
        (then.finds keep (found ++ fails_in (played stand exec (going_in old) ones)) (first.finds keep found seen));
    tape = then.tape
        ∙ ap (λ (t : Option Calls). with_calls t (calls_of_cycles stand (going_in mid) others)) first.tape
        ∙ ap (λ (g : Going). with_calls (with_calls old.point.told.tape (calls_of_cycles stand (going_in old) ones))
        (calls_of_cycles stand g others))
        first.going
        ∙ with-append old.point.told.tape (calls_of_cycles stand (going_in old) ones)
        (calls_of_cycles stand (after_cycles stand (going_in old) ones) others)
        ∙ ap (with_calls old.point.told.tape) (sym (calls-append stand (going_in old) ones others));
  }

-- it is lost in one of the cycles behind others
pub loses-behind : (stand : Stand) (exec : ℕ) (ones others rest : List Cycle) (old mid new : Between) (instant : ℕ)
    → PlaysCycles stand exec ones old mid
    → LosesContactIn stand exec others mid new instant
    → LosesContactIn stand exec (ones ++ (others ++ rest)) old new instant
loses-behind stand exec ones others rest old mid new instant first l = record {
  done = ones ++ l.done;
  cycle = l.cycle;
  later = l.later ++ rest;
  split =
      ap (λ (xs : List Cycle). ones ++ (xs ++ rest)) l.split
      ∙ ap (λ (xs : List Cycle). ones ++ xs) (append_assoc l.done (l.cycle ∷ l.later) rest)
      ∙ sym (append_assoc ones l.done (l.cycle ∷ (l.later ++ rest)));
  mid = l.mid;
  plays = plays-append stand exec ones old mid l.mid first l.done l.plays;
  loses = l.loses;
  number = l.number;
}

-- why cycles stop
pub stops_one : (stand : Stand) (exec : ℕ) (cycle : Cycle) (later : List Cycle) (old new : Between) (why : Stop)
    → StopsCycle stand exec (going_in old) cycle old.point new.point why → new.number ≡ old.number
    → StopsAmong stand exec (cycle ∷ later) old new why
stops_one stand exec cycle later old new stop.NoMemory stops number = tt
stops_one stand exec cycle later old new (stop.Contact instant) stops number =
    loses_one stand exec cycle later old new instant stops number

pub stops-behind : (stand : Stand) (exec : ℕ) (ones others rest : List Cycle) (old mid new : Between) (why : Stop)
    → PlaysCycles stand exec ones old mid → StopsAmong stand exec others mid new why
    → StopsAmong stand exec (ones ++ (others ++ rest)) old new why
stops-behind stand exec ones others rest old mid new stop.NoMemory first stops = tt
stops-behind stand exec ones others rest old mid new (stop.Contact instant) first stops =
    loses-behind stand exec ones others rest old mid new instant first stops

-- what has risen behind others has risen since the first of them, too
pub cause_behind : (before between now : ℕ) (why : Stop) → before ≤ between → between ≤ now → HasCause between now why
    → HasCause before now why
cause_behind before between now stop.NoMemory first second cause = tt
cause_behind before between now (stop.Contact instant) first second cause =
    risen_behind before between now first second cause
