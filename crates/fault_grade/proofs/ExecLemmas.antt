-- An executive is run up to its first fail.
use Rattle.std.proofs.Common.{◌≡◌, ℕ, ◌+◌, ◌-◌, ◌^◌, ◌<◌, ◌≤◌, Bool, true, false, List, [], ◌∷◌, ◌++◌, length, take, drop, min, refl, sym, ap, ◌∙◌, subst, arith}
use Rattle.std.specs.Prelude.{nat_lt}
use Rattle.std.proofs.lemmas.Bool.{ltb-true, ltb-false, false≢true}
use Rattle.std.proofs.lemmas.List.{nil_from_length, take-append-drop, take_all}
use Rattle.tester_types.specs.declared.cycle.Cycle.{Cycle}
use Rattle.tester_types.specs.declared.record.Fail.{Fail}
use Rattle.edge_gen.specs.Held.{Held}
use Rattle.die_sim.specs.Socket.{Told}
use Rattle.strobe_check.specs.History.{HasSeen, Answers, total_of}
use Rattle.site_meaning.specs.Playing.{Stand}
use Rattle.site_meaning.specs.Trials.{played, fails_in}
use Rattle.site_meaning.proofs.PlayedLemmas.{fails_in-append, played-take}
use Rattle.cycle_run.specs.Cycle.{closed_with}
use Rattle.cycle_run.specs.Batch.{Between, going_in, PlaysCycles}
use Rattle.cycle_run.specs.declared.setup.Until.{Until}
use Rattle.cycle_run.specs.declared.setup.Until.TheVariants as until
use Rattle.cycle_run.specs.declared.setup.Setup.{Setup}
use Rattle.cycle_run.specs.declared.seat.Standing.{Standing}
use Rattle.cycle_run.specs.Setup.{code_in, device_in, stand_in, HasEnough}
use Rattle.cycle_run.specs.Play.{PlaysUpTo}
use Rattle.cycle_run.specs.Seat.{CanPlay, IsBefore}
use Rattle.cycle_run.proofs.PlayLemmas.{all_ran}
use Rattle.cycle_run.proofs.SeatLemmas.{before_next, total_is}
use Rattle.word_run.specs.First.{first_fail}
use Rattle.fault_grade.specs.Search.{Finds, Passes, RunsUpTo, GoesOn}

-- ---- a front of the cycles

-- a fail that comes first in a front of cycles comes first in all
first-front : (xs ys : List Fail) → 0 < length xs → first_fail xs ≡ first_fail (xs ++ ys)
first-front [] ys some = absurd (omega (arith, some))
first-front (x ∷ xs) ys some = refl

front-fails : (stand : Stand) (exec n : ℕ) (old : Between) (cycles : List Cycle)
    → fails_in (played stand exec (going_in old) cycles)
    ≡ fails_in (played stand exec (going_in old) (take n cycles)) ++ fails_in (drop n (played stand exec (going_in old) cycles))
front-fails stand exec n old cycles =
    let all = played stand exec (going_in old) cycles in
    ap fails_in (sym (take-append-drop n all)) ∙ fails_in-append (take n all) (drop n all)
    ∙ ap (λ l. fails_in l ++ fails_in (drop n all)) (sym (played-take stand exec n (going_in old) cycles))

-- ---- the end of an executive

-- cycles that were played up to the first fail
pub up_to_fail : (setup : Setup) (exec most count : ℕ) (coming xs : List Cycle) (old new : Between) → setup.until ≡ until.FirstFail
    → coming ≡ xs
    → PlaysUpTo (PlaysCycles (stand_in setup) exec) (λ (b : Between). HasEnough setup.until b.point.held) coming most count old new
    → PlaysUpTo (PlaysCycles (stand_in setup) exec) (λ (b : Between). HasEnough until.FirstFail b.point.held) xs most count old new
up_to_fail setup exec most count coming xs old new first same plays =
    subst (λ (l : List Cycle). PlaysUpTo (PlaysCycles (stand_in setup) exec)
    (λ (b : Between). HasEnough until.FirstFail b.point.held) l most count old new) same
    (subst (λ (u : Until). PlaysUpTo (PlaysCycles (stand_in setup) exec) (λ (b : Between). HasEnough u b.point.held) coming most count old new)
    first plays)

module _ (stand : Stand) (exec most count : ℕ) (cycles : List Cycle) (old new : Between)
    (plays : PlaysUpTo (PlaysCycles stand exec) (λ (b : Between). HasEnough until.FirstFail b.point.held) cycles most count old new)
    (all : most ≡ length cycles) (clear : HasSeen (closed_with stand.device 1 []) old.point.held) (total : ℕ)
    (answers : Answers total_of new.point.held total) where
  -- the fails of the cycles that were run
  abbrev front : List Fail
  front = fails_in (played stand exec (going_in old) (take count cycles))

  seen_front : HasSeen (closed_with stand.device 1 front) new.point.held
  seen_front = plays.played.finds 1 [] clear

  counted : total ≡ min (length front) (2 ^ 64 - 1)
  counted = total_is stand.device 1 front new.point.held total seen_front answers

  -- where there is a fail, the first is that of all cycles
  finds_now : nat_lt 0 total ≡ true → Finds stand exec cycles old new
  finds_now is =
      let some : 0 < length front = omega (arith, counted, ltb-true 0 total is) in
      record {
        fails = front;
        seen = seen_front;
        first = first-front front _ some ∙ ap first_fail (sym (front-fails stand exec count old cycles));
        some = some;
      }

  -- where there is none, all cycles ran
  all_ran_now : nat_lt 0 total ≡ false → count ≡ most
  all_ran_now none =
      let history = closed_with stand.device 1 front in
      all_ran (PlaysCycles stand exec) (λ (b : Between). HasEnough until.FirstFail b.point.held) cycles most count old new plays
      (λ e. false≢true (sym none ∙ ap (nat_lt 0) (answers history seen_front ∙ sym (e.1 history seen_front)) ∙ sym e.2))

  none_found : nat_lt 0 total ≡ false → front ≡ []
  none_found none = nil_from_length front (omega (arith, counted, ltb-false 0 total none))

  whole : nat_lt 0 total ≡ false → take count cycles ≡ cycles
  whole none = take_all count cycles (omega (arith, all_ran_now none, all))

  passes_now : nat_lt 0 total ≡ false → Passes stand exec cycles old new
  passes_now none =
      let plays_all = subst (λ (l : List Cycle). PlaysCycles stand exec l old new) (whole none) plays.played in
      record {
        going = plays_all.going;
        none = ap (λ (l : List Cycle). fails_in (played stand exec (going_in old) l)) (sym (whole none)) ∙ none_found none;
      }

  runs_so : (found : Bool) → nat_lt 0 total ≡ found → RunsUpTo stand exec cycles old new found
  runs_so true is = finds_now is
  runs_so false is = passes_now is

  -- it is run up to its first fail
  pub runs_now : RunsUpTo stand exec cycles old new (nat_lt 0 total)
  runs_now = runs_so (nat_lt 0 total) refl

  -- and no fail is found where there is none
  pub still_clear : nat_lt 0 total ≡ false → HasSeen (closed_with stand.device 1 []) new.point.held
  still_clear none = subst (λ (l : List Fail). HasSeen (closed_with stand.device 1 l) new.point.held) (none_found none) seen_front

-- a try without a fail so far goes on
pub goes_so : (setup : Setup) (exec most : ℕ) (schedules schedules' : Held) (told told' : Told) (old new : Standing)
    → exec < length (code_in setup).execs → most ≤ 281474976710656 → IsBefore setup 1 exec schedules told old
    → ((more : ℕ) → CanPlay setup (more + most) schedules told old → CanPlay setup more schedules' told' new)
    → (found : Bool) → (found ≡ false → HasSeen (closed_with (device_in setup) 1 []) new.bench.checker)
    → GoesOn setup exec schedules' told' new found
goes_so setup exec most schedules schedules' told told' old new within few before goes true clear = tt
goes_so setup exec most schedules schedules' told told' old new within few before goes false clear =
    before_next setup 1 exec most schedules told old within few before schedules' told' new goes (clear refl)
