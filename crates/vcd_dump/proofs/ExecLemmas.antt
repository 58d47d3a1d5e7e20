-- What comes behind an executive of a try whose drives are recorded.
use Rattle.std.proofs.Common.{◌≡◌, ℕ, ◌+◌, ◌-◌, ◌^◌, ◌<◌, ◌≤◌, ◌&&◌, Bool, true, false, not, List, [], ◌∷◌, ◌++◌, length, take, min, eqb, Option, Some, refl, sym, ap, ◌∙◌, subst, arith, rules, append_assoc, inl, inr}
use Rattle.std.specs.Prelude.{nat_le, ◌⊎◌}
use Rattle.std.proofs.lemmas.Bool.{lt-ltb}
use Rattle.std.proofs.lemmas.List.{take_all}
use Rattle.tester_types.specs.declared.cycle.Cycle.{Cycle}
use Rattle.tester_types.specs.declared.cycle.Moment.{Moment}
use Rattle.tester_types.specs.declared.record.Fail.{Fail}
use Rattle.die_sim.specs.Socket.{Calls}
use Rattle.strobe_check.specs.History.{HasSeen, Answers, total_of}
use Rattle.site_meaning.specs.Playing.{Stand, Going, Along, along_of, after_moments, moments_in, after_cycle}
use Rattle.site_meaning.specs.Trials.{played, after_cycles, fails_in, has_fails}
use Rattle.cycle_run.specs.Tape.{calls_in, calls_of_cycle, with_calls}
use Rattle.cycle_run.specs.Batch.{going_in, LosesContactIn, calls_of_cycles}
use Rattle.cycle_run.specs.Cycle.{closed_with}
use Rattle.cycle_run.proofs.StepLemmas.{calls_in-append}
use Rattle.cycle_run.specs.BatchLaws.{calls-append, calls-next}
use Rattle.cycle_run.proofs.SocketLemmas.{is_empty}
use Rattle.cycle_run.specs.declared.setup.Setup.{Setup}
use Rattle.cycle_run.specs.Setup.{code_in, device_in, stand_in}
use Rattle.cycle_run.proofs.SeatLemmas.{before_next, total_is}
use Rattle.vcd_dump.specs.declared.execs.Way.{Way}
use Rattle.vcd_dump.specs.declared.execs.After.TheVariants as after
use Rattle.vcd_dump.specs.Recording.{recording_told}
use Rattle.vcd_dump.specs.Play.{allowed, order_behind, going_of, stands_at, calls_here, CanGoOn, StandsBefore, ComesTo, PlaysSo}

-- ---- where there are too many drives

-- the calls of cycles begin with those of the first of them, and of the first moments of the next
module _ (stand : Stand) (cycles done later : List Cycle) (cycle : Cycle) (going mid : Going) (split : cycles ≡ done ++ cycle ∷ later)
    (is : mid ≡ after_cycles stand going done) (first rest : List Moment)
    (moments : moments_in stand mid.time cycle ≡ first ++ rest) where
  abbrev along : Along
  along = along_of mid

  abbrev earlier : Calls
  earlier = calls_of_cycles stand going done

  abbrev own : Calls
  own = calls_in stand.device along first

  abbrev behind : Calls
  behind = calls_in stand.device (after_moments stand.device along first) rest

  abbrev last : Calls
  last = calls_of_cycles stand (after_cycle stand mid cycle) later

  front_calls : (earlier ++ own) ++ (behind ++ last) ≡ calls_of_cycles stand going cycles
  front_calls =
      let whole : own ++ behind ≡ calls_of_cycle stand mid cycle =
      sym (calls_in-append stand.device along first rest) ∙ ap (calls_in stand.device along) (sym moments) in
      append_assoc earlier own (behind ++ last)
      ∙ ap (λ (c : Calls). earlier ++ c) (sym (append_assoc own behind last))
      ∙ ap (λ (c : Calls). earlier ++ (c ++ last)) whole
      ∙ ap (λ (c : Calls). earlier ++ c) (sym (calls-next stand mid cycle later))
      ∙ ap (λ (g : Going). earlier ++ calls_of_cycles stand g (cycle ∷ later)) is
      ∙ sym (calls-append stand going done (cycle ∷ later))
      ∙ ap (calls_of_cycles stand going) (sym split)

module _ (setup : Setup) (exec : ℕ) (cycles : List Cycle) (old new : Way) (instant : ℕ)
    (l : LosesContactIn (stand_in setup) exec cycles (stands_at old) (stands_at new) instant) where
  lost_front : (first rest : List Moment) → moments_in (stand_in setup) l.mid.time l.cycle ≡ first ++ rest
      → (Some new.recorder.calls ≡ with_calls l.mid.point.told.tape (calls_in (device_in setup) (along_of (going_in l.mid)) first))
      → (rest : Calls)
      × (new.recorder.calls ++ rest ≡ old.recorder.calls ++ calls_of_cycles (stand_in setup) (going_of old) cycles)
  lost_front first rest moments tape =
      let stand = stand_in setup in
      let mid = going_in l.mid in
      let before = calls_of_cycles stand (going_of old) l.done in
      let own = calls_in stand.device (along_of mid) first in
      let behind = calls_in stand.device (after_moments stand.device (along_of mid) first) rest
      ++ calls_of_cycles stand (after_cycle stand mid l.cycle) l.later in
      let both : Some new.recorder.calls ≡ Some ((old.recorder.calls ++ before) ++ own) =
      tape ∙ ap (λ (t : Option Calls). with_calls t own) l.plays.tape in
      let is : new.recorder.calls ≡ (old.recorder.calls ++ before) ++ own = cc in (
        behind,
        ap (λ (c : Calls). c ++ behind) (is ∙ append_assoc old.recorder.calls before own)
            ∙ append_assoc old.recorder.calls (before ++ own) behind
            ∙ ap (λ (c : Calls). old.recorder.calls ++ c)
            (front_calls stand cycles l.done l.later l.cycle (going_of old) mid l.split l.plays.going first rest moments),
      )

  -- the calls so far are the first of all
  lost_calls : ((stands_at new).point.told.tape ≡ with_calls l.mid.point.told.tape (calls_in (device_in setup) (along_of (going_in l.mid)) l.loses.at.done))
      ⊎ ((stands_at new).point.told.tape
      ≡ with_calls l.mid.point.told.tape (calls_in (device_in setup) (along_of (going_in l.mid)) (l.loses.at.done ++ l.loses.at.moment ∷ [])))
      → (rest : Calls)
      × (new.recorder.calls ++ rest ≡ old.recorder.calls ++ calls_of_cycles (stand_in setup) (going_of old) cycles)
  lost_calls (inl tape) = lost_front l.loses.at.done (l.loses.at.moment ∷ l.loses.at.later) l.loses.at.split tape
  lost_calls (inr tape) =
      lost_front (l.loses.at.done ++ l.loses.at.moment ∷ []) l.loses.at.later
      (l.loses.at.split ∙ sym (append_assoc l.loses.at.done (l.loses.at.moment ∷ []) l.loses.at.later)) tape

  pub lost_some : new.recorder.over ≡ true → PlaysSo setup exec cycles false old new
  lost_some over = let some = lost_calls l.loses.tape in (some.0, some.1, over)

-- ---- the end of an executive

module _ (setup : Setup) (most exec : ℕ) (order : Option ℕ) (xs : List Cycle) (old new : Way) (many : ℕ)
    (is : many ≡ allowed most order (length xs)) where
  -- too many drives
  pub comes_over : PlaysSo setup exec (take many xs) false old new → ComesTo setup most exec order xs old new after.Over
  comes_over some =
      subst (λ (n : ℕ). PlaysSo setup exec (take n xs) false old new) is some

  -- the calls of cycles that were played
  recorded : PlaysSo setup exec (take many xs) true old new
      → new.recorder.calls ≡ old.recorder.calls ++ calls_here setup most order xs old
  recorded plays =
      let tape = plays.tape in
      let here : new.recorder.calls ≡ old.recorder.calls ++ calls_of_cycles (stand_in setup) (going_of old) (take many xs) = cc in
      here ∙ ap (λ n. old.recorder.calls ++ calls_of_cycles (stand_in setup) (going_of old) (take n xs)) is

  -- the order of the plan ends it
  pub comes_ordered : many < length xs → PlaysSo setup exec (take many xs) true old new
      → ComesTo setup most exec order xs old new after.Ends
  comes_ordered less plays =
      let short : nat_le (length xs) (allowed most order (length xs)) ≡ false = search (rules, less, is) in (
        recorded plays,
        ap (λ b. b && not (has_fails (played (stand_in setup) exec (going_of old) xs))) short,
      )

  module _ (all : length xs ≤ many) (plays : PlaysSo setup exec (take many xs) true old new) (before : StandsBefore setup exec old) (total : ℕ)
      (answers : Answers total_of new.at.bench.checker total) where
    abbrev fails : List Fail
    fails = fails_in (played (stand_in setup) exec (going_of old) xs)

    whole : nat_le (length xs) (allowed most order (length xs)) ≡ true
    whole = search (rules, all, is)

    -- the fails that were found
    found_fails : HasSeen (closed_with (device_in setup) 0 fails) new.at.bench.checker
    found_fails =
        subst (λ (l : List Cycle). HasSeen
        (closed_with (device_in setup) 0 (fails_in (played (stand_in setup) exec (going_of old) l))) new.at.bench.checker)
        (take_all many xs all) (plays.finds 0 [] before.seen)

    total_found : total ≡ min (length fails) (2 ^ 64 - 1)
    total_found = total_is (device_in setup) 0 fails new.at.bench.checker total found_fails answers

    -- a fail ends it
    pub comes_failed : 0 < total → ComesTo setup most exec order xs old new after.Ends
    comes_failed some =
        let has : has_fails (played (stand_in setup) exec (going_of old) xs) ≡ true =
        lt-ltb 0 (length fails) (omega (arith, total_found, some)) in (
          recorded plays,
          ap (λ b. b && not (has_fails (played (stand_in setup) exec (going_of old) xs))) whole ∙ ap not has,
        )

    -- it goes on
    pub comes_on : (next : Option ℕ) → total ≤ 0 → next ≡ order_behind most order (length xs) → exec < length (code_in setup).execs
        → many ≤ 281474976710656 → ((more : ℕ) → CanGoOn setup (more + many) old → CanGoOn setup more new)
        → ComesTo setup most exec order xs old new (after.Goes next)
    comes_on next none behind within few goes =
        let nothing : length fails ≡ 0 = omega (arith, total_found, none) in
        let clean : has_fails (played (stand_in setup) exec (going_of old) xs) ≡ false = search (rules, nothing) in (
          recorded plays,
          ap (λ b. b && not (has_fails (played (stand_in setup) exec (going_of old) xs))) whole ∙ ap not clean,
          behind,
          before_next setup 0 exec many old.schedules (recording_told old.recorder) old.at within few before new.schedules
              (recording_told new.recorder) new.at goes
              (subst (λ (l : List Fail). HasSeen (closed_with (device_in setup) 0 l) new.at.bench.checker)
              (is_empty fails (eqb (length fails) 0) refl (ap (λ n. eqb n 0) nothing)) found_fails),
          plays.going ∙ ap (after_cycles (stand_in setup) (going_of old)) (take_all many xs all),
        )

-- the answer is another by an equation
pub plays_so : (setup : Setup) (exec : ℕ) (xs : List Cycle) (a b : Bool) (old new : Way) → a ≡ b → PlaysSo setup exec xs a old new
    → PlaysSo setup exec xs b old new
plays_so setup exec xs a b old new is plays = subst (λ (w : Bool). PlaysSo setup exec xs w old new) is plays
