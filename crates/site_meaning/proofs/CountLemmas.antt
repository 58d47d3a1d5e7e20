-- Each poll counts 1: a try takes as many polls as its verdict tells.
use Rattle.std.proofs.Common.{◌≡◌, ℕ, suc, ◌+◌, ◌-◌, ◌<◌, ◌≤◌, true, false, ◌&&◌, cond, ltb, leb, eqb, List, [], ◌∷◌, ◌++◌, length, Option, Some, None, refl, sym, ap, ◌∙◌, subst, arith}
use Rattle.std.specs.Prelude.{max, not, is_some}
use Rattle.std.specs.List.{AllByRecursion, find, position_or_len, range_with_len}
use Rattle.std.specs.Option.{option_map_or}
use Rattle.std.proofs.lemmas.Bool.{cond_both, cond-true, cond-false, ltb-false, ne_eqb, eq-eqb, or_parts, true≢false}
use Rattle.std.proofs.lemmas.List.{append-nil}
use Rattle.std.proofs.lemmas.List.Sums.{sum_by-append}
use Rattle.tester_types.specs.declared.record.By.{By}
use Rattle.tester_types.specs.declared.record.By.TheVariants as by
use Rattle.tester_types.specs.declared.record.Verdict.TheVariants as verdict
use Rattle.tester_types.specs.declared.record.Trial.{Trial}
use Rattle.tester_types.specs.declared.record.Record.{Record}
use Rattle.packed_code.specs.Program.{Program}
use Rattle.packed_code.specs.Cycles.{cycles_of}
use Rattle.site_meaning.specs.Playing.{PlayedMoment, PlayedCycle}
use Rattle.site_meaning.specs.Part.{Part, IsPart, lot_in, dies_in, order_in, stand_for}
use Rattle.site_meaning.specs.Trials.{Batch, tried, more_in, batches_of, cycles_in, Lost, reached}
use Rattle.site_meaning.specs.Records.{is_fail}
use Rattle.site_meaning.specs.Polls.{Running, Seat, Step, goes, ends, try_now, ended_now, ended_at, unloaded, next_exec, has_cycles, onward, with_exec, fresh_try, is_at_load, arrived, next_played, after_batch, settled, run_batch, is_ordered, before_batch, stepped_try, taken_at, with_record, with_trial, moved, with_taken, rests, polled_from, poll, Arises}
use Rattle.site_meaning.specs.Counting.{batch_at, polls_in, polls_of_tries, polls_of, batches_so_far, polls_so_far, Counts}
use Rattle.site_meaning.proofs.AllLemmas.{all_parts}
use Rattle.site_meaning.proofs.InstantLemmas.{part_fits}
use Rattle.site_meaning.proofs.ReachedLemmas.{Apart, none_or_some, reached-apart, before_is_apart, Before-later}
use Rattle.site_meaning.proofs.TriedLemmas.{execs_from, tried-ends}
use Rattle.site_meaning.proofs.UnderwayLemmas.{coming, next_batch, Underway, IsBefore}
use Rattle.site_meaning.proofs.BatchLemmas.{coming-next, next_underway}
use Rattle.site_meaning.proofs.EndLemmas.{reached-from}
use Rattle.site_meaning.proofs.SeatLemmas.{stands}
use Rattle.site_meaning.proofs.PollLemmas.{Ready, GoodStep, next-from, Between, After, arrived_good, fresh_between, coming-ended, between_execs}

-- ---- a try that ends by itself

-- what comes of a try that has come to so many batches: it goes on with them, or tells as many polls, and 1 at least
abbrev pub Tells : Part → ℕ → ℕ → Step → Type 0
Tells part die batches (goes running) = running.batch ≡ batches
Tells part die batches (ends t) = polls_in part die t ≡ max 1 batches

-- all batches have run
polls-pass : (part : Part) (die number : ℕ) (running : Running) (ran : List Batch) → batches_of part die number ≡ ran
    → running.batch ≡ length ran → polls_in part die (ended_now number running verdict.Pass) ≡ max 1 running.batch
unfolding polls_in
polls-pass part die number running ran whole count = ap (λ (l : List Batch). max 1 (length l)) whole ∙ ap (max 1) (sym count)

polls-fail : (part : Part) (die number : ℕ) (running : Running) (ran : List Batch) → batches_of part die number ≡ ran
    → running.batch ≡ length ran
    → polls_in part die (ended_now number running (verdict.Fail running.exec)) ≡ max 1 running.batch
unfolding polls_in
polls-fail part die number running ran whole count = ap (λ (l : List Batch). max 1 (length l)) whole ∙ ap (max 1) (sym count)

onward_tells : (part : Part) (die number : ℕ) (running : Running) (from : ℕ) → Between part die number running from
    → Tells part die running.batch (onward part number running from)
unfolding onward next_exec
onward_tells part die number running from b = go (find (has_cycles code) (range_with_len from count)) refl
  where
    code : Program
    code = part.code

    count : ℕ
    count = length code.execs - from

    go : (next : Option ℕ) → find (has_cycles code) (range_with_len from count) ≡ next
        → Tells part die running.batch (option_map_or (λ exec. goes (with_exec running exec)) next (ends (ended_now number running verdict.Pass)))
    go None none =
        let no_more = tried-ends (stand_for part die number) (more_in part) running.going code count from none in
        polls-pass part die number running b.ran (b.whole ∙ ap (λ (l : List Batch). b.ran ++ l) no_more ∙ append-nil b.ran) b.batches
    go (Some exec) found = refl

settled_tells : (part : Part) (die number : ℕ) (running : Running) → Underway part die number running
    → Tells part die running.batch (settled part number running)
unfolding settled
settled_tells part die number running u =
    cond_both (ltb running.done (length (cycles_of part.code running.exec))) (goes running)
    (cond (ltb 0 running.total) failed (onward part number running (running.exec + 1))) (Tells part die running.batch) (λ _. refl)
    (λ over.
    let past = ltb-false running.done (length (cycles_of part.code running.exec)) over in
    cond_both (ltb 0 running.total) failed (onward part number running (running.exec + 1)) (Tells part die running.batch)
    (λ dirty.
    let rest = tried (stand_for part die number) (more_in part) (running.exec + 1) running.going (execs_from part.code (running.exec + 1) u.later) in
    let nothing = coming-ended part die number running u.later past ∙ cond-true (ltb 0 running.total) [] rest dirty in
    polls-fail part die number running u.ran (u.whole ∙ ap (λ (l : List Batch). u.ran ++ l) nothing ∙ append-nil u.ran) u.batches)
    (λ clean. onward_tells part die number running (running.exec + 1) (between_execs part die number running past clean u)))
  where
    failed : Step
    failed = ends (ended_now number running (verdict.Fail running.exec))

-- ---- a contact

-- the place of the first batch in which an instant is reached
step-here : (found : Option Lost) (lost : Lost) (place : ℕ) → found ≡ Some lost → cond {A = ℕ} (not (is_some found)) (1 + place) 0 ≡ 0
step-here found lost place is = ap (λ (o : Option Lost). cond {A = ℕ} (not (is_some o)) (1 + place) 0) is

step-behind : (found : Option Lost) (place n : ℕ) → found ≡ None → place ≡ n
    → cond {A = ℕ} (not (is_some found)) (1 + place) 0 ≡ suc n
step-behind found place n is same =
    ap (λ (o : Option Lost). cond {A = ℕ} (not (is_some o)) (1 + place) 0) is ∙ omega (arith, same)

batch_at-behind : (at : ℕ) (ran : List Batch) (next : Batch) (later : List Batch) (lost : Lost) → Apart at (cycles_in ran)
    → reached at next.cycles ≡ Some lost → batch_at at (ran ++ next ∷ later) ≡ length ran
unfolding batch_at cycles_in
batch_at-behind at [] next later lost apart found =
    step-here (reached at next.cycles) lost (position_or_len (λ (b : Batch). is_some (reached at b.cycles)) later) found
batch_at-behind at (b ∷ ran) next later lost apart found =
    let parts = all_parts (λ (c : PlayedCycle). AllByRecursion (λ (m : PlayedMoment). m.at ≡ at → ⊥) c.moments)
    b.cycles (cycles_in ran) apart in
    step-behind (reached at b.cycles) (position_or_len (λ (b : Batch). is_some (reached at b.cycles)) (ran ++ next ∷ later)) (length ran)
    (reached-apart at b.cycles parts.0) (batch_at-behind at ran next later lost parts.1 found)

polls-contact : (part : Part) (die number : ℕ) (running : Running) (at : ℕ) (lost : Lost) (u : Underway part die number running)
    → IsPart part → IsBefore part running → running.going.time ≤ at → (at ≡ 0 → ⊥)
    → reached at (next_played part die number running) ≡ Some lost
    → polls_in part die (ended_at part number running at lost) ≡ max 1 (running.batch + 1)
unfolding polls_in
polls-contact part die number running at lost u is before late some found =
    cond-false (eqb at 0) 1 (batch_at at (batches_of part die number) + 1) (ne_eqb at 0 some)
    ∙ ap (λ (l : List Batch). batch_at at l + 1) (u.whole ∙ ap (λ (l : List Batch). u.ran ++ l) (coming-next part die number running u.later is before))
    ∙ counted
  where
    others : List Batch
    others = coming part die number (after_batch part die number running) u.later

    counted : batch_at at (u.ran ++ next_batch part die number running ∷ others) + 1 ≡ max 1 (running.batch + 1)
    counted =
        let place = batch_at-behind at u.ran (next_batch part die number running) others lost
        (before_is_apart at (cycles_in u.ran) (Before-later running.going.time at late (cycles_in u.ran) u.within)) found in
        let count = u.batches in
        omega (arith, place, count)

-- ---- a poll

-- behind a batch
settled_behind : (part : Part) (die number : ℕ) (running : Running) → IsPart part
    → is_ordered (order_in part die number) running.batch ≡ false → Ready part die number running
    → Tells part die (running.batch + 1) (settled part number (after_batch part die number running))
unfolding after_batch
settled_behind part die number running is apart r =
    settled_tells part die number (after_batch part die number running)
    (next_underway part die number running is (part_fits part die number is) r.before apart r.underway)

run_tells : (part : Part) (die number : ℕ) (contact : Option ℕ) (running : Running) → IsPart part
    → (is_at_load contact ≡ true → 0 < running.going.time)
    → is_ordered (order_in part die number) running.batch ≡ false → Ready part die number running
    → Tells part die (running.batch + 1) (run_batch part die number contact running)
unfolding run_batch
run_tells part die number contact running is loaded apart r = go contact loaded
  where
    whole : Tells part die (running.batch + 1) (settled part number (after_batch part die number running))
    whole = settled_behind part die number running is apart r

    lost_tells : (at : ℕ) (lost : Lost) → (is_at_load (Some at) ≡ true → 0 < running.going.time)
        → reached at (next_played part die number running) ≡ Some lost
        → polls_in part die (ended_at part number running at lost) ≡ max 1 (running.batch + 1)
    lost_tells at lost load found =
        let from = reached-from running.going.time at (next_played part die number running) lost (next-from part die number running) found in
        let some : at ≡ 0 → ⊥ = λ e. let time = load (eq-eqb at 0 e) in omega (arith, time, from, e) in
        polls-contact part die number running at lost r.underway is r.before from some found

    at_tells : (at : ℕ) (place : Option Lost) → (is_at_load (Some at) ≡ true → 0 < running.going.time)
        → reached at (next_played part die number running) ≡ place
        → Tells part die (running.batch + 1) (option_map_or (λ lost. ends (ended_at part number running at lost)) place
        (settled part number (after_batch part die number running)))
    at_tells at None load found = whole
    at_tells at (Some lost) load found = lost_tells at lost load found

    go : (c : Option ℕ) → (is_at_load c ≡ true → 0 < running.going.time)
        → Tells part die (running.batch + 1) (run_batch part die number c running)
    go None load = whole
    go (Some at) load = at_tells at (reached at (next_played part die number running)) load refl

-- a try that is stopped before a batch
polls-stopped : (part : Part) (die number : ℕ) (running : Running) (who : By)
    → polls_in part die (ended_now number running (verdict.Stopped running.batch who)) ≡ max 1 (running.batch + 1)
unfolding polls_in
polls-stopped part die number running who = omega arith

before_batch_counts : (part : Part) (contact : Option ℕ) (seat : Seat) (running : Running) → IsPart part
    → (is_at_load contact ≡ true → 0 < running.going.time) → Ready part seat.die (try_now seat) running
    → Tells part seat.die (running.batch + 1) (before_batch part contact seat running)
unfolding before_batch
before_batch_counts part contact seat running is loaded r =
    cond_both (ltb seat.taken seat.word) live_end (cond (is_ordered order running.batch) plan_end runs) (Tells part seat.die (running.batch + 1))
    (λ _. polls-stopped part seat.die (try_now seat) running (by.Desk seat.word))
    (λ _. cond_both (is_ordered order running.batch) plan_end runs (Tells part seat.die (running.batch + 1))
    (λ _. polls-stopped part seat.die (try_now seat) running by.Plan)
    (λ apart. run_tells part seat.die (try_now seat) contact running is loaded apart r))
  where
    order : Option ℕ
    order = order_in part seat.die (try_now seat)

    live_end : Step
    live_end = ends (ended_now (try_now seat) running (verdict.Stopped running.batch (by.Desk seat.word)))

    plan_end : Step
    plan_end = ends (ended_now (try_now seat) running (verdict.Stopped running.batch by.Plan))

    runs : Step
    runs = run_batch part seat.die (try_now seat) contact running

-- where a try stands as the poll comes: before the batch that it came to, or it ended without one
abbrev ArrivalTells : Part → Seat → Step → Type 0
ArrivalTells part seat (goes running) = running.batch ≡ batches_so_far seat
ArrivalTells part seat (ends t) = (polls_in part seat.die t ≡ 1) × (batches_so_far seat ≡ 0)

polls-unloaded : (part : Part) (die number : ℕ) → polls_in part die (unloaded number) ≡ 1
unfolding polls_in
polls-unloaded part die number = refl

arrival_tells : (part : Part) (contact : Option ℕ) (seat : Seat) → ArrivalTells part seat (arrived part contact seat)
unfolding arrived
arrival_tells part contact seat = go seat.running refl
  where
    begun : Step
    begun = cond (is_at_load contact) (ends (unloaded (try_now seat))) (onward part (try_now seat) (fresh_try part seat.die (try_now seat)) 0)

    fresh : (step : Step) → Tells part seat.die 0 step → batches_so_far seat ≡ 0 → ArrivalTells part seat step
    fresh (goes running) tells none = tells ∙ sym none
    fresh (ends t) tells none = (tells, none)

    begun_tells : batches_so_far seat ≡ 0 → ArrivalTells part seat begun
    begun_tells none =
        cond_both (is_at_load contact) (ends (unloaded (try_now seat))) (onward part (try_now seat) (fresh_try part seat.die (try_now seat)) 0)
        (ArrivalTells part seat) (λ _. (polls-unloaded part seat.die (try_now seat), none))
        (λ _. fresh (onward part (try_now seat) (fresh_try part seat.die (try_now seat)) 0)
        (onward_tells part seat.die (try_now seat) (fresh_try part seat.die (try_now seat)) 0 (fresh_between part seat.die (try_now seat))) none)

    so_far : (running : Option Running) → seat.running ≡ running
        → batches_so_far seat ≡ option_map_or (λ (r : Running). r.batch) running 0
    so_far running same = ap (λ (o : Option Running). option_map_or (λ (r : Running). r.batch) o 0) same

    go : (running : Option Running) → seat.running ≡ running → ArrivalTells part seat (option_map_or goes running begun)
    go None same = begun_tells (so_far None same)
    go (Some r) same = sym (so_far (Some r) same)

-- what a poll makes of a try counts 1
stepped_counts : (part : Part) (contact : Option ℕ) (seat : Seat) (arrival : Step) → IsPart part
    → GoodStep (After contact) part seat.die (try_now seat) arrival → ArrivalTells part seat arrival
    → Tells part seat.die (batches_so_far seat + 1) (stepped_try part contact seat arrival)
stepped_counts part contact seat (goes running) is good tells =
    subst (λ (n : ℕ). Tells part seat.die (n + 1) (before_batch part contact seat running)) tells
    (before_batch_counts part contact seat running is good.1 good.0)
stepped_counts part contact seat (ends t) is good tells =
    let one = tells.0 in let none = tells.1 in omega (arith, one, none)

-- ---- a site

-- the polls of tries with one more
polls-push : (part : Part) (die : ℕ) (ts : List Trial) (t : Trial)
    → polls_of_tries part die (ts ++ t ∷ []) ≡ polls_of_tries part die ts + polls_in part die t
polls-push part die ts t = sum_by-append (polls_in part die) ts (t ∷ []) ∙ omega arith

-- a try more of a die whose record doesn't wait yet
again_counts : (part : Part) (seat : Seat) (taken : ℕ) (t : Trial) → seat.waiting ≡ None
    → polls_in part seat.die t ≡ batches_so_far seat + 1
    → Counts part seat (with_taken (record seat { trials = seat.trials ++ t ∷ []; running = None }) taken)
again_counts part seat taken t none tells = record {
  on = λ _. let sum = polls-push part seat.die seat.trials t in omega (arith, sum, tells);
  over = λ entry waits. absurd (none_or_some seat.waiting entry none waits);
}

-- the touchdown has ended
over_counts : (part : Part) (seat : Seat) (taken : ℕ) (t : Trial) → polls_in part seat.die t ≡ batches_so_far seat + 1
    → Counts part seat (with_taken (with_record part seat t) taken)
over_counts part seat taken t tells = record {
  on = λ none. absurd (none_or_some (with_record part seat t).waiting made none refl);
  over = λ entry waits.
      let sum = polls-push part seat.die seat.trials t in
      subst (λ (r : Record). polls_of part r ≡ polls_so_far part seat + 1) (same entry waits) (omega (arith, sum, tells));
}
  where
    made : Record
    made = record { site = part.site; die = seat.die; trials = seat.trials ++ t ∷ [] }

    same : (entry : Record) → Some made ≡ Some entry → made ≡ entry
    same entry e = cc

moved_counts : (part : Part) (seat : Seat) (taken : ℕ) (step : Step) → seat.waiting ≡ None
    → Tells part seat.die (batches_so_far seat + 1) step → Counts part seat (with_taken (moved part seat step) taken)
unfolding with_trial
moved_counts part seat taken (goes running) none tells = record {
  on = λ _. omega (arith, tells);
  over = λ entry waits. absurd (none_or_some seat.waiting entry none waits);
}
moved_counts part seat taken (ends t) none tells =
    let count : polls_in part seat.die t ≡ batches_so_far seat + 1 = omega (arith, tells) in
    cond_both (is_fail t.verdict && ltb (try_now seat) (lot_in part).tries)
    (record seat { trials = seat.trials ++ t ∷ []; running = None }) (with_record part seat t)
    (λ (new : Seat). Counts part seat (with_taken new taken)) (λ _. again_counts part seat taken t none count)
    (λ _. over_counts part seat taken t count)

pub poll_counts : (part : Part) (contact : Option ℕ) (seat : Seat) → IsPart part → Arises part seat → rests part seat ≡ false
    → Counts part seat (poll part contact seat)
unfolding poll
poll_counts part contact seat is arises works =
    subst (Counts part seat)
    (sym (cond-false (rests part seat) seat (polled_from part contact seat arrival) works))
    (moved_counts part seat (taken_at seat arrival) (stepped_try part contact seat arrival) (none_of seat.waiting parts.0)
    (stepped_counts part contact seat arrival is (arrived_good part contact seat (stands part seat is arises).running)
    (arrival_tells part contact seat)))
  where
    arrival : Step
    arrival = arrived part contact seat

    parts : (is_some seat.waiting ≡ false) × (leb (dies_in part) seat.die ≡ false)
    parts = or_parts (is_some seat.waiting) (leb (dies_in part) seat.die) works

    none_of : (o : Option Record) → is_some o ≡ false → o ≡ None
    none_of None h = refl
    none_of (Some r) h = absurd (true≢false h)
