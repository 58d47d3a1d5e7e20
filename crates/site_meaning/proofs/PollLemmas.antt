-- What a poll makes of a try: it goes on as a front of the uncut try, or ends as the try with the cut that it tells.
use Rattle.std.proofs.Common.{◌≡◌, ℕ, suc, ◌+◌, ◌-◌, ◌^◌, ◌<◌, ◌≤◌, Bool, true, false, ◌||◌, cond, ltb, min, List, [], ◌++◌, length, take, drop, Option, Some, None, refl, sym, ap, ◌∙◌, subst, arith}
use Rattle.std.specs.List.{find, range_with_len}
use Rattle.std.specs.Option.{option_map_or, IfSome}
use Rattle.std.proofs.lemmas.Bool.{ltb-true, ltb-false, eq-eqb, cond-true, cond-false, cond_both, both_ways}
use Rattle.std.proofs.lemmas.List.{append-nil, length-take, drop_all}
use Rattle.tester_types.specs.declared.cycle.Cycle.{Cycle}
use Rattle.tester_types.specs.declared.record.By.TheVariants as by
use Rattle.tester_types.specs.declared.record.Verdict.TheVariants as verdict
use Rattle.tester_types.specs.declared.record.Trial.{Trial}
use Rattle.packed_code.specs.Program.{Program}
use Rattle.packed_code.specs.Cycles.{cycles_of}
use Rattle.site_meaning.proofs.AllLemmas.{All-take, All-drop}
use Rattle.site_meaning.specs.Playing.{Stand, Going, starting}
use Rattle.site_meaning.specs.Part.{Part, IsPart, lot_in, order_in, stand_for}
use Rattle.site_meaning.specs.Trials.{played, after_cycles, fails_in, pieces, Batch, tried, more_in, execs_of, batches_of, cycles_in, blamed, Lost, reached, recorded, trial, cut_of}
use Rattle.site_meaning.specs.Records.{IsTrue}
use Rattle.site_meaning.specs.Polls.{Running, Seat, Step, goes, ends, try_now, ended_now, ended_at, unloaded, next_exec, has_cycles, onward, with_exec, fresh_try, is_at_load, arrived, next_cycles, next_played, after_batch, settled, run_batch, is_ordered, before_batch, stepped_try}
use Rattle.site_meaning.proofs.InstantLemmas.{TakesTime, part_fits, batch_some}
use Rattle.site_meaning.proofs.PeriodLemmas.{periods}
use Rattle.site_meaning.proofs.TimeLemmas.{time-after_some, played-from}
use Rattle.site_meaning.proofs.ReachedLemmas.{Before, From}
use Rattle.site_meaning.proofs.TriedLemmas.{execs_from, all_execs, tried-comes, tried-ends}
use Rattle.site_meaning.proofs.UnderwayLemmas.{coming, coming_of, some_left, Underway, IsBefore}
use Rattle.site_meaning.proofs.BatchLemmas.{next_underway, free_more}
use Rattle.site_meaning.proofs.EndLemmas.{take-nil, ended_as, ended_ran, stopped_live, stopped_by_plan, ended_by_itself, touched_at_load, touched_next, reached-from}

-- a try that stands before a batch
pub record Ready (part : Part) (die number : ℕ) (running : Running) : Type 0 where
  pub underway : Underway part die number running
  pub before : IsBefore part running

-- a try that is this one, and true
pub record IsTry (part : Part) (die number : ℕ) (recorded : Trial) : Type 0 where
  pub numbered : recorded.number ≡ number
  pub true_one : IsTrue part die recorded

-- a try stands before a batch at a time of this kind, or has ended as it should
abbrev pub GoodStep : (ℕ → Type 0) → Part → ℕ → ℕ → Step → Type 0
GoodStep At part die number (goes running) = Ready part die number running × At running.going.time
GoodStep At part die number (ends recorded) = IsTry part die number recorded

-- a try that ended with this cut
true_try : (part : Part) (die number : ℕ) (recorded : Trial) → recorded.number ≡ number
    → recorded ≡ trial part die number (cut_of recorded) → IsTry part die number recorded
true_try part die number recorded numbered is = record {
  numbered = numbered;
  true_one = is ∙ ap (λ (n : ℕ). trial part die n (cut_of recorded)) (sym numbered);
}

-- ---- between executives

-- the batches that ran come before an executive, and no fail has come
pub record Between (part : Part) (die number : ℕ) (running : Running) (from : ℕ) : Type 0 where
  pub ran : List Batch
  pub whole : batches_of part die number ≡ ran ++ tried (stand_for part die number) (more_in part) from running.going
      (execs_from part.code from (length part.code.execs - from))
  pub place : from ≤ length part.code.execs
  pub finished : running.going.number ≡ length (cycles_in ran)
  pub batches : running.batch ≡ length ran
  pub counted : running.total ≡ min (length (fails_in (cycles_in ran))) (2 ^ 64 - 1)
  pub first : running.kept ≡ take (lot_in part).keep (fails_in (cycles_in ran))
  pub clean : ltb 0 running.total ≡ false
  pub blames : blamed ran ≡ verdict.Pass
  pub within : Before running.going.time (cycles_in ran)
  pub free : (batch : ℕ) → order_in part die number ≡ Some batch → length ran ≤ batch

-- the batches of executives, the first of which has a cycle
tried-first : (stand : Stand) (more exec : ℕ) (going : Going) (code : Program) (later : ℕ)
    → tried stand more exec going (execs_from code exec (suc later))
    ≡ coming_of stand more code exec false going (cycles_of code exec) later
unfolding tried
tried-first stand more exec going code later = refl

-- the try goes on with the next executive that has a cycle, or passes
pub onward_good : (At : ℕ → Type 0) (part : Part) (die number : ℕ) (running : Running) (from : ℕ)
    → Between part die number running from → At running.going.time
    → GoodStep At part die number (onward part number running from)
unfolding onward next_exec
onward_good At part die number running from b at = go (find (has_cycles code) (range_with_len from count)) refl
  where
    code : Program
    code = part.code

    count : ℕ
    count = length code.execs - from

    stand : Stand
    stand = stand_for part die number

    passes : find (has_cycles code) (range_with_len from count) ≡ None
        → IsTry part die number (ended_now number running verdict.Pass)
    passes none =
        let no_more = tried-ends stand (more_in part) running.going code count from none in
        let whole = b.whole ∙ ap (λ (l : List Batch). b.ran ++ l) no_more ∙ append-nil b.ran in
        true_try part die number (ended_now number running verdict.Pass) refl
        (ended_as part number running verdict.Pass b.ran b.finished b.counted b.first
        ∙ ended_by_itself part die number b.ran verdict.Pass whole b.blames b.free)

    comes : (exec : ℕ) → find (has_cycles code) (range_with_len from count) ≡ Some exec
        → Ready part die number (with_exec running exec)
    comes exec found =
        let c = tried-comes stand (more_in part) running.going code count from exec found in
        record {
          underway = record {
            ran = b.ran;
            later = c.later;
            place = let p = c.place in let q = b.place in omega (arith, p, q);
            whole = b.whole ∙ ap (λ (l : List Batch). b.ran ++ l)
                (c.same ∙ tried-first stand (more_in part) exec running.going code c.later
                ∙ ap (λ (d : Bool). coming_of stand (more_in part) code exec d running.going (cycles_of code exec) c.later) (sym b.clean));
            finished = b.finished;
            batches = b.batches;
            counted = b.counted;
            first = b.first;
            blames = b.blames ∙ ap (λ (d : Bool). cond d (verdict.Fail exec) verdict.Pass) (sym b.clean);
            within = b.within;
            free = b.free;
          };
          before = c.some;
        }

    go : (next : Option ℕ) → find (has_cycles code) (range_with_len from count) ≡ next
        → GoodStep At part die number (option_map_or (λ exec. goes (with_exec running exec)) next (ends (ended_now number running verdict.Pass)))
    go None none = passes none
    go (Some exec) found = (comes exec found, at)

-- before any batch
pub fresh_between : (part : Part) (die number : ℕ) → Between part die number (fresh_try part die number) 0
unfolding batches_of cycles_in fails_in blamed
fresh_between part die number = record {
  ran = [];
  whole = whole_is;
  place = omega arith;
  finished = refl;
  batches = refl;
  counted = refl;
  first = sym (take-nil (lot_in part).keep [] refl);
  clean = refl;
  blames = refl;
  within = tt;
  free = λ b e. omega arith;
}
  where
    stand : Stand
    stand = stand_for part die number

    whole_is : tried stand (more_in part) 0 (starting stand.device) (execs_of part.code)
        ≡ tried stand (more_in part) 0 (starting stand.device) (execs_from part.code 0 (length part.code.execs - 0))
    whole_is =
        let same : length part.code.execs ≡ length part.code.execs - 0 = omega arith in
        ap (tried stand (more_in part) 0 (starting stand.device))
        (all_execs part.code ∙ ap (execs_from part.code 0) same)

-- ---- behind a batch

-- where an executive has ended, what is to come is of later ones
pub coming-ended : (part : Part) (die number : ℕ) (running : Running) (later : ℕ)
    → length (cycles_of part.code running.exec) ≤ running.done
    → coming part die number running later
    ≡ cond (ltb 0 running.total) [] (tried (stand_for part die number) (more_in part) (running.exec + 1) running.going
    (execs_from part.code (running.exec + 1) later))
unfolding played pieces fails_in after_cycles
coming-ended part die number running later over =
    ap (λ (l : List Cycle). coming_of stand more code running.exec dirty running.going l later)
    (drop_all running.done (cycles_of code running.exec) over)
    ∙ ap (λ (d : Bool). cond d [] (tried stand more (running.exec + 1) running.going (execs_from code (running.exec + 1) later))) (or_none dirty)
  where
    stand : Stand
    stand = stand_for part die number

    code : Program
    code = part.code

    more : ℕ
    more = more_in part

    dirty : Bool
    dirty = ltb 0 running.total

    or_none : (d : Bool) → (d || false) ≡ d
    or_none true = refl
    or_none false = refl

-- the executive has ended, and has fails
fails_good : (part : Part) (die number : ℕ) (running : Running) → length (cycles_of part.code running.exec) ≤ running.done
    → ltb 0 running.total ≡ true → Underway part die number running
    → IsTry part die number (ended_now number running (verdict.Fail running.exec))
fails_good part die number running over dirty u =
    let stand = stand_for part die number in
    let rest = tried stand (more_in part) (running.exec + 1) running.going (execs_from part.code (running.exec + 1) u.later) in
    let nothing = coming-ended part die number running u.later over ∙ cond-true (ltb 0 running.total) [] rest dirty in
    let whole = u.whole ∙ ap (λ (l : List Batch). u.ran ++ l) nothing ∙ append-nil u.ran in
    let blames = u.blames ∙ cond-true (ltb 0 running.total) (verdict.Fail running.exec) verdict.Pass dirty in
    true_try part die number (ended_now number running (verdict.Fail running.exec)) refl
    (ended_ran part die number running (verdict.Fail running.exec) u
    ∙ ended_by_itself part die number u.ran (verdict.Fail running.exec) whole blames u.free)

-- the executive has ended without a fail
pub between_execs : (part : Part) (die number : ℕ) (running : Running) → length (cycles_of part.code running.exec) ≤ running.done
    → ltb 0 running.total ≡ false → Underway part die number running
    → Between part die number running (running.exec + 1)
between_execs part die number running over clean u =
    let stand = stand_for part die number in
    let tail : ℕ → List Batch = λ n. tried stand (more_in part) (running.exec + 1) running.going (execs_from part.code (running.exec + 1) n) in
    let place = u.place in
    let left : u.later ≡ length part.code.execs - (running.exec + 1) = omega (arith, place) in
    record {
      ran = u.ran;
      whole = u.whole ∙ ap (λ (l : List Batch). u.ran ++ l)
          (coming-ended part die number running u.later over ∙ cond-false (ltb 0 running.total) [] (tail u.later) clean ∙ ap tail left);
      place = omega (arith, place);
      finished = u.finished;
      batches = u.batches;
      counted = u.counted;
      first = u.first;
      clean = clean;
      blames = u.blames ∙ cond-false (ltb 0 running.total) (verdict.Fail running.exec) verdict.Pass clean;
      within = u.within;
      free = u.free;
    }

-- behind a batch the try goes on, or ends
pub settled_good : (At : ℕ → Type 0) (part : Part) (die number : ℕ) (running : Running) → Underway part die number running
    → At running.going.time → GoodStep At part die number (settled part number running)
unfolding settled
settled_good At part die number running u at =
    cond_both (ltb running.done (length (cycles_of part.code running.exec))) (goes running)
    (cond (ltb 0 running.total) failed (onward part number running (running.exec + 1)))
    (GoodStep At part die number)
    (λ more. (record { underway = u; before = ltb-true running.done (length (cycles_of part.code running.exec)) more }, at))
    (λ over.
    let past = ltb-false running.done (length (cycles_of part.code running.exec)) over in
    cond_both (ltb 0 running.total) failed (onward part number running (running.exec + 1)) (GoodStep At part die number)
    (λ dirty. fails_good part die number running past dirty u)
    (λ clean. onward_good At part die number running (running.exec + 1) (between_execs part die number running past clean u) at))
  where
    failed : Step
    failed = ends (ended_now number running (verdict.Fail running.exec))

-- ---- a batch

-- a batch takes time
pub batch_takes_time : (part : Part) (die number : ℕ) (running : Running) → IsPart part → IsBefore part running
    → running.going.time < (after_batch part die number running).going.time
unfolding after_batch next_cycles
batch_takes_time part die number running is before =
    time-after_some stand running.going next some
    (All-take (TakesTime stand) (lot_in part).batch rest (All-drop (TakesTime stand) running.done cycles (periods part die number running.exec is)))
  where
    stand : Stand
    stand = stand_for part die number

    cycles : List Cycle
    cycles = cycles_of part.code running.exec

    rest : List Cycle
    rest = drop running.done cycles

    next : List Cycle
    next = take (lot_in part).batch rest

    some : 0 < length next
    some =
        let size = batch_some part is in
        let long = length-take (lot_in part).batch rest in
        let left = some_left running.done cycles before in
        omega (arith, size, long, left)

-- its moments are not before it
pub next-from : (part : Part) (die number : ℕ) (running : Running) → From running.going.time (next_played part die number running)
unfolding next_played
next-from part die number running =
    played-from (stand_for part die number) running.exec running.going (next_cycles part running)

-- a time behind the beginning
abbrev pub Late : ℕ → Type 0
Late time = 0 < time

-- a batch without an order, up to its end or to a lost contact
pub run_batch_good : (part : Part) (die number : ℕ) (contact : Option ℕ) (running : Running) → IsPart part
    → (is_at_load contact ≡ true → 0 < running.going.time)
    → is_ordered (order_in part die number) running.batch ≡ false → Ready part die number running
    → GoodStep Late part die number (run_batch part die number contact running)
unfolding run_batch
run_batch_good part die number contact running is loaded apart r = go contact loaded
  where
    after : Running
    after = after_batch part die number running

    u : Underway part die number running
    u = r.underway

    late : 0 < after.going.time
    late = let more = batch_takes_time part die number running is r.before in omega (arith, more)

    whole : GoodStep Late part die number (settled part number after)
    whole =
        settled_good Late part die number after
        (next_underway part die number running is (part_fits part die number is) r.before apart u) late

    free : (b : ℕ) → order_in part die number ≡ Some b → length u.ran + 1 ≤ b
    free b e =
        let now = u.batches in
        let later = free_more (order_in part die number) running.batch (λ c o. subst (λ (n : ℕ). n ≤ c) (sym u.batches) (u.free c o)) apart b e in
        omega (arith, now, later)

    lost_good : (at : ℕ) (lost : Lost) → (is_at_load (Some at) ≡ true → 0 < running.going.time)
        → reached at (next_played part die number running) ≡ Some lost
        → IsTry part die number (ended_at part number running at lost)
    lost_good at lost load found =
        let from = reached-from running.going.time at (next_played part die number running) lost (next-from part die number running) found in
        let some : at ≡ 0 → ⊥ = λ e. let time = load (eq-eqb at 0 e) in omega (arith, time, from, e) in
        true_try part die number (ended_at part number running at lost) refl
        (touched_next part die number running at lost is r.before u free from some found)

    at_good : (at : ℕ) (place : Option Lost) → (is_at_load (Some at) ≡ true → 0 < running.going.time)
        → reached at (next_played part die number running) ≡ place
        → GoodStep Late part die number (option_map_or (λ lost. ends (ended_at part number running at lost)) place (settled part number after))
    at_good at None load found = whole
    at_good at (Some lost) load found = lost_good at lost load found

    go : (c : Option ℕ) → (is_at_load c ≡ true → 0 < running.going.time) → GoodStep Late part die number (run_batch part die number c running)
    go None load = whole
    go (Some at) load = at_good at (reached at (next_played part die number running)) load refl

-- before a batch
pub before_batch_good : (part : Part) (contact : Option ℕ) (seat : Seat) (running : Running) → IsPart part
    → (is_at_load contact ≡ true → 0 < running.going.time) → Ready part seat.die (try_now seat) running
    → GoodStep Late part seat.die (try_now seat) (before_batch part contact seat running)
unfolding before_batch
before_batch_good part contact seat running is loaded r =
    cond_both (ltb seat.taken seat.word) (ends live_end) (cond (is_ordered order running.batch) (ends plan_end) runs) Good
    (λ _. true_try part seat.die number live_end refl (stopped_live part seat.die number running seat.word is r.before r.underway))
    (λ _. cond_both (is_ordered order running.batch) (ends plan_end) runs Good
    (λ here. true_try part seat.die number plan_end refl (stopped_by_plan part seat.die number running is r.before here r.underway))
    (λ apart. run_batch_good part seat.die number contact running is loaded apart r))
  where
    number : ℕ
    number = try_now seat

    order : Option ℕ
    order = order_in part seat.die number

    Good : Step → Type 0
    Good step = GoodStep Late part seat.die number step

    live_end : Trial
    live_end = ended_now number running (verdict.Stopped running.batch (by.Desk seat.word))

    plan_end : Trial
    plan_end = ended_now number running (verdict.Stopped running.batch by.Plan)

    runs : Step
    runs = run_batch part seat.die number contact running

-- ---- where a try stands as the poll comes

-- a try that was polled before
abbrev pub WasPolled : Part → ℕ → ℕ → Running → Type 0
WasPolled part die number running = Ready part die number running × Late running.going.time

-- the time at which a try stands, if its contact may be that of the load
abbrev pub After : Option ℕ → ℕ → Type 0
After contact time = is_at_load contact ≡ true → 0 < time

pub arrived_good : (part : Part) (contact : Option ℕ) (seat : Seat)
    → IfSome seat.running (WasPolled part seat.die (try_now seat))
    → GoodStep (After contact) part seat.die (try_now seat) (arrived part contact seat)
unfolding arrived
arrived_good part contact seat was = go seat.running was
  where
    begun : Step
    begun = cond (is_at_load contact) (ends (unloaded (try_now seat))) (onward part (try_now seat) (fresh_try part seat.die (try_now seat)) 0)

    begun_good : GoodStep (After contact) part seat.die (try_now seat) begun
    begun_good =
        cond_both (is_at_load contact) (ends (unloaded (try_now seat))) (onward part (try_now seat) (fresh_try part seat.die (try_now seat)) 0)
        (GoodStep (After contact) part seat.die (try_now seat))
        (λ _. true_try part seat.die (try_now seat) (unloaded (try_now seat)) refl (touched_at_load part seat.die (try_now seat)))
        (λ apart. onward_good (After contact) part seat.die (try_now seat) (fresh_try part seat.die (try_now seat)) 0
        (fresh_between part seat.die (try_now seat)) (λ here. absurd (both_ways (is_at_load contact) apart here)))

    go : (running : Option Running) → IfSome running (WasPolled part seat.die (try_now seat))
        → GoodStep (After contact) part seat.die (try_now seat) (option_map_or goes running begun)
    go None was = begun_good
    go (Some r) was = (was.0, λ _. was.1)

-- what a poll makes of a try
pub stepped_good : (part : Part) (contact : Option ℕ) (seat : Seat) (arrival : Step) → IsPart part
    → GoodStep (After contact) part seat.die (try_now seat) arrival
    → GoodStep Late part seat.die (try_now seat) (stepped_try part contact seat arrival)
stepped_good part contact seat (goes running) is good = before_batch_good part contact seat running is good.1 good.0
stepped_good part contact seat (ends recorded) is good = good
