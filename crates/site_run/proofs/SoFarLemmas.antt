-- Polls put the calls of a try on a tape one batch after another, so that the record tells all of them: `polls_are_taped`.
use Rattle.std.proofs.Common.{◌≡◌, ℕ, zero, suc, ◌+◌, ◌-◌, ◌≤◌, Bool, true, false, ◌||◌, cond, ltb, leb, List, [], ◌∷◌, ◌++◌, length, take, drop, Option, Some, None, refl, sym, ap, ◌∙◌, subst, arith, inl, inr}
use Rattle.std.specs.Prelude.{◌&&◌, IfSome, is_some}
use Rattle.std.specs.List.{find, flat_map, range_with_len}
use Rattle.std.specs.Option.{option_map_or}
use Rattle.std.proofs.lemmas.Bool.{cases_Bool, ltb-false, cond-true, cond-false, cond_both, or_parts, true≢false}
use Rattle.std.proofs.lemmas.List.{append-nil, append_assoc, drop_all, take-append-drop}
use Rattle.std.proofs.lemmas.List.Concat.{flat_map-append}
use Rattle.std.proofs.Math.Seq.{take-add, take-append_seam, drop-append_seam}
use Rattle.tester_types.specs.declared.cycle.Cycle.{Cycle}
use Rattle.tester_types.specs.declared.record.By.TheVariants as by
use Rattle.tester_types.specs.declared.record.Trial.{Trial}
use Rattle.tester_types.specs.declared.record.Record.{Record}
use Rattle.tester_types.specs.declared.record.Verdict.TheVariants as verdict
use Rattle.packed_code.specs.Program.{Program}
use Rattle.packed_code.specs.Cycles.{cycles_of}
use Rattle.die_sim.specs.Socket.{Calls}
use Rattle.site_meaning.specs.Playing.{Stand, Going, starting}
use Rattle.site_meaning.specs.Part.{Part, lot_in, dies_in, order_in, stand_for}
use Rattle.site_meaning.specs.Records.{is_fail}
use Rattle.site_meaning.specs.Trials.{after_cycles, Lost, reached}
use Rattle.site_meaning.specs.Polls.{Running, Seat, Step, goes, ends, try_now, ended_now, ended_at, unloaded, has_cycles, next_exec, with_exec, onward, fresh_try, is_at_load, arrived, next_cycles, next_played, after_batch, settled, run_batch, is_ordered, before_batch, stepped_try, taken_at, with_record, with_trial, moved, with_taken, rests, polled_from, poll, Arises, first, asked, polled, filed}
use Rattle.site_meaning.proofs.PlayedLemmas.{number-after_cycles}
use Rattle.site_meaning.proofs.ReachedLemmas.{none_or_some}
use Rattle.site_meaning.proofs.UnderwayLemmas.{drop-more}
use Rattle.cycle_run.specs.Batch.{calls_of_cycles}
use Rattle.site_run.specs.Taped.{all_cycles, calls_of_try, calls_of_trial, calls_of_trials, calls_of, calls_of_batch, calls_of_next, calls_of_step, calls_of_poll, calls_of_running, calls_so_far, Tapes}
use Rattle.cycle_run.specs.BatchLaws.{after_cycles-append, after_cycles-none, calls-append, calls-none}
use Rattle.site_run.proofs.RunLemmas.{drop-both}
use Rattle.site_run.proofs.TapeLemmas.{poll_calls}
use Rattle.site_meaning.proofs.TriedLemmas.{none_from}

-- ---- where a try stands in its program

-- the cycles of so many executives, from this one on
abbrev pub cycles_from : Program → ℕ → ℕ → List Cycle
cycles_from code from count = flat_map (cycles_of code) (range_with_len from count)

all_are : (code : Program) → all_cycles code ≡ cycles_from code 0 (length code.execs)
unfolding all_cycles
all_are code = refl

-- a try begins
abbrev pub start : Part → ℕ → ℕ → Going
start part die number = starting (stand_for part die number).device

-- what goes along is what does behind the cycles so far, and these are to come
pub record StandsAt (part : Part) (die number : ℕ) (running : Running) (coming : List Cycle) : Type 0 where
  pub behind : running.going ≡ after_cycles (stand_for part die number) (start part die number) (take running.going.number (all_cycles part.code))
  pub left : drop running.going.number (all_cycles part.code) ≡ coming

-- a try runs: the others of its executive are to come, and those of later ones
pub record IsUnderway (part : Part) (die number : ℕ) (running : Running) : Type 0 where
  pub later : ℕ
  pub place : running.exec + suc later ≡ length part.code.execs
  pub stands : StandsAt part die number running
      (drop running.done (cycles_of part.code running.exec) ++ cycles_from part.code (running.exec + 1) later)

-- a try goes on, or ends behind so many cycles
abbrev StepsTo : (ℕ → Type 0) → Part → ℕ → ℕ → Step → Type 0
StepsTo At part die number (goes running) = IsUnderway part die number running × At running.going.number
StepsTo At part die number (ends recorded) = (recorded.number ≡ number) × At recorded.cycles

-- ---- between executives

-- the first executive with a cycle
record ComesTo (code : Program) (from count exec : ℕ) : Type 0 where
  pub later : ℕ
  pub place : exec + suc later ≡ from + count
  pub same : cycles_from code from count ≡ cycles_of code exec ++ cycles_from code (exec + 1) later

comes_to : (code : Program) (count from exec : ℕ) → find (has_cycles code) (range_with_len from count) ≡ Some exec
    → ComesTo code from count exec
comes_to code zero from exec e = absurd (none_or_some None exec refl e)
comes_to code (suc count) from exec e =
    elim (cases_Bool (has_cycles code from)) [
      | inl h ↦ here (some_is (sym (cond-true (has_cycles code from) (Some from) (find (has_cycles code) (range_with_len (from + 1) count)) h) ∙ e))
      | inr h ↦ behind h (comes_to code count (from + 1) exec
          (sym (cond-false (has_cycles code from) (Some from) (find (has_cycles code) (range_with_len (from + 1) count)) h) ∙ e))
    ]
  where
    some_is : Some from ≡ Some exec → from ≡ exec
    some_is h = cc

    here : from ≡ exec → ComesTo code from (suc count) exec
    here same =
        subst (λ (n : ℕ). ComesTo code from (suc count) n) same (record { later = count; place = refl; same = refl })

    behind : has_cycles code from ≡ false → ComesTo code (from + 1) count exec → ComesTo code from (suc count) exec
    behind h c = record {
      later = c.later;
      place = omega (arith, c.place);
      same = ap (λ (l : List Cycle). l ++ cycles_from code (from + 1) count) (none_from code from h) ∙ c.same;
    }

onward_steps : (At : ℕ → Type 0) (part : Part) (die number : ℕ) (running : Running) (from : ℕ) → from ≤ length part.code.execs
    → StandsAt part die number running (cycles_from part.code from (length part.code.execs - from)) → At running.going.number
    → StepsTo At part die number (onward part number running from)
unfolding onward next_exec
onward_steps At part die number running from within s at = go (find (has_cycles code) (range_with_len from count)) refl
  where
    code : Program
    code = part.code

    count : ℕ
    count = length code.execs - from

    comes : (exec : ℕ) → ComesTo code from count exec → IsUnderway part die number (with_exec running exec)
    comes exec c = record {
      later = c.later;
      place = let p = c.place in omega (arith, p, within);
      stands = record { behind = s.behind; left = s.left ∙ c.same };
    }

    go : (next : Option ℕ) → find (has_cycles code) (range_with_len from count) ≡ next
        → StepsTo At part die number (option_map_or (λ exec. goes (with_exec running exec)) next (ends (ended_now number running verdict.Pass)))
    go None none = (refl, at)
    go (Some exec) found = (comes exec (comes_to code count from exec found), at)

-- before any cycle
fresh_stands : (part : Part) (die number : ℕ)
    → StandsAt part die number (fresh_try part die number) (cycles_from part.code 0 (length part.code.execs - 0))
fresh_stands part die number =
    let same : length part.code.execs ≡ length part.code.execs - 0 = omega arith in
    record {
      behind = sym (after_cycles-none (stand_for part die number) (start part die number));
      left = all_are part.code ∙ ap (cycles_from part.code 0) same;
    }

-- ---- behind a batch

settled_steps : (At : ℕ → Type 0) (part : Part) (die number : ℕ) (running : Running) → IsUnderway part die number running
    → At running.going.number → StepsTo At part die number (settled part number running)
unfolding settled
settled_steps At part die number running u at =
    cond_both (ltb running.done (length cycles)) (goes running) (cond (ltb 0 running.total) failed on) (StepsTo At part die number) (λ _. (u, at))
    (λ over.
    cond_both (ltb 0 running.total) failed on (StepsTo At part die number) (λ _. (refl, at))
    (λ _. onward_steps At part die number running (running.exec + 1) within (ended (ltb-false running.done (length cycles) over)) at))
  where
    code : Program
    code = part.code

    cycles : List Cycle
    cycles = cycles_of code running.exec

    failed : Step
    failed = ends (ended_now number running (verdict.Fail running.exec))

    on : Step
    on = onward part number running (running.exec + 1)

    within : running.exec + 1 ≤ length code.execs
    within = let place = u.place in omega (arith, place)

    ended : length cycles ≤ running.done
        → StandsAt part die number running (cycles_from code (running.exec + 1) (length code.execs - (running.exec + 1)))
    ended past =
        let place = u.place in
        let count : u.later ≡ length code.execs - (running.exec + 1) = omega (arith, place) in
        record {
          behind = u.stands.behind;
          left = u.stands.left
              ∙ ap (λ (l : List Cycle). l ++ cycles_from code (running.exec + 1) u.later) (drop_all running.done cycles past)
              ∙ ap (cycles_from code (running.exec + 1)) count;
        }

module _ (part : Part) (die number : ℕ) (running : Running) (u : IsUnderway part die number running) where
  abbrev stand : Stand
  stand = stand_for part die number

  abbrev all : List Cycle
  all = all_cycles part.code

  abbrev so_far : ℕ
  so_far = running.going.number

  abbrev rest : List Cycle
  rest = drop running.done (cycles_of part.code running.exec)

  abbrev others : List Cycle
  others = cycles_from part.code (running.exec + 1) u.later

  abbrev size : ℕ
  size = (lot_in part).batch

  abbrev next : List Cycle
  next = take size rest

  coming_is : drop so_far all ≡ next ++ (drop size rest ++ others)
  coming_is =
      u.stands.left ∙ ap (λ (l : List Cycle). l ++ others) (sym (take-append-drop size rest)) ∙ append_assoc next (drop size rest) others

  taken_is : take (so_far + length next) all ≡ take so_far all ++ next
  taken_is =
      take-add so_far (length next) all
      ∙ ap (λ (l : List Cycle). take so_far all ++ l)
      (ap (take (length next)) coming_is ∙ take-append_seam next (drop size rest ++ others))

  left_is : drop (so_far + length next) all ≡ drop (running.done + length next) (cycles_of part.code running.exec) ++ others
  left_is =
      sym (drop-both so_far (length next) all)
      ∙ ap (drop (length next)) coming_is
      ∙ drop-append_seam next (drop size rest ++ others)
      ∙ ap (λ (l : List Cycle). l ++ others) (sym (drop-more running.done size (cycles_of part.code running.exec)))

  number_is : (after_cycles stand running.going next).number ≡ so_far + length next
  number_is = number-after_cycles stand running.going next

  after_underway : IsUnderway part die number (after_batch part die number running)
  unfolding after_batch next_cycles
  after_underway = record {
    later = u.later;
    place = u.place;
    stands = record {
      behind = ap (λ (g : Going). after_cycles stand g next) u.stands.behind
          ∙ sym (after_cycles-append stand (start part die number) (take so_far all) next)
          ∙ ap (after_cycles stand (start part die number)) (sym taken_is ∙ ap (λ (n : ℕ). take n all) (sym number_is));
      left = ap (λ (n : ℕ). drop n all) number_is ∙ left_is;
    };
  }

  -- the calls so far, with those of the batch
  after_calls : calls_of_try part die number (after_batch part die number running).going.number
      ≡ calls_of_try part die number so_far ++ calls_of_batch part die number running
  unfolding calls_of_try calls_of_batch after_batch next_cycles
  after_calls =
      ap (λ (n : ℕ). calls_of_cycles stand (start part die number) (take n all)) number_is
      ∙ ap (calls_of_cycles stand (start part die number)) taken_is
      ∙ calls-append stand (start part die number) (take so_far all) next
      ∙ ap (λ (g : Going). calls_of_cycles stand (start part die number) (take so_far all) ++ calls_of_cycles stand g next)
      (sym u.stands.behind)

-- ---- a poll

-- the calls of so many cycles of a try are these, where no contact is lost
abbrev Puts : Option ℕ → Part → ℕ → ℕ → Calls → ℕ → Type 0
Puts None part die number calls count = calls_of_try part die number count ≡ calls
Puts (Some at) part die number calls count = Unit {0}

puts : (contact : Option ℕ) (part : Part) (die number : ℕ) (calls : Calls) (count : ℕ) → calls_of_try part die number count ≡ calls
    → Puts contact part die number calls count
puts None part die number calls count is = is
puts (Some at) part die number calls count is = tt

-- the next batch, where no stop comes first
run_steps : (part : Part) (die number : ℕ) (contact : Option ℕ) (running : Running) → IsUnderway part die number running
    → StepsTo (Puts contact part die number (calls_of_try part die number running.going.number ++ calls_of_batch part die number running))
    part die number (run_batch part die number contact running)
unfolding run_batch
run_steps part die number contact running u = go contact
  where
    calls : Calls
    calls = calls_of_try part die number running.going.number ++ calls_of_batch part die number running

    after : Running
    after = after_batch part die number running

    whole : (c : Option ℕ) → StepsTo (Puts c part die number calls) part die number (settled part number after)
    whole c =
        settled_steps (Puts c part die number calls) part die number after (after_underway part die number running u)
        (puts c part die number calls after.going.number (after_calls part die number running u))

    at_steps : (at : ℕ) (place : Option Lost)
        → StepsTo (Puts (Some at) part die number calls) part die number
        (option_map_or (λ lost. ends (ended_at part number running at lost)) place (settled part number after))
    at_steps at None = whole (Some at)
    at_steps at (Some lost) = (refl, tt)

    go : (c : Option ℕ) → StepsTo (Puts c part die number calls) part die number (run_batch part die number c running)
    go None = whole None
    go (Some at) = at_steps at (reached at (next_played part die number running))

next_calls : (part : Part) (seat : Seat) (running : Running) (b : Bool)
    → (ltb seat.taken seat.word || is_ordered (order_in part seat.die (try_now seat)) running.batch) ≡ b
    → calls_of_next part seat running ≡ cond b [] (calls_of_batch part seat.die (try_now seat) running)
unfolding calls_of_next
next_calls part seat running b is = ap (λ (c : Bool). cond c [] (calls_of_batch part seat.die (try_now seat) running)) is

before_steps : (part : Part) (contact : Option ℕ) (seat : Seat) (running : Running) → IsUnderway part seat.die (try_now seat) running
    → StepsTo (Puts contact part seat.die (try_now seat)
    (calls_of_try part seat.die (try_now seat) running.going.number ++ calls_of_next part seat running)) part seat.die (try_now seat)
    (before_batch part contact seat running)
unfolding before_batch
before_steps part contact seat running u =
    cond_both live live_end (cond ordered plan_end runs) Good (λ h. (refl, stays (ap (λ (b : Bool). b || ordered) h)))
    (λ h. cond_both ordered plan_end runs Good (λ o. (refl, stays (ap (λ (b : Bool). b || ordered) h ∙ o)))
    (λ o. subst (λ (calls : Calls). StepsTo (Puts contact part die number (so_far ++ calls)) part die number runs)
    (sym (next_calls part seat running false (ap (λ (b : Bool). b || ordered) h ∙ o))) (run_steps part die number contact running u)))
  where
    die : ℕ
    die = seat.die

    number : ℕ
    number = try_now seat

    live : Bool
    live = ltb seat.taken seat.word

    ordered : Bool
    ordered = is_ordered (order_in part die number) running.batch

    live_end : Step
    live_end = ends (ended_now number running (verdict.Stopped running.batch (by.Desk seat.word)))

    plan_end : Step
    plan_end = ends (ended_now number running (verdict.Stopped running.batch by.Plan))

    runs : Step
    runs = run_batch part die number contact running

    so_far : Calls
    so_far = calls_of_try part die number running.going.number

    Good : Step → Type 0
    Good step = StepsTo (Puts contact part die number (so_far ++ calls_of_next part seat running)) part die number step

    stays : (live || ordered) ≡ true → Puts contact part die number (so_far ++ calls_of_next part seat running) running.going.number
    stays h =
        puts contact part die number (so_far ++ calls_of_next part seat running) running.going.number
        (sym (append-nil so_far) ∙ ap (λ (calls : Calls). so_far ++ calls) (sym (next_calls part seat running true h)))

-- ---- where a try stands as the poll comes

-- a try that runs stands in its program
abbrev pub Follows : Part → Seat → Type 0
Follows part seat = IfSome seat.running (IsUnderway part seat.die (try_now seat))

no_cycles : (part : Part) (die number count : ℕ) → count ≡ 0 → calls_of_try part die number count ≡ []
unfolding calls_of_try
no_cycles part die number count none =
    ap (λ (n : ℕ). calls_of_cycles (stand_for part die number) (start part die number) (take n (all_cycles part.code))) none
    ∙ calls-none (stand_for part die number) (start part die number)

-- a contact of the load says nothing
at_load : (contact : Option ℕ) (part : Part) (die number : ℕ) (calls : Calls) (count : ℕ) → is_at_load contact ≡ true
    → Puts contact part die number calls count
at_load None part die number calls count h = absurd (true≢false (sym h))
at_load (Some at) part die number calls count h = tt

stepped_steps : (part : Part) (contact : Option ℕ) (seat : Seat) → Follows part seat
    → StepsTo (Puts contact part seat.die (try_now seat) (calls_of_running part seat ++ calls_of_step part seat (arrived part None seat)))
    part seat.die (try_now seat) (stepped_try part contact seat (arrived part contact seat))
unfolding arrived
stepped_steps part contact seat follows = go seat.running follows
  where
    die : ℕ
    die = seat.die

    number : ℕ
    number = try_now seat

    begun : Step
    begun = onward part number (fresh_try part die number) 0

    fresh : (step : Step) → StepsTo (λ n. n ≡ 0) part die number step
        → StepsTo (Puts contact part die number (calls_of_step part seat step)) part die number (stepped_try part contact seat step)
    fresh (goes r) s =
        subst (λ (calls : Calls). StepsTo (Puts contact part die number (calls ++ calls_of_next part seat r)) part die number
        (before_batch part contact seat r)) (no_cycles part die number r.going.number s.1) (before_steps part contact seat r s.0)
    fresh (ends t) s = (s.0, puts contact part die number [] t.cycles (no_cycles part die number t.cycles s.1))

    load : Step
    load = ends (unloaded number)

    go : (running : Option Running) → IfSome running (IsUnderway part die number)
        → StepsTo (Puts contact part die number
        (option_map_or (λ (r : Running). calls_of_try part die number r.going.number) running []
        ++ calls_of_step part seat (option_map_or goes running begun)))
        part die number (stepped_try part contact seat (option_map_or goes running (cond (is_at_load contact) load begun)))
    go (Some r) u = before_steps part contact seat r u
    go None _ =
        cond_both (is_at_load contact) load begun
        (λ (s : Step). StepsTo (Puts contact part die number (calls_of_step part seat begun)) part die number (stepped_try part contact seat s))
        (λ h. (refl, at_load contact part die number (calls_of_step part seat begun) 0 h))
        (λ _. fresh begun (onward_steps (λ n. n ≡ 0) part die number (fresh_try part die number) 0 (omega arith) (fresh_stands part die number) refl))

-- ---- behind a poll

-- the calls of tries with one more
trials-push : (part : Part) (die : ℕ) (ts : List Trial) (t : Trial)
    → calls_of_trials part die (ts ++ t ∷ []) ≡ calls_of_trials part die ts ++ calls_of_trial part die t
trials-push part die ts t =
    flat_map-append (calls_of_trial part die) ts (t ∷ [])
    ∙ ap (λ (l : Calls). calls_of_trials part die ts ++ l) (append-nil (calls_of_trial part die t))

-- the calls of a poll that comes behind others
module _ (part : Part) (seat : Seat) (taken : ℕ) (none : seat.waiting ≡ None) where
  abbrev so_far_and : Calls
  so_far_and = calls_of_running part seat ++ calls_of_poll part seat

  joined : (calls : Calls) → calls ≡ so_far_and
      → calls_of_trials part seat.die seat.trials ++ calls ≡ calls_so_far part seat ++ calls_of_poll part seat
  joined calls is =
      ap (λ (l : Calls). calls_of_trials part seat.die seat.trials ++ l) is
      ∙ sym (append_assoc (calls_of_trials part seat.die seat.trials) (calls_of_running part seat) (calls_of_poll part seat))

  goes_taped : (running : Running) → calls_of_try part seat.die (try_now seat) running.going.number ≡ so_far_and
      → Tapes part seat (with_taken (moved part seat (goes running)) taken)
  goes_taped running is = record {
    on = λ _. joined (calls_of_try part seat.die (try_now seat) running.going.number) is;
    over = λ entry waits. absurd (none_or_some seat.waiting entry none waits);
  }

  again_taped : (t : Trial) → calls_of_trial part seat.die t ≡ so_far_and
      → Tapes part seat (with_taken (record seat { trials = seat.trials ++ t ∷ []; running = None }) taken)
  again_taped t is = record {
    on = λ _.
        append-nil (calls_of_trials part seat.die (seat.trials ++ t ∷ []))
        ∙ trials-push part seat.die seat.trials t ∙ joined (calls_of_trial part seat.die t) is;
    over = λ entry waits. absurd (none_or_some seat.waiting entry none waits);
  }

  over_taped : (t : Trial) → calls_of_trial part seat.die t ≡ so_far_and
      → Tapes part seat (with_taken (with_record part seat t) taken)
  over_taped t is = record {
    on = λ waits. absurd (none_or_some (with_record part seat t).waiting made waits refl);
    over = λ entry waits.
        subst (λ (r : Record). calls_of part r ≡ calls_so_far part seat ++ calls_of_poll part seat) (same entry waits)
        (trials-push part seat.die seat.trials t ∙ joined (calls_of_trial part seat.die t) is);
  }
    where
      made : Record
      made = record { site = part.site; die = seat.die; trials = seat.trials ++ t ∷ [] }

      same : (entry : Record) → Some made ≡ Some entry → made ≡ entry
      same entry e = cc

  moved_taped : (step : Step)
      → StepsTo (λ n. calls_of_try part seat.die (try_now seat) n ≡ so_far_and) part seat.die (try_now seat) step
      → Tapes part seat (with_taken (moved part seat step) taken)
  unfolding with_trial
  moved_taped (goes running) s = goes_taped running s.1
  moved_taped (ends t) s =
      let is = ap (λ (n : ℕ). calls_of_try part seat.die n t.cycles) s.0 ∙ s.1 in
      cond_both (is_fail t.verdict && ltb (try_now seat) (lot_in part).tries)
      (record seat { trials = seat.trials ++ t ∷ []; running = None }) (with_record part seat t)
      (λ (new : Seat). Tapes part seat (with_taken new taken)) (λ _. again_taped t is) (λ _. over_taped t is)

-- where a try stands behind a poll
moved_follows : (At : ℕ → Type 0) (part : Part) (seat : Seat) (taken : ℕ) (step : Step) → StepsTo At part seat.die (try_now seat) step
    → Follows part (with_taken (moved part seat step) taken)
unfolding with_trial
moved_follows At part seat taken (goes running) s = s.0
moved_follows At part seat taken (ends t) s =
    cond_both (is_fail t.verdict && ltb (try_now seat) (lot_in part).tries)
    (record seat { trials = seat.trials ++ t ∷ []; running = None }) (with_record part seat t)
    (λ (new : Seat). Follows part (with_taken new taken)) (λ _. tt) (λ _. tt)

pub poll_follows : (part : Part) (contact : Option ℕ) (seat : Seat) → Follows part seat → Follows part (poll part contact seat)
unfolding poll
poll_follows part contact seat follows =
    let arrival = arrived part contact seat in
    cond_both (rests part seat) seat (polled_from part contact seat arrival) (Follows part) (λ _. follows)
    (λ _. moved_follows (Puts contact part seat.die (try_now seat) (calls_of_running part seat ++ calls_of_step part seat (arrived part None seat)))
    part seat (taken_at seat arrival) (stepped_try part contact seat arrival) (stepped_steps part contact seat follows))

pub poll_tapes : (part : Part) (seat : Seat) → Follows part seat → rests part seat ≡ false → Tapes part seat (poll part None seat)
unfolding poll
poll_tapes part seat follows works =
    subst (Tapes part seat) (sym (cond-false (rests part seat) seat (polled_from part None seat arrival) works))
    (moved_taped part seat (taken_at seat arrival) (none_of_waiting seat.waiting parts.0) (stepped_try part None seat arrival)
    (subst (λ (calls : Calls). StepsTo (λ n. calls_of_try part seat.die (try_now seat) n ≡ calls_of_running part seat ++ calls) part seat.die
    (try_now seat) (stepped_try part None seat arrival)) (sym (poll_calls part seat works)) (stepped_steps part None seat follows)))
  where
    arrival : Step
    arrival = arrived part None seat

    parts : (is_some seat.waiting ≡ false) × (leb (dies_in part) seat.die ≡ false)
    parts = or_parts (is_some seat.waiting) (leb (dies_in part) seat.die) works

    none_of_waiting : (o : Option Record) → is_some o ≡ false → o ≡ None
    none_of_waiting None h = refl
    none_of_waiting (Some r) h = absurd (true≢false h)

-- ---- all that polls bring about

follows_all : (part : Part) (seat : Seat) → Arises part seat → Follows part seat
follows_all part _ first = tt
follows_all part _ (asked seat word arises) = follows_all part seat arises
follows_all part _ (polled seat contact arises) = poll_follows part contact seat (follows_all part seat arises)
follows_all part _ (filed seat arises) = follows_all part seat arises

pub polls_are_taped : (part : Part) (seat : Seat) → Arises part seat → rests part seat ≡ false → Tapes part seat (poll part None seat)
polls_are_taped part seat arises works = poll_tapes part seat (follows_all part seat arises) works
