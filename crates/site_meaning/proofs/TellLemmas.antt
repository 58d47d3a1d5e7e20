-- What a poll's end of a try tells: no live stop but the word that was taken, and no contact but the poll's own.
use Rattle.std.proofs.Common.{◌≡◌, ℕ, ◌+◌, ◌<◌, ◌≤◌, ◌⊎◌, Bool, true, false, cond, ltb, List, [], ◌∷◌, length, Option, Some, None, refl, sym, ap, ◌∙◌, subst, arith, inl, inr}
use Rattle.std.specs.List.{filter_map, cons_option}
use Rattle.std.specs.Option.{option_map_or}
use Rattle.std.proofs.lemmas.Bool.{eqb-true, ltb-true, cond_both}
use Rattle.tester_types.specs.declared.record.By.TheVariants as by
use Rattle.tester_types.specs.declared.record.Verdict.TheVariants as verdict
use Rattle.tester_types.specs.declared.record.Trial.{Trial}
use Rattle.packed_code.specs.Cycles.{cycles_of}
use Rattle.site_meaning.specs.Part.{Part, order_in}
use Rattle.site_meaning.specs.Trials.{Lost, reached}
use Rattle.site_meaning.specs.Polls.{Running, Seat, try_now, Step, goes, ends, ended_now, ended_at, unloaded, next_exec, with_exec, onward, fresh_try, is_at_load, settled, after_batch, next_played, run_batch, is_ordered, before_batch, arrived, stepped_try, taken_at, live_number, Climbs}

-- the live stops that tries tell
abbrev pub lives : List Trial → List ℕ
lives trials = filter_map (λ (t : Trial). live_number t.verdict) trials

-- numbers that rise lead up
climbs_up : (from to : ℕ) (numbers : List ℕ) → Climbs from numbers to → from ≤ to
climbs_up from to [] climbs = omega (arith, climbs)
climbs_up from to (n ∷ numbers) climbs = let more = climbs_up n to numbers climbs.1 in omega (arith, climbs.0, more)

-- those that lead nowhere are none
pub no_climb : (from to : ℕ) (numbers : List ℕ) → Climbs from numbers to → to ≤ from → numbers ≡ []
no_climb from to [] climbs low = refl
no_climb from to (n ∷ numbers) climbs low =
    absurd (let more = climbs_up n to numbers climbs.1 in omega (arith, climbs.0, more, low))

-- a list to which one may have been added is empty
pub cons_none : (o : Option ℕ) (l : List ℕ) → cons_option o l ≡ [] → (o ≡ None) × (l ≡ [])
cons_none None l h = (refl, h)
cons_none (Some x) l h = absurd (not_so h)
  where
    not_so : x ∷ l ≡ [] → ⊥
    not_so e = cc

-- it tells no live stop, and no contact but the poll's own
abbrev pub Quiet : Option ℕ → Step → Type 0
Quiet contact (goes running) = Unit {0}
Quiet contact (ends t) =
    (live_number t.verdict ≡ None) × ((at : ℕ) → t.verdict ≡ verdict.Contact at → contact ≡ Some at)

quiet_pass : (contact : Option ℕ) (number : ℕ) (running : Running) → Quiet contact (ends (ended_now number running verdict.Pass))
quiet_pass contact number running = (refl, λ at e. absurd (apart at e))
  where
    apart : (at : ℕ) → verdict.Pass ≡ verdict.Contact at → ⊥
    apart at e = cc

quiet_fail : (contact : Option ℕ) (number : ℕ) (running : Running) (exec : ℕ)
    → Quiet contact (ends (ended_now number running (verdict.Fail exec)))
quiet_fail contact number running exec = (refl, λ at e. absurd (apart at e))
  where
    apart : (at : ℕ) → verdict.Fail exec ≡ verdict.Contact at → ⊥
    apart at e = cc

quiet_onward : (contact : Option ℕ) (part : Part) (number : ℕ) (running : Running) (from : ℕ)
    → Quiet contact (onward part number running from)
unfolding onward
quiet_onward contact part number running from = go (next_exec part.code from)
  where
    go : (next : Option ℕ) → Quiet contact (option_map_or (λ exec. goes (with_exec running exec)) next (ends (ended_now number running verdict.Pass)))
    go None = quiet_pass contact number running
    go (Some exec) = tt

quiet_settled : (contact : Option ℕ) (part : Part) (number : ℕ) (running : Running) → Quiet contact (settled part number running)
unfolding settled
quiet_settled contact part number running =
    let failed : Step = ends (ended_now number running (verdict.Fail running.exec)) in
    let next : Step = onward part number running (running.exec + 1) in
    cond_both (ltb running.done (length (cycles_of part.code running.exec))) (goes running) (cond (ltb 0 running.total) failed next)
    (Quiet contact) (λ _. tt)
    (λ _. cond_both (ltb 0 running.total) failed next (Quiet contact) (λ _. quiet_fail contact number running running.exec)
    (λ _. quiet_onward contact part number running (running.exec + 1)))

quiet_run : (part : Part) (die number : ℕ) (contact : Option ℕ) (running : Running)
    → Quiet contact (run_batch part die number contact running)
unfolding run_batch
quiet_run part die number None running = quiet_settled None part number (after_batch part die number running)
quiet_run part die number (Some at) running = go (reached at (next_played part die number running))
  where
    same : (a b : ℕ) → verdict.Contact a ≡ verdict.Contact b → Some a ≡ Some b
    same a b e = cc

    go : (place : Option Lost) → Quiet (Some at) (option_map_or (λ lost. ends (ended_at part number running at lost)) place
        (settled part number (after_batch part die number running)))
    go None = quiet_settled (Some at) part number (after_batch part die number running)
    go (Some lost) = (refl, λ a e. same at a e)

pub quiet_arrived : (part : Part) (contact : Option ℕ) (seat : Seat) → Quiet contact (arrived part contact seat)
unfolding arrived
quiet_arrived part contact seat = go seat.running
  where
    fresh : Step
    fresh = onward part (try_now seat) (fresh_try part seat.die (try_now seat)) 0

    at_load : (c : Option ℕ) → is_at_load c ≡ true → c ≡ Some 0
    at_load None h = absurd (not_true h)
      where
        not_true : false ≡ true → ⊥
        not_true e = cc
    at_load (Some at) h = ap (λ (n : ℕ). Some n) (eqb-true at 0 h)

    same : (a b : ℕ) → verdict.Contact a ≡ verdict.Contact b → a ≡ b
    same a b e = cc

    begun : Quiet contact (cond (is_at_load contact) (ends (unloaded (try_now seat))) fresh)
    begun =
        cond_both (is_at_load contact) (ends (unloaded (try_now seat))) fresh (Quiet contact)
        (λ h. (refl, λ at e. at_load contact h ∙ ap (λ (n : ℕ). Some n) (same 0 at e)))
        (λ _. quiet_onward contact part (try_now seat) (fresh_try part seat.die (try_now seat)) 0)

    go : (running : Option Running)
        → Quiet contact (option_map_or goes running (cond (is_at_load contact) (ends (unloaded (try_now seat))) fresh))
    go None = begun
    go (Some r) = tt

-- a step of a try, with the number that is taken then
abbrev pub Tells : Option ℕ → Seat → ℕ → Step → Type 0
Tells contact seat taken (goes running) = taken ≡ seat.taken
Tells contact seat taken (ends t) =
    Climbs seat.taken (lives (t ∷ [])) taken × ((taken ≡ seat.taken) ⊎ (taken ≡ seat.word))
    × ((at : ℕ) → t.verdict ≡ verdict.Contact at → contact ≡ Some at)

quiet_tells : (contact : Option ℕ) (seat : Seat) (taken : ℕ) (step : Step) → taken ≡ seat.taken → Quiet contact step
    → Tells contact seat taken step
quiet_tells contact seat taken (goes running) same quiet = same
quiet_tells contact seat taken (ends t) same quiet =
    (subst (λ (o : Option ℕ). Climbs seat.taken (cons_option o []) taken) (sym quiet.0) same, inl same, quiet.1)

live_tells : (contact : Option ℕ) (seat : Seat) (running : Running) → seat.taken < seat.word
    → Tells contact seat seat.word (ends (ended_now (try_now seat) running (verdict.Stopped running.batch (by.Desk seat.word))))
live_tells contact seat running more = ((more, refl), inr refl, λ at e. absurd (apart at e))
  where
    apart : (at : ℕ) → verdict.Stopped running.batch (by.Desk seat.word) ≡ verdict.Contact at → ⊥
    apart at e = cc

plan_quiet : (contact : Option ℕ) (seat : Seat) (running : Running)
    → Quiet contact (ends (ended_now (try_now seat) running (verdict.Stopped running.batch by.Plan)))
plan_quiet contact seat running = (refl, λ at e. absurd (apart at e))
  where
    apart : (at : ℕ) → verdict.Stopped running.batch by.Plan ≡ verdict.Contact at → ⊥
    apart at e = cc

before_batch_tells : (part : Part) (contact : Option ℕ) (seat : Seat) (running : Running)
    → Tells contact seat (taken_at seat (goes running)) (before_batch part contact seat running)
unfolding before_batch
before_batch_tells part contact seat running = go (ltb seat.taken seat.word) refl
  where
    order : Option ℕ
    order = order_in part seat.die (try_now seat)

    runs : Step
    runs = run_batch part seat.die (try_now seat) contact running

    live_end : Step
    live_end = ends (ended_now (try_now seat) running (verdict.Stopped running.batch (by.Desk seat.word)))

    plan_end : Step
    plan_end = ends (ended_now (try_now seat) running (verdict.Stopped running.batch by.Plan))

    others : Quiet contact (cond (is_ordered order running.batch) plan_end runs)
    others =
        cond_both (is_ordered order running.batch) plan_end runs (Quiet contact) (λ _. plan_quiet contact seat running)
        (λ _. quiet_run part seat.die (try_now seat) contact running)

    go : (d : Bool) → ltb seat.taken seat.word ≡ d
        → Tells contact seat (cond d seat.word seat.taken) (cond d live_end (cond (is_ordered order running.batch) plan_end runs))
    go true h = live_tells contact seat running (ltb-true seat.taken seat.word h)
    go false h = quiet_tells contact seat seat.taken (cond (is_ordered order running.batch) plan_end runs) refl others

pub stepped_tells : (part : Part) (contact : Option ℕ) (seat : Seat) (arrival : Step) → Quiet contact arrival
    → Tells contact seat (taken_at seat arrival) (stepped_try part contact seat arrival)
stepped_tells part contact seat (goes running) quiet = before_batch_tells part contact seat running
stepped_tells part contact seat (ends t) quiet = quiet_tells contact seat seat.taken (ends t) refl quiet
