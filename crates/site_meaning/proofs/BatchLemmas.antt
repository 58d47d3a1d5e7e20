-- A try under way, one batch on.
use Rattle.std.proofs.Common.{◌≡◌, ℕ, suc, ◌+◌, ◌-◌, ◌^◌, ◌≤◌, Bool, false, ◌||◌, cond, ltb, eqb, min, List, [], ◌∷◌, ◌++◌, length, take, drop, Option, Some, refl, sym, ap, ◌∙◌, subst, arith}
use Rattle.std.proofs.lemmas.Bool.{eq-eqb, both_ways}
use Rattle.std.proofs.lemmas.List.{append_assoc, length-append, length_push}
use Rattle.tester_types.specs.declared.cycle.Cycle.{Cycle}
use Rattle.tester_types.specs.declared.record.Fail.{Fail}
use Rattle.tester_types.specs.declared.record.Verdict.TheVariants as verdict
use Rattle.packed_code.specs.Program.{Program}
use Rattle.packed_code.specs.Cycles.{cycles_of}
use Rattle.site_meaning.specs.Playing.{Stand, PlayedCycle, FitStand}
use Rattle.site_meaning.specs.Part.{Part, IsPart, lot_in, order_in, stand_for}
use Rattle.site_meaning.specs.Trials.{played, after_cycles, fails_in, has_fails, Batch, more_in, cycles_in}
use Rattle.site_meaning.specs.Polls.{Running, more_fails, more_kept, next_cycles, next_played, after_batch, is_ordered}
use Rattle.site_meaning.proofs.PlayedLemmas.{length-played, number-after_cycles, fails_in-append}
use Rattle.site_meaning.proofs.ReachedLemmas.{Before, Before-append, Before-later}
use Rattle.site_meaning.proofs.InstantLemmas.{batch_some}
use Rattle.site_meaning.proofs.TimeLemmas.{time-after_cycles, played-before}
use Rattle.site_meaning.proofs.UnderwayLemmas.{coming_of, coming, coming_more, next_batch, rest_of, drop-more, some_left, some_capped, blamed-more, Underway, IsBefore, cycles_in-push, min-more, take-more}

-- the next batch is the first of what is to come
pub coming-next : (part : Part) (die number : ℕ) (running : Running) (later : ℕ) → IsPart part → IsBefore part running
    → coming part die number running later
    ≡ next_batch part die number running ∷ coming part die number (after_batch part die number running) later
unfolding after_batch next_played next_cycles
coming-next part die number running later is before =
    coming_more stand more code running.exec (ltb 0 running.total) running.going rest later (some_left running.done (cycles_of code running.exec) before)
    ∙ ap with_size size
    ∙ ap with_dirty (sym (some_capped (2 ^ 64 - 1) running.total (length (fails_in first)) (omega arith)))
    ∙ ap with_rest (sym (drop-more running.done whole (cycles_of code running.exec)))
  where
    stand : Stand
    stand = stand_for part die number

    code : Program
    code = part.code

    more : ℕ
    more = more_in part

    whole : ℕ
    whole = (lot_in part).batch

    size : suc more ≡ whole
    size = let some = batch_some part is in omega (arith, some)

    rest : List Cycle
    rest = rest_of code running

    first : List PlayedCycle
    first = played stand running.exec running.going (take whole rest)

    batch : Batch
    batch = record { exec = running.exec; cycles = first }

    with_size : ℕ → List Batch
    with_size n =
        record { exec = running.exec; cycles = played stand running.exec running.going (take n rest) }
        ∷ coming_of stand more code running.exec (ltb 0 running.total || has_fails (played stand running.exec running.going (take n rest)))
        (after_cycles stand running.going (take n rest)) (drop n rest) later

    with_dirty : Bool → List Batch
    with_dirty b = batch ∷ coming_of stand more code running.exec b (after_cycles stand running.going (take whole rest)) (drop whole rest) later

    with_rest : List Cycle → List Batch
    with_rest l =
        batch ∷ coming_of stand more code running.exec (ltb 0 (more_fails running.total (fails_in first)))
        (after_cycles stand running.going (take whole rest)) l later

-- a batch without the plan's order: no order stands before it or an earlier one
pub free_more : (order : Option ℕ) (now : ℕ) → ((b : ℕ) → order ≡ Some b → now ≤ b) → is_ordered order now ≡ false
    → (b : ℕ) → order ≡ Some b → now + 1 ≤ b
free_more order now free apart b is =
    let here : is_ordered (Some b) now ≡ false = subst (λ (o : Option ℕ). is_ordered o now ≡ false) is apart in
    let low = free b is in
    let other : b ≡ now → ⊥ = λ e. both_ways (eqb b now) here (eq-eqb b now e) in
    omega (arith, low, other)

-- the next batch has its cycles
length-next : (part : Part) (die number : ℕ) (running : Running)
    → length (next_played part die number running) ≡ length (next_cycles part running)
unfolding next_played
length-next part die number running =
    length-played (stand_for part die number) running.exec running.going (next_cycles part running)

-- its moments are before its end
before_end : (part : Part) (die number : ℕ) (running : Running) → FitStand (stand_for part die number)
    → Before (after_cycles (stand_for part die number) running.going (next_cycles part running)).time
    (next_played part die number running)
unfolding next_played
before_end part die number running fit =
    played-before (stand_for part die number) running.exec running.going (next_cycles part running) fit

-- behind a batch
pub next_underway : (part : Part) (die number : ℕ) (running : Running) → IsPart part → FitStand (stand_for part die number)
    → IsBefore part running → is_ordered (order_in part die number) running.batch ≡ false
    → Underway part die number running → Underway part die number (after_batch part die number running)
unfolding after_batch
next_underway part die number running is fit before apart u = record {
  ran = u.ran ++ batch ∷ [];
  later = u.later;
  place = u.place;
  whole = u.whole ∙ ap (λ (l : List Batch). u.ran ++ l) (coming-next part die number running u.later is before)
      ∙ sym (append_assoc u.ran (batch ∷ []) (coming part die number (after_batch part die number running) u.later));
  finished = finished_is;
  batches = batches_are;
  counted = ap (λ (n : ℕ). more_fails n more) u.counted ∙ min-more (2 ^ 64 - 1) (length fails) (length more)
      ∙ ap (λ (n : ℕ). min n (2 ^ 64 - 1)) (sym (length-append fails more) ∙ ap length (sym all_fails));
  first = ap (λ (l : List Fail). more_kept part l more) u.first ∙ take-more (lot_in part).keep fails more
      ∙ ap (take (lot_in part).keep) (sym all_fails);
  blames = blamed-more running.exec (ltb 0 running.total) u.ran batch refl u.blames
      ∙ ap (λ (b : Bool). cond b (verdict.Fail running.exec) verdict.Pass)
      (sym (some_capped (2 ^ 64 - 1) running.total (length more) (omega arith)));
  within = subst (Before after.going.time) (sym (cycles_in-push u.ran batch))
      (Before-append after.going.time (cycles_in u.ran) next
      (Before-later running.going.time after.going.time (time-after_cycles stand running.going (next_cycles part running)) (cycles_in u.ran) u.within)
      next_before);
  free = λ b is_order.
      let long = length_push u.ran batch in
      let later = free_more (order_in part die number) running.batch (λ c e. subst (λ (n : ℕ). n ≤ c) (sym u.batches) (u.free c e)) apart b is_order in
      let count = u.batches in
      omega (arith, long, later, count);
}
  where
    stand : Stand
    stand = stand_for part die number

    batch : Batch
    batch = next_batch part die number running

    next : List PlayedCycle
    next = next_played part die number running

    after : Running
    after = after_batch part die number running

    fails : List Fail
    fails = fails_in (cycles_in u.ran)

    more : List Fail
    more = fails_in next

    all_fails : fails_in (cycles_in (u.ran ++ batch ∷ [])) ≡ fails ++ more
    all_fails = ap fails_in (cycles_in-push u.ran batch) ∙ fails_in-append (cycles_in u.ran) next

    finished_is : after.going.number ≡ length (cycles_in (u.ran ++ batch ∷ []))
    finished_is =
        let so_far = u.finished in
        let here = number-after_cycles stand running.going (next_cycles part running) in
        let count = length-next part die number running in
        let sum = ap length (cycles_in-push u.ran batch) ∙ length-append (cycles_in u.ran) next in
        omega (arith, so_far, here, count, sum)

    batches_are : running.batch + 1 ≡ length (u.ran ++ batch ∷ [])
    batches_are =
        let count = u.batches in
        let long = length_push u.ran batch in
        omega (arith, count, long)

    next_before : Before after.going.time next
    next_before = before_end part die number running fit
