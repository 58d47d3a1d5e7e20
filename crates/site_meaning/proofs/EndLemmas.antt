-- How a try under way ends: as the uncut try does with the cut that its verdict tells.
use Rattle.std.proofs.Common.{cond, ◌≡◌, ℕ, zero, suc, ◌+◌, ◌-◌, ◌^◌, ◌<◌, ◌≤◌, Bool, true, false, ◌&&◌, ltb, eqb, min, List, [], ◌∷◌, ◌++◌, length, take, Option, Some, None, refl, sym, ap, ◌∙◌, subst, arith, inl, inr}
use Rattle.std.specs.List.{find}
use Rattle.std.specs.Option.{option_map_or}
use Rattle.std.proofs.lemmas.Bool.{cond_both, cases_lt, lt-ltb, le-ltb, le-leb, ne_eqb, eqb-true, and_from, cond-true, cond-false, false≢true}
use Rattle.std.proofs.lemmas.List.{length-append, take_at}
use Rattle.tester_types.specs.declared.record.By.TheVariants as by
use Rattle.tester_types.specs.declared.record.Fail.{Fail}
use Rattle.tester_types.specs.declared.record.Verdict.{Verdict}
use Rattle.tester_types.specs.declared.record.Verdict.TheVariants as verdict
use Rattle.tester_types.specs.declared.record.Trial.{Trial}
use Rattle.site_meaning.specs.Playing.{PlayedCycle}
use Rattle.site_meaning.specs.Part.{Part, IsPart, lot_in, order_in}
use Rattle.site_meaning.specs.Trials.{with_cut, Cut, cut_of_verdict, has_fails, fails_in, Batch, batches_of, Outcome, cycles_in, ended, blamed, uncut, live, touch, before_order, by_plan, comes_first, Lost, reached, touched, recorded, trial}
use Rattle.site_meaning.specs.Records.{IsTrue}
use Rattle.site_meaning.specs.Polls.{Running, ended_now, ended_at, unloaded, next_played, after_batch, is_ordered}
use Rattle.site_meaning.proofs.ReachedLemmas.{Apart, AllAt-weaker, reached-apart, before_is_apart, From, Before-later, behind, none_or_some, reached-behind, reached-front}
use Rattle.site_meaning.proofs.UnderwayLemmas.{coming, next_batch, Underway, IsBefore, cycles_in-append, min-more, take-more}
use Rattle.site_meaning.proofs.BatchLemmas.{coming-next}

-- ---- what is recorded

-- tries are one where their parts are
same_trial : (a b : Trial) → a.number ≡ b.number → a.cycles ≡ b.cycles → a.fails ≡ b.fails → a.kept ≡ b.kept
    → a.verdict ≡ b.verdict → a ≡ b
same_trial a b n c f k v =
    let of_number : ℕ → Trial = λ x. record { number = x; cycles = a.cycles; fails = a.fails; kept = a.kept; verdict = a.verdict } in
    let of_cycles : ℕ → Trial = λ x. record { number = b.number; cycles = x; fails = a.fails; kept = a.kept; verdict = a.verdict } in
    let of_fails : ℕ → Trial = λ x. record { number = b.number; cycles = b.cycles; fails = x; kept = a.kept; verdict = a.verdict } in
    let of_kept : List Fail → Trial = λ x. record { number = b.number; cycles = b.cycles; fails = b.fails; kept = x; verdict = a.verdict } in
    let of_verdict : Verdict → Trial = λ x. record { number = b.number; cycles = b.cycles; fails = b.fails; kept = b.kept; verdict = x } in
    ap of_number n ∙ ap of_cycles c ∙ ap of_fails f ∙ ap of_kept k ∙ ap of_verdict v

-- a try that ends behind these batches
pub ended_as : (part : Part) (number : ℕ) (running : Running) (verdict : Verdict) (ran : List Batch)
    → running.going.number ≡ length (cycles_in ran) → running.total ≡ min (length (fails_in (cycles_in ran))) (2 ^ 64 - 1)
    → running.kept ≡ take (lot_in part).keep (fails_in (cycles_in ran))
    → ended_now number running verdict ≡ recorded (lot_in part).keep number (ended ran verdict)
ended_as part number running verdict ran finished counted first =
    same_trial (ended_now number running verdict) (recorded (lot_in part).keep number (ended ran verdict))
    refl finished counted first refl

-- a try that ends behind the batches that ran
pub ended_ran : (part : Part) (die number : ℕ) (running : Running) (verdict : Verdict) (u : Underway part die number running)
    → ended_now number running verdict ≡ recorded (lot_in part).keep number (ended u.ran verdict)
ended_ran part die number running verdict u =
    ended_as part number running verdict u.ran u.finished u.counted u.first

-- a try of which something is to come has so many batches
more_than_ran : (part : Part) (die number : ℕ) (running : Running) (u : Underway part die number running) → IsPart part
    → IsBefore part running → length u.ran < length (batches_of part die number)
more_than_ran part die number running u is before =
    let whole = ap length u.whole ∙ length-append u.ran (coming part die number running u.later) in
    let some = ap length (coming-next part die number running u.later is before) in
    omega (arith, whole, some)

-- ---- a live stop

order_behind : (order : Option ℕ) (now : ℕ) → ((b : ℕ) → order ≡ Some b → now ≤ b) → comes_first now order ≡ true
order_behind None now free = refl
order_behind (Some b) now free = le-leb now b (free b refl)

pub stopped_live : (part : Part) (die number : ℕ) (running : Running) (word : ℕ) → IsPart part → IsBefore part running
    → Underway part die number running
    → ended_now number running (verdict.Stopped running.batch (by.Desk word)) ≡ trial part die number (live running.batch word)
unfolding trial
stopped_live part die number running word is before u =
    ended_ran part die number running how u
    ∙ ap (λ (l : List Batch). recorded keep number (ended l how)) (sym front)
    ∙ ap (recorded keep number) (sym (cond-true test (ended (take running.batch all) how) (by_plan order all) holds))
  where
    how : Verdict
    how = verdict.Stopped running.batch (by.Desk word)

    keep : ℕ
    keep = (lot_in part).keep

    order : Option ℕ
    order = order_in part die number

    all : List Batch
    all = batches_of part die number

    test : Bool
    test = ltb running.batch (length all) && comes_first running.batch order

    front : take running.batch all ≡ u.ran
    front =
        ap (take running.batch) u.whole
        ∙ take_at u.ran (coming part die number running u.later) running.batch (sym u.batches)

    holds : test ≡ true
    holds =
        let count = u.batches in
        let few = more_than_ran part die number running u is before in
        and_from (ltb running.batch (length all)) (comes_first running.batch order) (lt-ltb running.batch (length all) (omega (arith, count, few)))
        (order_behind order running.batch (λ b e. subst (λ (n : ℕ). n ≤ b) (sym u.batches) (u.free b e)))

-- ---- the plan's order

pub ordered_is : (order : Option ℕ) (now : ℕ) → is_ordered order now ≡ true → order ≡ Some now
ordered_is None now h = absurd (false≢true h)
ordered_is (Some b) now h = ap (λ (n : ℕ). Some n) (eqb-true b now h)

pub stopped_by_plan : (part : Part) (die number : ℕ) (running : Running) → IsPart part → IsBefore part running
    → is_ordered (order_in part die number) running.batch ≡ true → Underway part die number running
    → ended_now number running (verdict.Stopped running.batch by.Plan) ≡ trial part die number uncut
unfolding trial
stopped_by_plan part die number running is before ordered u =
    ended_ran part die number running how u
    ∙ ap (λ (l : List Batch). recorded keep number (ended l how)) (sym front)
    ∙ ap (recorded keep number) (sym (cond-true (ltb running.batch (length all)) (ended (take running.batch all) how) (ended all (blamed all)) holds))
    ∙ ap (λ (o : Option ℕ). recorded keep number (by_plan o all)) (sym (ordered_is (order_in part die number) running.batch ordered))
  where
    how : Verdict
    how = verdict.Stopped running.batch by.Plan

    keep : ℕ
    keep = (lot_in part).keep

    all : List Batch
    all = batches_of part die number

    front : take running.batch all ≡ u.ran
    front =
        ap (take running.batch) u.whole
        ∙ take_at u.ran (coming part die number running u.later) running.batch (sym u.batches)

    holds : ltb running.batch (length all) ≡ true
    holds =
        let count = u.batches in
        let few = more_than_ran part die number running u is before in
        lt-ltb running.batch (length all) (omega (arith, count, few))

-- ---- an end by itself

no_order_inside : (order : Option ℕ) (all : List Batch) → ((b : ℕ) → order ≡ Some b → length all ≤ b)
    → by_plan order all ≡ ended all (blamed all)
no_order_inside None all free = refl
no_order_inside (Some b) all free =
    cond-false (ltb b (length all)) (ended (take b all) (verdict.Stopped b by.Plan)) (ended all (blamed all))
    (le-ltb b (length all) (free b refl))

pub ended_by_itself : (part : Part) (die number : ℕ) (ran : List Batch) (how : Verdict)
    → batches_of part die number ≡ ran → blamed ran ≡ how
    → ((b : ℕ) → order_in part die number ≡ Some b → length ran ≤ b)
    → recorded (lot_in part).keep number (ended ran how) ≡ trial part die number uncut
unfolding trial
ended_by_itself part die number ran how whole blames free =
    ap (λ (v : Verdict). recorded keep number (ended ran v)) (sym blames)
    ∙ ap (recorded keep number) (sym (no_order_inside (order_in part die number) ran free))
    ∙ ap (λ (l : List Batch). recorded keep number (by_plan (order_in part die number) l)) (sym whole)
  where
    keep : ℕ
    keep = (lot_in part).keep

-- ---- a contact

pub take-nil : {X : Type 0} (n : ℕ) (xs : List X) → xs ≡ [] → take n xs ≡ []
take-nil zero xs e = refl
take-nil (suc n) xs e = ap (take (suc n)) e

-- at the load
pub touched_at_load : (part : Part) (die number : ℕ) → unloaded number ≡ trial part die number (touch 0)
unfolding trial
touched_at_load part die number =
    same_trial (unloaded number) (recorded (lot_in part).keep number (touched 0 (record { cycles = 0; fails = [] })))
    refl refl refl (sym (take-nil (lot_in part).keep [] refl)) refl

from_is_apart : (now at : ℕ) (cs : List PlayedCycle) → at < now → From now cs → Apart at cs
from_is_apart now at cs early all =
    AllAt-weaker (λ (n : ℕ). now ≤ n) (λ (n : ℕ). n ≡ at → ⊥) (λ n h e. omega (arith, h, e, early)) cs all

-- a contact isn't lost before the first moment
pub reached-from : (now at : ℕ) (cs : List PlayedCycle) (lost : Lost) → From now cs → reached at cs ≡ Some lost → now ≤ at
reached-from now at cs lost all is =
    elim (cases_lt at now) [
      | inl early ↦ absurd (none_or_some (reached at cs) lost (reached-apart at cs (from_is_apart now at cs early all)) is)
      | inr late ↦ late
    ]

-- what stands in front of an order that is behind a list's first items
front_of_order : {X : Type 0} (n : ℕ) (xs : List X) (x : X) (ys : List X) → length xs + 1 ≤ n
    → (zs : List X) × (take n (xs ++ x ∷ ys) ≡ xs ++ x ∷ zs)
front_of_order zero xs x ys h = absurd (omega (arith, h))
front_of_order (suc n) [] x ys h = (take n ys, refl)
front_of_order {X} (suc n) (w ∷ xs) x ys h =
    let later = front_of_order n xs x ys (omega (arith, h)) in
    (later.0, ap (λ (l : List X). w ∷ l) later.1)

before_order-front : (order : Option ℕ) (xs : List Batch) (x : Batch) (ys : List Batch)
    → ((b : ℕ) → order ≡ Some b → length xs + 1 ≤ b)
    → (zs : List Batch) × (before_order order (xs ++ x ∷ ys) ≡ xs ++ x ∷ zs)
before_order-front None xs x ys free = (ys, refl)
before_order-front (Some b) xs x ys free = front_of_order b xs x ys (free b refl)

-- the next batch comes with the cycles behind those that ran
cycles_in-next : (ran : List Batch) (next : Batch) (zs : List Batch)
    → cycles_in (ran ++ next ∷ zs) ≡ cycles_in ran ++ (next.cycles ++ cycles_in zs)
unfolding cycles_in
cycles_in-next ran next zs = cycles_in-append ran (next ∷ zs)

-- the contact is lost in the next batch
pub reached_next : (part : Part) (die number : ℕ) (running : Running) (at : ℕ) (lost : Lost) (u : Underway part die number running)
    → IsPart part → IsBefore part running
    → ((b : ℕ) → order_in part die number ≡ Some b → length u.ran + 1 ≤ b) → running.going.time ≤ at
    → reached at (next_played part die number running) ≡ Some lost
    → reached at (cycles_in (before_order (order_in part die number) (batches_of part die number)))
    ≡ Some (behind (cycles_in u.ran) lost)
reached_next part die number running at lost u is before free late found =
    ap (λ (l : List Batch). reached at (cycles_in (before_order order l))) whole
    ∙ ap (λ (l : List Batch). reached at (cycles_in l)) front.1
    ∙ ap (reached at) (cycles_in-next u.ran (next_batch part die number running) front.0)
    ∙ reached-behind at (cycles_in u.ran) (next ++ cycles_in front.0) lost
    (before_is_apart at (cycles_in u.ran) (Before-later running.going.time at late (cycles_in u.ran) u.within))
    (reached-front at next (cycles_in front.0) lost found)
  where
    order : Option ℕ
    order = order_in part die number

    next : List PlayedCycle
    next = next_played part die number running

    others : List Batch
    others = coming part die number (after_batch part die number running) u.later

    whole : batches_of part die number ≡ u.ran ++ next_batch part die number running ∷ others
    whole = u.whole ∙ ap (λ (l : List Batch). u.ran ++ l) (coming-next part die number running u.later is before)

    front : (zs : List Batch) × (before_order order (u.ran ++ next_batch part die number running ∷ others) ≡ u.ran ++ next_batch part die number running ∷ zs)
    front = before_order-front order u.ran (next_batch part die number running) others free

-- the option that a place gives
at_place : (o : Option Lost) (at : ℕ) (lost : Lost) (other : Outcome) → o ≡ Some lost
    → touched at lost ≡ option_map_or (touched at) o other
at_place o at lost other e = ap (λ (p : Option Lost). option_map_or (touched at) p other) (sym e)

pub touched_next : (part : Part) (die number : ℕ) (running : Running) (at : ℕ) (lost : Lost) → IsPart part
    → IsBefore part running → (u : Underway part die number running)
    → ((b : ℕ) → order_in part die number ≡ Some b → length u.ran + 1 ≤ b) → running.going.time ≤ at → (at ≡ 0 → ⊥)
    → reached at (next_played part die number running) ≡ Some lost
    → ended_at part number running at lost ≡ trial part die number (touch at)
unfolding trial
touched_next part die number running at lost is before u free late some found =
    same_trial (ended_at part number running at lost) (recorded keep number (touched at all_lost)) refl cycles_are fails_are kept_are refl
    ∙ ap (recorded keep number) (at_place (reached at (cycles_in (before_order order all))) at all_lost (by_plan order all) place)
    ∙ ap (recorded keep number) (sym (cond-false (eqb at 0) (touched 0 (record { cycles = 0; fails = [] })) other (ne_eqb at 0 some)))
  where
    keep : ℕ
    keep = (lot_in part).keep

    order : Option ℕ
    order = order_in part die number

    all : List Batch
    all = batches_of part die number

    other : Outcome
    other = option_map_or (touched at) (reached at (cycles_in (before_order order all))) (by_plan order all)

    all_lost : Lost
    all_lost = behind (cycles_in u.ran) lost

    place : reached at (cycles_in (before_order order all)) ≡ Some all_lost
    place = reached_next part die number running at lost u is before free late found

    fails : List Fail
    fails = fails_in (cycles_in u.ran)

    cycles_are : running.going.number + lost.cycles ≡ length (cycles_in u.ran) + lost.cycles
    cycles_are = ap (λ (n : ℕ). n + lost.cycles) u.finished

    fails_are : min (running.total + length lost.fails) (2 ^ 64 - 1) ≡ min (length (fails ++ lost.fails)) (2 ^ 64 - 1)
    fails_are =
        ap (λ (n : ℕ). min (n + length lost.fails) (2 ^ 64 - 1)) u.counted
        ∙ min-more (2 ^ 64 - 1) (length fails) (length lost.fails)
        ∙ ap (λ (n : ℕ). min n (2 ^ 64 - 1)) (sym (length-append fails lost.fails))

    kept_are : take keep (running.kept ++ lost.fails) ≡ take keep (fails ++ lost.fails)
    kept_are = ap (λ (l : List Fail). take keep (l ++ lost.fails)) u.first ∙ take-more keep fails lost.fails

-- ---- a try is true under its own cut

-- what a batch is blamed for tells no cut
told_by_batch : (found : Option Batch)
    → cut_of_verdict (option_map_or (λ (b : Batch). verdict.Fail b.exec) found verdict.Pass) ≡ uncut
told_by_batch None = refl
told_by_batch (Some b) = refl

told_by_blame : (batches : List Batch) → cut_of_verdict (blamed batches) ≡ uncut
unfolding blamed
told_by_blame batches = told_by_batch (find (λ (b : Batch). has_fails b.cycles) batches)

-- what the plan makes of a try tells none
told_by_plan : (order : Option ℕ) (batches : List Batch) → cut_of_verdict (by_plan order batches).verdict ≡ uncut
told_by_plan None batches = told_by_blame batches
told_by_plan (Some b) batches =
    cond_both (ltb b (length batches)) (ended (take b batches) (verdict.Stopped b by.Plan)) (ended batches (blamed batches))
    (λ (o : Outcome). cut_of_verdict o.verdict ≡ uncut) (λ _. refl) (λ _. told_by_blame batches)

-- with the cut that it tells a try is what it is
abbrev IsOwn : Option ℕ → List Batch → Outcome → Type 0
IsOwn order batches outcome = outcome ≡ with_cut order batches (cut_of_verdict outcome.verdict)

own_plan : (order : Option ℕ) (batches : List Batch) → IsOwn order batches (by_plan order batches)
own_plan order batches = sym (ap (with_cut order batches) (told_by_plan order batches))

own_cut : (order : Option ℕ) (batches : List Batch) (cut : Cut) → IsOwn order batches (with_cut order batches cut)
own_cut order batches uncut = own_plan order batches
own_cut order batches (live b n) = go (ltb b (length batches) && comes_first b order) refl
  where
    stopped : Outcome
    stopped = ended (take b batches) (verdict.Stopped b (by.Desk n))

    go : (here : Bool) → (ltb b (length batches) && comes_first b order) ≡ here → IsOwn order batches (cond here stopped (by_plan order batches))
    go true is = sym (cond-true (ltb b (length batches) && comes_first b order) stopped (by_plan order batches) is)
    go false is = own_plan order batches
own_cut order batches (touch at) = go (eqb at 0) refl
  where
    unreached : Outcome
    unreached = touched 0 (record { cycles = 0; fails = [] })

    found : Option Lost
    found = reached at (cycles_in (before_order order batches))

    place : (o : Option Lost) → found ≡ o → eqb at 0 ≡ false → IsOwn order batches (option_map_or (touched at) o (by_plan order batches))
    place None is apart = own_plan order batches
    place (Some lost) is apart =
        at_place found at lost (by_plan order batches) is
        ∙ sym (cond-false (eqb at 0) unreached (option_map_or (touched at) found (by_plan order batches)) apart)

    go : (here : Bool) → eqb at 0 ≡ here → IsOwn order batches (cond here unreached (option_map_or (touched at) found (by_plan order batches)))
    go true is = refl
    go false is = place found refl is

pub true_trial : (part : Part) (die number : ℕ) (cut : Cut) → IsTrue part die (trial part die number cut)
unfolding trial
true_trial part die number cut =
    ap (recorded (lot_in part).keep number) (own_cut (order_in part die number) (batches_of part die number) cut)

-- its number
pub number-trial : (part : Part) (die number : ℕ) (cut : Cut) → (trial part die number cut).number ≡ number
unfolding trial
number-trial part die number cut = refl
