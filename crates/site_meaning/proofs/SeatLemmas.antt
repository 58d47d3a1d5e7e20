-- What polls bring about: each one goes on, or ends a touchdown whose record is sound.
use Rattle.std.proofs.Common.{◌≡◌, ℕ, ◌+◌, ◌<◌, ◌≤◌, ◌⊎◌, true, false, ◌&&◌, ltb, leb, List, [], ◌∷◌, ◌++◌, length, Option, Some, None, refl, sym, ap, ◌∙◌, subst, arith, inl, inr}
use Rattle.std.specs.List.{AllByRecursion, cons_option}
use Rattle.std.specs.Prelude.{IfSome, is_some}
use Rattle.std.proofs.lemmas.Bool.{true≢false, ltb-true, ltb-false, leb-false, cond_both, and_parts, and_cases, or_parts}
use Rattle.std.proofs.lemmas.List.{length_push}
use Rattle.tester_types.specs.declared.record.Verdict.{Verdict}
use Rattle.tester_types.specs.declared.record.Verdict.TheVariants as verdict
use Rattle.tester_types.specs.declared.record.Trial.{Trial}
use Rattle.tester_types.specs.declared.record.Record.{Record}
use Rattle.site_meaning.proofs.AllLemmas.{All-push}
use Rattle.site_meaning.specs.Part.{Part, IsPart, lot_in, dies_in}
use Rattle.site_meaning.specs.Records.{is_fail, IsTrue, EndsSo, AreNumbered, Sound}
use Rattle.site_meaning.specs.Polls.{Running, Seat, first_seat, try_now, rests, Step, goes, ends, arrived, stepped_try, taken_at, with_record, with_trial, moved, with_taken, polled_from, poll, Arises, first, asked, polled, filed, live_number, live_numbers, Climbs, TellsContact, GoesOn, Ends}
use Rattle.site_meaning.proofs.InstantLemmas.{tries_some}
use Rattle.site_meaning.proofs.TellLemmas.{lives, Tells, quiet_arrived, stepped_tells}
use Rattle.site_meaning.proofs.PollLemmas.{IsTry, GoodStep, WasPolled, Late, arrived_good, stepped_good}

-- ---- the tries of a touchdown that goes on

-- each try failed
abbrev pub AllFailed : List Trial → Type 0
AllFailed trials = AllByRecursion (λ (t : Trial). is_fail t.verdict ≡ true) trials

-- the tries so far of the die, and the one that runs
pub record Stands (part : Part) (seat : Seat) : Type 0 where
  pub numbers : AreNumbered 1 seat.trials
  pub each : AllByRecursion (IsTrue part seat.die) seat.trials
  pub failed : AllFailed seat.trials
  pub left : length seat.trials < (lot_in part).tries
  pub running : IfSome seat.running (WasPolled part seat.die (try_now seat))

numbers-push : (from : ℕ) (ts : List Trial) (t : Trial) → AreNumbered from ts → t.number ≡ from + length ts
    → AreNumbered from (ts ++ t ∷ [])
numbers-push from [] t all is = (is ∙ omega arith, tt)
numbers-push from (u ∷ ts) t all is = (all.0, numbers-push (from + 1) ts t all.1 (is ∙ omega arith))

ends-push : (tries : ℕ) (ts : List Trial) (t : Trial) → AllFailed ts → (is_fail t.verdict ≡ false) ⊎ (t.number ≡ tries)
    → EndsSo tries (ts ++ t ∷ [])
ends-push tries [] t all here = here
ends-push tries (u ∷ []) t all here = (all.0, here)
ends-push tries (u ∷ w ∷ ts) t all here = (all.0, ends-push tries (w ∷ ts) t all.1 here)

-- a try more that failed
with_failed : (part : Part) (seat : Seat) (t : Trial) → Stands part seat → IsTry part seat.die (try_now seat) t
    → is_fail t.verdict ≡ true → try_now seat < (lot_in part).tries
    → Stands part (record seat { trials = seat.trials ++ t ∷ []; running = None })
with_failed part seat t s is fails left =
    let numbered = is.numbered in
    record {
      numbers = numbers-push 1 seat.trials t s.numbers (omega (arith, numbered));
      each = All-push (IsTrue part seat.die) seat.trials t s.each is.true_one;
      failed = All-push (λ (u : Trial). is_fail u.verdict ≡ true) seat.trials t s.failed fails;
      left = let long = length_push seat.trials t in omega (arith, long, left);
      running = tt;
    }

-- the record of a touchdown that ends with this try
sound_record : (part : Part) (seat : Seat) (t : Trial) → Stands part seat → IsTry part seat.die (try_now seat) t
    → seat.die < dies_in part → (is_fail t.verdict ≡ false) ⊎ ((lot_in part).tries ≤ try_now seat)
    → Sound part (record { site = part.site; die = seat.die; trials = seat.trials ++ t ∷ [] })
sound_record part seat t s is planned last =
    let numbered = is.numbered in
    let left = s.left in
    record {
      site = refl;
      die = planned;
      most = let long = length_push seat.trials t in omega (arith, long, left);
      numbers = numbers-push 1 seat.trials t s.numbers (omega (arith, numbered));
      each = All-push (IsTrue part seat.die) seat.trials t s.each is.true_one;
      ending = ends-push (lot_in part).tries seat.trials t s.failed (at_end last);
    }
  where
    at_end : (is_fail t.verdict ≡ false) ⊎ ((lot_in part).tries ≤ try_now seat)
        → (is_fail t.verdict ≡ false) ⊎ (t.number ≡ (lot_in part).tries)
    at_end (inl h) = inl h
    at_end (inr h) = inr (let numbered = is.numbered in let left = s.left in omega (arith, numbered, left, h))

-- ---- the live stops and contacts of tries that failed

no_live : (v : Verdict) → is_fail v ≡ true → live_number v ≡ None
no_live verdict.Pass h = absurd (not_true h)
  where
    not_true : false ≡ true → ⊥
    not_true e = cc
no_live (verdict.Fail exec) h = refl
no_live (verdict.Stopped batch who) h = absurd (not_true h)
  where
    not_true : false ≡ true → ⊥
    not_true e = cc
no_live (verdict.Contact at) h = absurd (not_true h)
  where
    not_true : false ≡ true → ⊥
    not_true e = cc

lives-push : (ts : List Trial) (t : Trial) → AllFailed ts → lives (ts ++ t ∷ []) ≡ lives (t ∷ [])
lives-push [] t all = refl
lives-push (u ∷ ts) t all =
    ap (λ (o : Option ℕ). cons_option o (lives (ts ++ t ∷ []))) (no_live u.verdict all.0) ∙ lives-push ts t all.1

no_contact : (v : Verdict) (at : ℕ) → is_fail v ≡ true → v ≡ verdict.Contact at → ⊥
no_contact v at h e = not_true (sym (ap is_fail e) ∙ h)
  where
    not_true : false ≡ true → ⊥
    not_true d = cc

contacts-push : (contact : Option ℕ) (number : ℕ) (ts : List Trial) (t : Trial) → AllFailed ts → TellsContact contact number t
    → AllByRecursion (TellsContact contact number) (ts ++ t ∷ [])
contacts-push contact number [] t all here = (here, tt)
contacts-push contact number (u ∷ ts) t all here =
    (λ at e. absurd (no_contact u.verdict at all.0 e), contacts-push contact number ts t all.1 here)

-- ---- one poll

-- how a poll ends
pub data Outcome (part : Part) (contact : Option ℕ) (old new : Seat) : Type 0 where
  on : GoesOn old new → Outcome part contact old new
  over : Ends part contact old new → Outcome part contact old new

-- behind a poll
pub record Polled (part : Part) (contact : Option ℕ) (old new : Seat) : Type 0 where
  pub stands : Stands part new
  pub outcome : Outcome part contact old new

-- its try goes on
still_running : (part : Part) (contact : Option ℕ) (seat : Seat) (taken : ℕ) (running : Running) → Stands part seat
    → WasPolled part seat.die (try_now seat) running → taken ≡ seat.taken
    → Polled part contact seat (with_taken (moved part seat (goes running)) taken)
still_running part contact seat taken running s was same = record {
  stands = record { numbers = s.numbers; each = s.each; failed = s.failed; left = s.left; running = was };
  outcome = on (record { word = refl; taken = same; die = refl; waiting = refl });
}

-- a try that failed is tried again
again : (part : Part) (contact : Option ℕ) (seat : Seat) (taken : ℕ) (t : Trial) → Stands part seat
    → IsTry part seat.die (try_now seat) t → Tells contact seat taken (ends t) → is_fail t.verdict ≡ true
    → try_now seat < (lot_in part).tries
    → Polled part contact seat (with_taken (record seat { trials = seat.trials ++ t ∷ []; running = None }) taken)
again part contact seat taken t s is tells fails left =
    let f = with_failed part seat t s is fails left in
    record {
      stands = record { numbers = f.numbers; each = f.each; failed = f.failed; left = f.left; running = tt };
      outcome = on (record {
        word = refl;
        taken = subst (λ (o : Option ℕ). Climbs seat.taken (cons_option o []) taken) (no_live t.verdict fails) tells.0;
        die = refl;
        waiting = refl;
      });
    }

-- the touchdown has ended
touched_down : (part : Part) (contact : Option ℕ) (seat : Seat) (taken : ℕ) (t : Trial) → IsPart part → Stands part seat
    → IsTry part seat.die (try_now seat) t → Tells contact seat taken (ends t) → seat.waiting ≡ None
    → seat.die < dies_in part → (is_fail t.verdict ≡ false) ⊎ ((lot_in part).tries ≤ try_now seat)
    → Polled part contact seat (with_taken (with_record part seat t) taken)
unfolding live_numbers
touched_down part contact seat taken t p s is tells none planned last = record {
  stands = record { numbers = tt; each = tt; failed = tt; left = let some = tries_some part p in omega (arith, some); running = tt };
  outcome = over (record {
    entry = record { site = part.site; die = seat.die; trials = seat.trials ++ t ∷ [] };
    word = refl;
    none_waited = none;
    waits = refl;
    of_die = refl;
    die = refl;
    sound = sound_record part seat t s is planned last;
    lives = subst (λ (l : List ℕ). Climbs seat.taken l taken) (sym (lives-push seat.trials t s.failed)) tells.0;
    within = λ low. stays low tells.1;
    contacts = contacts-push contact (try_now seat) seat.trials t s.failed (λ at e. (is.numbered, tells.2 at e));
  });
}
  where
    stays : seat.taken ≤ seat.word → (taken ≡ seat.taken) ⊎ (taken ≡ seat.word) → taken ≤ seat.word
    stays low (inl e) = omega (arith, low, e)
    stays low (inr e) = omega (arith, e)

-- a try has ended
with_trial_polled : (part : Part) (contact : Option ℕ) (seat : Seat) (taken : ℕ) (t : Trial) → IsPart part → Stands part seat
    → IsTry part seat.die (try_now seat) t → Tells contact seat taken (ends t) → seat.waiting ≡ None
    → seat.die < dies_in part → Polled part contact seat (with_taken (with_trial part seat t) taken)
unfolding with_trial
with_trial_polled part contact seat taken t p s is tells none planned =
    cond_both (is_fail t.verdict && ltb (try_now seat) (lot_in part).tries)
    (record seat { trials = seat.trials ++ t ∷ []; running = None }) (with_record part seat t)
    (λ (new : Seat). Polled part contact seat (with_taken new taken))
    (λ h. let parts = and_parts (is_fail t.verdict) (ltb (try_now seat) (lot_in part).tries) h in
    again part contact seat taken t s is tells parts.0 (ltb-true (try_now seat) (lot_in part).tries parts.1))
    (λ h. touched_down part contact seat taken t p s is tells none planned (last (and_cases (is_fail t.verdict) (ltb (try_now seat) (lot_in part).tries) h)))
  where
    last : (is_fail t.verdict ≡ false) ⊎ (ltb (try_now seat) (lot_in part).tries ≡ false)
        → (is_fail t.verdict ≡ false) ⊎ ((lot_in part).tries ≤ try_now seat)
    last (inl h) = inl h
    last (inr h) = inr (ltb-false (try_now seat) (lot_in part).tries h)

-- a step of its try
moved_polled : (part : Part) (contact : Option ℕ) (seat : Seat) (taken : ℕ) (step : Step) → IsPart part → Stands part seat
    → GoodStep Late part seat.die (try_now seat) step → Tells contact seat taken step → seat.waiting ≡ None
    → seat.die < dies_in part → Polled part contact seat (with_taken (moved part seat step) taken)
moved_polled part contact seat taken (goes running) p s good tells none planned =
    still_running part contact seat taken running s good tells
moved_polled part contact seat taken (ends t) p s good tells none planned =
    with_trial_polled part contact seat taken t p s good tells none planned

pub one_poll : (part : Part) (contact : Option ℕ) (seat : Seat) → IsPart part → Stands part seat
    → Polled part contact seat (poll part contact seat)
unfolding poll
one_poll part contact seat p s =
    cond_both (rests part seat) seat (polled_from part contact seat (arrived part contact seat)) (Polled part contact seat)
    (λ _. record { stands = s; outcome = on (record { word = refl; taken = refl; die = refl; waiting = refl }) })
    (λ works.
    let parts = or_parts (is_some seat.waiting) (leb (dies_in part) seat.die) works in
    let arrival = arrived part contact seat in
    moved_polled part contact seat (taken_at seat arrival) (stepped_try part contact seat arrival) p s
    (stepped_good part contact seat arrival p (arrived_good part contact seat s.running))
    (stepped_tells part contact seat arrival (quiet_arrived part contact seat))
    (none_of seat.waiting parts.0) (leb-false (dies_in part) seat.die parts.1))
  where
    none_of : (o : Option Record) → is_some o ≡ false → o ≡ None
    none_of None h = refl
    none_of (Some r) h = absurd (true≢false h)

-- ---- all that polls bring about

first_stands : (part : Part) → IsPart part → Stands part first_seat
first_stands part p = record {
  numbers = tt;
  each = tt;
  failed = tt;
  left = let some = tries_some part p in omega (arith, some);
  running = tt;
}

pub stands : (part : Part) (seat : Seat) → IsPart part → Arises part seat → Stands part seat
stands part _ p first = first_stands part p
stands part _ p (asked seat word arises) =
    let s = stands part seat p arises in
    record { numbers = s.numbers; each = s.each; failed = s.failed; left = s.left; running = s.running }
stands part _ p (polled seat contact arises) = (one_poll part contact seat p (stands part seat p arises)).stands
stands part _ p (filed seat arises) =
    let s = stands part seat p arises in
    record { numbers = s.numbers; each = s.each; failed = s.failed; left = s.left; running = s.running }

pub polls_are_true : (part : Part) (contact : Option ℕ) (seat : Seat) → IsPart part → Arises part seat
    → GoesOn seat (poll part contact seat) ⊎ Ends part contact seat (poll part contact seat)
polls_are_true part contact seat p arises =
    either (one_poll part contact seat p (stands part seat p arises)).outcome
  where
    either : Outcome part contact seat (poll part contact seat)
        → GoesOn seat (poll part contact seat) ⊎ Ends part contact seat (poll part contact seat)
    either (on h) = inl h
    either (over h) = inr h
