-- One turn more of a site's work keeps what is so of the work.
use Rattle.std.specs.Prelude.{Result, Ok, Err, OnOk}
use Rattle.std.proofs.Common.{◌≡◌, ◌≢◌, ℕ, zero, suc, ◌+◌, ◌-◌, ◌<◌, ◌≤◌, ◌⊎◌, nat_lt, nat_le, Bool, true, false, List, [], ◌∷◌, ◌++◌, length, Option, Some, None, IfSome, slice_index, cond, if◌then◌else◌, refl, sym, ap, ◌∙◌, subst, arith, inl, inr, ⊎_elim}
use Rattle.std.specs.List.{count_by, flat_map, find, range_with_len, AllByRecursion}
use Rattle.std.specs.Option.{option_to_list, option_map_or}
use Rattle.std.proofs.lemmas.Bool.{cond_both, true≢false, cases_Bool, lt-ltb, ltb-false, leb-true, leb-false}
use Rattle.std.proofs.lemmas.List.{append-nil, append_assoc, length_push}
use Rattle.std.proofs.lemmas.List.Sums.{sum_by-cons, sum_by_push}
use Rattle.std.proofs.lemmas.Grind.{flat_map-append}
use Rattle.tester_types.specs.Outside.{HasRisen}
use Rattle.tester_types.specs.declared.record.Verdict.{Verdict}
use Rattle.tester_types.specs.declared.record.Verdict.TheVariants as verdict
use Rattle.tester_types.specs.declared.record.Trial.{Trial}
use Rattle.tester_types.specs.declared.record.Record.{Record}
use Rattle.packed_code.specs.Cycles.{cycles_of}
use Rattle.die_sim.specs.Socket.{Told, Calls}
use Rattle.plan_rows.specs.Rows.{sites_of, dies_at}
use Rattle.lot_plan.specs.Bound.{Bound}
use Rattle.site_meaning.specs.Part.{Part, IsPart, part_of, dies_in}
use Rattle.site_meaning.specs.Records.{Sound, AreNumbered, AreInOrder}
use Rattle.site_meaning.specs.Polls.{Seat, Step, Running, goes, ends, arrived, try_now, rests, with_word, with_none_waiting, with_trial, polled_from, poll, Arises, first, asked, polled, filed, first_seat, unloaded, is_at_load, has_cycles, next_exec, fresh_try, with_exec, onward, ended_now, live_numbers, Climbs, TellsContact, GoesOn, Ends}
use Rattle.site_meaning.specs.Counting.{polls_of, polls_of_tries, polls_so_far, Counts}
use Rattle.site_meaning.proofs.AllLemmas.{All-push}
use Rattle.site_meaning.proofs.SeatLemmas.{polls_are_true}
use Rattle.site_meaning.proofs.CountLemmas.{poll_counts}
use Rattle.site_meaning.proofs.TouchdownLemmas.{sound_are_records}
use Rattle.site_meaning.proofs.PartLemmas.{dies_in-part_of}
use Rattle.cycle_run.specs.Tape.{with_calls}
use Rattle.site_run.specs.Taped.{calls_of, calls_of_try, calls_of_trials, calls_of_poll, calls_of_running, calls_so_far, IsTaped, Tapes}
use Rattle.cycle_run.specs.BatchLaws.{with-none, with-append}
use Rattle.site_run.proofs.StepsLemmas.{rests_not}
use Rattle.site_run.proofs.SoFarLemmas.{polls_are_taped}
use Rattle.site_run.proofs.TouchdownLemmas.{no_contact, quiet_before, cleared}
use Rattle.floor_core.specs.Book.{planned}
use Rattle.floor_core.proofs.BookLemmas.{slice_index-planned}
use Rattle.stop_board.specs.Seats.{SiteFacts}
use Rattle.tester_run.specs.Work.{IsWork, is_contact, contacts_of, contacts_in, HasRisenBy, HasCycle, IsLoaded}
use Rattle.tester_run.specs.Turn.{IsNext, IsTurn, IsClear, IsUnderway, polled_once}
use Rattle.floor_core.proofs.HistoryLemmas.{climbs-append}

-- ---- contacts

-- a verdict tells a contact or doesn't
is_contact_at : (v : Verdict) → (is_contact v ≡ false) ⊎ ((at : ℕ) × (v ≡ verdict.Contact at))
is_contact_at verdict.Pass = inl refl
is_contact_at (verdict.Fail exec) = inl refl
is_contact_at (verdict.Stopped batch by) = inl refl
is_contact_at (verdict.Contact at) = inr (at, refl)

-- 1 for a try that tells a contact
abbrev one_of : Trial → ℕ
one_of t = cond {A = ℕ} (is_contact t.verdict) 1 0

-- the try of the contact comes before these
contacts-before : (contact : Option ℕ) (number from : ℕ) (ts : List Trial) → number < from → AreNumbered from ts
    → AllByRecursion (TellsContact contact number) ts → count_by (λ (t : Trial). is_contact t.verdict) ts ≡ 0
contacts-before contact number from [] before numbers tells = refl
contacts-before contact number from (t ∷ ts) before numbers tells =
    let rest = contacts-before contact number (from + 1) ts (omega (arith, before)) numbers.1 tells.1 in
    let sum = sum_by-cons one_of t ts in
    elim (is_contact_at t.verdict) [
      | inl other ↦ let none = ap (λ b. cond {A = ℕ} b 1 0) other in omega (arith, rest, sum, none)
      | inr at ↦ absurd (let same = (tells.0 at.0 at.1).0 in let own = numbers.0 in omega (arith, same, own, before))
    ]

-- tries tell one contact at most
contacts-most : (contact : Option ℕ) (number from : ℕ) (ts : List Trial) → AreNumbered from ts
    → AllByRecursion (TellsContact contact number) ts → count_by (λ (t : Trial). is_contact t.verdict) ts ≤ 1
contacts-most contact number from [] numbers tells = omega arith
contacts-most contact number from (t ∷ ts) numbers tells =
    let sum = sum_by-cons one_of t ts in
    elim (is_contact_at t.verdict) [
      | inl other ↦
          let rest = contacts-most contact number (from + 1) ts numbers.1 tells.1 in
          let none = ap (λ b. cond {A = ℕ} b 1 0) other in omega (arith, rest, sum, none)
      | inr at ↦
          let same = (tells.0 at.0 at.1).0 in
          let own = numbers.0 in
          let rest = contacts-before contact number (from + 1) ts (omega (arith, same, own)) numbers.1 tells.1 in
          let one = ap (λ (v : Verdict). cond {A = ℕ} (is_contact v) 1 0) at.1 in omega (arith, rest, sum, one)
    ]

-- without a contact none tells one
contacts-none : (number : ℕ) (ts : List Trial) → AllByRecursion (TellsContact None number) ts
    → count_by (λ (t : Trial). is_contact t.verdict) ts ≡ 0
contacts-none number [] tells = refl
contacts-none number (t ∷ ts) tells =
    let rest = contacts-none number ts tells.1 in
    let sum = sum_by-cons one_of t ts in
    elim (is_contact_at t.verdict) [
      | inl other ↦ let none = ap (λ b. cond {A = ℕ} b 1 0) other in omega (arith, rest, sum, none)
      | inr at ↦ absurd (let never = (tells.0 at.0 at.1).1 in cc)
    ]

-- a record of which the last poll tells the contacts, of a count that rose at a contact
rises_on : (began least count rose : ℕ) (contact : Option ℕ) (number : ℕ) (entry : Record) → HasRisenBy least began count
    → count ≤ rose → IfSome contact (λ _. HasRisen count rose) → AreNumbered 1 entry.trials
    → AllByRecursion (TellsContact contact number) entry.trials → HasRisenBy (least + contacts_of entry) began rose
rises_on began least count rose None number entry so_far on cause numbers tells =
    let none = contacts-none number entry.trials tells in omega (arith, so_far, on, none)
rises_on began least count rose (Some at) number entry so_far on cause numbers tells =
    let most = contacts-most (Some at) number 1 entry.trials numbers tells in grind (arith, so_far, on, cause, most)

-- ---- lists with one record more

order-push : (from : ℕ) (entries : List Record) (entry : Record) → AreInOrder from entries → entry.die ≡ from + length entries
    → AreInOrder from (entries ++ entry ∷ [])
order-push from [] entry order die = (die ∙ omega arith, tt)
order-push from (front ∷ later) entry order die =
    (order.0, order-push (from + 1) later entry order.1 (die ∙ omega arith))

lives-push : (from between to : ℕ) (entries : List Record) (entry : Record) → Climbs from (flat_map live_numbers entries) between
    → Climbs between (live_numbers entry) to → Climbs from (flat_map live_numbers (entries ++ entry ∷ [])) to
lives-push from between to entries entry climbs rise =
    subst (λ (l : List ℕ). Climbs from l to)
    (ap (λ l. flat_map live_numbers entries ++ l) (sym (append-nil (live_numbers entry)))
    ∙ sym (flat_map-append live_numbers entries (entry ∷ [])))
    (climbs-append from between to (flat_map live_numbers entries) (live_numbers entry) climbs rise)

-- ---- a site that has begun no other touchdown

-- its polls so far are none
no_polls : (part : Part) (seat : Seat) → IsClear seat → polls_so_far part seat ≡ 0
no_polls part seat clear =
    let tries = ap (polls_of_tries part seat.die) clear.0 in
    let batches = ap (λ o. option_map_or (λ (running : Running). running.batch) o 0) clear.1 in
    omega (arith, tries, batches)

-- and so are its calls
no_calls : (part : Part) (seat : Seat) → IsClear seat → calls_so_far part seat ≡ []
no_calls part seat clear =
    ap (λ (ts : List Trial). calls_of_trials part seat.die ts ++ calls_of_running part seat) clear.0
    ∙ ap
    (λ (o : Option Running).
    option_map_or (λ (running : Running). calls_of_try part seat.die (try_now seat) running.going.number) o [])
    clear.1

-- ---- what a site files

-- the record that waits after a poll is that of the next die
pub waits_next : (part : Part) (contact : Option ℕ) (seat : Seat) → IsPart part → Arises part seat → seat.waiting ≡ None
    → IfSome (poll part contact seat).waiting (IsNext part seat.die)
waits_next part contact seat p arises none =
    ⊎_elim
    (λ (on : GoesOn seat (poll part contact seat)).
    subst (λ (o : Option Record). IfSome o (IsNext part seat.die)) (sym (on.waiting ∙ none)) tt)
    (λ (e : Ends part contact seat (poll part contact seat)).
    subst (λ (o : Option Record). IfSome o (IsNext part seat.die)) (sym e.waits)
    (record { site = e.sound.site; of_die = e.of_die; planned = e.sound.die }))
    (polls_are_true part contact seat p arises)

-- so the book has a place for it
pub files_next : (plan : Bound) (site : ℕ) (places : List ℕ) (share many die : ℕ) (waiting : Option Record)
    → places ≡ planned plan.rows → site < sites_of plan.rows → share ≡ site → many ≡ die
    → IfSome waiting (IsNext (part_of plan site) die)
    → IfSome waiting (λ entry. (entry.site ≡ share) × (entry.die ≡ many) × (entry.die < slice_index places entry.site))
files_next plan site places share many die None room within own so_far next = tt
files_next plan site places share many die (Some entry) room within own so_far next =
    let here : slice_index places entry.site ≡ dies_in (part_of plan site) =
    ap (λ (l : List ℕ). slice_index l entry.site) room ∙ ap (slice_index (planned plan.rows)) next.site
    ∙ slice_index-planned plan.rows site within ∙ sym (dies_in-part_of plan site) in
    (next.site ∙ sym own, next.of_die ∙ sym so_far, (let least = next.planned in omega (arith, here, least)))

-- ---- live stops are caught

-- the first of numbers in a row that passes a test, where one of them does
found : (test : ℕ → Bool) (from count at : ℕ) → from ≤ at → at < from + count → test at ≡ true
    → (first : ℕ) × (find test (range_with_len from count) ≡ Some first)
found test from zero at least most passes = absurd (omega (arith, least, most))
found test from (suc count) at least most passes =
    elim (cases_Bool (test from)) [
      | inl here ↦ (from, ap (λ b. cond b (Some from) (find test (range_with_len (from + 1) count))) here)
      | inr apart ↦
          let other : from ≢ at = λ e. true≢false (sym passes ∙ ap test (sym e) ∙ apart) in
          let later = found test (from + 1) count at (lt_of from at least other) (omega (arith, most)) passes in
          (later.0, ap (λ b. cond b (Some from) (find test (range_with_len (from + 1) count))) apart ∙ later.1)
    ]
  where
    lt_of : (n m : ℕ) → n ≤ m → n ≢ m → n + 1 ≤ m
    lt_of n m le ne = grind (arith, le, ne)

-- an arrival goes on, or the load lost contact
abbrev ArrivesSo : Seat → Step → Type 0
ArrivesSo seat (goes running) = Unit {0}
ArrivesSo seat (ends trial) = trial ≡ unloaded (try_now seat)

arrives : (part : Part) (contact : Option ℕ) (seat : Seat) → HasCycle part.code → ArrivesSo seat (arrived part contact seat)
unfolding arrived onward next_exec
arrives part contact seat has = go seat.running
  where
    fresh : Running
    fresh = fresh_try part seat.die (try_now seat)

    begun : Step
    begun = if is_at_load contact then ends (unloaded (try_now seat)) else onward part (try_now seat) fresh 0

    loaded : ArrivesSo seat (onward part (try_now seat) fresh 0)
    loaded =
        let some = found (has_cycles part.code) 0 (length part.code.execs - 0) has.0 (omega arith)
        (omega (arith, has.1)) (lt-ltb 0 (length (cycles_of part.code has.0)) has.2) in
        subst
        (λ (o : Option ℕ). ArrivesSo seat (option_map_or (λ exec. goes (with_exec fresh exec)) o
        (ends (ended_now (try_now seat) fresh verdict.Pass)))) (sym some.1) tt

    go : (running : Option Running) → ArrivesSo seat (option_map_or goes running begun)
    go (Some running) = tt
    go None =
        cond_both (is_at_load contact) (ends (unloaded (try_now seat))) (onward part (try_now seat) fresh 0) (ArrivesSo seat)
        (λ _. refl) (λ _. loaded)

-- the record of a try that wasn't loaded says so
not_loaded : (number : ℕ) (ts : List Trial)
    → AllByRecursion (λ (t : Trial). t.verdict ≢ verdict.Contact 0) (ts ++ unloaded number ∷ []) → ⊥
not_loaded number [] loaded = loaded.0 refl
not_loaded number (t ∷ ts) loaded = not_loaded number ts loaded.1

-- behind a poll the site has taken its word, or a record waits with a try that wasn't loaded
abbrev CaughtUp : Seat → Seat → Type 0
CaughtUp old new = (new.taken ≡ old.word) ⊎ ((entry : Record) × (new.waiting ≡ Some entry) × (IsLoaded entry → ⊥))

caught_from : (part : Part) (contact : Option ℕ) (seat : Seat) (arrival : Step) → seat.taken ≤ seat.word → ArrivesSo seat arrival
    → CaughtUp seat (polled_from part contact seat arrival)
unfolding with_trial
caught_from part contact seat (goes running) low so =
    inl (cond_both (nat_lt seat.taken seat.word) seat.word seat.taken (λ (n : ℕ). n ≡ seat.word) (λ _. refl)
    (λ least. let most = ltb-false seat.taken seat.word least in omega (arith, low, most)))
caught_from part contact seat (ends trial) low so =
    subst (λ (t : Trial). CaughtUp seat (polled_from part contact seat (ends t))) (sym so)
    (inr (
      record { site = part.site; die = seat.die; trials = seat.trials ++ unloaded (try_now seat) ∷ [] },
      refl,
      λ loaded. not_loaded (try_now seat) seat.trials loaded,
    ))

caught_up : (part : Part) (contact : Option ℕ) (seat : Seat) → HasCycle part.code → rests part seat ≡ false
    → seat.taken ≤ seat.word → CaughtUp seat (poll part contact seat)
unfolding poll
caught_up part contact seat has busy low =
    cond_both (rests part seat) seat (polled_from part contact seat (arrived part contact seat)) (CaughtUp seat)
    (λ idle. absurd (true≢false (sym idle ∙ busy)))
    (λ _. caught_from part contact seat (arrived part contact seat) low (arrives part contact seat has))

-- ---- a turn

-- the last of records
all_last : {X : Type 0} (P : X → Type 0) (xs : List X) (x : X) → AllByRecursion P (xs ++ x ∷ []) → P x
all_last P [] x each = each.0
all_last P (y ∷ xs) x each = all_last P xs x each.1

module _ (part : Part) (p : IsPart part) (begun : SiteFacts) (began : Told) (seat : Seat) (facts now : SiteFacts) (told told' : Told)
    (entries : List Record) (u : IsUnderway part begun began seat facts told entries) (more : seat.die < dies_in part)
    (contact : Option ℕ) (cause : IfSome contact (λ _. HasRisen told.count told'.count)) (on_count : told.count ≤ told'.count)
    (later : facts.seen ≤ now.seen) (seat_is : now ≡ polled_once facts now.seen)
    (taped : IsTaped contact (calls_of_poll part (with_word seat now.seen)) told.tape told'.tape) where
  abbrev asked_seat : Seat
  asked_seat = with_word seat now.seen

  abbrev new : Seat
  new = poll part contact asked_seat

  arises : Arises part new
  arises = polled asked_seat contact (asked seat now.seen u.ready.arises)

  counts : Counts part asked_seat new
  counts = poll_counts part contact asked_seat p (asked seat now.seen u.ready.arises) (rests_not part asked_seat u.ready.none_waits more)

  low : seat.taken ≤ now.seen
  low = omega (arith, u.within, later)

  now_polls : now.polls ≡ facts.polls + 1
  now_polls = ap (λ (f : SiteFacts). f.polls) seat_is

  now_facts : now ≡ record begun { seen = now.seen; polls = now.polls }
  now_facts =
      seat_is ∙ ap (λ (n : ℕ). record facts { seen = now.seen; polls = n }) (sym now_polls)
      ∙ ap (λ (f : SiteFacts). record f { seen = now.seen; polls = now.polls }) u.facts_are

  catches : HasCycle part.code → CaughtUp asked_seat new
  catches has = caught_up part contact asked_seat has (rests_not part asked_seat u.ready.none_waits more) low

  -- the calls of the records
  abbrev filed_calls : Calls
  filed_calls = flat_map (calls_of part) entries

  -- the count of faults hasn't risen
  abbrev Quiet : Type 0
  Quiet = HasRisen began.count told'.count → ⊥

  quiet_contact : Quiet → contact ≡ None
  quiet_contact quiet = no_contact contact began.count told.count told'.count u.count_is on_count cause quiet

  -- the tape behind the poll
  tape_is : Quiet → told'.tape ≡ with_calls began.tape (filed_calls ++ (calls_so_far part seat ++ calls_of_poll part asked_seat))
  tape_is quiet =
      subst (λ (o : Option ℕ). IsTaped o (calls_of_poll part asked_seat) told.tape told'.tape) (quiet_contact quiet) taped
      ∙ ap (λ (t : Option Calls). with_calls t (calls_of_poll part asked_seat))
      (u.taped (quiet_before began.count told.count told'.count on_count quiet))
      ∙ with-append began.tape (filed_calls ++ calls_so_far part seat) (calls_of_poll part asked_seat)
      ∙ ap (with_calls began.tape) (append_assoc filed_calls (calls_so_far part seat) (calls_of_poll part asked_seat))

  tapes : Quiet → Tapes part asked_seat new
  tapes quiet =
      subst (λ (o : Option ℕ). Tapes part asked_seat (poll part o asked_seat)) (sym (quiet_contact quiet))
      (polls_are_taped part asked_seat (asked seat now.seen u.ready.arises) (rests_not part asked_seat u.ready.none_waits more))

  goes_on : GoesOn asked_seat new → IsUnderway part begun began (with_none_waiting new) now told' entries
  goes_on on =
      let none : new.waiting ≡ None = on.waiting ∙ u.ready.none_waits in
      let counted = counts.on none in
      record {
        ready = record { arises = filed new arises; none_waits = refl; filed_are = u.ready.filed_are ∙ sym on.die };
        each = u.each;
        order = u.order;
        most = omega (arith, on.die, u.most);
        rise = subst (Climbs 0 (flat_map live_numbers entries)) (sym on.taken) u.rise;
        within = omega (arith, on.taken, low);
        caught = λ none_seen has loaded.
            ⊎_elim (λ same. same) (λ lost. absurd (let never = sym none ∙ lost.1 in cc)) (catches has);
        contacts = omega (arith, u.contacts, on_count);
        polls = omega (arith, now_polls, u.polls, counted);
        over = λ most. absurd (omega (arith, most, on.die, more));
        facts_are = now_facts;
        count_is = omega (arith, u.count_is, on_count);
        taped = λ quiet.
            tape_is quiet ∙ ap (λ (l : Calls). with_calls began.tape (filed_calls ++ l)) (sym ((tapes quiet).on none));
      }

  ends_one : (e : Ends part contact asked_seat new) → IsUnderway part begun began (with_none_waiting new) now told' (entries ++ e.entry ∷ [])
  ends_one e =
      let clear : IsClear new = cleared part contact asked_seat u.ready.none_waits e.entry e.waits in
      let bare = no_polls part new clear in
      let all_filed : flat_map (calls_of part) (entries ++ e.entry ∷ []) ≡ filed_calls ++ calls_of part e.entry =
      flat_map-append (calls_of part) entries (e.entry ∷ [])
      ∙ ap (λ (l : Calls). filed_calls ++ l) (append-nil (calls_of part e.entry)) in
      let long = length_push entries e.entry in
      let counted = counts.over e.entry e.waits in
      let sum = sum_by_push (polls_of part) entries e.entry in
      let all : contacts_in (entries ++ e.entry ∷ []) ≡ contacts_in entries + contacts_of e.entry = sum_by_push contacts_of entries e.entry in
      record {
        ready = record {
          arises = filed new arises;
          none_waits = refl;
          filed_are = long ∙ ap (λ n. n + 1) u.ready.filed_are ∙ sym e.die;
        };
        each = All-push (Sound part) entries e.entry u.each e.sound;
        order = order-push 0 entries e.entry u.order (e.of_die ∙ sym u.ready.filed_are ∙ omega arith);
        most = let own = e.of_die in omega (arith, e.die, own, more);
        rise = lives-push 0 seat.taken new.taken entries e.entry u.rise e.lives;
        within = let word = e.word in omega (arith, e.within low, word);
        caught = λ none_seen has loaded.
            ⊎_elim (λ same. same)
            (λ lost. absurd (lost.2 (subst (λ (o : Option Record). IfSome o IsLoaded) (sym e.waits ∙ lost.1)
            (all_last IsLoaded entries e.entry loaded))))
            (catches has);
        contacts = subst (λ (n : ℕ). HasRisenBy n began.count told'.count) (sym all)
            (rises_on began.count (contacts_in entries) told.count told'.count contact (try_now asked_seat) e.entry u.contacts
            on_count cause e.sound.numbers e.contacts);
        polls = omega (arith, now_polls, u.polls, counted, bare, sum);
        over = λ _. clear;
        facts_are = now_facts;
        count_is = omega (arith, u.count_is, on_count);
        taped = λ quiet.
            tape_is quiet
            ∙ ap (λ (l : Calls). with_calls began.tape (filed_calls ++ l)) (sym ((tapes quiet).over e.entry e.waits))
            ∙ ap (with_calls began.tape)
            (sym (ap (λ (l : Calls). flat_map (calls_of part) (entries ++ e.entry ∷ []) ++ l) (no_calls part new clear)
            ∙ append-nil (flat_map (calls_of part) (entries ++ e.entry ∷ [])) ∙ all_filed));
      }

  polled_on : IsUnderway part begun began (with_none_waiting new) now told' (entries ++ option_to_list new.waiting)
  polled_on =
      ⊎_elim
      (λ (on : GoesOn asked_seat new).
      subst (IsUnderway part begun began (with_none_waiting new) now told')
      (sym (ap (λ o. entries ++ option_to_list o) (on.waiting ∙ u.ready.none_waits) ∙ append-nil entries)) (goes_on on))
      (λ (e : Ends part contact asked_seat new).
      subst (IsUnderway part begun began (with_none_waiting new) now told')
      (ap (λ o. entries ++ option_to_list o) (sym e.waits)) (ends_one e))
      (polls_are_true part contact asked_seat p (asked seat now.seen u.ready.arises))

-- the work goes on by a turn
pub turn_goes_on : (part : Part) (begun : SiteFacts) (began : Told) (seat new : Seat) (facts now : SiteFacts) (told told' : Told)
    (entries files : List Record) → IsPart part → IsUnderway part begun began seat facts told entries
    → seat.die < dies_in part → IsTurn part seat new facts now told told' entries files
    → IsUnderway part begun began new now told' files
turn_goes_on part begun began seat new facts now told told' entries files p u more t =
    subst (λ (l : List Record). IsUnderway part begun began new now told' l) (sym t.files)
    (subst (λ (s : Seat). IsUnderway part begun began s now told' (entries ++ option_to_list (poll part t.contact (with_word seat now.seen)).waiting))
    (sym t.poll_is)
    (polled_on part p begun began seat facts now told told' entries u more t.contact t.cause t.count_is t.later t.seat_is t.taped))

-- the site of a turn is that of the share, and it isn't done
pub turn_goes_on_at : (plan : Bound) (site own dies : ℕ) (begun : SiteFacts) (began : Told) (seat new : Seat) (facts now : SiteFacts)
    (told told' : Told) (entries files : List Record) → site ≡ own → dies ≡ length (dies_at site plan.rows)
    → IsPart (part_of plan site)
    → IsUnderway (part_of plan own) begun began seat facts told entries
    → nat_le dies seat.die ≡ false
    → IsTurn (part_of plan site) seat new facts now told told' entries files
    → IsUnderway (part_of plan own) begun began new now told' files
turn_goes_on_at plan site own dies begun began seat new facts now told told' entries files same many p u more t =
    let part : ℕ → Part = part_of plan in
    let planned_die : seat.die < dies_in (part own) =
    let all = dies_in-part_of plan own in
    let least = leb-false dies seat.die more in
    let alike = ap (λ (n : ℕ). length (dies_at n plan.rows)) same in omega (arith, all, least, alike, many) in
    turn_goes_on (part own) begun began seat new facts now told told' entries files (subst (λ (n : ℕ). IsPart (part n)) same p) u
    planned_die (subst (λ (n : ℕ). IsTurn (part n) seat new facts now told told' entries files) same t)

-- ---- the first and the last turn

-- nothing is done yet
pub work_begins : (part : Part) (facts : SiteFacts) (told : Told)
    → IsUnderway part facts told (with_word first_seat facts.seen) facts told []
work_begins part facts told = record {
  ready = record { arises = asked first_seat facts.seen first; none_waits = refl; filed_are = refl };
  each = tt;
  order = tt;
  most = omega arith;
  rise = refl;
  within = omega arith;
  caught = λ none has loaded. sym none;
  contacts = omega arith;
  polls = omega arith;
  over = λ _. (refl, refl);
  facts_are = refl;
  count_is = omega arith;
  taped = λ quiet. sym (with-none told.tape);
}

-- all is done
pub work_is_done : (part : Part) (begun : SiteFacts) (began : Told) (seat : Seat) (facts : SiteFacts) (told : Told) (entries : List Record)
    → IsUnderway part begun began seat facts told entries → dies_in part ≤ seat.die → IsWork part begun facts began told entries
work_is_done part begun began seat facts told entries u over =
    let all : length entries ≡ dies_in part = let filed = u.ready.filed_are in omega (arith, filed, over, u.most) in
    let none = no_polls part seat (u.over over) in
    record {
      records_are = record {
        each = u.each;
        order = u.order;
        all = all;
        whole = sound_are_records part entries u.each u.order all;
      };
      lives = record { last = seat.taken; rise = u.rise; within = u.within; caught = u.caught };
      contacts = u.contacts;
      polls = omega (arith, u.polls, none);
      taped = λ quiet.
          u.taped quiet
          ∙ ap (λ (l : Calls). with_calls began.tape (flat_map (calls_of part) entries ++ l)) (no_calls part seat (u.over over))
          ∙ ap (with_calls began.tape) (append-nil (flat_map (calls_of part) entries));
    }

-- the same of the site of a share, which says so
pub work_is_done_at : (plan : Bound) (site own dies : ℕ) (begun : SiteFacts) (began : Told) (seat : Seat) (facts : SiteFacts) (told : Told)
    (entries : List Record) → site ≡ own → dies ≡ length (dies_at site plan.rows)
    → IsUnderway (part_of plan own) begun began seat facts told entries → nat_le dies seat.die ≡ true
    → IsWork (part_of plan own) begun facts began told entries
work_is_done_at plan site own dies begun began seat facts told entries same many u over =
    let all = dies_in-part_of plan own in
    let least = leb-true dies seat.die over in
    let alike = ap (λ (n : ℕ). length (dies_at n plan.rows)) same in
    work_is_done (part_of plan own) begun began seat facts told entries u (omega (arith, all, least, alike, many))

-- a site that was started has begun nothing
pub work_begins_at : (part : Part) (facts : SiteFacts) (told : Told) (seat : Seat) (entries : List Record)
    → seat ≡ with_word first_seat facts.seen → entries ≡ [] → IsUnderway part facts told seat facts told entries
work_begins_at part facts told seat entries is none =
    subst (λ (s : Seat). IsUnderway part facts told s facts told entries) (sym is)
    (subst (IsUnderway part facts told (with_word first_seat facts.seen) facts told) (sym none) (work_begins part facts told))

-- a die that is unloaded behind the work, and a seat that finishes, leave it as it is
pub unloads : {E : Type 0} (part : Part) (begun facts ended : SiteFacts) (began told told' : Told) (entries : List Record)
    (done : Result Unit E) → ended ≡ record facts { finished = true }
    → OnOk done (IsWork part begun facts began told entries) → told.count ≤ told'.count → told'.tape ≡ told.tape
    → OnOk done (IsWork part begun ended began told' entries)
unloads part begun facts ended began told told' entries (Err e) finished work up same = tt
unloads part begun facts ended began told told' entries (Ok u) finished work up same =
    subst (λ (f : SiteFacts). IsWork part begun f began told' entries) (sym finished) (record {
      records_are = work.records_are;
      lives = record { last = work.lives.last; rise = work.lives.rise; within = work.lives.within; caught = work.lives.caught };
      contacts = let risen = work.contacts in omega (arith, risen, up);
      polls = work.polls;
      taped = λ quiet. same ∙ work.taped (quiet_before began.count told.count told'.count up quiet);
    })
