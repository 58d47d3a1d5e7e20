-- A touchdown that is polled without a live stop goes on so, or has ended as it should: `goes_on`, `lands`.
use Rattle.std.proofs.Common.{◌≡◌, ℕ, ◌+◌, ◌<◌, ◌≤◌, false, ltb, List, [], ◌∷◌, ◌++◌, length, Option, Some, None, refl, sym, ap, ◌∙◌, subst, arith, true≢false, cond}
use Rattle.std.specs.Prelude.{◌&&◌, IfSome}
use Rattle.std.specs.List.{AllByRecursion, filter_map}
use Rattle.std.specs.Option.{option_map}
use Rattle.std.proofs.lemmas.Bool.{cond_both}
use Rattle.tester_types.specs.Outside.{HasRisen}
use Rattle.tester_types.specs.declared.record.By.TheVariants as by
use Rattle.tester_types.specs.declared.record.Trial.{Trial}
use Rattle.tester_types.specs.declared.record.Record.{Record}
use Rattle.tester_types.specs.declared.record.Verdict.{Verdict}
use Rattle.tester_types.specs.declared.record.Verdict.TheVariants as verdict
use Rattle.tester_types.proofs.OutsideLemmas.{risen_behind}
use Rattle.die_sim.specs.Socket.{Told, Calls}
use Rattle.pattern_mem.specs.Memory.{Memory}
use Rattle.plan_rows.specs.Rows.{dies_at}
use Rattle.lot_plan.specs.Bound.{Bound}
use Rattle.site_meaning.specs.Part.{Part, IsPart, part_of, lot_in}
use Rattle.site_meaning.specs.Trials.{uncut, cut_of, cut_of_verdict}
use Rattle.site_meaning.specs.Records.{is_fail, touchdown}
use Rattle.site_meaning.specs.Polls.{Seat, Step, goes, ends, try_now, arrived, stepped_try, taken_at, rests, with_record, with_trial, moved, with_taken, polled_from, poll, live_number, live_numbers, Climbs, TellsContact, Ends}
use Rattle.site_meaning.proofs.InstantLemmas.{tries_some}
use Rattle.site_meaning.proofs.PartLemmas.{dies_in-part_of}
use Rattle.site_meaning.proofs.ReachedLemmas.{none_or_some}
use Rattle.site_meaning.proofs.SeatLemmas.{Stands, Outcome, on, over, Polled, one_poll}
use Rattle.site_meaning.proofs.TellLemmas.{no_climb, cons_none}
use Rattle.site_meaning.proofs.TouchdownLemmas.{uncut_is_touchdown}
use Rattle.site_run.specs.declared.run.Run.{Run}
use Rattle.site_run.specs.declared.site.Site.{Site}
use Rattle.cycle_run.specs.Tape.{with_calls}
use Rattle.site_run.specs.Taped.{calls_of, calls_of_poll, calls_so_far, IsTaped}
use Rattle.site_run.specs.Seat.{running_of}
use Rattle.site_run.specs.Site.{seat_of, IsSiteOf, IsPolled, without_record}
use Rattle.site_run.specs.Contact.{EndsAtContact, IsLostInPoll}
use Rattle.site_run.specs.Touchdown.{IsIdle, IsTouchdown, ArePolls}
use Rattle.cycle_run.specs.BatchLaws.{with-none, with-append}
use Rattle.site_run.proofs.StepsLemmas.{rests_not}
use Rattle.site_run.proofs.SoFarLemmas.{Follows, poll_follows, poll_tapes}

-- ---- polls, one after another

-- whatever polls follow from here on make a touchdown
abbrev pub LeadsOn : Bound → ℕ → Site → Site → Told → Told → Type 0
LeadsOn plan stops old now told told_now =
    (entry : Record) (new : Site) (told' : Told) → ArePolls plan stops entry now new told_now told'
    → ArePolls plan stops entry old new told told'

-- a poll with contact lost leaves a record
lost_ends : (part : Part) (at : ℕ) (seat : Seat) → IsLostInPoll part seat at → (poll part (Some at) seat).waiting ≡ None → ⊥
unfolding poll with_trial
lost_ends part at seat lost =
    cond_both (rests part seat) seat (polled_from part (Some at) seat arrival) Waits (λ h. absurd (true≢false (sym h ∙ lost.works)))
    (λ _. behind (stepped_try part (Some at) seat arrival) (taken_at seat arrival) lost.ends_there)
  where
    arrival : Step
    arrival = arrived part (Some at) seat

    Waits : Seat → Type 0
    Waits new = new.waiting ≡ None → ⊥

    behind : (step : Step) (taken : ℕ) → EndsAtContact step at → Waits (with_taken (moved part seat step) taken)
    behind (goes running) taken ends_there = absurd ends_there
    behind (ends t) taken is =
        subst (λ (v : Verdict). Waits (with_taken (cond (is_fail v && ltb (try_now seat) (lot_in part).tries)
        (record seat { trials = seat.trials ++ t ∷ []; running = None }) (with_record part seat t)) taken)) (sym is)
        (λ none. none_or_some (with_record part seat t).waiting _ none refl)

-- a poll that leaves no record lost no contact
pub poll_quiet : (plan : Bound) (stops : ℕ) (old new : Site) (told told' : Told) → (polled : IsPolled plan stops old new told told')
    → new.waiting ≡ None → polled.contact ≡ None
poll_quiet plan stops old new told told' polled none = by polled.contact polled.lost polled.polled
  where
    by : (contact : Option ℕ) → IfSome contact (IsLostInPoll (part_of plan old.site) (seat_of stops told old))
        → seat_of stops told' new ≡ poll (part_of plan old.site) contact (seat_of stops told old) → contact ≡ None
    by None lost is = refl
    by (Some at) lost is =
        absurd (lost_ends (part_of plan old.site) at (seat_of stops told old) lost (ap (λ (s : Seat). s.waiting) (sym is) ∙ none))

-- ---- no live stop, and no contact

-- a verdict that tells neither a live stop nor a contact
uncut_by : (v : Verdict) → live_number v ≡ None → ((at : ℕ) → v ≡ verdict.Contact at → ⊥) → cut_of_verdict v ≡ uncut
uncut_by verdict.Pass live contact = refl
uncut_by (verdict.Fail exec) live contact = refl
uncut_by (verdict.Stopped batch by.Plan) live contact = refl
uncut_by (verdict.Stopped batch (by.Desk n)) live contact = absurd (none_or_some (Some n) n live refl)
uncut_by (verdict.Contact at) live contact = absurd (contact at refl)

uncut_all : (number : ℕ) (ts : List Trial) → filter_map (λ (t : Trial). live_number t.verdict) ts ≡ []
    → AllByRecursion (TellsContact None number) ts → AllByRecursion (λ (t : Trial). cut_of t ≡ uncut) ts
uncut_all number [] live contacts = tt
uncut_all number (t ∷ ts) live contacts =
    let parts = cons_none (live_number t.verdict) (filter_map (λ (u : Trial). live_number u.verdict) ts) live in
    (uncut_by t.verdict parts.0 (λ at e. none_or_some None at refl (contacts.0 at e).1), uncut_all number ts parts.1 contacts.1)

-- ---- a touchdown that goes on

-- it is that of this die, no live stop comes, and a tape has its calls so far where the count of faults hasn't risen
pub record GoesSo (part : Part) (die : ℕ) (told told' : Told) (seat : Seat) : Type 0 where
  pub stands : Stands part seat
  pub follows : Follows part seat
  pub die_is : seat.die ≡ die
  pub none_waits : seat.waiting ≡ None
  pub no_stop : seat.taken ≡ seat.word
  pub tape : (HasRisen told.count told'.count → ⊥) → told'.tape ≡ with_calls told.tape (calls_so_far part seat)

-- it begins
pub goes_first : (part : Part) (told : Told) (site : Site) → IsPart part → IsIdle site
    → GoesSo part site.die told told (seat_of site.state.taken told site)
goes_first part told site is idle =
    let none = ap (option_map (running_of told)) idle.running in
    subst (λ (s : Seat). GoesSo part site.die told told s) (sym (seat_is none)) (record {
      stands = record { numbers = tt; each = tt; failed = tt; left = let some = tries_some part is in omega (arith, some); running = tt };
      follows = tt;
      die_is = refl;
      none_waits = refl;
      no_stop = refl;
      tape = λ quiet. sym (with-none told.tape);
    })
  where
    seat_is : option_map (running_of told) site.running ≡ None
        → seat_of site.state.taken told site
        ≡ record { word = site.state.taken; taken = site.state.taken; die = site.die; trials = []; running = None; waiting = None }
    seat_is none = λ i. record {
      word = site.state.taken;
      taken = site.state.taken;
      die = site.die;
      trials = idle.trials i;
      running = none i;
      waiting = idle.waiting i;
    }

-- no contact is lost where the count hasn't risen
pub no_contact : (contact : Option ℕ) (a b c : ℕ) → a ≤ b → b ≤ c → IfSome contact (λ at. HasRisen b c) → (HasRisen a c → ⊥) → contact ≡ None
no_contact None a b c low up cause quiet = refl
no_contact (Some at) a b c low up cause quiet = absurd (quiet (risen_behind a b c low up cause))

-- nor had it before
pub quiet_before : (a b c : ℕ) → b ≤ c → (HasRisen a c → ⊥) → HasRisen a b → ⊥
quiet_before a b c up quiet risen = quiet (λ small. let r = risen small in omega (arith, r, up))

-- a touchdown that has ended leaves no try
pub cleared : (part : Part) (contact : Option ℕ) (seat : Seat) → seat.waiting ≡ None → (entry : Record) → (poll part contact seat).waiting ≡ Some entry
    → ((poll part contact seat).trials ≡ []) × ((poll part contact seat).running ≡ None)
unfolding poll with_trial
cleared part contact seat none entry =
    cond_both (rests part seat) seat (polled_from part contact seat arrival) Cleared (λ _. still)
    (λ _. behind (stepped_try part contact seat arrival) (taken_at seat arrival))
  where
    arrival : Step
    arrival = arrived part contact seat

    Cleared : Seat → Type 0
    Cleared new = new.waiting ≡ Some entry → (new.trials ≡ []) × (new.running ≡ None)

    still : Cleared seat
    still waits = absurd (none_or_some seat.waiting entry none waits)

    behind : (step : Step) (taken : ℕ) → Cleared (with_taken (moved part seat step) taken)
    behind (goes running) taken = λ waits. absurd (none_or_some seat.waiting entry none waits)
    behind (ends t) taken =
        cond_both (is_fail t.verdict && ltb (try_now seat) (lot_in part).tries)
        (record seat { trials = seat.trials ++ t ∷ []; running = None }) (with_record part seat t)
        (λ (new : Seat). Cleared (with_taken new taken))
        (λ _. λ waits. absurd (none_or_some seat.waiting entry none waits)) (λ _. λ _. (refl, refl))

-- a touchdown of this die that has ended with this record
pub record Lands (part : Part) (die : ℕ) (told told' : Told) (old new : Site) (entry : Record) : Type 0 where
  pub given : IsTouchdown part die told told' entry
  pub idle : IsIdle (without_record new)
  pub die_is : new.die ≡ die + 1
  pub taken_is : new.state.taken ≡ old.state.taken

module _ (plan : Bound) (site stops : ℕ) (old new : Site) (first told told' : Told) (die : ℕ) (is : IsPart (part_of plan site))
    (at : old.site ≡ site) (planned : die < length (dies_at site plan.rows)) (low : first.count ≤ told.count) (up : told.count ≤ told'.count)
    (goes_so : GoesSo (part_of plan site) die first told (seat_of stops told old)) (polled : IsPolled plan stops old new told told') where
  abbrev part : Part
  part = part_of plan site

  abbrev seat : Seat
  seat = seat_of stops told old

  abbrev next : Seat
  next = seat_of stops told' new

  next_so : next ≡ poll part polled.contact seat
  next_so = polled.polled ∙ ap (λ (n : ℕ). poll (part_of plan n) polled.contact seat) at

  outcome : Polled part polled.contact seat next
  outcome = subst (Polled part polled.contact seat) (sym next_so) (one_poll part polled.contact seat is goes_so.stands)

  quiet_contact : (HasRisen first.count told'.count → ⊥) → polled.contact ≡ None
  quiet_contact quiet = no_contact polled.contact first.count told.count told'.count low up polled.cause quiet

  works : rests part seat ≡ false
  works =
      let dies = dies_in-part_of plan site in
      let same = goes_so.die_is in
      rests_not part seat goes_so.none_waits (omega (arith, dies, planned, same))

  -- the tape behind the poll
  tape_is : (HasRisen first.count told'.count → ⊥) → told'.tape ≡ with_calls first.tape (calls_so_far part seat ++ calls_of_poll part seat)
  tape_is quiet =
      subst (λ (o : Option ℕ). IsTaped o (calls_of_poll part seat) told.tape told'.tape) (quiet_contact quiet)
      (subst (λ (n : ℕ). IsTaped polled.contact (calls_of_poll (part_of plan n) seat) told.tape told'.tape) at polled.tape)
      ∙ ap (λ (t : Option Calls). with_calls t (calls_of_poll part seat))
      (goes_so.tape (quiet_before first.count told.count told'.count up quiet))
      ∙ with-append first.tape (calls_so_far part seat) (calls_of_poll part seat)

  next_is : (HasRisen first.count told'.count → ⊥) → poll part None seat ≡ next
  next_is quiet = ap (λ (o : Option ℕ). poll part o seat) (sym (quiet_contact quiet)) ∙ sym next_so

  -- it goes on
  pub goes_on : new.waiting ≡ None → GoesSo part die first told' (seat_of stops told' (without_record new))
  goes_on none = by outcome.outcome
    where
      without_is : next ≡ seat_of stops told' (without_record new)
      without_is = λ i. record {
        word = next.word;
        taken = next.taken;
        die = next.die;
        trials = next.trials;
        running = next.running;
        waiting = none i;
      }

      by : Outcome part polled.contact seat next → GoesSo part die first told' (seat_of stops told' (without_record new))
      by (on h) =
          subst (λ (s : Seat). GoesSo part die first told' s) without_is (record {
            stands = outcome.stands;
            follows = subst (Follows part) (sym next_so) (poll_follows part polled.contact seat goes_so.follows);
            die_is = h.die ∙ goes_so.die_is;
            none_waits = none;
            no_stop = h.taken ∙ goes_so.no_stop ∙ sym h.word;
            tape = λ quiet.
                tape_is quiet
                ∙ ap (with_calls first.tape)
                (sym (subst (λ (s : Seat). s.waiting ≡ None → calls_so_far part s ≡ calls_so_far part seat ++ calls_of_poll part seat)
                (next_is quiet) (poll_tapes part seat goes_so.follows works).on none));
          })
      by (over h) = absurd (none_or_some next.waiting h.entry none h.waits)

  lives_are : (entry : Record) → live_numbers entry ≡ [] → filter_map (λ (t : Trial). live_number t.verdict) entry.trials ≡ []
  unfolding live_numbers
  lives_are entry is = is

  none_live : (h : Ends part polled.contact seat next) → live_numbers h.entry ≡ []
  none_live h =
      let same = goes_so.no_stop in
      let within = h.within (omega (arith, same)) in
      no_climb seat.taken next.taken (live_numbers h.entry) h.lives (let word = h.word in omega (arith, same, within, word))

  given_so : (h : Ends part polled.contact seat next) → IsTouchdown part die first told' h.entry
  given_so h = record {
    sound = h.sound;
    of_die = h.of_die ∙ goes_so.die_is;
    no_stop = none_live h;
    uncut = λ quiet.
        uncut_is_touchdown part h.entry h.sound
        (uncut_all (try_now seat) h.entry.trials (lives_are h.entry (none_live h))
        (subst (λ (o : Option ℕ). AllByRecursion (TellsContact o (try_now seat)) h.entry.trials) (quiet_contact quiet) h.contacts))
        ∙ ap (touchdown part []) (h.of_die ∙ goes_so.die_is);
    tape = λ quiet.
        tape_is quiet
        ∙ ap (with_calls first.tape)
        (sym (subst (λ (s : Seat). (e : Record) → s.waiting ≡ Some e → calls_of part e ≡ calls_so_far part seat ++ calls_of_poll part seat)
        (next_is quiet) (poll_tapes part seat goes_so.follows works).over h.entry h.waits));
  }

  -- it has ended
  pub lands : (entry : Record) → new.waiting ≡ Some entry → Lands part die first told' old new entry
  lands entry waits = by outcome.outcome
    where
      some_is : (a b : Record) → Some a ≡ Some b → a ≡ b
      some_is a b e = cc

      none_of : (o : Option Run) → option_map (running_of told') o ≡ None → o ≡ None
      none_of None h = refl
      none_of (Some r) h = absurd (none_or_some (Some (running_of told' r)) (running_of told' r) h refl)

      over_it : (poll part polled.contact seat).waiting ≡ Some entry
      over_it = ap (λ (s : Seat). s.waiting) (sym next_so) ∙ waits

      by : Outcome part polled.contact seat next → Lands part die first told' old new entry
      by (on h) = absurd (none_or_some next.waiting entry (h.waiting ∙ goes_so.none_waits) waits)
      by (over h) =
          let clear = cleared part polled.contact seat goes_so.none_waits entry over_it in
          record {
            given = subst (IsTouchdown part die first told') (some_is h.entry entry (sym h.waits ∙ waits)) (given_so h);
            idle = record {
              running = none_of new.running (ap (λ (s : Seat). s.running) next_so ∙ clear.1);
              trials = ap (λ (s : Seat). s.trials) next_so ∙ clear.0;
              waiting = refl;
            };
            die_is = h.die ∙ ap (λ (n : ℕ). n + 1) goes_so.die_is;
            taken_is = subst (λ (l : List ℕ). Climbs seat.taken l next.taken) (none_live h) h.lives;
          }

-- nothing is taken of a site without a record
pub without_none : (site : Site) → site.waiting ≡ None → without_record site ≡ site
without_none site none = λ i. record site { waiting = sym none i }

-- a site whose record was taken stands as before
pub still_site : (mem : Memory) (plan : Bound) (told : Told) (site new : Site) → new ≡ without_record site → IsSiteOf mem plan told site
    → IsSiteOf mem plan told new
still_site mem plan told site new same is =
    subst (IsSiteOf mem plan told) (sym same) (record {
      within = is.within;
      pass = is.pass;
      one_program = is.one_program;
      held = is.held;
      dies = is.dies;
      tries = is.tries;
      runs = is.runs;
    })
