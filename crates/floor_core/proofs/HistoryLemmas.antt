-- What a site has told, filed or waiting, is so of it whatever happens: its dies come one after another, its live stops
-- rise, and each of its records is sound with the world's contacts.
use Rattle.std.proofs.Common.{◌≡◌, ◌≢◌, ℕ, ◌+◌, ◌≤◌, ◌⊎◌, false, List, [], ◌∷◌, ◌++◌, Option, cond, sym, refl, ap, ◌∙◌, subst, ⊎_elim, arith, eq-eqb, ne_eqb}
use mathlib.Core.Logic.{dite}
use native.Mathlib.Decide.{ℕ_discrete}
use Rattle.std.specs.List.{count_by, flat_map, AllByRecursion}
use Rattle.std.specs.Option.{option_to_list}
use Rattle.std.proofs.lemmas.List.{append-nil}
use Rattle.std.proofs.lemmas.List.Sums.{sum_by_push}
use Rattle.std.proofs.lemmas.Grind.{flat_map-append}
use Rattle.text_bytes.proofs.ListLemmas.{all_from}
use Rattle.tester_types.specs.declared.record.Trial.{Trial}
use Rattle.tester_types.specs.declared.record.Record.{Record}
use Rattle.site_meaning.specs.Part.{Part, part_of}
use Rattle.site_meaning.specs.Records.{Sound}
use Rattle.site_meaning.specs.Polls.{Seat, first_seat, try_now, with_word, with_none_waiting, poll, Arises, first, asked, polled, filed, live_numbers, Climbs, TellsContact, GoesOn, Ends}
use Rattle.floor_core.specs.World.{World, Event, Floor, Ask, Poll, File, named, contact_at, contact_now, moved_by, filed_by, happens, after, at_site_of}
use Rattle.floor_core.specs.Interleavings.{TellsItsContact, told_at, asks}
use Rattle.site_meaning.proofs.AllLemmas.{All-push}
use Rattle.floor_core.proofs.WorldLemmas.{after_each, seat_here, seat_elsewhere, EachWaitsAt, each_waits_at, journal_here, journal_elsewhere}

-- the dies of records come one after another, from this one up to the one before that
abbrev pub Follow : ℕ → List Record → ℕ → Type 0
Follow from [] to = from ≡ to
Follow from (entry ∷ later) to = (entry.die ≡ from) × Follow (from + 1) later to

-- one record more
follow-push : (from to : ℕ) (entries : List Record) (entry : Record) → Follow from entries to → entry.die ≡ to
    → Follow from (entries ++ entry ∷ []) (to + 1)
follow-push from to [] entry same die = (die ∙ sym same, ap (λ n. n + 1) same)
follow-push from to (front ∷ later) entry follow die = (follow.0, follow-push (from + 1) to later entry follow.1 die)

-- numbers that rise on from where others ended
pub climbs-append : (from between to : ℕ) (xs ys : List ℕ) → Climbs from xs between → Climbs between ys to → Climbs from (xs ++ ys) to
climbs-append from between to [] ys same rise = subst (λ (n : ℕ). Climbs n ys to) same rise
climbs-append from between to (x ∷ xs) ys climbs rise = (climbs.0, climbs-append x between to xs ys climbs.1 rise)

-- what a poll may make of a seat of a site
abbrev pub PollsWell : Part → Type 0
PollsWell part =
    (seat : Seat) (contact : Option ℕ) → Arises part seat
    → GoesOn seat (poll part contact seat) ⊎ Ends part contact seat (poll part contact seat)

module _ (world : World) (site : ℕ) where
  -- the part of the site
  abbrev pub own_part : Part
  own_part = part_of world.plan site

  -- a record tells the world's contacts
  abbrev pub HasContacts : Record → Type 0
  HasContacts entry = AllByRecursion (TellsItsContact world.contacts site entry.die) entry.trials

  -- what is so of a site that was asked so often, and has told these records
  pub record History (times : ℕ) (seat : Seat) (told : List Record) : Type 0 where
    pub arises : Arises own_part seat
    pub word : seat.word ≡ times
    pub taken : seat.taken ≤ seat.word
    pub dies : Follow 0 told seat.die
    pub lives : Climbs 0 (flat_map live_numbers told) seat.taken
    pub sound : AllByRecursion (Sound own_part) told
    pub contacts : AllByRecursion HasContacts told

  -- before any event
  first_history : History 0 first_seat []
  first_history = record {
    arises = first;
    word = refl;
    taken = omega arith;
    dies = refl;
    lives = refl;
    sound = tt;
    contacts = tt;
  }

  -- an ask
  history_asked : (times : ℕ) (seat : Seat) (told : List Record) → History times seat told → History (times + 1) (with_word seat (seat.word + 1)) told
  history_asked times seat told h = record {
    arises = asked seat (seat.word + 1) h.arises;
    word = ap (λ n. n + 1) h.word;
    taken = omega (arith, h.taken);
    dies = h.dies;
    lives = h.lives;
    sound = h.sound;
    contacts = h.contacts;
  }

  -- a file
  history_filed : (times : ℕ) (seat : Seat) (told : List Record) → History times seat told → History times (with_none_waiting seat) told
  history_filed times seat told h = record {
    arises = filed seat h.arises;
    word = h.word;
    taken = h.taken;
    dies = h.dies;
    lives = h.lives;
    sound = h.sound;
    contacts = h.contacts;
  }

  -- a poll after which the touchdown goes on
  history_goes_on : (times : ℕ) (seat new : Seat) (told : List Record) → History times seat told → Arises own_part new → GoesOn seat new
      → History times new told
  history_goes_on times seat new told h arises on = record {
    arises = arises;
    word = on.word ∙ h.word;
    taken = omega (arith, on.taken, on.word, h.taken);
    dies = subst (Follow 0 told) (sym on.die) h.dies;
    lives = subst (Climbs 0 (flat_map live_numbers told)) (sym on.taken) h.lives;
    sound = h.sound;
    contacts = h.contacts;
  }

  -- a contact that a poll tells is the world's
  own_contact : (seat : Seat) (die : ℕ) (trial : Trial) → die ≡ seat.die → TellsContact (contact_now world site seat) (try_now seat) trial
      → TellsItsContact world.contacts site die trial
  own_contact seat die trial same tells at is =
      let told = tells at is in
      ap (λ (d : ℕ). contact_at world.contacts site d trial.number) same
      ∙ ap (λ (n : ℕ). contact_at world.contacts site seat.die n) told.0 ∙ told.1

  -- a poll that ends a touchdown
  history_ends : (times : ℕ) (seat new : Seat) (told : List Record) → History times seat told → Arises own_part new
      → (e : Ends own_part (contact_now world site seat) seat new) → History times new (told ++ e.entry ∷ [])
  history_ends times seat new told h arises e =
      let lives = climbs-append 0 seat.taken new.taken (flat_map live_numbers told) (live_numbers e.entry) h.lives e.lives in
      record {
        arises = arises;
        word = e.word ∙ h.word;
        taken = e.within h.taken;
        dies = subst (Follow 0 (told ++ e.entry ∷ [])) (sym e.die) (follow-push 0 seat.die told e.entry h.dies e.of_die);
        lives = subst (λ (l : List ℕ). Climbs 0 l new.taken)
            (ap (λ l. flat_map live_numbers told ++ l) (sym (append-nil (live_numbers e.entry)))
            ∙ sym (flat_map-append live_numbers told (e.entry ∷ []))) lives;
        sound = All-push (Sound own_part) told e.entry h.sound e.sound;
        contacts = All-push HasContacts told e.entry h.contacts
            (all_from (TellsContact (contact_now world site seat) (try_now seat)) (TellsItsContact world.contacts site e.entry.die)
            (λ trial. own_contact seat e.entry.die trial e.of_die) e.entry.trials e.contacts);
      }

  -- what the site's seat tells beside these records
  abbrev with_waiting : List Record → Seat → List Record
  with_waiting records seat = records ++ option_to_list seat.waiting

  -- a poll
  history_polled : PollsWell own_part → (times : ℕ) (seat : Seat) (records : List Record) → History times seat (with_waiting records seat)
      → History times (moved_by world (Poll site) seat) (with_waiting records (moved_by world (Poll site) seat))
  history_polled well times seat records h =
      let contact = contact_now world site seat in
      let new = poll own_part contact seat in
      let arises = polled seat contact h.arises in
      ⊎_elim
      (λ (on : GoesOn seat new).
      subst (History times new) (ap (λ o. records ++ option_to_list o) (sym on.waiting))
      (history_goes_on times seat new (with_waiting records seat) h arises on))
      (λ (e : Ends own_part contact seat new).
      subst (History times new)
      (ap (λ o. records ++ option_to_list o ++ e.entry ∷ []) e.none_waited
      ∙ ap (λ l. l ++ e.entry ∷ []) (append-nil records)
      ∙ ap (λ o. records ++ option_to_list o) (sym e.waits))
      (history_ends times seat new (with_waiting records seat) h arises e))
      (well seat contact h.arises)

  -- how often a site was asked, once an event more has happened
  abbrev one_more : ℕ → Event → ℕ
  one_more times event = times + cond {A = ℕ} (asks site event) 1 0

  -- an event that names the site
  history_here : PollsWell own_part → (times : ℕ) (event : Event) (seat : Seat) (records : List Record) → site ≡ named event
      → History times seat (with_waiting records seat)
      → History (one_more times event) (moved_by world event seat) (with_waiting (records ++ filed_by event seat) (moved_by world event seat))
  history_here well times (Ask other) seat records same h =
      subst (λ (n : ℕ). History n (with_word seat (seat.word + 1)) (with_waiting (records ++ []) seat))
      (ap (λ b. times + cond {A = ℕ} b 1 0) (sym (eq-eqb other site (sym same))))
      (subst (λ (l : List Record). History (times + 1) (with_word seat (seat.word + 1)) (with_waiting l seat)) (sym (append-nil records))
      (history_asked times seat (with_waiting records seat) h))
  history_here well times (Poll other) seat records same h =
      subst (λ (s : ℕ). History (times + 0) (moved_by world (Poll s) seat) (with_waiting (records ++ []) (moved_by world (Poll s) seat))) same
      (subst (λ (n : ℕ). History n (moved_by world (Poll site) seat) (with_waiting (records ++ []) (moved_by world (Poll site) seat))) (omega arith)
      (subst (λ (l : List Record). History times (moved_by world (Poll site) seat) (with_waiting l (moved_by world (Poll site) seat)))
      (sym (append-nil records)) (history_polled well times seat records h)))
  history_here well times (File other) seat records same h =
      subst (λ (n : ℕ). History n (with_none_waiting seat) (with_waiting (records ++ option_to_list seat.waiting) (with_none_waiting seat))) (omega arith)
      (subst (History times (with_none_waiting seat)) (sym (append-nil (records ++ option_to_list seat.waiting)))
      (history_filed times seat (with_waiting records seat) h))

  -- an event that names another site isn't an ask of this one
  no_ask : (event : Event) → site ≢ named event → asks site event ≡ false
  no_ask (Ask other) apart = ne_eqb other site (λ e. apart (sym e))
  no_ask (Poll other) apart = refl
  no_ask (File other) apart = refl

-- where a world stands, each site's history holds
pub record Histories (world : World) (done : List Event) (floor : Floor) : Type 0 where
  pub waits : EachWaitsAt floor
  pub each : (site : ℕ) → History world site (count_by (asks site) done) (floor.seats site) (told_at site floor)

module _ (world : World) (well : (site : ℕ) → PollsWell (part_of world.plan site)) where
  -- how often a site was asked in events and one more
  count_more : (site : ℕ) (done : List Event) (event : Event) → count_by (asks site) (done ++ event ∷ []) ≡ one_more world site (count_by (asks site) done) event
  count_more site done event = sum_by_push (λ e. cond {A = ℕ} (asks site e) 1 0) done event

  step_here : (done : List Event) (floor : Floor) (event : Event) (site : ℕ) → Histories world done floor → site ≡ named event
      → History world site (count_by (asks site) (done ++ event ∷ [])) ((happens world floor event).seats site) (told_at site (happens world floor event))
  step_here done floor event site h same =
      let seat = floor.seats site in
      let next = happens world floor event in
      let moved = sym (seat_here world event floor.seats site same) in
      let records = sym (journal_here world floor event site h.waits same) in
      subst (λ (n : ℕ). History world site n (next.seats site) (told_at site next)) (sym (count_more site done event))
      (subst (λ (s : Seat). History world site (one_more world site (count_by (asks site) done) event) s (at_site_of site next.journal ++ option_to_list s.waiting)) moved
      (subst (λ (l : List Record). History world site (one_more world site (count_by (asks site) done) event) (moved_by world event seat) (l ++ option_to_list (moved_by world event seat).waiting)) records
      (history_here world site (well site) (count_by (asks site) done) event seat (at_site_of site floor.journal) same (h.each site))))

  step_elsewhere : (done : List Event) (floor : Floor) (event : Event) (site : ℕ) → Histories world done floor → site ≢ named event
      → History world site (count_by (asks site) (done ++ event ∷ [])) ((happens world floor event).seats site) (told_at site (happens world floor event))
  step_elsewhere done floor event site h other =
      let next = happens world floor event in
      let times : count_by (asks site) done ≡ count_by (asks site) (done ++ event ∷ []) =
      let quiet = ap (λ b. cond {A = ℕ} b 1 0) (no_ask world site event other) in omega (arith, count_more site done event, quiet) in
      subst (λ (n : ℕ). History world site n (next.seats site) (told_at site next)) times
      (subst (λ (s : Seat). History world site (count_by (asks site) done) s (at_site_of site next.journal ++ option_to_list s.waiting)) (sym (seat_elsewhere world event floor.seats site other))
      (subst (λ (l : List Record). History world site (count_by (asks site) done) (floor.seats site) (l ++ option_to_list (floor.seats site).waiting)) (sym (journal_elsewhere world floor event site h.waits other)) (h.each site)))

  -- at every site, whatever has happened
  pub everywhere : (events : List Event) → Histories world events (after world events)
  everywhere =
      after_each world (Histories world) (record { waits = λ site. tt; each = λ site. first_history world site })
      (λ done floor event h.
      record {
        waits = each_waits_at world floor event h.waits;
        each = λ site.
            dite (ℕ_discrete site (named event)) (step_here done floor event site h) (step_elsewhere done floor event site h);
      })
