-- What a site files among others is what it files alone.
use Rattle.std.proofs.Common.{◌≡◌, ◌≢◌, ℕ, ◌==◌, ◌&&◌, List, [], ◌∷◌, ◌++◌, Option, filter, sym, refl, ap, ◌∙◌, subst, eq-eqb, ne_eqb}
use mathlib.Core.Logic.{dite}
use native.Mathlib.Decide.{ℕ_discrete}
use Rattle.std.specs.Option.{option_map}
use Rattle.std.proofs.lemmas.Bool.{and_parts}
use Rattle.std.proofs.lemmas.List.{append-nil}
use Rattle.std.proofs.lemmas.List.Elements.{filter-append}
use Rattle.site_meaning.specs.Part.{Part, part_of, only}
use Rattle.site_meaning.specs.Polls.{Seat, try_now, poll}
use Rattle.floor_core.specs.World.{Contact, World, Event, Floor, Ask, Poll, File, named, is_contact_of, contact_at, contact_now, moved_by, filed_by, happens, at_first, after, at_site_of, alone, events_of}
use Rattle.floor_core.proofs.ListLemmas.{find-filter, filter-yes, filter-no}
use Rattle.floor_core.proofs.WorldLemmas.{after_each, after-push, seat_here, seat_elsewhere, EachWaitsAt, each_waits_at, journal_here, journal_elsewhere}

-- the contacts of a site are those of the site alone
contact_at-alone : (contacts : List Contact) (site die number : ℕ)
    → contact_at (filter (λ (c : Contact). c.site == site) contacts) site die number ≡ contact_at contacts site die number
unfolding contact_at
contact_at-alone contacts site die number =
    ap (option_map (λ (c : Contact). c.at))
    (find-filter (is_contact_of site die number) (λ (c : Contact). c.site == site)
    (λ c both. (and_parts (c.site == site) (c.die == die && c.number == number) both).0) contacts)

module _ (world : World) (site : ℕ) (part_alone : part_of (only site world.plan) site ≡ part_of world.plan site) where
  -- an event of the site moves its seat as it does where the site is alone
  moved_alone : (event : Event) (seat : Seat) → site ≡ named event → moved_by world event seat ≡ moved_by (alone site world) event seat
  moved_alone (Ask other) seat same = refl
  moved_alone (File other) seat same = refl
  moved_alone (Poll other) seat same =
      subst (λ (s : ℕ). moved_by world (Poll s) seat ≡ moved_by (alone site world) (Poll s) seat) same
      (ap (λ (p : Part). poll p (contact_now world site seat) seat) (sym part_alone)
      ∙ ap (λ (o : Option ℕ). poll (part_of (only site world.plan) site) o seat)
      (sym (contact_at-alone world.contacts site seat.die (try_now seat))))

  -- the site stands as it does alone, and its records are the journal that it has alone
  record StandsAlone (done : List Event) (floor : Floor) : Type 0 where
    waits : EachWaitsAt floor
    seat : floor.seats site ≡ (after (alone site world) (events_of site done)).seats site
    journal : at_site_of site floor.journal ≡ (after (alone site world) (events_of site done)).journal

  begins_alone : StandsAlone [] at_first
  unfolding after
  begins_alone = record { waits = λ s. tt; seat = refl; journal = refl }

  -- the events of a site, and one more that names it
  events_more : (done : List Event) (event : Event) → site ≡ named event → events_of site (done ++ event ∷ []) ≡ events_of site done ++ event ∷ []
  events_more done event same =
      filter-append (λ e. named e == site) done (event ∷ [])
      ∙ ap (λ l. events_of site done ++ l) (filter-yes (λ e. named e == site) event [] (eq-eqb (named event) site (sym same)))

  -- the events of a site, and one more that names another
  events_same : (done : List Event) (event : Event) → site ≢ named event → events_of site (done ++ event ∷ []) ≡ events_of site done
  events_same done event other =
      filter-append (λ e. named e == site) done (event ∷ [])
      ∙ ap (λ l. events_of site done ++ l) (filter-no (λ e. named e == site) event [] (ne_eqb (named event) site (λ e. other (sym e))))
      ∙ append-nil (events_of site done)

  here : (done : List Event) (floor : Floor) (event : Event) → StandsAlone done floor → site ≡ named event
      → StandsAlone (done ++ event ∷ []) (happens world floor event)
  here done floor event stands same =
      let own = after (alone site world) (events_of site done) in
      let then_own : after (alone site world) (events_of site (done ++ event ∷ [])) ≡ happens (alone site world) own event =
      ap (after (alone site world)) (events_more done event same) ∙ after-push (alone site world) (events_of site done) event in
      record {
        waits = each_waits_at world floor event stands.waits;
        seat = seat_here world event floor.seats site same ∙ ap (moved_by world event) stands.seat
            ∙ moved_alone event (own.seats site) same
            ∙ sym (seat_here (alone site world) event own.seats site same)
            ∙ ap (λ (f : Floor). f.seats site) (sym then_own);
        journal = journal_here world floor event site stands.waits same
            ∙ ap (λ l. l ++ filed_by event (floor.seats site)) stands.journal
            ∙ ap (λ s. own.journal ++ filed_by event s) stands.seat
            ∙ ap (λ (s : ℕ). own.journal ++ filed_by event (own.seats s)) same
            ∙ ap (λ (f : Floor). f.journal) (sym then_own);
      }

  elsewhere : (done : List Event) (floor : Floor) (event : Event) → StandsAlone done floor → site ≢ named event
      → StandsAlone (done ++ event ∷ []) (happens world floor event)
  elsewhere done floor event stands other =
      let same_own = ap (after (alone site world)) (sym (events_same done event other)) in
      record {
        waits = each_waits_at world floor event stands.waits;
        seat = seat_elsewhere world event floor.seats site other ∙ stands.seat ∙ ap (λ (f : Floor). f.seats site) same_own;
        journal = journal_elsewhere world floor event site stands.waits other ∙ stands.journal ∙ ap (λ (f : Floor). f.journal) same_own;
      }

  pub files_as_alone : (events : List Event)
      → at_site_of site (after world events).journal ≡ (after (alone site world) (events_of site events)).journal
  files_as_alone events =
      (after_each world StandsAlone begins_alone
      (λ done floor event stands.
      dite (ℕ_discrete site (named event)) (here done floor event stands) (elsewhere done floor event stands)) events).journal
