-- What one event changes, and how what each event keeps is so of all events.
use Rattle.std.proofs.Common.{◌≡◌, ◌≢◌, ℕ, List, [], ◌∷◌, ◌++◌, Option, Some, None, IfSome, cond, fold, sym, refl, ap, ◌∙◌, subst, eq-eqb, ne_eqb, append_assoc}
use mathlib.Core.Logic.{dite}
use native.Mathlib.Decide.{ℕ_discrete}
use Rattle.std.specs.Option.{option_to_list}
use Rattle.std.proofs.lemmas.List.{append-nil}
use Rattle.std.proofs.lemmas.List.Elements.{filter-append}
use Rattle.std.proofs.lemmas.List.Sums.{fold-append}
use Rattle.tester_types.specs.declared.record.Record.{Record}
use Rattle.site_meaning.specs.Polls.{Seat}
use Rattle.floor_core.specs.World.{World, Event, Floor, Ask, Poll, File, named, moved_by, filed_by, seat_after, happens, at_first, after, is_at, at_site_of}
use Rattle.floor_core.proofs.ListLemmas.{filter-yes, filter-no}
use Rattle.floor_core.proofs.WaitingLemmas.{WaitsAt, waits_at_poll}

-- ---- all events

module _ (world : World) (P : List Event → Floor → Type 0) where
  go_on : ((done : List Event) (floor : Floor) (event : Event) → P done floor → P (done ++ event ∷ []) (happens world floor event))
      → (done : List Event) (floor : Floor) (events : List Event) → P done floor → P (done ++ events) (fold (happens world) floor events)
  go_on step done floor [] p = subst (λ (l : List Event). P l floor) (sym (append-nil done)) p
  go_on step done floor (event ∷ events) p =
      subst (λ (l : List Event). P l (fold (happens world) floor (event ∷ events))) (append_assoc done (event ∷ []) events)
      (go_on step (done ++ event ∷ []) (happens world floor event) events (step done floor event p))

  -- what is so at first, and what each event keeps, is so once any events have happened
  pub after_each : P [] at_first
      → ((done : List Event) (floor : Floor) (event : Event) → P done floor → P (done ++ event ∷ []) (happens world floor event))
      → (events : List Event) → P events (after world events)
  unfolding after
  after_each first step events = go_on step [] at_first events first

-- one event more
pub after-push : (world : World) (events : List Event) (event : Event) → after world (events ++ event ∷ []) ≡ happens world (after world events) event
unfolding after
after-push world events event = fold-append (happens world) at_first events (event ∷ [])

-- ---- one event

-- the seat that an event names is moved
pub seat_here : (world : World) (event : Event) (seats : ℕ → Seat) (site : ℕ) → site ≡ named event
    → seat_after world event seats site ≡ moved_by world event (seats site)
seat_here world event seats site same =
    ap (λ b. cond b (moved_by world event (seats site)) (seats site)) (eq-eqb site (named event) same)

-- every other seat is as it was
pub seat_elsewhere : (world : World) (event : Event) (seats : ℕ → Seat) (site : ℕ) → site ≢ named event
    → seat_after world event seats site ≡ seats site
seat_elsewhere world event seats site other =
    ap (λ b. cond b (moved_by world event (seats site)) (seats site)) (ne_eqb site (named event) other)

-- each site's waiting record is of that site
abbrev pub EachWaitsAt : Floor → Type 0
EachWaitsAt floor = (site : ℕ) → WaitsAt site (floor.seats site)

waits_at-moved : (world : World) (event : Event) (seat : Seat) → WaitsAt (named event) seat → WaitsAt (named event) (moved_by world event seat)
waits_at-moved world (Ask site) seat waits = waits
waits_at-moved world (Poll site) seat waits = waits_at_poll _ _ seat waits
waits_at-moved world (File site) seat waits = tt

pub each_waits_at : (world : World) (floor : Floor) (event : Event) → EachWaitsAt floor → EachWaitsAt (happens world floor event)
each_waits_at world floor event waits site =
    dite (ℕ_discrete site (named event))
    (λ same. subst (WaitsAt site) (sym (seat_here world event floor.seats site same))
    (subst (λ (s : ℕ). WaitsAt s (moved_by world event (floor.seats site))) (sym same)
    (waits_at-moved world event (floor.seats site) (subst (λ (s : ℕ). WaitsAt s (floor.seats site)) same (waits site)))))
    (λ other. subst (WaitsAt site) (sym (seat_elsewhere world event floor.seats site other)) (waits site))

-- what waits at a site is that site's
own_waits : (site : ℕ) (waiting : Option Record) → IfSome waiting (λ r. r.site ≡ site)
    → at_site_of site (option_to_list waiting) ≡ option_to_list waiting
own_waits site None own = refl
own_waits site (Some r) own = filter-yes (is_at site) r [] (eq-eqb r.site site own)

-- and no other's
other_waits : (site other : ℕ) (waiting : Option Record) → IfSome waiting (λ r. r.site ≡ other) → site ≢ other
    → at_site_of site (option_to_list waiting) ≡ []
other_waits site other None own apart = refl
other_waits site other (Some r) own apart =
    filter-no (is_at site) r [] (ne_eqb r.site site (λ e. apart (sym e ∙ own)))

filed_here : (event : Event) (seat : Seat) → WaitsAt (named event) seat → at_site_of (named event) (filed_by event seat) ≡ filed_by event seat
filed_here (Ask site) seat own = refl
filed_here (Poll site) seat own = refl
filed_here (File site) seat own = own_waits site seat.waiting own

filed_elsewhere : (site : ℕ) (event : Event) (seat : Seat) → WaitsAt (named event) seat → site ≢ named event
    → at_site_of site (filed_by event seat) ≡ []
filed_elsewhere site (Ask other) seat own apart = refl
filed_elsewhere site (Poll other) seat own apart = refl
filed_elsewhere site (File other) seat own apart = other_waits site other seat.waiting own apart

-- the journal's records of the site that an event names: those before, and what it files of that seat
pub journal_here : (world : World) (floor : Floor) (event : Event) (site : ℕ) → EachWaitsAt floor → site ≡ named event
    → at_site_of site (happens world floor event).journal ≡ at_site_of site floor.journal ++ filed_by event (floor.seats site)
journal_here world floor event site waits same =
    filter-append (is_at site) floor.journal (filed_by event (floor.seats (named event)))
    ∙ ap (λ l. at_site_of site floor.journal ++ l)
    (subst (λ (s : ℕ). at_site_of s (filed_by event (floor.seats (named event))) ≡ filed_by event (floor.seats s)) (sym same)
    (filed_here event (floor.seats (named event)) (waits (named event))))

-- those of every other site are as they were
pub journal_elsewhere : (world : World) (floor : Floor) (event : Event) (site : ℕ) → EachWaitsAt floor → site ≢ named event
    → at_site_of site (happens world floor event).journal ≡ at_site_of site floor.journal
journal_elsewhere world floor event site waits other =
    filter-append (is_at site) floor.journal (filed_by event (floor.seats (named event)))
    ∙ ap (λ l. at_site_of site floor.journal ++ l)
    (filed_elsewhere site event (floor.seats (named event)) (waits (named event)) other)
    ∙ append-nil (at_site_of site floor.journal)
