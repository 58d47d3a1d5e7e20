-- What is so of each site's records is so of a journal: its dies are told once, and each record is as its site's are.
use Rattle.std.proofs.Common.{◌≡◌, ℕ, zero, suc, ◌+◌, ◌<◌, true, false, List, [], ◌∷◌, ◌++◌, cond, All, get_or, sym, refl, subst, arith, eq-eqb}
use Rattle.std.specs.List.{AllByRecursion, AllPairs}
use Rattle.std.specs.Option.{option_to_list}
use Rattle.std.proofs.lemmas.List.Kept.{AllPairs-cons}
use Rattle.text_bytes.proofs.ListLemmas.{all_from}
use Rattle.tester_types.specs.declared.record.Record.{Record}
use Rattle.packed_code.specs.Conditions.{IsProgram}
use Rattle.lot_plan.specs.Bound.{Bound}
use Rattle.lot_plan.specs.Refusal.{IsBound}
use Rattle.site_meaning.specs.Part.{part_of}
use Rattle.site_meaning.specs.Records.{Sound}
use Rattle.site_meaning.proofs.AllLemmas.{all_parts}
use Rattle.site_meaning.proofs.SeatLemmas.{polls_are_true}
use Rattle.site_meaning.proofs.SkewLemmas.{accepted_part}
use Rattle.floor_core.specs.World.{World, Event, Floor, after, is_at, at_site_of}
use Rattle.floor_core.specs.Interleavings.{AreOfOneDie, IsRecordIn, IsJournal, told_at}
use Rattle.floor_core.proofs.ListLemmas.{each-tail, filter-yes}
use Rattle.floor_core.proofs.HistoryLemmas.{Follow, PollsWell, HasContacts, Histories, everywhere}

-- ---- each record

-- what is so of each record of each site is so of each record of a journal
lift_each : (P : ℕ → Record → Type 0) (journal : List Record) → ((site : ℕ) → AllByRecursion (P site) (at_site_of site journal))
    → AllByRecursion (λ entry. P entry.site entry) journal
lift_each P [] each = tt
lift_each P (entry ∷ later) each =
    let here = subst (AllByRecursion (P entry.site)) (filter-yes (is_at entry.site) entry later (eq-eqb entry.site entry.site refl)) (each entry.site) in
    (here.0, lift_each P later (λ site. each-tail (P site) (is_at site) entry later (each site)))

-- ---- dies once

-- the dies of records come one after another, from some die on
abbrev Follows : List Record → Type 0
Follows records = (from : ℕ) × (to : ℕ) × Follow from records to

-- the records behind one that follow it have later dies
later_dies : (from to die : ℕ) (records : List Record) → die < from → Follow from records to → AllByRecursion (λ r. die < r.die) records
later_dies from to die [] before follow = tt
later_dies from to die (r ∷ records) before follow =
    (omega (arith, before, follow.0), later_dies (from + 1) to die records (omega (arith, before)) follow.1)

-- so they do where a record of another site stands before them
follows-tail : (site : ℕ) (entry : Record) (later : List Record) → Follows (at_site_of site (entry ∷ later)) → Follows (at_site_of site later)
follows-tail site entry later =
    elim (is_at site entry) as (λ b. Follows (cond b (entry ∷ at_site_of site later) (at_site_of site later)) → Follows (at_site_of site later))
    [ true ↦ λ f. (f.0 + 1, f.1, f.2.1) | false ↦ λ f. f ]

-- what is so of each record of the site of a record is so of each that is of its site
of_one_site : (P : Record → Type 0) (site : ℕ) (records : List Record) → AllByRecursion P (at_site_of site records)
    → AllByRecursion (λ r. site ≡ r.site → P r) records
of_one_site P site [] each = tt
of_one_site P site (r ∷ records) each = (
  (λ same. (subst (AllByRecursion P) (filter-yes (is_at site) r records (eq-eqb r.site site (sym same))) each).0),
  of_one_site P site records (each-tail P (is_at site) r records each),
)

-- the same by places
by_places : {X : Type 0} (P : X → Type 0) (xs : List X) → AllByRecursion P xs → All P xs
by_places P [] each k d inside = absurd (omega arith)
by_places P (x ∷ xs) each zero d inside = each.0
by_places P (x ∷ xs) each (suc k) d inside = by_places P xs each.1 k d (omega (arith, inside))

-- a record and one of its site with a later die are of two dies
two_dies : (first later : Record) → (first.site ≡ later.site → first.die < later.die) → AreOfOneDie first later → ⊥
two_dies first later apart same = omega (arith, apart same.0, same.1)

-- a journal in which the dies of each site follow one another has each die once
dies_once : (journal : List Record) → ((site : ℕ) → Follows (at_site_of site journal))
    → AllPairs (λ first later. AreOfOneDie first later → ⊥) journal
dies_once [] follows = λ i j d before inside. absurd (omega (arith, inside))
dies_once (entry ∷ later) follows =
    let here = follows entry.site in
    let told : Follow here.0 (entry ∷ at_site_of entry.site later) here.1 =
    subst (λ (l : List Record). Follow here.0 l here.1) (filter-yes (is_at entry.site) entry later (eq-eqb entry.site entry.site refl)) here.2 in
    let behind = later_dies (here.0 + 1) here.1 entry.die (at_site_of entry.site later) (omega (arith, told.0)) told.1 in
    let apart = by_places (λ r. entry.site ≡ r.site → entry.die < r.die) later (of_one_site (λ r. entry.die < r.die) entry.site later behind) in
    AllPairs-cons (λ first later. AreOfOneDie first later → ⊥) entry later (λ k d inside. two_dies entry (get_or later k d) (apart k d inside))
    (dies_once later (λ site. follows-tail site entry later (follows site)))

-- the front of records that follow one another does too
follow-front : (from to : ℕ) (front back : List Record) → Follow from (front ++ back) to → (between : ℕ) × Follow from front between
follow-front from to [] back follow = (from, refl)
follow-front from to (r ∷ front) back follow =
    let rest = follow-front (from + 1) to front back follow.1 in (rest.0, (follow.0, rest.1))

-- ---- the journal

-- polls of a plan that is bound to a whole program are as the laws of polls say
pub polls_well : (plan : Bound) → IsProgram plan.program → IsBound plan → (site : ℕ) → PollsWell (part_of plan site)
polls_well plan program bound site seat contact = polls_are_true (part_of plan site) contact seat (accepted_part plan site program bound)

-- what is so of a record that a site has told
abbrev pub IsToldAt : World → ℕ → Record → Type 0
IsToldAt world site entry = Sound (part_of world.plan site) entry × HasContacts world site entry

-- two facts on each record are one
each-both : (P Q : Record → Type 0) (records : List Record) → AllByRecursion P records → AllByRecursion Q records
    → AllByRecursion (λ r. P r × Q r) records
each-both P Q [] a b = tt
each-both P Q (r ∷ records) a b = ((a.0, b.0), each-both P Q records a.1 b.1)

-- the journal's records of a site are as those that the site has told
pub filed_are_told : (world : World) (events : List Event) (floor : Floor) (site : ℕ) → Histories world events floor
    → AllByRecursion (IsToldAt world site) (at_site_of site floor.journal)
filed_are_told world events floor site h =
    let history = h.each site in
    (all_parts (IsToldAt world site) (at_site_of site floor.journal) (option_to_list (floor.seats site).waiting)
    (each-both (Sound (part_of world.plan site)) (HasContacts world site) (told_at site floor) history.sound history.contacts)).0

-- and so are all of the journal
each_record : (world : World) (events : List Event) (floor : Floor) → Histories world events floor
    → AllByRecursion (IsRecordIn world) floor.journal
each_record world events floor h =
    all_from (λ entry. IsToldAt world entry.site entry) (IsRecordIn world) (λ entry told. record { sound = told.0; contacts = told.1 }) floor.journal
    (lift_each (IsToldAt world) floor.journal (λ site. filed_are_told world events floor site h))

-- the dies of a site's records follow one another
pub filed_follow : (world : World) (events : List Event) (floor : Floor) → Histories world events floor → (site : ℕ)
    → (to : ℕ) × Follow 0 (at_site_of site floor.journal) to
filed_follow world events floor h site =
    follow-front 0 (floor.seats site).die (at_site_of site floor.journal) (option_to_list (floor.seats site).waiting) (h.each site).dies

pub is_journal : (world : World) → ((site : ℕ) → PollsWell (part_of world.plan site)) → (events : List Event) → IsJournal world events
is_journal world well events =
    let floor = after world events in
    let all = everywhere world well events in
    record {
      keys = dies_once floor.journal (λ site. let told = filed_follow world events floor all site in (0, told.0, told.1));
      each = each_record world events floor all;
      lives = λ site. record {
        rise = (all.each site).lives;
        most = omega (arith, (all.each site).taken, (all.each site).word);
      };
    }
