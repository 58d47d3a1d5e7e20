-- What a part's work leaves at a number is, under the number of the whole's site, what the whole asks of that site.
use Rattle.std.proofs.Common.{◌≡◌, ℕ, ◌+◌, ◌<◌, List, [], ◌∷◌, map, refl, sym, ap, ◌∙◌, subst, arith, append-nil}
use Rattle.std.specs.Prelude.{Option, Some, None}
use Rattle.std.specs.List.{AllByRecursion, flat_map, range_with_len}
use Rattle.std.proofs.lemmas.List.Folds.{flat_map-map}
use Rattle.std.proofs.lemmas.List.Sums.{sum_by-cons}
use Rattle.tester_types.specs.declared.record.Record.{Record}
use Rattle.die_sim.specs.Socket.{Told, Calls}
use Rattle.lot_plan.specs.Bound.{Bound}
use Rattle.site_meaning.specs.Part.{Part, part_of, dies_in}
use Rattle.site_meaning.specs.Polls.{Climbs}
use Rattle.site_meaning.specs.Records.{Sound, records, touchdown, cuts_of}
use Rattle.site_meaning.specs.Alike.{ArePartsAlike}
use Rattle.cycle_run.specs.Tape.{with_calls}
use Rattle.site_run.specs.Taped.{calls_of}
use Rattle.tester_run.specs.Work.{AreRecords, AreTaped, HasRisenBy, contacts_of, contacts_in}
use Rattle.tester_run.specs.Lot.{AreOfSite}
use Rattle.lot_laws.specs.Moved.{moved_record}
use Rattle.lot_laws.proofs.MovedRows.{AreOf}
use Rattle.lot_laws.proofs.MovedLemmas.{there}
use Rattle.part_laws.proofs.StandMoved.{records_calls}
use Rattle.part_laws.proofs.MovedBack.{lives_moved, order_moved, all_sound_back, back_whole, back_all}

-- the contacts that records tell
contacts_moved : (site : ℕ) (entries : List Record)
    → contacts_in (map (moved_record site) entries) ≡ contacts_in entries
contacts_moved site [] = refl
contacts_moved site (e ∷ entries) =
    sum_by-cons contacts_of (moved_record site e) (map (moved_record site) entries)
    ∙ ap (λ (n : ℕ). contacts_of e + n) (contacts_moved site entries) ∙ sym (sum_by-cons contacts_of e entries)

-- sound records are of planned dies
all_planned : (part : Part) (entries : List Record) → AllByRecursion (Sound part) entries
    → AllByRecursion (λ (e : Record). e.die < dies_in part) entries
all_planned part [] sound = tt
all_planned part (e ∷ entries) sound = (sound.0.die, all_planned part entries sound.1)

module _ (part : Part) (place : ℕ) (of_site : AreOf part.site part.rows) (other : Part)
    (alike : ArePartsAlike (there part place of_site) other) (entries : List Record) (are : AreRecords other entries) where
  -- the whole list
  pub records_back : AreRecords part (map (moved_record part.site) entries)
  records_back = record {
    each = all_sound_back part place of_site other alike entries are.each;
    order = order_moved part.site 0 entries are.order;
    all = back_all part place of_site other alike entries are.all;
    whole = back_whole part place of_site other alike entries are.whole;
  }

  -- its drive calls
  calls_back : flat_map (calls_of part) (map (moved_record part.site) entries)
      ≡ flat_map (calls_of other) entries
  calls_back =
      records_calls part place of_site other alike (map (moved_record part.site) entries)
      (all_planned part (map (moved_record part.site) entries) (all_sound_back part place of_site other alike entries are.each))
      ∙ flat_map-map (calls_of other) (moved_record part.site) entries

  -- and its tape
  pub taped_back : (told told' : Told) → AreTaped other entries told told'
      → AreTaped part (map (moved_record part.site) entries) told told'
  taped_back told told' taped none = taped none ∙ ap (with_calls told.tape) (sym calls_back)

-- the whole list of a site
pub site_back : (plan plan' : Bound) (site place said : ℕ)
    (of_site : AreOf site (part_of plan site).rows)
    → ArePartsAlike (there (part_of plan site) place of_site) (part_of plan' place) → (told told' : Told) (entries : List Record)
    → AreOfSite plan' place said told told' entries
    → AreOfSite plan site said told told' (map (moved_record site) entries)
site_back plan plan' site place said of_site alike told told' entries of_place = record {
  records_are = records_back (part_of plan site) place of_site (part_of plan' place) alike entries of_place.records_are;
  last = of_place.last;
  rise = subst (λ (l : List ℕ). Climbs 0 l of_place.last) (sym (lives_moved site entries)) of_place.rise;
  within = of_place.within;
  contacts = subst (λ (n : ℕ). HasRisenBy n told.count told'.count) (sym (contacts_moved site entries)) of_place.contacts;
  taped = taped_back (part_of plan site) place of_site (part_of plan' place) alike entries of_place.records_are told told' of_place.taped;
}

-- ---- a site without dies

-- no call more
no_calls : (tape : Option Calls) → tape ≡ with_calls tape []
no_calls None = refl
no_calls (Some before) = ap (λ (l : Calls). Some l) (sym (append-nil before))

-- it has the empty list
pub records_none : (part : Part) → dies_in part ≡ 0 → AreRecords part []
records_none part none = record { each = tt; order = tt; all = sym none; whole = empty_is }
  where
    empty_is : [] ≡ records part (cuts_of [])
    empty_is = ap (λ (n : ℕ). map (touchdown part (cuts_of [])) (range_with_len 0 n)) (sym none)

-- and leaves its socket as it was
pub site_none : (plan : Bound) (site said : ℕ) (told : Told) → dies_in (part_of plan site) ≡ 0
    → AreOfSite plan site said told told []
site_none plan site said told none = record {
  records_are = records_none (part_of plan site) none;
  last = 0;
  rise = refl;
  within = omega arith;
  contacts = omega arith;
  taped = λ same. no_calls told.tape;
}
