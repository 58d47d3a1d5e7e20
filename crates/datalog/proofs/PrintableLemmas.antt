-- Sound records can be printed: each is of a planned die, has a try, and keeps fails of the code's signals.
use Rattle.std.proofs.Common.{◌≡◌, ℕ, ◌<◌, List, [], ◌∷◌, length, All, sym, ap, ◌∙◌, subst, arith}
use Rattle.std.specs.List.{AllByRecursion}
use Rattle.std.proofs.lemmas.List.{length-map, get_or-map}
use Rattle.text_bytes.proofs.ListLemmas.{all_from}
use Rattle.tester_types.specs.declared.record.Fail.{Fail}
use Rattle.tester_types.specs.declared.record.Record.{Record}
use Rattle.tester_types.specs.declared.record.Trial.{Trial}
use Rattle.tester_types.specs.Records.{SiteRecords, records_of}
use Rattle.packed_code.proofs.Lists.{all_at}
use Rattle.die_sim.specs.Die.{Image}
use Rattle.plan_rows.specs.Rows.{sites_of, dies_at}
use Rattle.plan_rows.proofs.RowLemmas.{sites_of-within}
use Rattle.lot_plan.specs.Bound.{Bound}
use Rattle.lot_plan.specs.Refusal.{IsBound}
use Rattle.lot_plan.proofs.GroupLemmas.{site-below}
use Rattle.site_meaning.specs.Part.{part_of, stand_for}
use Rattle.site_meaning.specs.Trials.{cut_of, trial}
use Rattle.site_meaning.specs.Records.{IsTrue, Sound, EndsSo}
use Rattle.site_meaning.proofs.PartLemmas.{dies_in-part_of, image_in-part_of}
use Rattle.floor_core.specs.Book.{at_site, empty_site}
use Rattle.datalog.specs.Printable.{AreSound, IsKnownTrial, IsPrintable, IsPrintableAt, ArePrintable}
use Rattle.datalog.proofs.KnownLemmas.{known_trial}
use Rattle.site_meaning.proofs.ImageLemmas.{image-long}

-- ---- a try

-- a die of a bound plan binds as many signals as the code has
length-binds : (plan : Bound) (site die number : ℕ) → IsBound plan → die < length (dies_at site plan.rows)
    → length (stand_for (part_of plan site) die number).device.binds ≡ length plan.program.signals
length-binds plan site die number bound planned =
    ap (λ (image : Image). length image.binds) (image_in-part_of plan site die number planned)
    ∙ image-long plan site die number bound planned

-- the fails that a true try keeps
kept_known : (plan : Bound) (site die : ℕ) (t : Trial) → IsBound plan → die < length (dies_at site plan.rows)
    → IsTrue (part_of plan site) die t → AllByRecursion (λ (f : Fail). f.signal < length plan.program.signals) t.kept
kept_known plan site die t bound planned true_try =
    subst (λ (x : Trial). AllByRecursion (λ (f : Fail). f.signal < length plan.program.signals) x.kept) (sym true_try)
    (subst (λ (n : ℕ). AllByRecursion (λ (f : Fail). f.signal < n) (trial (part_of plan site) die t.number (cut_of t)).kept)
    (length-binds plan site die t.number bound planned) (known_trial (part_of plan site) die t.number (cut_of t)))

-- so a true try is known
known_try : (plan : Bound) (site die : ℕ) (t : Trial) → IsBound plan → die < length (dies_at site plan.rows)
    → IsTrue (part_of plan site) die t → IsKnownTrial plan.program t
known_try plan site die t bound planned true_try k d within =
    record {
      signal = all_at (λ (f : Fail). f.signal < length plan.program.signals) t.kept k d
          (kept_known plan site die t bound planned true_try) within;
    }

-- ---- a record

-- tries that end have a last one
some_tries : (tries : ℕ) (ts : List Trial) → EndsSo tries ts → 0 < length ts
some_tries tries [] ending = absurd ending
some_tries tries (t ∷ ts) ending = omega arith

-- a sound record of a site of the plan
printable : (plan : Bound) (site : ℕ) (entry : Record) → IsBound plan → site < sites_of plan.rows
    → Sound (part_of plan site) entry → IsPrintableAt plan.program plan site entry
printable plan site entry bound there sound = record {
  own = own;
  printable = record {
    site = omega (arith, own, there);
    die = subst (λ (n : ℕ). entry.die < length (dies_at n plan.rows)) (sym own) planned;
    tried = some_tries _ entry.trials sound.ending;
    known = λ k d within. all_at (IsKnownTrial plan.program) entry.trials k d
        (all_from (IsTrue (part_of plan site) entry.die) (IsKnownTrial plan.program)
        (λ t true_try. known_try plan site entry.die t bound planned true_try) entry.trials sound.each) within;
  };
}
  where
    own : entry.site ≡ site
    own = sound.site

    planned : entry.die < length (dies_at site plan.rows)
    planned = subst (λ (n : ℕ). entry.die < n) (dies_in-part_of plan site) sound.die

-- ---- a lot

-- the records of a site
site_printable : (plan : Bound) (site : ℕ) (entries : List Record) → IsBound plan → site < sites_of plan.rows
    → AllByRecursion (Sound (part_of plan site)) entries → All (IsPrintableAt plan.program plan site) entries
site_printable plan site entries bound there each k d within =
    all_at (IsPrintableAt plan.program plan site) entries k d
    (all_from (Sound (part_of plan site)) (IsPrintableAt plan.program plan site)
    (λ entry sound. printable plan site entry bound there sound) entries each) within

-- alone, at the site that it names
pub printable_alone : (plan : Bound) (entry : Record) → IsBound plan → Sound (part_of plan entry.site) entry
    → IsPrintable plan.program plan entry
printable_alone plan entry bound sound =
    let planned = subst (λ (n : ℕ). entry.die < n) (dies_in-part_of plan entry.site) sound.die in
    (printable plan entry.site entry bound (site-below plan.rows entry.site entry.die planned) sound).printable

-- a book of the plan whose records are sound
pub printable_book : (plan : Bound) (book : List SiteRecords) → IsBound plan → AreSound plan book
    → ArePrintable plan.program plan (records_of book)
printable_book plan book bound sound = record {
  few = omega (arith, sites_of-within plan.rows bound.kept, sound.sites, size);
  each = λ site none within.
      subst (All (IsPrintableAt plan.program plan site))
      (sym (get_or-map (λ (s : SiteRecords). s.records) book site (empty_site 0) none (omega (arith, within, size))))
      (site_printable plan site (at_site book site).records bound (omega (arith, within, size, sound.sites))
      (sound.each site (omega (arith, within, size, sound.sites))));
}
  where
    size : length (records_of book) ≡ length book
    size = length-map book (λ (s : SiteRecords). s.records)
