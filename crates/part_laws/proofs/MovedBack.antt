-- The records of a part at its number, under the number of the whole's site, are those of the whole's part.
use Rattle.std.proofs.Common.{◌≡◌, ℕ, ◌+◌, ◌<◌, ◌≤◌, List, [], ◌∷◌, ◌++◌, length, map, refl, sym, ap, ◌∙◌, subst}
use Rattle.std.specs.List.{AllByRecursion, flat_map, range_with_len}
use Rattle.std.proofs.lemmas.List.{length-map}
use Rattle.text_bytes.proofs.ListLemmas.{all_from}
use Rattle.tester_types.specs.declared.record.Record.{Record}
use Rattle.site_meaning.specs.Part.{Part, dies_in}
use Rattle.site_meaning.specs.Trials.{cut_of}
use Rattle.site_meaning.specs.Polls.{live_numbers}
use Rattle.site_meaning.specs.Records.{TryCut, IsTrue, EndsSo, Sound, AreInOrder, touchdown, records, told_cut, cuts_of}
use Rattle.site_meaning.specs.Alike.{ArePartsAlike}
use Rattle.site_meaning.proofs.AlikeLemmas.{records_alike}
use Rattle.plan_rows.specs.declared.row.LotRow.{LotRow}
use Rattle.lot_laws.specs.Moved.{moved_record}
use Rattle.lot_laws.proofs.MovedRows.{AreOf}
use Rattle.lot_laws.proofs.MovedLemmas.{there, records_is}
use Rattle.part_laws.proofs.StandMoved.{other_lot, other_dies, other_trial}

-- ---- records under another number

-- they tell the same cuts
pub cuts_moved : (site : ℕ) (entries : List Record)
    → cuts_of (map (moved_record site) entries) ≡ cuts_of entries
unfolding cuts_of
cuts_moved site [] = refl
cuts_moved site (e ∷ entries) = ap (λ (l : List TryCut). map (told_cut e.die) e.trials ++ l) (cuts_moved site entries)

-- and the same live stops
pub lives_moved : (site : ℕ) (entries : List Record)
    → flat_map live_numbers (map (moved_record site) entries) ≡ flat_map live_numbers entries
unfolding live_numbers
lives_moved site [] = refl
lives_moved site (e ∷ entries) = ap (λ (l : List ℕ). live_numbers e ++ l) (lives_moved site entries)

-- ---- the records of a part

-- each is of its site, so that they stay where their number is put back
each_back : (part : Part) (place : ℕ) (cuts : List TryCut) (dies : List ℕ)
    → map (moved_record part.site) (map (moved_record place) (map (touchdown part cuts) dies))
    ≡ map (touchdown part cuts) dies
each_back part place cuts [] = refl
each_back part place cuts (die ∷ dies) = ap (λ (l : List Record). touchdown part cuts die ∷ l) (each_back part place cuts dies)

-- they are in the same order
pub order_moved : (site die : ℕ) (entries : List Record) → AreInOrder die entries
    → AreInOrder die (map (moved_record site) entries)
order_moved site die [] order = tt
order_moved site die (e ∷ entries) order = (order.0, order_moved site (die + 1) entries order.1)

-- ---- a part under another number, and one that is alike

module _ (part : Part) (place : ℕ) (of_site : AreOf part.site part.rows) (other : Part)
    (alike : ArePartsAlike (there part place of_site) other) where
  -- a sound record of the other is one of the part
  sound_back : (entry : Record) → Sound other entry → Sound part (moved_record part.site entry)
  sound_back entry sound =
      let planned : entry.die < dies_in part = subst (λ (n : ℕ). entry.die < n) (other_dies part place of_site other alike) sound.die in
      record {
        site = refl;
        die = planned;
        most = subst (λ (l : LotRow). length entry.trials ≤ l.tries) (other_lot part place of_site other alike) sound.most;
        numbers = sound.numbers;
        each = all_from (IsTrue other entry.die) (IsTrue part entry.die)
            (λ t is. is ∙ other_trial part place of_site other alike entry.die t.number (cut_of t) planned) entry.trials sound.each;
        ending = subst (λ (l : LotRow). EndsSo l.tries entry.trials) (other_lot part place of_site other alike) sound.ending;
      }

  -- and sound records are sound ones
  pub all_sound_back : (entries : List Record) → AllByRecursion (Sound other) entries
      → AllByRecursion (Sound part) (map (moved_record part.site) entries)
  all_sound_back [] sound = tt
  all_sound_back (e ∷ entries) sound = (sound_back e sound.0, all_sound_back entries sound.1)

  -- its records are those that the part makes with the same cuts
  back_is : (entries : List Record) → entries ≡ records other (cuts_of entries)
      → map (moved_record part.site) entries ≡ records part (cuts_of entries)
  back_is entries whole =
      ap (map (moved_record part.site))
      (whole ∙ sym (records_alike (there part place of_site) other alike (cuts_of entries)) ∙ records_is part place of_site (cuts_of entries))
      ∙ each_back part place (cuts_of entries) (range_with_len 0 (dies_in part))

  -- and with those that they tell
  pub back_whole : (entries : List Record) → entries ≡ records other (cuts_of entries)
      → map (moved_record part.site) entries
      ≡ records part (cuts_of (map (moved_record part.site) entries))
  back_whole entries whole = back_is entries whole ∙ ap (records part) (sym (cuts_moved part.site entries))

  -- and as many
  pub back_all : (entries : List Record) → length entries ≡ dies_in other
      → length (map (moved_record part.site) entries) ≡ dies_in part
  back_all entries all = length-map entries (moved_record part.site) ∙ all ∙ other_dies part place of_site other alike
