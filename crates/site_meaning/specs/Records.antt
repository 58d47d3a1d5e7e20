-- The records of a site: each touchdown of a die with its tries, as the plan and the cuts make them.
use Rattle.std.specs.Prelude.{◌≡◌, ℕ, zero, suc, ◌+◌, ◌<◌, ◌≤◌, ◌⊎◌, ◌==◌, ◌&&◌, Bool, true, false, if◌then◌else◌, List, [], ◌∷◌, map, length}
use Rattle.std.specs.List.{find, flat_map, range_with_len, AllByRecursion}
use Rattle.std.specs.Option.{option_map_or}
use Rattle.tester_types.specs.declared.record.Verdict.{Verdict}
use Rattle.tester_types.specs.declared.record.Verdict.TheVariants as verdict
use Rattle.tester_types.specs.declared.record.Trial.{Trial}
use Rattle.tester_types.specs.declared.record.Record.{Record}
use Rattle.site_meaning.specs.Part.{Part, lot_in, dies_in}
use Rattle.site_meaning.specs.Trials.{Cut, uncut, cut_of, trial}

-- whether a try failed, so that its die is tried again while tries are left
abbrev pub is_fail : Verdict → Bool
is_fail verdict.Pass = false
is_fail (verdict.Fail exec) = true
is_fail (verdict.Stopped batch by) = false
is_fail (verdict.Contact at) = false

-- ---- what a plan and cuts make of a site

-- the cut of a try of a die
pub record TryCut : Type 0 where
  pub die : ℕ
  pub number : ℕ
  pub cut : Cut

-- whether it is that of this try
abbrev pub is_cut_of : ℕ → ℕ → TryCut → Bool
is_cut_of die number entry = entry.die == die && entry.number == number

-- the cut of a try, by the first entry for it; none where there is no entry
unfoldable pub cut_at : List TryCut → ℕ → ℕ → Cut
cut_at cuts die number = option_map_or (λ (entry : TryCut). entry.cut) (find (is_cut_of die number) cuts) uncut

-- a try, and more of them where it failed
abbrev pub then_again : Trial → List Trial → List Trial
then_again first later = first ∷ (if is_fail first.verdict then later else [])

-- the tries of a touchdown, from this number on, where so many are left
unfoldable pub tries_from : Part → List TryCut → ℕ → ℕ → ℕ → List Trial
tries_from part cuts die number zero = []
tries_from part cuts die number (suc left) =
    then_again (trial part die number (cut_at cuts die number)) (tries_from part cuts die (number + 1) left)

-- the touchdown of a die: it is tried again after a fail while tries are left
abbrev pub touchdown : Part → List TryCut → ℕ → Record
touchdown part cuts die = record {
  site = part.site;
  die = die;
  trials = tries_from part cuts die 1 (lot_in part).tries;
}

-- the records of a site, in the order of its dies
abbrev pub records : Part → List TryCut → List Record
records part cuts = map (touchdown part cuts) (range_with_len 0 (dies_in part))

-- ---- what records tell of cuts

-- the cut that a recorded try tells
abbrev pub told_cut : ℕ → Trial → TryCut
told_cut die trial = record { die = die; number = trial.number; cut = cut_of trial }

-- the cuts that records tell
unfoldable pub cuts_of : List Record → List TryCut
cuts_of entries = flat_map (λ (entry : Record). map (told_cut entry.die) entry.trials) entries

-- a recorded try is what its die gives in the try of its number, with the cut that it tells
abbrev pub IsTrue : Part → ℕ → Trial → Type 0
IsTrue part die recorded = recorded ≡ trial part die recorded.number (cut_of recorded)

-- each try but the last failed; the last didn't, or it is the plan's last
abbrev pub EndsSo : ℕ → List Trial → Type 0
EndsSo tries [] = ⊥
EndsSo tries (last ∷ []) = (is_fail last.verdict ≡ false) ⊎ (last.number ≡ tries)
EndsSo tries (first ∷ next ∷ later) = (is_fail first.verdict ≡ true) × EndsSo tries (next ∷ later)

-- tries are numbered one after another, the first with this number
abbrev pub AreNumbered : ℕ → List Trial → Type 0
AreNumbered number [] = Unit {0}
AreNumbered number (first ∷ later) = (first.number ≡ number) × AreNumbered (number + 1) later

-- a record is that of a planned die of the site: its tries are true, and a die was tried again where it failed and
-- tries were left
pub record Sound (part : Part) (entry : Record) : Type 0 where
  pub site : entry.site ≡ part.site
  pub die : entry.die < dies_in part
  pub most : length entry.trials ≤ (lot_in part).tries
  pub numbers : AreNumbered 1 entry.trials
  pub each : AllByRecursion (IsTrue part entry.die) entry.trials
  pub ending : EndsSo (lot_in part).tries entry.trials

-- dies are in order: each record is that of the die behind the one before, from this die on
abbrev pub AreInOrder : ℕ → List Record → Type 0
AreInOrder die [] = Unit {0}
AreInOrder die (entry ∷ later) = (entry.die ≡ die) × AreInOrder (die + 1) later
