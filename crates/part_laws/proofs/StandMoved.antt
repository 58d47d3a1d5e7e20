-- A site under another number has the same tries, and puts the same drive calls on a tape.
use Rattle.std.proofs.Common.{◌≡◌, ℕ, ◌<◌, List, [], ◌∷◌, ◌++◌, length, take, refl, sym, ap, ◌∙◌, subst}
use Rattle.std.specs.List.{AllByRecursion, flat_map}
use Rattle.tester_types.specs.declared.record.Record.{Record}
use Rattle.tester_types.specs.declared.record.Trial.{Trial}
use Rattle.die_sim.specs.Socket.{Calls}
use Rattle.plan_rows.specs.Rows.{dies_at, lot_of}
use Rattle.site_meaning.specs.Playing.{Stand, starting}
use Rattle.site_meaning.specs.Part.{Part, lot_in, dies_in}
use Rattle.site_meaning.specs.Trials.{Cut, trial}
use Rattle.site_meaning.specs.Alike.{ArePartsAlike}
use Rattle.site_meaning.proofs.AlikeLemmas.{trials_alike}
use Rattle.cycle_run.specs.Batch.{calls_of_cycles}
use Rattle.site_run.specs.Taped.{all_cycles, calls_of_try, calls_of_trial, calls_of_trials, calls_of}
use Rattle.lot_laws.proofs.CallsAlike.{try_calls_alike}
use Rattle.lot_laws.proofs.MovedRows.{AreOf}
use Rattle.lot_laws.proofs.MovedLemmas.{there, dies_is, lot_is, stand_is, trial_is}

-- ---- a part under another number

module _ (part : Part) (place : ℕ) (of_site : AreOf part.site part.rows) where
  -- the part under that number
  abbrev moved_part : Part
  moved_part = there part place of_site

  -- ---- and a part that is alike

  module _ (other : Part) (alike : ArePartsAlike moved_part other) where
    -- and under the number
    own_calls : (die number count : ℕ)
        → calls_of_try moved_part die number count ≡ calls_of_try part die number count
    unfolding calls_of_try
    own_calls die number count =
        ap (λ (s : Stand). calls_of_cycles s (starting s.device) (take count (all_cycles part.code))) (stand_is part place of_site die number)

    -- the calls of a try
    try_calls : (die number count : ℕ) → die < dies_in part
        → calls_of_try part die number count ≡ calls_of_try other die number count
    try_calls die number count planned =
        sym (own_calls die number count)
        ∙ try_calls_alike moved_part other alike die number count (subst (λ (n : ℕ). die < n) (sym (dies_is part place of_site)) planned)

    -- the numbers of the lot, the dies, and a try
    pub other_lot : lot_in other ≡ lot_in part
    other_lot = ap lot_of (sym alike.rows) ∙ lot_is part place of_site

    pub other_dies : dies_in other ≡ dies_in part
    other_dies = (λ i. length (dies_at (sym alike.site i) (sym alike.rows i))) ∙ dies_is part place of_site

    pub other_trial : (die number : ℕ) (cut : Cut) → die < dies_in part
        → trial other die number cut ≡ trial part die number cut
    other_trial die number cut planned =
        sym (trials_alike moved_part other alike die number cut (subst (λ (n : ℕ). die < n) (sym (dies_is part place of_site)) planned))
        ∙ trial_is part place of_site die number cut

    -- the calls of tries
    trials_calls : (die : ℕ) (ts : List Trial) → die < dies_in part
        → calls_of_trials part die ts ≡ calls_of_trials other die ts
    trials_calls die [] planned = refl
    trials_calls die (t ∷ ts) planned =
        ap (λ (l : Calls). l ++ calls_of_trials part die ts) (try_calls die t.number t.cycles planned)
        ∙ ap (λ (l : Calls). calls_of_trial other die t ++ l) (trials_calls die ts planned)

    -- the calls of records
    pub records_calls : (entries : List Record)
        → AllByRecursion (λ (e : Record). e.die < dies_in part) entries
        → flat_map (calls_of part) entries ≡ flat_map (calls_of other) entries
    records_calls [] planned = refl
    records_calls (e ∷ entries) planned =
        ap (λ (l : Calls). l ++ flat_map (calls_of part) entries) (trials_calls e.die e.trials planned.0)
        ∙ ap (λ (l : Calls). calls_of other e ++ l) (records_calls entries planned.1)
