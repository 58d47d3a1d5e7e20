-- Where all waves of a table stay inside its cycles, skews fit each row.
use Rattle.std.proofs.Common.{◌≡◌, ℕ, zero, suc, ◌<◌, ℤ, pos, Bool, true, false, cond, eqb, List, [], ◌∷◌, length, get_or, reverse, Option, Some, None, refl, ap, subst, ◌∙◌, arith}
use Rattle.std.proofs.lemmas.Bool.{and_from, and_parts, cond_both}
use Rattle.std.proofs.lemmas.List.{reverse-append}
use Rattle.std.proofs.lemmas.Int.{ints}
use Rattle.std.proofs.lemmas.List.Sums.{list_all-from_AllPass}
use Rattle.std.proofs.lemmas.List.Folds.{list_all-append}
use Rattle.std.specs.List.{All, find, list_all, slice_index}
use Rattle.std.specs.Option.{IfSome, option_map_or}
use Rattle.tester_types.specs.Waves.{is_wave}
use Rattle.tester_types.specs.declared.wave.Wave.{Wave}
use Rattle.tester_types.specs.declared.wave.Table.{Table}
use Rattle.edge_gen.specs.Signals.{wave_of, skew_of, no_skews, stays_inside, stay_inside, is_inside, keeps_inside, FitSkews}
use Rattle.edge_gen.proofs.SignalLemmas.{wave_of-signal}

-- ---- what each of a list passes, one that is found passes

found_next : {X : Type 0} (test p : X → Bool) (x : X) (rest : Option X) (b : Bool) → p x ≡ true
    → IfSome rest (λ y. p y ≡ true) → IfSome (cond b (Some x) rest) (λ y. p y ≡ true)
found_next test p x rest true here later = here
found_next test p x rest false here later = later

pub found_passes : {X : Type 0} (test p : X → Bool) (xs : List X) → list_all p xs ≡ true
    → IfSome (find test xs) (λ x. p x ≡ true)
found_passes test p [] all = tt
found_passes test p (x ∷ xs) all =
    let parts = and_parts (p x) (list_all p xs) all in
    found_next test p x (find test xs) (test x) parts.0 (found_passes test p xs parts.1)

pub all_reversed : {X : Type 0} (p : X → Bool) (xs : List X) → list_all p xs ≡ true
    → list_all p (reverse xs) ≡ true
all_reversed p [] all = refl
all_reversed p (x ∷ xs) all =
    let parts = and_parts (p x) (list_all p xs) all in
    ap (list_all p) (reverse-append (x ∷ []) xs) ∙ list_all-append p (reverse xs) (x ∷ [])
    ∙ and_from _ _ (all_reversed p xs parts.1) (and_from (p x) true parts.0 refl)

-- ---- the waves of a table

pub own_events : (period : ℕ) (skews : List ℤ) (signal : ℕ) (found : Option Wave)
    → IfSome found (λ wave. wave.signal ≡ signal) → IfSome found (λ wave. is_inside period skews wave ≡ true)
    → stay_inside period (skew_of skews signal) (option_map_or (λ wave. wave.events) found []) ≡ true
own_events period skews signal None own inside = refl
own_events period skews signal (Some wave) own inside =
    subst (λ s. stay_inside period (skew_of skews s) wave.events ≡ true) own inside

-- skews that keep each wave of a table inside its cycles fit each row
pub fit_rows : (table : Table) (row : List ℕ) (skews : List ℤ) → length skews ≡ length row
    → keeps_inside table skews ≡ true → FitSkews table row skews
fit_rows table row skews long all = record {
  one_each = long;
  inside = λ signal lt. own_events table.period skews signal (wave_of table.waves signal (slice_index row signal))
      (wave_of-signal table.waves signal (slice_index row signal)) (found signal);
}
  where
    found : (signal : ℕ) → IfSome (wave_of table.waves signal (slice_index row signal)) (λ wave. is_inside table.period skews wave ≡ true)
    found signal =
        let character = slice_index row signal in
        let wave = find (is_wave signal character) (reverse table.waves) in
        cond_both (eqb character 0) None wave (λ o. IfSome o (λ w. is_inside table.period skews w ≡ true)) (λ _. tt)
        (λ _. found_passes (is_wave signal character) (is_inside table.period skews) (reverse table.waves) (all_reversed (is_inside table.period skews) table.waves all))

-- ---- no skew

no_skew : (signals signal : ℕ) → skew_of (no_skews signals) signal ≡ pos 0
no_skew zero signal = refl
no_skew (suc n) zero = refl
no_skew (suc n) (suc signal) = no_skew n signal

stays_unmoved : (period time : ℕ) → time < period → stays_inside period (pos 0) time ≡ true
stays_unmoved period time within = grind (arith, ints)

-- events that are inside their cycle are there without a skew
pub unmoved_inside : (period signals : ℕ) (wave : Wave) → All (λ event. event.time < period) wave.events
    → is_inside period (no_skews signals) wave ≡ true
unmoved_inside period signals wave all =
    ap (λ skew. stay_inside period skew wave.events) (no_skew signals wave.signal)
    ∙ list_all-from_AllPass (λ event. stays_inside period (pos 0) event.time) wave.events
    (λ k d lt. stays_unmoved period (get_or wave.events k d).time (all k d lt))
