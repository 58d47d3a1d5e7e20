-- The table at a place of a set.
use Rattle.std.proofs.Common.{◌≡◌, ℕ, ◌<◌, ◌≤◌, List, Option, None, length, get_or, refl, sym, ap, ◌∙◌, subst}
use Rattle.std.specs.List.{All, find}
use Rattle.std.proofs.lemmas.Option.{slice_get_read, slice_get_past}
use Rattle.tester_types.specs.Waves.{is_wave}
use Rattle.tester_types.specs.declared.wave.Wave.{Wave}
use Rattle.tester_types.specs.declared.wave.Table.{Table}
use Rattle.wave_tables.specs.Waves.{AreInOrder, waves_at, wave_in}

-- its waves are in order, as those of each table are
pub order_at : (tables all : List Table) (place : ℕ) (found : Table) → tables ≡ all → place < length tables
    → found ≡ get_or tables place found
    → All (λ (t : Table). AreInOrder t.waves) all
    → AreInOrder found.waves
order_at tables all place found same within is each =
    let here : get_or all place found ≡ found = sym (is ∙ ap (λ (l : List Table). get_or l place found) same) in
    subst (λ (t : Table). AreInOrder t.waves) here
    (each place found (subst (λ (l : List Table). place < length l) same within))

moved : (tables all : List Table) (place table signal character : ℕ) (o : Option Wave) → tables ≡ all → place ≡ table
    → o ≡ wave_in tables place signal character
    → o ≡ wave_in all table signal character
moved tables all place table signal character o same number is =
    is ∙ ap (λ (l : List Table). wave_in l place signal character) same
    ∙ ap (λ (n : ℕ). wave_in all n signal character) number

-- a wave of the table is one of the set
pub wave_at : (tables all : List Table) (place table signal character : ℕ) (found : Table) (o : Option Wave)
    → tables ≡ all → place ≡ table → place < length tables
    → found ≡ get_or tables place found
    → o ≡ find (is_wave signal character) found.waves
    → o ≡ wave_in all table signal character
wave_at tables all place table signal character found o same number within at is =
    let here = slice_get_read tables (length tables) place found refl within at in
    moved tables all place table signal character o same number
    (is ∙ ap (λ (t : Option Table). find (is_wave signal character) (waves_at t)) (sym here))

-- past the tables there is none
pub wave_past : (tables all : List Table) (place table signal character : ℕ) → tables ≡ all → place ≡ table
    → length tables ≤ place
    → None ≡ wave_in all table signal character
wave_past tables all place table signal character same number past =
    moved tables all place table signal character None same number
    (ap (λ (t : Option Table). find (is_wave signal character) (waves_at t)) (sym (slice_get_past tables place past)))
