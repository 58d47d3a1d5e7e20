-- Whether a table defines a character, by the wave that is found.
use Rattle.std.proofs.Common.{◌≡◌, ℕ, Bool, true, false, cond, ◌||◌, List, [], ◌∷◌, Option, Some, None, refl, sym, ap, ◌∙◌}
use Rattle.std.specs.Prelude.{slice_get}
use Rattle.std.specs.Option.{option_map, is_some}
use Rattle.std.specs.List.{find, list_any}
use Rattle.tester_types.specs.Waves.{is_wave}
use Rattle.tester_types.specs.declared.wave.Wave.{Wave}
use Rattle.tester_types.specs.declared.wave.Table.{Table}
use Rattle.stil_ast.specs.Faults.CodeFaults.{is_defined}
use Rattle.wave_tables.specs.Waves.{waves_at, wave_in}

is_some-map : {A B : Type 0} (f : A → B) (o : Option A) → is_some (option_map f o) ≡ is_some o
is_some-map f None = refl
is_some-map f (Some x) = refl

is_some-cond : {A : Type 0} (b : Bool) (x : A) (o : Option A) → is_some (cond b (Some x) o) ≡ (b || is_some o)
is_some-cond true x o = refl
is_some-cond false x o = refl

found-any : {A : Type 0} (p : A → Bool) (xs : List A) → is_some (find p xs) ≡ list_any p xs
found-any p [] = refl
found-any p (x ∷ xs) = is_some-cond (p x) x (find p xs) ∙ ap (λ (b : Bool). p x || b) (found-any p xs)

defined-found : (table : Option Table) (signal character : ℕ)
    → is_some (find (is_wave signal character) (waves_at table)) ≡ is_defined table signal character
defined-found None signal character = refl
defined-found (Some t) signal character = found-any (is_wave signal character) t.waves

pub wave-defined : {A : Type 0} (f : A → Wave) (tables : List Table) (table signal character : ℕ) (found : Option A)
    → option_map f found ≡ wave_in tables table signal character
    → is_some found ≡ is_defined (slice_get tables table) signal character
wave-defined f tables table signal character found e =
    sym (is_some-map f found) ∙ (ap is_some e ∙ defined-found (slice_get tables table) signal character)
