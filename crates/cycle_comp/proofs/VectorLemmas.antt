-- The vectors of executives whose trees have no fault: each has a table, a character at most for each signal, and a wave
-- for each character.
use Rattle.std.proofs.Common.{◌≡◌, ℕ, zero, suc, ◌+◌, ◌==◌, ◌&&◌, ◌||◌, Bool, true, false, List, [], ◌∷◌, length, map, Option, Some, None, refl, sym, subst, ◌∙◌, arith, inl, inr}
use Rattle.std.specs.Prelude.{slice_get, slice_index_or, unwrap_or}
use Rattle.std.specs.List.{list_all, list_any, AllByRecursion}
use Rattle.std.proofs.lemmas.Bool.{and_parts, and_from, or_cases, or_right, eqb-true}
use Rattle.std.proofs.lemmas.List.{length-set, length-replicate}
use Rattle.std.proofs.lemmas.Option.{none-some}
use Rattle.text_bytes.specs.Bytes.{is_character}
use Rattle.text_bytes.proofs.ListLemmas.{all_append}
use Rattle.tester_types.specs.declared.wave.Wave.{Wave}
use Rattle.tester_types.specs.declared.wave.Table.{Table}
use Rattle.stil_ast.specs.Data.Places.{Titles}
use Rattle.stil_ast.specs.Meaning.State.{State, Vector, start_of}
use Rattle.stil_ast.specs.Meaning.Dealing.{with_character}
use Rattle.stil_ast.specs.Meaning.Running.{Made, Ran, times, outside}
use Rattle.stil_ast.specs.Meaning.Flat.{Flat, done, table, character, back, cycle, repeat, save, saved, flat_run}
use Rattle.stil_ast.specs.Meaning.ExecutiveData.{Tree, Executive, tree_run, trees_run, vectors_of}
use Rattle.stil_ast.specs.Faults.Found.{fault_in, first_in}
use Rattle.stil_ast.specs.Faults.CodeFaults.{has_wave as has_one, have_waves, made_fault, vector_fault, trees_fault}
use Rattle.stil_ast.specs.declared.fault.StilKind.TheVariants.{NoWave}
use Rattle.stil_ast.proofs.FoundLemmas.{or_else-none}
use Rattle.packed_code.specs.Conditions.{has_wave, has_waves}
use Rattle.packed_code.specs.RowBytes.{is_place}
use Rattle.cycle_comp.proofs.EffectLemmas.{run-length}
use Rattle.cycle_comp.proofs.EachLemmas.{all_map}
use Rattle.burst_exec.proofs.WaveLemmas.{passed}
use Rattle.cycle_comp.proofs.WaveLemmas.{IsGoodWave}

-- ---- as many characters as signals

-- all vectors have so many characters
abbrev pub AreLong : ℕ → List Made → Type 0
AreLong n made = AllByRecursion (λ (m : Made). length m.vector.characters ≡ n) made

times_long : (n count : ℕ) (f : State → Ran State)
    → ((s : State) → length s.characters ≡ n → AreLong n (f s).made)
    → ((s : State) → length s.characters ≡ n → length (f s).here.characters ≡ n)
    → (s : State) → length s.characters ≡ n → AreLong n (times count f s).made
times_long n zero f long keeps s is = tt
times_long n (suc count) f long keeps s is =
    all_append (λ (m : Made). length m.vector.characters ≡ n) (f s).made (times count f (f s).here).made (long s is)
    (times_long n count f long keeps (f s).here (keeps s is))

times_keep : (n count : ℕ) (f : State → Ran State)
    → ((s : State) → length s.characters ≡ n → length (f s).here.characters ≡ n)
    → (s : State) → length s.characters ≡ n → length (times count f s).here.characters ≡ n
times_keep n zero f keeps s is = is
times_keep n (suc count) f keeps s is = times_keep n count f keeps (f s).here (keeps s is)

saved_long : (n : ℕ) (putting : Bool) (s : State) (r : Ran State) → AreLong n r.made → AreLong n (saved putting s r).made
saved_long n true s r long = long
saved_long n false s r long = long

saved_keep : (n : ℕ) (putting : Bool) (s : State) (r : Ran State) → length s.characters ≡ n → length r.here.characters ≡ n
    → length (saved putting s r).here.characters ≡ n
saved_keep n true s r is here = is
saved_keep n false s r is here = here

pub run_long : (n : ℕ) (f : Flat) (base s : State) → length s.characters ≡ n → AreLong n (flat_run f base s).made
run_long n done base s is = tt
run_long n (table t rest) base s is = run_long n rest base (record { table = Some t; characters = s.characters }) is
run_long n (character signal c rest) base s is =
    run_long n rest base (with_character signal (Some c) s) (length-set s.characters signal (Some c) ∙ is)
run_long n (back signal rest) base s is =
    let h = slice_index_or base.characters signal None in
    run_long n rest base (with_character signal h s) (length-set s.characters signal h ∙ is)
run_long n (cycle mark spot rest) base s is = (is, run_long n rest base s is)
run_long n (repeat count body rest) base s is =
    let r = times count (flat_run body base) s in
    let keeps : (s : State) → length s.characters ≡ n → length (flat_run body base s).here.characters ≡ n =
    λ s is. run-length body base s ∙ is in
    all_append (λ (m : Made). length m.vector.characters ≡ n) r.made (flat_run rest base r.here).made
    (times_long n count (flat_run body base) (λ s is. run_long n body base s is) keeps s is)
    (run_long n rest base r.here (times_keep n count (flat_run body base) keeps s is))
run_long n (save putting body rest) base s is =
    let r = saved putting s (flat_run body s s) in
    all_append (λ (m : Made). length m.vector.characters ≡ n) r.made (flat_run rest base r.here).made
    (saved_long n putting s (flat_run body s s) (run_long n body s s is))
    (run_long n rest base r.here (saved_keep n putting s (flat_run body s s) is (run-length body s s ∙ is)))

-- ---- a table, and waves in it

-- a vector that can run over these tables and so many signals
pub record IsRunnable (tables : List Table) (signals : ℕ) (v : Vector) : Type 0 where
  pub table : ℕ
  pub table_is : v.table ≡ Some table
  pub waves : have_waves (slice_get tables table) 0 v.characters ≡ true
  pub long : length v.characters ≡ signals

runnable : (tables : List Table) (titles : Titles) (signals : ℕ) (m : Made) (o : Option ℕ)
    → m.vector.table ≡ o → made_fault tables titles m o ≡ None
    → length m.vector.characters ≡ signals → IsRunnable tables signals m.vector
runnable tables titles signals m None is fine long = absurd (none-some _ (sym fine))
runnable tables titles signals m (Some t) is fine long = record {
  table = t;
  table_is = is;
  waves = (passed (have_waves (slice_get tables t) 0 m.vector.characters) (fault_in titles m.place NoWave) None fine).0;
  long = long;
}

all_runnable : (tables : List Table) (titles : Titles) (signals : ℕ) (made : List Made)
    → first_in (vector_fault tables titles) made ≡ None → AreLong signals made
    → AllByRecursion (λ (m : Made). IsRunnable tables signals m.vector) made
all_runnable tables titles signals [] fine long = tt
all_runnable tables titles signals (m ∷ made) fine long =
    let p = or_else-none (vector_fault tables titles m) (first_in (vector_fault tables titles) made) fine in
    (runnable tables titles signals m m.vector.table refl p.0 long.0, all_runnable tables titles signals made p.1 long.1)

trees_runnable : (tables : List Table) (signals : ℕ) (trees : List Tree) (s : State) → length s.characters ≡ signals
    → trees_fault tables trees s ≡ None
    → AllByRecursion (λ (m : Made). IsRunnable tables signals m.vector) (trees_run trees s).made
trees_runnable tables signals [] s is fine = tt
trees_runnable tables signals (t ∷ trees) s is fine =
    let r = tree_run t s in
    let p = or_else-none (first_in (vector_fault tables t.titles) r.made) (trees_fault tables trees r.here) fine in
    all_append (λ (m : Made). IsRunnable tables signals m.vector) r.made (trees_run trees r.here).made
    (all_runnable tables t.titles signals r.made p.0 (run_long signals t.flat (outside s).held s is))
    (trees_runnable tables signals trees r.here (run-length t.flat (outside s).held s ∙ is) p.1)

-- all vectors of an executive can run
pub vectors_runnable : (signals : ℕ) (e : Executive) → trees_fault e.tables e.trees (start_of signals) ≡ None
    → AllByRecursion (IsRunnable e.tables signals) (vectors_of signals e)
vectors_runnable signals e fine =
    all_map (λ (m : Made). m.vector) (λ (m : Made). IsRunnable e.tables signals m.vector) (IsRunnable e.tables signals)
    (λ m is. is) (trees_run e.trees (start_of signals)).made
    (trees_runnable e.tables signals e.trees (start_of signals) (length-replicate signals None) fine)

-- ---- rows

-- the waves of a table that may be missing
abbrev pub waves_in : Option Table → List Wave
waves_in None = []
waves_in (Some t) = t.waves

-- one character
one_wave : (o : Option Table) (signal : ℕ) (c : Option ℕ) → has_one o signal c ≡ true
    → (unwrap_or c 0 == 0 || has_wave (waves_in o) signal (unwrap_or c 0)) ≡ true
one_wave o signal None h = refl
one_wave None signal (Some c) h = absurd cc
one_wave (Some t) signal (Some c) h = or_right (c == 0) (has_wave t.waves signal c) h

-- a row has the waves that its vector has
pub row_has : (o : Option Table) (signal : ℕ) (characters : List (Option ℕ)) → have_waves o signal characters ≡ true
    → has_waves (waves_in o) signal (map (λ (c : Option ℕ). unwrap_or c 0) characters) ≡ true
row_has o signal [] h = refl
row_has o signal (c ∷ characters) h =
    let p = and_parts (has_one o signal c) (have_waves o (signal + 1) characters) h in
    let next : signal + 1 ≡ suc signal = omega arith in
    and_from (unwrap_or c 0 == 0 || has_wave (waves_in o) signal (unwrap_or c 0)) _ (one_wave o signal c p.0)
    (subst (λ (n : ℕ). has_waves (waves_in o) n (map (λ (c : Option ℕ). unwrap_or c 0) characters) ≡ true) next
    (row_has o (signal + 1) characters p.1))

-- a wave's character is a character
character_of_wave : (signals period : ℕ) (waves : List Wave) (signal wanted : ℕ)
    → AllByRecursion (IsGoodWave signals period) waves
    → list_any (λ (w : Wave). w.signal == signal && w.character == wanted) waves ≡ true → is_character wanted ≡ true
character_of_wave signals period [] signal wanted all has = absurd cc
character_of_wave signals period (w ∷ ws) signal wanted all has =
    elim (or_cases (w.signal == signal && w.character == wanted) _ has) [
      | inl here ↦ subst (λ (c : ℕ). is_character c ≡ true)
          (eqb-true w.character wanted (and_parts (w.signal == signal) (w.character == wanted) here).1) all.0.character
      | inr later ↦ character_of_wave signals period ws signal wanted all.1 later
    ]

-- a character or none
abbrev pub IsCharacter : Option ℕ → Type 0
IsCharacter None = Unit {0}
IsCharacter (Some c) = is_character c ≡ true

-- what is known of a table that may be missing
abbrev pub HasGoodWaves : ℕ → Option Table → Type 0
HasGoodWaves signals None = Unit {0}
HasGoodWaves signals (Some t) = AllByRecursion (IsGoodWave signals t.period) t.waves

one_character : (signals : ℕ) (o : Option Table) (signal : ℕ) (c : Option ℕ) → HasGoodWaves signals o
    → has_one o signal c ≡ true → IsCharacter c
one_character signals o signal None good h = tt
one_character signals None signal (Some c) good h = absurd cc
one_character signals (Some t) signal (Some c) good h = character_of_wave signals t.period t.waves signal c good h

-- the characters of a vector that can run
pub characters_are : (signals : ℕ) (o : Option Table) (signal : ℕ) (characters : List (Option ℕ)) → HasGoodWaves signals o
    → have_waves o signal characters ≡ true → AllByRecursion IsCharacter characters
characters_are signals o signal [] good h = tt
characters_are signals o signal (c ∷ characters) good h =
    let p = and_parts (has_one o signal c) (have_waves o (signal + 1) characters) h in
    (one_character signals o signal c good p.0, characters_are signals o (signal + 1) characters good p.1)

-- what a row has for them
one_place : (c : Option ℕ) → IsCharacter c → is_place (unwrap_or c 0) ≡ true
one_place None is = refl
one_place (Some c) is = or_right (c == 0) (is_character c) is

pub row_places : (characters : List (Option ℕ)) → AllByRecursion IsCharacter characters
    → list_all is_place (map (λ (c : Option ℕ). unwrap_or c 0) characters) ≡ true
row_places [] all = refl
row_places (c ∷ characters) all =
    and_from (is_place (unwrap_or c 0)) _ (one_place c all.0) (row_places characters all.1)
