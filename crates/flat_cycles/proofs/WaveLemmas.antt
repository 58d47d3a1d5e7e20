-- The waves that the language makes of a table of a flat text are those of the code.
use Rattle.std.proofs.Common.{◌≡◌, ℕ, ◌+◌, ◌*◌, ◌<◌, ◌≤◌, Bool, true, false, cond, ◌||◌, ◌&&◌, ◌==◌, List, [], ◌∷◌, ◌++◌, reverse, find, flat_map, filter_map, Option, Some, None, Result, refl, sym, ap, subst, ◌∙◌, arith}
use Rattle.std.specs.List.{AllZip, AllByRecursion, list_any}
use Rattle.std.proofs.lemmas.Bool.{eqb-true, eqb-false, eq-eqb, ne_eqb}
use Rattle.std.proofs.lemmas.List.{reverse-append}
use Rattle.text_bytes.specs.Bytes.{is_character}
use Rattle.text_bytes.specs.Limits.{longest_period}
use Rattle.tester_types.specs.declared.wave.Event.{Event}
use Rattle.tester_types.specs.declared.wave.Wave.{Wave}
use Rattle.stil_ast.specs.Data.Places.{Place}
use Rattle.stil_ast.specs.Data.Texts.{upwards}
use Rattle.stil_ast.specs.Meaning.Times.{Met, Times}
use Rattle.stil_ast.specs.Meaning.Tables.{Waveform, defines, events_of, every_character, wave_with, wave_of, waves_of}
use Rattle.flat_cycles.proofs.SortedLemmas.{Rising, has_rank, of_rank, mapped_same, found_all}
use Rattle.flat_cycles.proofs.KeyLemmas.{upwards_rising, upwards_has, characters_rising, characters_small, characters_have, rank_of, keys, keys_rising, keys_have, mapped_keys}

-- ---- the last that passes

find_without : {A : Type 0} (p : A → Bool) (xs : List A) (x : A) → p x ≡ false → find p (xs ++ x ∷ []) ≡ find p xs
find_without p [] x e = ap (λ (b : Bool). cond b (Some x) None) e
find_without p (y ∷ xs) x e = ap (λ (o : Option _). cond (p y) (Some y) o) (find_without p xs x e)

with_by : {A : Type 0} (b : Bool) (p : A → Bool) (xs : List A) (x y : A) → cond b (Some y) (find p xs) ≡ None
    → (find p xs ≡ None → find p (xs ++ x ∷ []) ≡ Some x) → cond b (Some y) (find p (xs ++ x ∷ [])) ≡ Some x
with_by true p xs x y none later = absurd cc
with_by false p xs x y none later = later none

find_with : {A : Type 0} (p : A → Bool) (xs : List A) (x : A) → find p xs ≡ None → p x ≡ true → find p (xs ++ x ∷ []) ≡ Some x
find_with p [] x none e = ap (λ (b : Bool). cond b (Some x) None) e
find_with p (y ∷ xs) x none e = with_by (p y) p xs x y none (λ later. find_with p xs x later e)

find_none : {A : Type 0} (p : A → Bool) (xs : List A) → AllByRecursion (λ x. p x ≡ false) xs → find p xs ≡ None
find_none p [] all = refl
find_none p (x ∷ xs) all = ap (λ (b : Bool). cond b (Some x) (find p xs)) all.0 ∙ find_none p xs all.1

-- at most one passes
abbrev Once : {A : Type 0} → (A → Bool) → List A → Type 0
Once p [] = Unit {0}
Once p (x ∷ xs) = (p x ≡ true → AllByRecursion (λ y. p y ≡ false) xs) × Once p xs

last_by : {A : Type 0} (b : Bool) (p : A → Bool) (x : A) (xs : List A) → p x ≡ b → (b ≡ true → AllByRecursion (λ y. p y ≡ false) xs)
    → find p (reverse xs) ≡ find p xs → find p (reverse xs ++ x ∷ []) ≡ cond b (Some x) (find p xs)
last_by true p x xs e others same = find_with p (reverse xs) x (same ∙ find_none p xs (others refl)) e
last_by false p x xs e others same = find_without p (reverse xs) x e ∙ same

-- then the last one is the first one
find_last : {A : Type 0} (p : A → Bool) (xs : List A) → Once p xs → find p (reverse xs) ≡ find p xs
find_last p [] once = refl
find_last p (x ∷ xs) once =
    ap (find p) (reverse-append (x ∷ []) xs)
    ∙ last_by (p x) p x xs refl once.0 (find_last p xs once.1)

-- ---- waves and waveforms

-- a wave's signal and character as a number
abbrev pub wave_rank : Wave → ℕ
wave_rank wave = wave.signal * 256 + wave.character

-- the test for a pair of signal and character
pair_by : (one two : Bool) (a b s l : ℕ) → (a == s) ≡ one → (b == l) ≡ two → b < 256 → l < 256
    → ((one || false) && (two || false)) ≡ (a * 256 + b == s * 256 + l)
pair_by true true a b s l e f small less =
    let same : a ≡ s = eqb-true a s e in
    let character : b ≡ l = eqb-true b l f in
    sym (eq-eqb (a * 256 + b) (s * 256 + l) (omega (arith, same, character)))
pair_by true false a b s l e f small less =
    let same : a ≡ s = eqb-true a s e in
    sym (ne_eqb (a * 256 + b) (s * 256 + l) (λ is. eqb-false b l f (omega (arith, same, is))))
pair_by false two a b s l e f small less =
    sym (ne_eqb (a * 256 + b) (s * 256 + l) (λ is. eqb-false a s e (omega (arith, small, less, is))))

-- a wave of a signal and a character, whose events have times
pub record WaveFits (signals : ℕ) (wave : Wave) : Type 0 where
  pub signal : wave.signal < signals
  pub character : is_character wave.character ≡ true
  pub times : AllByRecursion (λ (event : Event). event.time ≤ longest_period) wave.events

-- the pair of each is there
pairs_there : (signals : ℕ) (waves : List Wave) → AllByRecursion (WaveFits signals) waves
    → AllByRecursion (λ wave. has_rank rank_of (keys (upwards 0 signals) every_character) (wave_rank wave) ≡ true) waves
pairs_there signals [] fit = tt
pairs_there signals (wave ∷ waves) fit =
    let less = fit.0.signal in (
      keys_have (upwards 0 signals) every_character wave.signal wave.character
          (upwards_has 0 signals wave.signal (omega arith) (omega (arith, less))) (characters_have wave.character fit.0.character),
      pairs_there signals waves fit.1,
    )

module _ {V : Type 0} (times : Times V) (vars : List ℕ → Result V Met) (p : Place) where
  -- a waveform is that of a wave
  pub record IsWaveform (wave : Wave) (w : Waveform) : Type 0 where
    pub signals : w.signals ≡ wave.signal ∷ []
    pub characters : w.characters ≡ wave.character ∷ []
    pub small : wave.character < 256
    pub events : events_of times vars p wave.character w ≡ wave.events

  test_is : (s l : ℕ) (wave : Wave) (w : Waveform) → l < 256 → IsWaveform wave w → defines s l w ≡ (wave_rank wave == s * 256 + l)
  test_is s l wave w less is =
      ap (λ (signals : List ℕ). list_any (λ x. x == s) signals && list_any (λ c. c == l) w.characters) is.signals
      ∙ ap (λ (characters : List ℕ). ((wave.signal == s) || false) && list_any (λ c. c == l) characters) is.characters
      ∙ pair_by (wave.signal == s) (wave.character == l) wave.signal wave.character s l refl refl is.small less

  fail_above : (s l : ℕ) (waves : List Wave) (all : List Waveform) → l < 256 → AllZip IsWaveform waves all
      → AllByRecursion (λ wave. s * 256 + l < wave_rank wave) waves → AllByRecursion (λ w. defines s l w ≡ false) all
  fail_above s l [] [] less are above = tt
  fail_above s l [] (w ∷ all) less are above = absurd are
  fail_above s l (wave ∷ waves) [] less are above = absurd are
  fail_above s l (wave ∷ waves) (w ∷ all) less are above = (
    test_is s l wave w less are.0 ∙ ne_eqb (wave_rank wave) (s * 256 + l) (λ is. let more = above.0 in omega (arith, is, more)),
    fail_above s l waves all less are.1 above.1,
  )

  once_each : (s l : ℕ) (waves : List Wave) (all : List Waveform) → l < 256 → AllZip IsWaveform waves all → Rising wave_rank waves
      → Once (defines s l) all
  once_each s l [] [] less are rising = tt
  once_each s l [] (w ∷ all) less are rising = absurd are
  once_each s l (wave ∷ waves) [] less are rising = absurd are
  once_each s l (wave ∷ waves) (w ∷ all) less are rising = (
    λ passes.
        let is : wave_rank wave ≡ s * 256 + l = eqb-true (wave_rank wave) (s * 256 + l) (sym (test_is s l wave w less are.0) ∙ passes) in
        fail_above s l waves all less are.1 (subst (λ (m : ℕ). AllByRecursion (λ later. m < wave_rank later) waves) is rising.0),
    once_each s l waves all less are.1 rising.1,
  )

  wave_by : (b : Bool) (s l : ℕ) (wave : Wave) (w : Waveform) (found : Option Waveform) (here : Option Wave) → l < 256
      → (wave_rank wave == s * 256 + l) ≡ b → IsWaveform wave w → wave_with times vars p s l found ≡ here
      → wave_with times vars p s l (cond b (Some w) found) ≡ cond b (Some wave) here
  wave_by true s l wave w found here less e is so =
      let at : wave_rank wave ≡ s * 256 + l = eqb-true (wave_rank wave) (s * 256 + l) e in
      let small = is.small in
      let signal : s ≡ wave.signal = omega (arith, at, small, less) in
      let character : l ≡ wave.character = omega (arith, at, signal) in
      ap (λ (x : ℕ). wave_with times vars p x l (Some w)) signal
      ∙ ap (λ (x : ℕ). wave_with times vars p wave.signal x (Some w)) character
      ∙ ap (λ (events : List Event). Some (record { signal = wave.signal; character = wave.character; events = events })) is.events
  wave_by false s l wave w found here less e is so = so

  -- what is found among the waveforms is the wave
  found_wave : (s l : ℕ) (waves : List Wave) (all : List Waveform) → l < 256 → AllZip IsWaveform waves all
      → wave_with times vars p s l (find (defines s l) all) ≡ of_rank wave_rank waves (s * 256 + l)
  found_wave s l [] [] less are = refl
  found_wave s l [] (w ∷ all) less are = absurd are
  found_wave s l (wave ∷ waves) [] less are = absurd are
  found_wave s l (wave ∷ waves) (w ∷ all) less are =
      ap (λ (b : Bool). wave_with times vars p s l (cond b (Some w) (find (defines s l) all))) (test_is s l wave w less are.0)
      ∙ wave_by (wave_rank wave == s * 256 + l) s l wave w (find (defines s l) all) (of_rank wave_rank waves (s * 256 + l)) less refl are.0
      (found_wave s l waves all less are.1)

  wave_is : (s l : ℕ) (waves : List Wave) (all : List Waveform) → l < 256 → AllZip IsWaveform waves all → Rising wave_rank waves
      → wave_of times vars p all s l ≡ of_rank wave_rank waves (s * 256 + l)
  wave_is s l waves all less are rising =
      ap (wave_with times vars p s l) (find_last (defines s l) all (once_each s l waves all less are rising))
      ∙ found_wave s l waves all less are

  row_is : (s : ℕ) (characters : List ℕ) (waves : List Wave) (all : List Waveform) → AllByRecursion (λ l. l < 256) characters
      → AllZip IsWaveform waves all → Rising wave_rank waves
      → AllByRecursion (λ l. wave_of times vars p all s l ≡ of_rank wave_rank waves (rank_of (s, l))) characters
  row_is s [] waves all small are rising = tt
  row_is s (l ∷ characters) waves all small are rising =
      (wave_is s l waves all small.0 are rising, row_is s characters waves all small.1 are rising)

  rows_are : (signals : List ℕ) (waves : List Wave) (all : List Waveform) → AllZip IsWaveform waves all → Rising wave_rank waves
      → flat_map (λ s. filter_map (λ l. wave_of times vars p all s l) every_character) signals
      ≡ flat_map (λ s. filter_map (λ l. of_rank wave_rank waves (rank_of (s, l))) every_character) signals
  rows_are [] waves all are rising = refl
  rows_are (s ∷ signals) waves all are rising =
      ap (λ (l : List Wave). l ++ flat_map (λ s. filter_map (λ l. wave_of times vars p all s l) every_character) signals)
      (mapped_same (λ l. wave_of times vars p all s l) (λ l. of_rank wave_rank waves (rank_of (s, l))) every_character
      (row_is s every_character waves all characters_small are rising))
      ∙ ap (λ (more : List Wave). filter_map (λ l. of_rank wave_rank waves (rank_of (s, l))) every_character ++ more)
      (rows_are signals waves all are rising)

  -- the waves that are made are the waves
  pub waves_made : (signals : ℕ) (waves : List Wave) (all : List Waveform) → AllZip IsWaveform waves all → Rising wave_rank waves
      → AllByRecursion (WaveFits signals) waves → waves_of times vars p all signals ≡ waves
  waves_made signals waves all are rising fit =
      rows_are (upwards 0 signals) waves all are rising
      ∙ mapped_keys (λ k. of_rank wave_rank waves (rank_of k)) (upwards 0 signals) every_character
      ∙ found_all rank_of wave_rank (keys (upwards 0 signals) every_character) waves
      (keys_rising (upwards 0 signals) every_character characters_small characters_rising (upwards_rising 0 signals)) rising
      (pairs_there signals waves fit)
