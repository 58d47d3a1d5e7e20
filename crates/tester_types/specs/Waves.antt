-- Which wave of a table stands for a character of a signal, and the order of waves.
use Rattle.std.specs.Prelude.{◌≡◌, ℕ, ◌+◌, ◌*◌, ◌<◌, ◌≤◌, ◌==◌, Bool, ◌&&◌, List, Result, None, MatchResult, length, reverse, find, slice_get, slice_index_or}
use Rattle.tester_types.specs.declared.wave.Wave.{Wave}

-- whether the wave is for this signal and this character
abbrev pub is_wave : ℕ → ℕ → Wave → Bool
is_wave signal character wave = wave.signal == signal && wave.character == character

-- a number for each signal and character, in their order
abbrev pub wave_key : ℕ → ℕ → ℕ
wave_key signal character = signal * 256 + character

-- the same of a wave
abbrev pub key_in : Wave → ℕ
key_in w = wave_key w.signal w.character

-- each wave has a signal and a character behind those before it
abbrev pub Rise : List Wave → Type 0
Rise waves = (i j : ℕ) (d : Wave) → i < j → j < length waves
    → key_in (slice_index_or waves i d) < key_in (slice_index_or waves j d)

-- the waves before a place have smaller numbers than this one
abbrev pub AreBelow : List Wave → ℕ → ℕ → Type 0
AreBelow waves place key = (j : ℕ) (d : Wave) → j < place → j < length waves
    → key_in (slice_index_or waves j d) < key

-- the waves from a place on have no smaller numbers than this one
abbrev pub AreFrom : List Wave → ℕ → ℕ → Type 0
AreFrom waves place key = (j : ℕ) (d : Wave) → place ≤ j → j < length waves
    → key ≤ key_in (slice_index_or waves j d)

-- the last wave of the signal and the character stands at this place
pub record IsPlaceOf (waves : List Wave) (signal character place : ℕ) : Type 0 where
  pub within : place < length waves
  pub last : slice_get waves place ≡ find (is_wave signal character) (reverse waves)

-- the place was found, or there is no such wave
abbrev pub FindsLast : List Wave → ℕ → ℕ → Result ℕ ℕ → Type 0
FindsLast waves signal character result =
    MatchResult result (IsPlaceOf waves signal character) (λ _. find (is_wave signal character) (reverse waves) ≡ None)
