-- Words of 64 as a list of bits.
use Rattle.std.specs.Prelude.{◌≡◌, ◌≢◌, ◌==◌, ℕ, ◌*◌, ◌/◌, ◌%◌, ◌<◌, Bool, List, length, map, slice_index}
use Rattle.std.specs.List.{range_with_len}
use Rattle.std.specs.Int.{bit_at}

-- the most places that are asked for
abbrev pub most_places : ℕ
most_places = 65536

-- a bit of the words, counted from the lowest bit of the first
abbrev pub bit_of : List ℕ → ℕ → Bool
bit_of words k = bit_at (slice_index words (k / 64)) (k % 64) == 1

-- all bits of the words
unfoldable pub bits_of : List ℕ → List Bool
bits_of words = map (bit_of words) (range_with_len 0 (64 * length words))

-- whether a place of a word is in the set
abbrev pub in_word : ℕ → ℕ → Bool
in_word word k = bit_at word k == 1

-- the first place of a word that is in the set
pub record IsLowest (word place : ℕ) : Type 0 where
  pub found : bit_at word place ≡ 1
  pub skipped : (k : ℕ) → k < place → bit_at word k ≡ 0

-- one place is taken out of a word, and no other
pub record IsRest (word place rest : ℕ) : Type 0 where
  pub here : bit_at rest place ≡ 0
  pub others : (k : ℕ) → k ≢ place → bit_at rest k ≡ bit_at word k
