-- Levels of nets in 64 dies at once, two words a net. A lane is a place of the words, and stands for one die.
use Rattle.std.specs.Prelude.{◌≡◌, ℕ, ◌<◌, Bool, cond, Option, Some, None, List, length, slice_index_or}
use Rattle.std.specs.Int.{bit_at}
use Rattle.tester_types.specs.declared.level.Level.{Level}
use Rattle.tester_types.specs.declared.level.Level.TheVariants.{Zero, One, X, Z}
use Rattle.bench_net.specs.Gates.{level_at, is_zero, is_one}
use Rattle.die_words.specs.declared.word.Word.{Word}

-- 1 where it is so, else 0
abbrev pub bit : Bool → ℕ
bit b = cond {A = ℕ} b 1 0

-- the word past the last net
abbrev pub nothing : Word
nothing = record { zeros = 0; ones = 0 }

-- in a lane of a word a net has this level: one word says whether it is 0, one whether it is 1; unknown and off are
-- neither, as gates read them
pub record Shows (word : Word) (lane : ℕ) (x : Level) : Type 0 where
  pub zero : bit_at word.zeros lane ≡ bit (is_zero x)
  pub one : bit_at word.ones lane ≡ bit (is_one x)

-- in a lane a net is fixed so: at no level, at 0 or at 1
abbrev pub ShowsFault : Word → ℕ → Option Level → Type 0
ShowsFault word lane None = Shows word lane X
ShowsFault word lane (Some Zero) = Shows word lane Zero
ShowsFault word lane (Some One) = Shows word lane One
ShowsFault word lane (Some X) = ⊥
ShowsFault word lane (Some Z) = ⊥

-- in a lane the nets have these levels
pub record IsLane (words : List Word) (lane : ℕ) (levels : List Level) : Type 0 where
  pub count : length levels ≡ length words
  pub each : (n : ℕ) → n < length words → Shows (slice_index_or words n nothing) lane (level_at levels n)

-- in a lane the nets are fixed so
pub record AreFaults (forces : List Word) (lane : ℕ) (fixed : List (Option Level)) : Type 0 where
  pub count : length fixed ≡ length forces
  pub each : (n : ℕ) → n < length forces
      → ShowsFault (slice_index_or forces n nothing) lane (slice_index_or fixed n None)
