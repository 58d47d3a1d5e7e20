-- The words of the command line.
use Rattle.std.specs.Prelude.{◌≡◌, ℕ, ◌<◌, ◌≤◌, List, [], ◌∷◌, ◌+◌, length, map, codes, decimal, String, string_bytes}
use Rattle.std.specs.declared.alloc.Global.{Global}
use Rattle.text_bytes.specs.Limits.{most_parts}

-- words without where they lie in memory
abbrev pub words_seen : List (String Global) → List (List ℕ)
words_seen words = map string_bytes words

-- part `part`, counted from 0, of so many
pub record IsPart (parts part : ℕ) : Type 0 where
  pub few : parts ≤ most_parts
  pub within : part < parts

-- the two words that say which part of how many: parts are counted from 1 there
pub record ArePart (words : List (List ℕ)) (parts part : ℕ) : Type 0 where
  pub of : IsPart parts part
  pub is : words ≡ decimal (part + 1) ∷ decimal parts ∷ []

-- the words `parts PLAN`
abbrev pub AreParts : List (List ℕ) → List ℕ → Type 0
AreParts words plan = words ≡ codes "parts" ∷ plan ∷ []

-- the words `part PLAN K N`
pub record AreCut (words : List (List ℕ)) (plan : List ℕ) (parts part : ℕ) : Type 0 where
  pub last : List (List ℕ)
  pub of : ArePart last parts part
  pub is : words ≡ codes "part" ∷ plan ∷ last

-- the words `merge PLAN FILE ..`
pub record AreMerge (words : List (List ℕ)) (plan : List ℕ) (files : List (List ℕ)) : Type 0 where
  pub some : 0 < length files
  pub few : length files ≤ most_parts
  pub is : words ≡ codes "merge" ∷ plan ∷ files

-- the words `grade PROGRAM PLAN K N`
pub record AreGrade (words : List (List ℕ)) (program plan : List ℕ) (parts part : ℕ) : Type 0 where
  pub last : List (List ℕ)
  pub of : ArePart last parts part
  pub is : words ≡ codes "grade" ∷ program ∷ plan ∷ last

-- the words `merge-grade FILE ..`
pub record AreMergeGrade (words : List (List ℕ)) (files : List (List ℕ)) : Type 0 where
  pub some : 0 < length files
  pub few : length files ≤ most_parts
  pub is : words ≡ codes "merge-grade" ∷ files

-- the words are none of these
pub record AreNone (words : List (List ℕ)) : Type 0 where
  pub parts : (plan : List ℕ) → AreParts words plan → ⊥
  pub cut : (plan : List ℕ) (parts part : ℕ) → AreCut words plan parts part → ⊥
  pub merge : (plan : List ℕ) (files : List (List ℕ)) → AreMerge words plan files → ⊥
  pub grade : (program plan : List ℕ) (parts part : ℕ) → AreGrade words program plan parts part → ⊥
  pub merge_grade : (files : List (List ℕ)) → AreMergeGrade words files → ⊥
