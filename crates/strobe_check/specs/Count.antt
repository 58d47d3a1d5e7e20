-- Fails that are counted, the first of them kept.
use Rattle.std.specs.Prelude.{◌≡◌, ℕ, ◌-◌, ◌^◌, List, ◌++◌, length, min, take}
use Rattle.tester_types.specs.declared.record.Fail.{Fail}

-- how many fails are kept at most, the kept ones, and the count
pub record Count : Type 0 where
  pub keep : ℕ
  pub kept : List Fail
  pub total : ℕ

-- the count of these fails; a count ends at the largest 64-bit number
pub record HasCounted (keep : ℕ) (fails : List Fail) (count : Count) : Type 0 where
  pub most : count.keep ≡ keep
  pub first : count.kept ≡ take keep fails
  pub all : count.total ≡ min (length fails) (2 ^ 64 - 1)

-- the count has these fails more, whatever was counted before
abbrev pub Counts : List Fail → Count → Count → Type 0
Counts fails old new =
    (keep : ℕ) (before : List Fail) → HasCounted keep before old → HasCounted keep (before ++ fails) new
