-- What the reading of a part answers.
use Rattle.std.specs.Prelude.{◌≡◌, ℕ, ◌++◌, Bool, true, Option, Some, None, List, Result, MatchResult}
use denote.Ref.{Bor}
use Rattle.std.specs.Option.{option_map}
use Rattle.std.specs.Str.{bytes_eq}
use Rattle.part_lines.specs.LineFault.{IsLineFault}
use Rattle.part_lines.specs.declared.fault.LineFault.{LineFault}
use Rattle.part_lines.specs.declared.fault.LineFault.TheVariants.{NoMemory, Line}
use Rattle.grade_parts.specs.Log.{GradeLog, Stuck, is_good}
use Rattle.grade_parts.specs.Turns.{IsPartBehind, HasGood, IsPartOf}
use Rattle.grade_parts.specs.Step.{Known, Knows}

-- the line of a good die that is lent
abbrev pub said_good : Option (Bor (List ℕ)) → Option (List ℕ)
said_good good = option_map (λ (line : Bor (List ℕ)). line.now) good

-- what is said of the good die is the line of one
abbrev pub IsGoodSaid : Option (List ℕ) → Type 0
IsGoodSaid None = Unit {0}
IsGoodSaid (Some good) = is_good good ≡ true

-- whether the line of a good die is this one, where there is one
abbrev pub is_good_of : Option (List ℕ) → List ℕ → Bool
is_good_of None line = true
is_good_of (Some good) line = bytes_eq good line

-- the text is that of a part behind these faults, and what it tells is known now
pub record IsReadPart (good : Option (List ℕ)) (before : List Stuck) (last : Bool) (text : List ℕ) (log : GradeLog)
    (now : Known) : Type 0 where
  pub told : List Stuck
  pub is_part : IsPartBehind before last text log told
  pub same : HasGood good log
  pub knows : Knows now (before ++ told)

-- want of memory, or the first line up to which no text of such a part begins so
abbrev pub IsPartFault : Option (List ℕ) → List Stuck → Bool → List ℕ → LineFault → Type 0
IsPartFault good before last text NoMemory = Unit {0}
IsPartFault good before last text (Line line) = IsLineFault (IsPartOf good before last) text line

-- the part is read, or it is none, which the fault says
abbrev pub ReadsPart : Option (List ℕ) → List Stuck → Bool → List ℕ → Known → Result GradeLog LineFault → Type 0
ReadsPart good before last text now result =
    MatchResult result (λ log. IsReadPart good before last text log now) (IsPartFault good before last text)
