-- What the text of a grade may be, by its lines alone.
use Rattle.std.specs.Prelude.{◌≡◌, ℕ, ◌-◌, ◌&&◌, ◌||◌, Bool, true, not, List, ◌++◌, length, drop, codes, decimal}
use Rattle.std.specs.List.{count_by, flat_map, AllByRecursion}
use Rattle.std.specs.Str.{bytes_eq}
use Rattle.text_bytes.specs.Numbers.{are_digits}
use Rattle.grade_listing.specs.GradeText.{value_text}
use Rattle.part_lines.specs.Lines.{ended, is_one_line, begins_so}
use Rattle.part_lines.specs.Words.{is_named}

-- the line of the good die, and those of the faults, without line feeds
pub record GradeLog : Type 0 where
  pub good : List ℕ
  pub faults : List (List ℕ)

-- a net that is stuck: its name as it is printed, and whether it is stuck at 1
pub record Stuck : Type 0 where
  pub net : List ℕ
  pub value : Bool

-- whether these bytes tell a first failing cycle: a number, or that there is none
abbrev pub is_cycle : List ℕ → Bool
is_cycle bytes = are_digits bytes || bytes_eq bytes (codes "none")

-- whether a line, without its line feed, is that of a good die: `good CYCLE`
abbrev pub is_good : List ℕ → Bool
is_good line = (begins_so (codes "good") line && is_cycle (drop 5 line)) && is_one_line line

-- the line, without its line feed, is `fault NET VALUE CYCLE`, of this stuck net
pub record Tells (line : List ℕ) (stuck : Stuck) : Type 0 where
  pub one : is_one_line line ≡ true
  pub is_net : is_named stuck.net ≡ true
  pub cycle : List ℕ
  pub is_cycle : is_cycle cycle ≡ true
  pub is : line ≡ codes "fault " ++ stuck.net ++ value_text stuck.value ++ cycle

-- each line is that of a fault
abbrev pub AreFaults : List (List ℕ) → Type 0
AreFaults lines = AllByRecursion (λ line. (stuck : Stuck) × Tells line stuck) lines

-- whether a line ends with the word for no cycle
abbrev pub ends_none : List ℕ → Bool
ends_none line = bytes_eq (drop (length line - 5) line) (codes " none")

-- the lines are of these forms
pub record IsGradeLog (log : GradeLog) : Type 0 where
  pub good : is_good log.good ≡ true
  pub faults : AreFaults log.faults

-- how many faults some cycle finds
abbrev pub found_in : List (List ℕ) → ℕ
found_in faults = count_by (λ line. not (ends_none line)) faults

-- how many faults there are, and how many of them are found
abbrev pub counts_line : List (List ℕ) → List ℕ
counts_line faults =
    codes "faults " ++ decimal (length faults) ++ codes " found " ++ decimal (found_in faults) ++ codes "\n"

-- the text of a grade
unfoldable pub log_text : GradeLog → List ℕ
log_text log = ended log.good ++ flat_map ended log.faults ++ counts_line log.faults

-- The text is that of a grade, or of a part of one, whose lines say this.
pub record IsLog (text : List ℕ) (log : GradeLog) : Type 0 where
  pub are : IsGradeLog log
  pub is : text ≡ log_text log
