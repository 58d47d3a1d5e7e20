-- What the printed text of a grade says, by its lines, and the texts of all parts of one.
use Rattle.std.specs.Prelude.{◌≡◌, ℕ, ◌<◌, true, List, ◌++◌, length, codes, map, slice_index_or, []}
use Rattle.std.specs.List.{AllByRecursion, AllZip, range_with_len}
use Rattle.tester_types.specs.Printing.{printed_name}
use Rattle.bench_net.specs.Circuit.{number}
use Rattle.lot_plan.specs.Bound.{Bound}
use Rattle.fault_grade.specs.declared.graded.Grade.{Grade}
use Rattle.fault_grade.specs.declared.graded.Graded.{Graded}
use Rattle.grade_listing.specs.GradeText.{cycle_text, value_text, grade_text}
use Rattle.part_lines.specs.Lines.{is_one_line}
use Rattle.grade_parts.specs.Log.{GradeLog, Stuck, IsLog}
use Rattle.grade_parts.specs.Part.{part_grade}

-- no name has a line feed
abbrev pub AreOneLine : List (List ℕ) → Type 0
AreOneLine names = AllByRecursion (λ (name : List ℕ). is_one_line name ≡ true) names

-- names of nets: without line feeds, each printed as itself, and each once
pub record AreNames (names : List (List ℕ)) : Type 0 where
  pub one : AreOneLine names
  pub bare : AllByRecursion (λ (name : List ℕ). printed_name name ≡ name) names
  pub apart : (n : ℕ) → n < length names → number names (slice_index_or names n []) ≡ n

-- the line of a fault, without its line feed
abbrev pub said_fault : List (List ℕ) → Graded → List ℕ
said_fault names graded =
    codes "fault " ++ printed_name (slice_index_or names graded.net []) ++ value_text graded.value
    ++ cycle_text graded.first

-- what the line of a fault tells of
abbrev pub stuck_said : List (List ℕ) → Graded → Stuck
stuck_said names graded = record {
  net = printed_name (slice_index_or names graded.net []);
  value = graded.value;
}

-- the lines of a grade
abbrev pub said_by : List (List ℕ) → Grade → GradeLog
said_by names grade = record {
  good = codes "good " ++ cycle_text grade.good;
  faults = map (said_fault names) grade.faults;
}

-- the texts of all parts of the grade of a plan, in order
abbrev pub part_texts : List (List ℕ) → Bound → ℕ → List (List ℕ)
part_texts names plan parts = map (λ part. grade_text names (part_grade plan parts part)) (range_with_len 0 parts)

-- these logs are what these texts say, one by one
abbrev pub AreLogs : List (List ℕ) → List GradeLog → Type 0
AreLogs texts logs = AllZip IsLog texts logs
