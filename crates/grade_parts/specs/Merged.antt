-- The text of a whole grade, of what the texts of its parts say.
use Rattle.std.specs.Prelude.{◌≡◌, ℕ, None, List, ◌∷◌}
use Rattle.std.specs.List.{flat_map, AllByRecursion}
use Rattle.grade_parts.specs.Log.{GradeLog, Stuck, log_text}
use Rattle.grade_parts.specs.Turns.{open_net, AreTold}

-- the parts say the same of the good die
abbrev pub AgreeWith : List ℕ → List GradeLog → Type 0
AgreeWith good logs = AllByRecursion (λ (log : GradeLog). log.good ≡ good) logs

-- these logs, one after another, are the parts of one grade: they say the same of the good die, each fault comes in its
-- turn, and no net lacks its fault at 1
pub record AreParts (logs : List GradeLog) : Type 0 where
  pub good : (log : GradeLog) (later : List GradeLog) → logs ≡ log ∷ later → AgreeWith log.good later
  pub told : List Stuck
  pub in_turn : AreTold logs told
  pub none_open : open_net told ≡ None

-- the grade of all faults, part after part, with the good die of the first part
abbrev pub merged : GradeLog → List GradeLog → GradeLog
merged first later = record { good = first.good; faults = flat_map (λ (log : GradeLog). log.faults) (first ∷ later) }

-- its text
abbrev pub merged_text : GradeLog → List GradeLog → List ℕ
merged_text first later = log_text (merged first later)
