-- The faults of a grade, part after part: of each net the one that is stuck at 0 and then the one that is stuck at 1,
-- and no net twice.
use Rattle.std.specs.Prelude.{◌≡◌, ℕ, ◌&&◌, Bool, true, not, Option, Some, None, List, [], ◌∷◌, ◌++◌, if◌then◌else◌}
use Rattle.std.specs.List.{flat_map, list_any}
use Rattle.std.specs.Str.{bytes_eq}
use Rattle.grade_parts.specs.Log.{GradeLog, Stuck, Tells, IsLog}

-- whether one of these is this net
abbrev pub has_net : List ℕ → List Stuck → Bool
has_net net before = list_any (λ (stuck : Stuck). bytes_eq net stuck.net) before

-- the net whose fault at 1 comes next: the last one, where that is stuck at 0
abbrev pub open_net : List Stuck → Option (List ℕ)
open_net [] = None
open_net (stuck ∷ []) = if stuck.value then None else Some stuck.net
open_net (stuck ∷ next ∷ later) = open_net (next ∷ later)

-- whether a fault comes next behind these, where this net is open
abbrev pub comes_next : Option (List ℕ) → List Stuck → Stuck → Bool
comes_next None before stuck = not stuck.value && not (has_net stuck.net before)
comes_next (Some net) before stuck = stuck.value && bytes_eq net stuck.net

-- behind these faults the lines tell of those, each in its turn
abbrev pub AreInTurn : List Stuck → List (List ℕ) → List Stuck → Type 0
AreInTurn before [] [] = Unit {0}
AreInTurn before [] (stuck ∷ later) = ⊥
AreInTurn before (line ∷ lines) [] = ⊥
AreInTurn before (line ∷ lines) (stuck ∷ later) =
    Tells line stuck × (comes_next (open_net before) before stuck ≡ true)
    × AreInTurn (before ++ stuck ∷ []) lines later

-- behind the last part no net lacks its fault at 1
abbrev pub AreEnded : Bool → List Stuck → Type 0
AreEnded last all = last ≡ true → open_net all ≡ None

-- The text is that of a part of a grade, which may be the last, behind parts that told of these; its lines tell of
-- those.
pub record IsPartBehind (before : List Stuck) (last : Bool) (text : List ℕ) (log : GradeLog) (told : List Stuck) :
    Type 0 where
  pub is_log : IsLog text log
  pub in_turn : AreInTurn before log.faults told
  pub ended : AreEnded last (before ++ told)

-- what is said of the good die is this, if something was said of it
abbrev pub HasGood : Option (List ℕ) → GradeLog → Type 0
HasGood None log = Unit {0}
HasGood (Some good) log = log.good ≡ good

-- a text is that of such a part, and says this of the good die
abbrev pub IsPartOf : Option (List ℕ) → List Stuck → Bool → List ℕ → Type 0
IsPartOf good before last text =
    (log : GradeLog) × (told : List Stuck) × IsPartBehind before last text log told × HasGood good log

-- the lines of the faults of all parts
abbrev pub all_lines : List GradeLog → List (List ℕ)
all_lines logs = flat_map (λ (log : GradeLog). log.faults) logs

-- these parts, one after another, told of these faults
abbrev pub AreTold : List GradeLog → List Stuck → Type 0
AreTold logs told = AreInTurn [] (all_lines logs) told

-- what the first part says of the good die
abbrev pub good_of : List GradeLog → Option (List ℕ)
good_of [] = None
good_of (log ∷ logs) = Some log.good
