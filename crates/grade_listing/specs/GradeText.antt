-- The printed text of a fault grade.
use Rattle.std.specs.Prelude.{ℕ, ◌++◌, Bool, true, false, Option, Some, None, List, [], length, count_by, codes, decimal, slice_index_or}
use Rattle.std.specs.List.{flat_map}
use Rattle.tester_types.specs.Printing.{printed_name}
use Rattle.fault_grade.specs.declared.graded.Grade.{Grade}
use Rattle.fault_grade.specs.declared.graded.Graded.{Graded}

-- the number of a first failing cycle, or that there is none
abbrev pub cycle_text : Option ℕ → List ℕ
cycle_text None = codes "none"
cycle_text (Some cycle) = decimal cycle

-- the first failing cycle of the good die
abbrev pub good_line : Option ℕ → List ℕ
good_line cycle = codes "good " ++ cycle_text cycle ++ codes "\n"

-- the level at which a net is stuck, between blanks
abbrev pub value_text : Bool → List ℕ
value_text false = codes " 0 "
value_text true = codes " 1 "

-- a fault: the name of its net, the level at which it is stuck, and the first failing cycle
abbrev pub fault_line : List (List ℕ) → Graded → List ℕ
fault_line names graded =
    codes "fault " ++ printed_name (slice_index_or names graded.net []) ++ value_text graded.value
    ++ cycle_text graded.first ++ codes "\n"

-- whether there is a cycle
abbrev pub has_cycle : Option ℕ → Bool
has_cycle None = false
has_cycle (Some cycle) = true

-- whether some cycle finds a fault
abbrev pub is_found : Graded → Bool
is_found graded = has_cycle graded.first

-- how many faults there are, and how many of them some cycle finds
abbrev pub total_line : List Graded → List ℕ
total_line faults =
    codes "faults " ++ decimal (length faults) ++ codes " found " ++ decimal (count_by is_found faults) ++ codes "\n"

-- the lines of a grade of dies whose nets have these names
abbrev pub grade_text : List (List ℕ) → Grade → List ℕ
grade_text names grade =
    good_line grade.good ++ flat_map (fault_line names) grade.faults ++ total_line grade.faults
