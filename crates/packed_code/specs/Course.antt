-- Where a walk over instructions stands, and what it still gives.
use Rattle.std.specs.Prelude.{◌≡◌, ℕ, zero, suc, ◌+◌, ◌-◌, ◌^◌, ◌<◌, ◌≤◌, Bool, true, false, ◌==◌, if◌then◌else◌, List, [], ◌∷◌, ◌++◌, length, drop, slice_get, slice_index_or, Option, Some, None}
use Rattle.packed_code.specs.declared.instr.Entry.{Entry}
use Rattle.packed_code.specs.declared.instr.Instr.{Instr}
use Rattle.packed_code.specs.declared.instr.Instr.TheVariants.{Run, Loop, End, Done}
use Rattle.packed_code.specs.declared.course.OpenLoop.{OpenLoop}
use Rattle.packed_code.specs.declared.course.Course.{Course}
use Rattle.packed_code.specs.declared.course.CourseStep.{CourseStep}
use Rattle.packed_code.specs.declared.course.CourseStep.TheVariants.{Gave, Moved, Over}
use Rattle.packed_code.specs.Meaning.{repeated, top, below, bodies}
use Rattle.packed_code.specs.Whole.{IsRest}
use Rattle.text_bytes.specs.Limits.{deepest_loops}

-- the loop at a place of the array
abbrev pub loop_at : List OpenLoop → ℕ → OpenLoop
loop_at loops place = slice_index_or loops place (record { start = 0; left = 0 })

-- the open loops, the innermost first
abbrev pub opened : ℕ → List OpenLoop → List OpenLoop
opened zero loops = []
opened (suc depth) loops = loop_at loops depth ∷ opened depth loops

-- the bodies from a place on
abbrev pub bodies_at : List Instr → ℕ → List (List Entry)
bodies_at code place = bodies (drop place code)

-- the rest of the body that runs, then the further passes of its loop, then the rest of the body round it
unfoldable pub to_come : List Instr → List (List Entry) → List OpenLoop → List Entry
to_come code rests [] = top rests
to_come code rests (innermost ∷ loops) =
    top rests ++ (repeated innermost.left (top (bodies_at code innermost.start)) ++ to_come code (below rests) loops)

-- the cycles that a walk still gives
abbrev pub coming : List Instr → Course → List Entry
coming code course = drop course.taken (to_come code (bodies_at code course.at) (opened course.depth course.loops))

-- the place behind each open Loop begins a body, whose loop goes on as the place of the walk does
unfoldable pub AreOpen : List Instr → List (List Entry) → List OpenLoop → Type 0
AreOpen code rests [] = Unit {0}
AreOpen code rests (innermost ∷ loops) =
    (below (bodies_at code innermost.start) ≡ below rests)
    × (innermost.start < length code)
    × IsRest (suc (length loops)) true (drop innermost.start code)
    × AreOpen code (below rests) loops

-- how often the instruction in front runs its cycle
abbrev pub run_times : List Instr → ℕ
run_times [] = 0
run_times (Run table row mark times ∷ code) = times
run_times (Loop times ∷ code) = 0
run_times (End ∷ code) = 0
run_times (Done ∷ code) = 0

-- a walk stands in these instructions
pub record IsOn (code : List Instr) (course : Course) : Type 0 where
  pub inside : course.at < length code
  pub room : length course.loops ≡ deepest_loops
  pub depth : course.depth ≤ deepest_loops
  pub begun : Bool
  pub rest : IsRest course.depth begun (drop course.at code)
  pub loops : AreOpen code (bodies_at code course.at) (opened course.depth course.loops)
  pub taken : course.taken ≤ run_times (drop course.at code)

-- an End stands in front
abbrev pub at_end : List Instr → Bool
at_end [] = false
at_end (Run table row mark times ∷ code) = false
at_end (Loop times ∷ code) = false
at_end (End ∷ code) = true
at_end (Done ∷ code) = false

-- how often the Loop in front runs its body, where one stands there
abbrev pub loop_times : List Instr → Option ℕ
loop_times [] = None
loop_times (Run table row mark times ∷ code) = None
loop_times (Loop times ∷ code) = Some times
loop_times (End ∷ code) = None
loop_times (Done ∷ code) = None

-- the same walk is still to come, from another place
pub record IsSameWalk (code : List Instr) (old new : Course) : Type 0 where
  pub on : IsOn code new
  pub coming : coming code new ≡ coming code old

-- a walk stands at this instruction
pub record StandsAt (code : List Instr) (course : Course) (instr : Instr) : Type 0 where
  pub on : IsOn code course
  pub here : slice_get code course.at ≡ Some instr
  pub short : length code < 2 ^ 64

-- whether the instruction in front leads further without a cycle, and maybe back: an End, or a Run of which so many
-- cycles were taken and no more are left
abbrev pub leads_on : ℕ → List Instr → Bool
leads_on taken [] = false
leads_on taken (Run table row mark times ∷ code) = taken == times
leads_on taken (Loop times ∷ code) = false
leads_on taken (End ∷ code) = true
leads_on taken (Done ∷ code) = false

-- how many moves come at most before a cycle or the end: up to the place behind the last instruction, and as many once
-- more where the way may lead back to the body of a loop
abbrev pub most_moves : List Instr → Course → ℕ
most_moves code course =
    length code - course.at + (if leads_on course.taken (drop course.at code) then length code else 0)

-- the cycle that a step gives, where it gives one
abbrev pub given_by : CourseStep → List Entry
given_by (Gave entry) = entry ∷ []
given_by Moved = []
given_by Over = []

-- what a step says: nothing comes where it is over, and a move brings the next cycle nearer
abbrev pub SaysSo : List Instr → Course → Course → CourseStep → Type 0
SaysSo code old new (Gave entry) = Unit {0}
SaysSo code old new Moved = most_moves code new < most_moves code old
SaysSo code old new Over = coming code new ≡ []

-- a step in these instructions: it gives a cycle, or goes on without one, or nothing comes
pub record Steps (code : List Instr) (old : Course) (step : CourseStep) (new : Course) : Type 0 where
  pub on : IsOn code new
  pub given : coming code old ≡ given_by step ++ coming code new
  pub says : SaysSo code old new step
