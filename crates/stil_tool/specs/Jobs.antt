-- What words ask the public call for.
use Rattle.std.specs.Prelude.{ℕ, List}
use Rattle.stil_tool.specs.Lot.{AreLot}
use Rattle.stil_tool.specs.Drill.{AreDrill}
use Rattle.stil_tool.specs.Grade.{AreGrade}
use Rattle.stil_tool.specs.Tester.{NeedTester}
use Rattle.stil_tool.specs.declared.top_call.Job.{Job}
use Rattle.stil_tool.specs.declared.top_call.Job.TheVariants.{Lot, Grade, Drill, Offline}

-- words ask for a lot or a grade of two files, for the drill of a number, or for what needs no tester
abbrev pub IsJob : List (List ℕ) → Job → Type 0
IsJob words (Lot program plan) = AreLot words program.now plan.now
IsJob words (Grade program plan) = AreGrade words program.now plan.now
IsJob words (Drill number) = AreDrill words number
IsJob words Offline = NeedTester words → ⊥
