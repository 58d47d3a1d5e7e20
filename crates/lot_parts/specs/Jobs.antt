-- What words ask the public call for.
use Rattle.std.specs.Prelude.{ℕ, List}
use Rattle.lot_parts.specs.Words.{words_seen, AreParts, AreCut, AreMerge, AreGrade, AreMergeGrade, AreNone}
use Rattle.lot_parts.specs.declared.words.Job.{Job}
use Rattle.lot_parts.specs.declared.words.Job.TheVariants.{Parts, Cut, Merge, Grade, MergeGrade, Nothing}

-- words ask for this
abbrev pub IsJob : List (List ℕ) → Job → Type 0
IsJob words (Parts plan) = AreParts words plan.now
IsJob words (Cut plan part) = AreCut words plan.now part.parts part.part
IsJob words (Merge plan files) = AreMerge words plan.now (words_seen files.now)
IsJob words (Grade program plan part) = AreGrade words program.now plan.now part.parts part.part
IsJob words (MergeGrade files) = AreMergeGrade words (words_seen files.now)
IsJob words Nothing = AreNone words
