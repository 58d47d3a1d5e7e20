use Rattle.std.proofs.Common.{refl, arith}
use Rattle.tool_inputs.specs.declared.status.Status.TheVariants.{Usage}
use Rattle.lot_parts.specs.declared.outcome.Outcome.TheVariants.{Ended}
use Rattle.lot_parts.specs.Endings.{usage_line}
use Rattle.lot_parts.specs.Divider.DividerWants.{no_form, of_parts, of_cut, of_merge, of_grade, of_merge_grade}
use Rattle.lot_parts.specs.Words.{words_seen}
use Rattle.lot_parts.proofs.WordsLemmas.{files_long}
use Rattle.lot_parts.proofs.EndingLemmas.{ends_as, answers_as, answers_wider}
use Rattle.lot_parts.proofs.call.divide.Goals as goal

pub returns-in-Parts-clause-answers : goal.returns-in-Parts-clause-answers
returns-in-Parts-clause-answers g c =
    answers_as _ _ _ _ _ _ _ (λ s t w. of_parts c.in-Parts.plan.now c.in-Parts.ensures s refl w) c.parts.ensures.answers

pub returns-in-Cut-clause-answers : goal.returns-in-Cut-clause-answers
returns-in-Cut-clause-answers g c =
    answers_as _ _ _ _ _ _ _ (λ s t w. of_cut c.in-Cut.plan.now c.in-Cut.of.parts c.in-Cut.of.part c.in-Cut.ensures s refl w)
    c.cut.ensures.answers

pub returns-in-Grade-clause-answers : goal.returns-in-Grade-clause-answers
returns-in-Grade-clause-answers g c =
    answers_as _ _ _ _ _ _ _
    (λ s t w. of_grade c.in-Grade.program.now c.in-Grade.plan.now c.in-Grade.of.parts c.in-Grade.of.part c.in-Grade.ensures s refl w)
    c.grade.ensures.answers

pub returns-in-Merge-clause-answers : goal.returns-in-Merge-clause-answers
returns-in-Merge-clause-answers g c =
    answers_wider _ _ _ _ _ _ _ (λ o t w. of_merge c.in-Merge.plan.now (words_seen c.in-Merge.files.now) c.in-Merge.ensures w)
    c.merge.ensures.answers

pub returns-in-MergeGrade-clause-answers : goal.returns-in-MergeGrade-clause-answers
returns-in-MergeGrade-clause-answers g c =
    answers_wider _ _ _ _ _ _ _ (λ o t w. of_merge_grade (words_seen c.in-MergeGrade.files.now) c.in-MergeGrade.ensures w)
    c.merge_grade.ensures.answers

pub returns-in-Nothing-clause-answers : goal.returns-in-Nothing-clause-answers
returns-in-Nothing-clause-answers g c = record {
  outcome = Ended Usage;
  text = usage_line;
  wanted = no_form c.in-Nothing.ensures refl refl;
  ends = ends_as _ _ _ _ _ _ _ c.ended.ensures;
}

pub cut-requires : goal.cut-requires
cut-requires g c = c.in-Cut.ensures.of.of.within

pub grade-requires : goal.grade-requires
grade-requires g c = c.in-Grade.ensures.of.of

pub merge_grade-requires : goal.merge_grade-requires
merge_grade-requires g c = omega (arith, c.in-MergeGrade.ensures.some, files_long c.in-MergeGrade.files.now)

pub merge-requires-clause-some : goal.merge-requires-clause-some
merge-requires-clause-some g c = omega (arith, c.in-Merge.ensures.some, files_long c.in-Merge.files.now)

pub merge-requires-clause-few : goal.merge-requires-clause-few
merge-requires-clause-few g c = omega (arith, c.in-Merge.ensures.few, files_long c.in-Merge.files.now)
