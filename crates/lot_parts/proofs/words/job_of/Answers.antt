use Rattle.lot_parts.proofs.words.job_of.Goals as goal

pub returns-in-None-merge_grade_words : goal.returns-in-None-merge_grade_words
returns-in-None-merge_grade_words c = record {
  parts = c.in-None.ensures.none;
  cut = c.in-None-cut_words.ensures.none;
  merge = c.in-None-merge_words.ensures.none;
  grade = c.in-None-grade_words.ensures.none;
  merge_grade = c.in-None-merge_grade_words.ensures.none;
}
