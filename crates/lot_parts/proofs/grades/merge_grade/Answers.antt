use Rattle.std.proofs.Common.{◌<◌, length, refl, sym, ap, subst, ◌∙◌, arith}
use Rattle.lot_parts.specs.declared.refusal.PartRefusal.TheVariants as refusal
use Rattle.lot_parts.specs.Words.{words_seen}
use Rattle.lot_parts.specs.Files.{texts_seen}
use Rattle.lot_parts.specs.Grades.{AreLogTexts, IsTextRefused}
use Rattle.lot_parts.specs.Grades.IsMergeRefused.{of_files, of_text}
use Rattle.lot_parts.proofs.LoadLemmas.{loaded_long, texts_long}
use Rattle.lot_parts.proofs.GradesLemmas.{some_logs, merged_answers, refused_answers, whole_ends, front_ends}
use Rattle.lot_parts.proofs.grades.merge_grade.Goals as goal

pub returns-in-Err-clause-answers : goal.returns-in-Err-clause-answers
returns-in-Err-clause-answers g c =
    refused_answers _ _ _ _ (refusal.Of c.in-Err.refusal) _ _ _ _ _ (of_files c.in-Err.refusal c.in-Err.ensures.reads refl)
    c.put_part_refusal.ensures

pub read_logs-requires : goal.read_logs-requires
read_logs-requires g c =
    loaded_long _ c.args.files.now c.in-Ok.texts.items c.in-Ok.ensures.reads ∙ ap length (sym c.as_slice.ensures.value)

pub returns-in-Err-read_logs-clause-answers : goal.returns-in-Err-read_logs-clause-answers
returns-in-Err-read_logs-clause-answers g c =
    refused_answers _ _ _ _ c.in-Err-read_logs.refusal _ _ _ _ _
    (of_text (texts_seen c.in-Ok.texts.items) c.in-Ok.ensures.reads
    (subst (λ ts. IsTextRefused (words_seen c.args.files.now) (texts_seen ts) c.in-Err-read_logs.refusal) c.as_slice.ensures.value
    c.in-Err-read_logs.ensures))
    c.put_part_refusal-in-Err-read_logs.ensures

pub put_merged_grade-requires : goal.put_merged_grade-requires
put_merged_grade-requires g c =
    let some : 0 < length (texts_seen c.as_slice.result.now) =
    omega (
      arith,
      c.requires,
      loaded_long _ c.args.files.now c.in-Ok.texts.items c.in-Ok.ensures.reads,
      ap length c.as_slice.ensures.value,
      texts_long c.as_slice.result.now,
    ) in
    omega (arith, some_logs _ _ some c.in-Ok-read_logs.ensures.0, ap length c.as_slice-2.ensures.value)

pub returns-in-Ok-put_merged_grade-clause-answers : goal.returns-in-Ok-put_merged_grade-clause-answers
returns-in-Ok-put_merged_grade-clause-answers g c =
    let some : 0 < length (texts_seen c.as_slice.result.now) =
    omega (
      arith,
      c.requires,
      loaded_long _ c.args.files.now c.in-Ok.texts.items c.in-Ok.ensures.reads,
      ap length c.as_slice.ensures.value,
      texts_long c.as_slice.result.now,
    ) in
    merged_answers _ _ _ _ _ c.in-Ok-read_logs.logs.items _ _ _ _ _ (some_logs _ _ some c.in-Ok-read_logs.ensures.0)
    c.in-Ok.ensures.reads
    (subst (λ ts. AreLogTexts (texts_seen ts) c.in-Ok-read_logs.logs.items) c.as_slice.ensures.value c.in-Ok-read_logs.ensures.0)
    c.in-Ok-read_logs.ensures.1
    (whole_ends _ _ _ _ _ _ c.as_slice-2.ensures.value c.in-Ok-put_merged_grade.ensures.puts c.in-Ok-put_merged_grade.ensures.count)

pub returns-clause-answers : goal.returns-clause-answers
returns-clause-answers g c =
    let some : 0 < length (texts_seen c.as_slice.result.now) =
    omega (
      arith,
      c.requires,
      loaded_long _ c.args.files.now c.in-Ok.texts.items c.in-Ok.ensures.reads,
      ap length c.as_slice.ensures.value,
      texts_long c.as_slice.result.now,
    ) in
    merged_answers _ _ _ _ _ c.in-Ok-read_logs.logs.items _ _ _ _ _ (some_logs _ _ some c.in-Ok-read_logs.ensures.0)
    c.in-Ok.ensures.reads
    (subst (λ ts. AreLogTexts (texts_seen ts) c.in-Ok-read_logs.logs.items) c.as_slice.ensures.value c.in-Ok-read_logs.ensures.0)
    c.in-Ok-read_logs.ensures.1
    (front_ends _ _ _ _ _ _ c.as_slice-2.ensures.value c.in-Err-put_merged_grade.ensures.puts c.in-Err-put_merged_grade.ensures.count c.in-Err-put_merged_grade.ensures.cause)
