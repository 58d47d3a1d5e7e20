use Rattle.std.proofs.Common.{ℕ, ◌<◌, ◌≤◌, List, Option, length, refl, sym, ap, subst, ◌∙◌, arith}
use Rattle.text_bytes.specs.Limits.{most_plan_sites}
use Rattle.tester_types.specs.Outside.{Files}
use Rattle.tool_inputs.specs.declared.refusal.Refusal.TheVariants.{NoMemory}
use Rattle.plan_parts.proofs.RankLemmas.{few_sites}
use Rattle.lot_parts.specs.declared.refusal.PartRefusal.TheVariants as refusal
use Rattle.lot_parts.specs.Words.{words_seen}
use Rattle.lot_parts.specs.Files.{texts_seen, ArePartFiles, AreUnloaded}
use Rattle.lot_parts.specs.Merging.{IsTextRefused}
use Rattle.lot_parts.specs.Merging.IsMergeRefused.{no_memory, of_plan, of_files, of_text}
use Rattle.lot_parts.proofs.LoadLemmas.{loaded_long, texts_long, wide-unloaded_files}
use Rattle.lot_parts.proofs.WordsLemmas.{files_long}
use Rattle.lot_parts.proofs.MergeLemmas.{some_logs, sliced_same, merged_answers, refused_answers, whole_ends, front_ends}
use Rattle.lot_parts.proofs.merge.merge.Goals as goal

pub returns-in-Err-clause-answers : goal.returns-in-Err-clause-answers
returns-in-Err-clause-answers g c =
    refused_answers _ _ _ _ _ (refusal.Of c.in-Err.refusal) _ _ _ _ _ (of_plan c.in-Err.refusal c.in-Err.ensures.reads refl)
    c.put_part_refusal.ensures

pub returns-in_default-clause-answers : goal.returns-in_default-clause-answers
returns-in_default-clause-answers g c =
    refused_answers _ _ _ _ _ (refusal.Of NoMemory) _ _ _ _ _ (no_memory refl) c.out_of_memory.ensures

pub returns-in-Err-load_parts-clause-answers : goal.returns-in-Err-load_parts-clause-answers
returns-in-Err-load_parts-clause-answers g c =
    let told = g.F.Shelf.told in
    let faults = g.F.Shelf.faults in
    refused_answers _ _ _ _ _ (refusal.Of c.in-Err-load_parts.refusal) _ _ _ _ _
    (of_files c.in-Ok.rows c.in-Ok.ensures.reads.0 c.in-Err-load_parts.refusal
    (wide-unloaded_files (told c.args.shelf.now) (words_seen c.args.files.now) (faults c.args.shelf.now) (faults c.read_plan.new.shelf)
    (faults c.load_parts.new.shelf) (faults c.load_parts.new.shelf) c.in-Err-load_parts.refusal c.in-Ok.ensures.loads.counts
    c.in-Err-load_parts.ensures.loads.counts (omega arith)
    (subst (λ (t : Option Files). AreUnloaded t (faults c.read_plan.new.shelf) (faults c.load_parts.new.shelf) (words_seen c.args.files.now)
    c.in-Err-load_parts.refusal) c.in-Ok.ensures.loads.kept c.in-Err-load_parts.ensures.reads)) refl)
    c.put_part_refusal-in-Err-load_parts.ensures

pub read_logs-requires-clause-few_sites : goal.read_logs-requires-clause-few_sites
read_logs-requires-clause-few_sites g c =
    subst (λ (l : List ℕ). length l ≤ most_plan_sites) (sym c.in-Ok-of.ensures) (few_sites c.in-Ok.rows c.in-Ok.ensures.reads.1)

pub read_logs-requires-clause-each : goal.read_logs-requires-clause-each
read_logs-requires-clause-each g c =
    loaded_long _ c.args.files.now c.in-Ok-load_parts.texts.items c.in-Ok-load_parts.ensures.reads ∙ ap length (sym c.as_slice.ensures.value)

pub returns-in-Err-read_logs-clause-answers : goal.returns-in-Err-read_logs-clause-answers
returns-in-Err-read_logs-clause-answers g c =
    refused_answers _ _ _ _ _ c.in-Err-read_logs.refusal _ _ _ _ _
    (of_text c.in-Ok.rows c.in-Ok.ensures.reads.0 (texts_seen c.in-Ok-load_parts.texts.items)
    (subst (λ (t : Option Files). ArePartFiles t (words_seen c.args.files.now) (texts_seen c.in-Ok-load_parts.texts.items))
    c.in-Ok.ensures.loads.kept c.in-Ok-load_parts.ensures.reads)
    (subst (λ ts. IsTextRefused c.in-Ok.rows (words_seen c.args.files.now) (texts_seen ts) c.in-Err-read_logs.refusal)
    c.as_slice.ensures.value c.in-Err-read_logs.ensures))
    c.put_part_refusal-in-Err-read_logs.ensures

pub put_merged-requires : goal.put_merged-requires
put_merged-requires g c =
    let some : 0 < length (texts_seen c.as_slice.result.now) =
    omega (
      arith,
      c.requires.some,
      loaded_long _ c.args.files.now c.in-Ok-load_parts.texts.items c.in-Ok-load_parts.ensures.reads,
      ap length c.as_slice.ensures.value,
      texts_long c.as_slice.result.now,
    ) in
    omega (arith, some_logs c.in-Ok.rows (length c.args.files.now) _ _ some c.in-Ok-read_logs.ensures, ap length c.as_slice-3.ensures.value)

pub returns-in-Ok-put_merged-clause-answers : goal.returns-in-Ok-put_merged-clause-answers
returns-in-Ok-put_merged-clause-answers g c =
    merged_answers _ _ _ _ (words_seen c.args.files.now) (texts_seen c.in-Ok-load_parts.texts.items) c.in-Ok.rows c.in-Ok-of.sites
    c.in-Ok-read_logs.logs.items _ _ _ _ _ c.in-Ok.ensures.reads.0 c.in-Ok-of.ensures
    (omega (
      arith,
      files_long c.args.files.now,
      texts_long c.in-Ok-load_parts.texts.items,
      loaded_long _ c.args.files.now c.in-Ok-load_parts.texts.items c.in-Ok-load_parts.ensures.reads,
    ))
    (subst (λ (t : Option Files). ArePartFiles t (words_seen c.args.files.now) (texts_seen c.in-Ok-load_parts.texts.items))
    c.in-Ok.ensures.loads.kept c.in-Ok-load_parts.ensures.reads)
    (sliced_same c.in-Ok.rows _ _ _ _ c.in-Ok-read_logs.logs.items (files_long c.args.files.now)
    (ap texts_seen c.as_slice.ensures.value) c.in-Ok-read_logs.ensures)
    (whole_ends _ _ _ _ _ _ _ _ _ c.as_slice-2.ensures c.as_slice-3.ensures.value c.in-Ok-put_merged.ensures.puts c.in-Ok-put_merged.ensures.count)

pub returns-clause-answers : goal.returns-clause-answers
returns-clause-answers g c =
    merged_answers _ _ _ _ (words_seen c.args.files.now) (texts_seen c.in-Ok-load_parts.texts.items) c.in-Ok.rows c.in-Ok-of.sites
    c.in-Ok-read_logs.logs.items _ _ _ _ _ c.in-Ok.ensures.reads.0 c.in-Ok-of.ensures
    (omega (
      arith,
      files_long c.args.files.now,
      texts_long c.in-Ok-load_parts.texts.items,
      loaded_long _ c.args.files.now c.in-Ok-load_parts.texts.items c.in-Ok-load_parts.ensures.reads,
    ))
    (subst (λ (t : Option Files). ArePartFiles t (words_seen c.args.files.now) (texts_seen c.in-Ok-load_parts.texts.items))
    c.in-Ok.ensures.loads.kept c.in-Ok-load_parts.ensures.reads)
    (sliced_same c.in-Ok.rows _ _ _ _ c.in-Ok-read_logs.logs.items (files_long c.args.files.now)
    (ap texts_seen c.as_slice.ensures.value) c.in-Ok-read_logs.ensures)
    (front_ends _ _ _ _ _ _ _ _ _ c.as_slice-2.ensures c.as_slice-3.ensures.value c.in-Err-put_merged.ensures.puts c.in-Err-put_merged.ensures.count
    c.in-Err-put_merged.ensures.cause)
