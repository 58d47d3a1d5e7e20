use Rattle.std.proofs.Common.{arith, ap, ◌∙◌, ◌+◌, ◌==◌, sym, length, ℕ}
use Rattle.lot_parts.specs.Words.{words_seen}
use Rattle.lot_parts.specs.Files.{texts_seen}
use Rattle.lot_parts.proofs.LoadLemmas.{text_at, texts_long}
use Rattle.lot_parts.proofs.GradesLemmas.{file_at, next_read, next_refused, known_more}
use Rattle.lot_parts.proofs.grades.read_logs.Goals as goal

pub returns-in-Err : goal.returns-in-Err
returns-in-Err c =
    let known = c.loop-at.invariant.known in
    next_refused (words_seen c.args.files.now) (texts_seen c.args.texts.now) c.loop-at.at c.loop-at.logs.items
    c.as_slice-in-loop-at.result.now c.loop-at.told c.read_log.new.told c.as_str.result.now c.as_slice.result.now c.is_last-last.result
    c.in-Err.fault c.part_refusal.result
    (omega (arith, c.loop-at-test.true, texts_long c.args.texts.now))
    (text_at c.args.texts.now c.loop-at.at c.index-texts-at.result c.as_slice.result.now (omega (arith, c.loop-at-test.true))
    c.index-texts-at.is c.as_slice.ensures.value)
    (file_at c.args.files.now c.loop-at.at c.index-files-at.result c.as_str.result.now (omega (arith, c.loop-at-test.true, c.requires))
    c.index-files-at.is c.as_str.ensures.value)
    c.loop-at.invariant.read c.as_slice-in-loop-at.ensures.value
    (c.is_last-last.ensures ∙ ap (λ (n : ℕ). c.loop-at.at + 1 == n) (sym (texts_long c.args.texts.now)))
    known (c.in-Err.ensures known.told known.knows) c.part_refusal.ensures

pub loop-at-preserved : goal.loop-at-preserved
loop-at-preserved c =
    let known = c.loop-at.invariant.known in
    let read = c.in-Ok.ensures known.told known.knows in
    record {
      read = next_read (texts_seen c.args.texts.now) c.loop-at.at c.loop-at.logs.items c.push.new.self.items c.as_slice.result.now
          c.in-Ok.log (omega (arith, c.loop-at-test.true, texts_long c.args.texts.now))
          (text_at c.args.texts.now c.loop-at.at c.index-texts-at.result c.as_slice.result.now (omega (arith, c.loop-at-test.true))
          c.index-texts-at.is c.as_slice.ensures.value)
          c.loop-at.invariant.read read.is_part.is_log c.in-Ok-push.ensures.items;
      known = known_more c.loop-at.logs.items c.push.new.self.items c.as_slice-in-loop-at.result.now c.in-Ok.log c.as_slice.result.now
          c.loop-at.told c.read_log.new.told c.loop-at.at (length (texts_seen c.args.texts.now)) c.is_last-last.result
          c.as_slice-in-loop-at.ensures.value
          (c.is_last-last.ensures ∙ ap (λ (n : ℕ). c.loop-at.at + 1 == n) (sym (texts_long c.args.texts.now)))
          known read c.in-Ok-push.ensures.items;
    }
