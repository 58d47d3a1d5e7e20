use Rattle.std.proofs.Common.{length, sym, arith}
use Rattle.lot_parts.specs.Words.{words_seen}
use Rattle.lot_parts.specs.Files.{texts_seen}
use Rattle.lot_parts.proofs.WordsLemmas.{files_long}
use Rattle.lot_parts.proofs.LoadLemmas.{text_at, texts_long}
use Rattle.lot_parts.proofs.GradesLemmas.{file_at}
use Rattle.lot_parts.proofs.MergeLemmas.{next_read, next_refused}
use Rattle.lot_parts.proofs.merge.read_logs.Goals as goal

pub returns-in-Err : goal.returns-in-Err
returns-in-Err c =
    next_refused c.args.rows.now (words_seen c.args.files.now) (texts_seen c.args.texts.now) (length c.args.files.now) c.loop-at.at
    c.loop-at.logs.items c.as_str.result.now c.as_slice.result.now c.in-Err.fault c.part_refusal.result
    (sym (files_long c.args.files.now))
    (omega (arith, c.loop-at-test.true, texts_long c.args.texts.now))
    (text_at c.args.texts.now c.loop-at.at c.index-texts-at.result c.as_slice.result.now (omega (arith, c.loop-at-test.true))
    c.index-texts-at.is c.as_slice.ensures.value)
    (file_at c.args.files.now c.loop-at.at c.index-files-at.result c.as_str.result.now
    (omega (arith, c.loop-at-test.true, c.requires.each)) c.index-files-at.is c.as_str.ensures.value)
    c.loop-at.invariant c.in-Err.ensures c.part_refusal.ensures

pub loop-at-preserved : goal.loop-at-preserved
loop-at-preserved c =
    next_read c.args.rows.now (length c.args.files.now) (texts_seen c.args.texts.now) c.loop-at.at c.loop-at.logs.items
    c.push.new.self.items c.as_slice.result.now c.in-Ok.log (omega (arith, c.loop-at-test.true, texts_long c.args.texts.now))
    (text_at c.args.texts.now c.loop-at.at c.index-texts-at.result c.as_slice.result.now (omega (arith, c.loop-at-test.true))
    c.index-texts-at.is c.as_slice.ensures.value)
    c.loop-at.invariant c.in-Ok.ensures c.in-Ok-push.ensures.items
