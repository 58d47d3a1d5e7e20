use Rattle.std.proofs.Common.{◌<◌, length, ◌∙◌, arith, string_bytes}
use Rattle.std.proofs.lemmas.List.{length-map}
use Rattle.std.proofs.lemmas.Result.{err_from_is_err_and}
use Rattle.lot_parts.specs.Words.{words_seen}
use Rattle.lot_parts.specs.Files.{texts_seen}
use Rattle.lot_parts.proofs.LoadLemmas.{word_at, next_loaded, all_loaded, next_unloaded}
use Rattle.lot_parts.proofs.load.load_parts.Goals as goal

pub returns-in_err-add_part-clause-reads : goal.returns-in_err-add_part-clause-reads
returns-in_err-add_part-clause-reads g c =
    let p = err_from_is_err_and c.from_residual.result c.from_residual.ensures.1 in
    let told = g.F.Shelf.told in
    let faults = g.F.Shelf.faults in
    let files = words_seen c.args.files.now in
    let within : c.loop-file.file-index < length files =
    omega (arith, c.loop-file-test.true, length-map c.args.files.now string_bytes) in
    rw (p.1, p.2)
    (next_unloaded (told c.args.shelf.now) (told c.loop-file.shelf) (faults c.args.shelf.now) (faults c.loop-file.shelf)
    (faults c.add_part.new.shelf) files c.loop-file.file-index (texts_seen c.loop-file.texts.items) c.as_str.result.now
    c.in_err-add_part.field-0.0 within
    (word_at c.args.files.now c.loop-file.file-index c.file-item.result c.as_str.result.now (omega (arith, c.loop-file-test.true))
    c.file-item.is c.as_str.ensures.value)
    c.loop-file.invariant.kept c.loop-file.invariant.counts c.in_err-add_part.ensures.loads.counts c.loop-file.invariant.read c.in_err-add_part.ensures.reads)

pub loop-file-preserved : goal.loop-file-preserved
loop-file-preserved g c =
    let told = g.F.Shelf.told in
    let files = words_seen c.args.files.now in
    let within : c.loop-file.file-index < length files =
    omega (arith, c.loop-file-test.true, length-map c.args.files.now string_bytes) in
    record {
      read = next_loaded (told c.args.shelf.now) (told c.loop-file.shelf) files c.loop-file.file-index
          (texts_seen c.loop-file.texts.items) (texts_seen c.add_part.new.texts.items) c.as_str.result.now within
          (word_at c.args.files.now c.loop-file.file-index c.file-item.result c.as_str.result.now (omega (arith, c.loop-file-test.true))
          c.file-item.is c.as_str.ensures.value)
          c.loop-file.invariant.kept c.loop-file.invariant.read c.in_ok-add_part.ensures.reads;
      kept = c.in_ok-add_part.ensures.loads.kept ∙ c.loop-file.invariant.kept;
      counts = omega (arith, c.loop-file.invariant.counts, c.in_ok-add_part.ensures.loads.counts);
    }

pub returns-clause-reads : goal.returns-clause-reads
returns-clause-reads g c =
    all_loaded (g.F.Shelf.told c.args.shelf.now) (words_seen c.args.files.now) c.loop-file.file-index (texts_seen c.loop-file.texts.items)
    (omega (arith, c.loop-file-test.false, length-map c.args.files.now string_bytes)) c.loop-file.invariant.read
