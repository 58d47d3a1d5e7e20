use Rattle.std.proofs.Common.{sym, refl}
use Rattle.flat_stil.specs.Working.{part_text}
use Rattle.flat_stil.proofs.SheetLemmas.{wrote_nothing, text_step}
use Rattle.flat_stil.proofs.sheet.Sheet.put_parts.Goals as goal

pub loop-part-init : goal.loop-part-init
loop-part-init c = sym (wrote_nothing c.args.self.now)

pub loop-part-preserved : goal.loop-part-preserved
loop-part-preserved c =
    text_step part_text c.args.self.now _ _ c.args.parts.now c.loop-part.part-index _ _ c.loop-part-test.true refl c.loop-part.invariant c.put_part.ensures
