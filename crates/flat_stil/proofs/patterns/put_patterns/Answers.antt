use Rattle.std.proofs.Common.{sym}
use Rattle.flat_parts.specs.FlatText.{pattern_lines}
use Rattle.flat_stil.proofs.SheetLemmas.{prints_nothing, lines_at}
use Rattle.flat_stil.proofs.patterns.put_patterns.Goals as goal

pub loop-exec-init : goal.loop-exec-init
loop-exec-init c = sym (prints_nothing c.args.sheet.now)

pub loop-exec-preserved : goal.loop-exec-preserved
loop-exec-preserved c =
    lines_at (pattern_lines c.args.code.now) c.args.sheet.now c.loop-exec.sheet _ c.loop-exec.exec c.loop-exec.invariant c.put_pattern.ensures
