use Rattle.std.proofs.Common.{sym, ap, ◌∙◌, ℕ, [], ◌∷◌}
use Rattle.flat_stil.specs.Working.{prints}
use Rattle.flat_parts.specs.FlatText.{burst_line}
use Rattle.flat_stil.proofs.SheetLemmas.{prints_nothing, line_at}
use Rattle.flat_stil.proofs.patterns.put_bursts.Goals as goal

pub loop-exec-init : goal.loop-exec-init
loop-exec-init c = sym (prints_nothing c.args.sheet.now)

pub loop-exec-preserved : goal.loop-exec-preserved
loop-exec-preserved c =
    line_at burst_line c.args.sheet.now c.loop-exec.sheet _ c.loop-exec.exec c.loop-exec.invariant
    (c.put_burst.ensures ∙ ap (λ (n : ℕ). prints c.loop-exec.sheet (burst_line n ∷ [])) c.from.ensures)
