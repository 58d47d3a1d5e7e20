use Rattle.std.proofs.Common.{sym, ap, ◌∙◌, ℕ, List, [], ◌∷◌}
use Rattle.flat_stil.specs.Working.{prints}
use Rattle.packed_code.specs.Cycles.{exec_of}
use Rattle.flat_parts.specs.FlatText.{exec_line, exec_text}
use Rattle.flat_stil.proofs.SheetLemmas.{prints_nothing, line_at}
use Rattle.flat_stil.proofs.patterns.put_execs.Goals as goal

pub loop-exec-init : goal.loop-exec-init
loop-exec-init c = sym (prints_nothing c.args.sheet.now)

pub loop-exec-preserved : goal.loop-exec-preserved
loop-exec-preserved c =
    line_at (exec_line c.args.code.now) c.args.sheet.now c.loop-exec.sheet _ c.loop-exec.exec c.loop-exec.invariant
    (c.put_exec.ensures ∙ ap (λ (n : List ℕ). prints c.loop-exec.sheet (exec_text n c.from.result ∷ [])) c.exec_name.ensures
    ∙ ap (λ (n : ℕ). prints c.loop-exec.sheet (exec_text (exec_of c.args.code.now c.loop-exec.exec).name n ∷ [])) c.from.ensures)
