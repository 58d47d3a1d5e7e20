use Rattle.std.specs.Prelude.{decimal}
use Rattle.grade_parts.proofs.HeldLemmas.{behind_both, behind_none}
use Rattle.grade_parts.proofs.reading.behind_number.Goals as goal

pub returns-in_err-rest : goal.returns-in_err-rest
returns-in_err-rest c =
    rw c.from_residual.ensures
    (behind_none c.args.text.now c.args.word.now (decimal c.args.number) c.in_err-rest.ensures)

pub returns : goal.returns
returns c =
    behind_both c.args.text.now c.args.word.now (decimal c.args.number) c.in_ok-rest.rest.now c.behind-2.result c.in_ok-rest.ensures
    (rw (c.as_bytes.ensures.value, c.format.ensures.text) at c.behind-2.ensures)
