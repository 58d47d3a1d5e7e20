use Rattle.stil_program.proofs.AnswerLemmas.{with_lines}
use Rattle.stil_program.proofs.coding.compiled_of.Goals as goal

pub returns : goal.returns
returns c =
    with_lines c.args.blocks.now c.with_lines.result c.in_ok-code.code c.as_slice.result.now c.in_ok-code.ensures.0
    c.in_ok-code.ensures.1 c.as_slice.ensures c.with_lines.ensures
