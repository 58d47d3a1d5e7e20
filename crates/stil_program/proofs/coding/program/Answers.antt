use Rattle.stil_program.proofs.AnswerLemmas.{program_is}
use Rattle.stil_program.proofs.coding.program.Goals as goal

pub returns-clause-found : goal.returns-clause-found
returns-clause-found c =
    program_is c.args.bytes.now c.in_ok-text.text.code c.in_ok-text.text.lines.items c.in_ok-text.ensures.found
