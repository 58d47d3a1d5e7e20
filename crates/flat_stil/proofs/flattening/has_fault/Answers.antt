use Rattle.stil_program.proofs.AnswerLemmas.{no_fault}
use Rattle.flat_stil.proofs.flattening.has_fault.Goals as goal

pub returns-in-Ok : goal.returns-in-Ok
returns-in-Ok c =
    no_fault c.args.bytes.now c.in-Ok.ensures.found.blocks c.in-Ok.ensures.found.text
