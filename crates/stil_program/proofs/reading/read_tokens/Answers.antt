use Rattle.stil_tree.specs.Trees.{trees}
use Rattle.stil_program.proofs.FrontAnswers.{blocks_answer, statements_answer}
use Rattle.stil_program.proofs.reading.read_tokens.Goals as goal

pub returns-in-Ok : goal.returns-in-Ok
returns-in-Ok c =
    blocks_answer c.args.bytes.now c.args.tokens.now (trees c.in-Ok.stmts) c.read_blocks.result c.requires.reads
    c.in-Ok.ensures.found c.read_blocks.ensures.found c.read_blocks.ensures.fault

pub returns-in-Err : goal.returns-in-Err
returns-in-Err c =
    statements_answer c.args.bytes.now c.args.tokens.now c.statements_refused.result c.requires.reads c.statements_refused.ensures
