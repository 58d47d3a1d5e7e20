use Rattle.cycle_run.proofs.SocketLemmas.{is_empty}
use Rattle.word_run.proofs.JudgeLemmas.{undriven}
use Rattle.word_run.proofs.board.drive_all.Goals as goal

pub returns-then-is_empty-clause-lanes : goal.returns-then-is_empty-clause-lanes
returns-then-is_empty-clause-lanes c = λ k device state within h.
    undriven c.args.dies.now k device state c.args.drives.now c.requires
    (is_empty c.args.drives.now c.is_empty.result c.is_empty.ensures c.if-is_empty.true) h
