use Rattle.std.proofs.Common.{refl}
use Rattle.cycle_run.proofs.SocketLemmas.{is_empty, moves-none, tape-none}
use Rattle.cycle_run.proofs.sensing.drive_die.Goals as goal

pub returns-then-is_empty-clause-moves : goal.returns-then-is_empty-clause-moves
returns-then-is_empty-clause-moves g c =
    moves-none _ _ c.args.drives.now (is_empty c.args.drives.now _ c.is_empty.ensures c.if-is_empty.true)
    c.requires.can c.requires.settled

pub returns-then-is_empty-clause-tape : goal.returns-then-is_empty-clause-tape
returns-then-is_empty-clause-tape g c =
    tape-none _ _ c.args.at c.args.drives.now (is_empty c.args.drives.now _ c.is_empty.ensures c.if-is_empty.true) refl
