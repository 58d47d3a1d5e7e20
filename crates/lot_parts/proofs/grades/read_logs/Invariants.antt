use Rattle.std.proofs.Common.{length}
use Rattle.lot_parts.specs.Files.{texts_seen}
use Rattle.lot_parts.proofs.GradesLemmas.{AreRead, AreKnown}
use Rattle.lot_parts.proofs.grades.read_logs.Given as goal

-- the texts so far are read
abbrev pub invariant-loop-at : goal.invariant-loop-at
invariant-loop-at l = record {
  read : AreRead (texts_seen l.texts) l.at l.logs.items;
  known : AreKnown l.logs.items l.told l.at (length (texts_seen l.texts));
}
