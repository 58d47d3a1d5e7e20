use Rattle.std.proofs.Common.{length}
use Rattle.lot_parts.specs.Files.{texts_seen}
use Rattle.lot_parts.proofs.MergeLemmas.{AreRead}
use Rattle.lot_parts.proofs.merge.read_logs.Given as goal

-- the texts so far are read
abbrev pub invariant-loop-at : goal.invariant-loop-at
invariant-loop-at l = AreRead l.rows (length l.files) (texts_seen l.texts) l.at l.logs.items
