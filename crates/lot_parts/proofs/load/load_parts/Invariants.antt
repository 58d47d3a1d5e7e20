use Rattle.std.proofs.Common.{◌≡◌, ◌≤◌}
use Rattle.lot_parts.specs.Words.{words_seen}
use Rattle.lot_parts.specs.Files.{texts_seen}
use Rattle.lot_parts.proofs.LoadLemmas.{AreLoaded}
use Rattle.lot_parts.proofs.load.load_parts.Given as goal

-- the files so far are loaded
abbrev pub invariant-loop-file : goal.invariant-loop-file
invariant-loop-file g l = record {
  read : AreLoaded (g.F.Shelf.told l.fn.shelf) (words_seen l.files) l.file-index (texts_seen l.texts.items);
  kept : g.F.Shelf.told l.shelf ≡ g.F.Shelf.told l.fn.shelf;
  counts : g.F.Shelf.faults l.fn.shelf ≤ g.F.Shelf.faults l.shelf;
}
