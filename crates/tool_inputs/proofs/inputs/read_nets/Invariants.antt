use Rattle.std.proofs.Common.{◌≡◌, ◌≤◌, map}
use Rattle.std.specs.Arc.{arc_value}
use Rattle.plan_rows.specs.Rows.{files_of}
use Rattle.tool_inputs.proofs.NetLemmas.{AreRead}
use Rattle.tool_inputs.proofs.inputs.read_nets.Given as goal

-- the files so far are read
abbrev pub invariant-loop-file : goal.invariant-loop-file
invariant-loop-file g l = record {
  read : AreRead (g.F.Shelf.told l.fn.shelf) (files_of l.plan) l.file-index (map arc_value l.nets.items);
  kept : g.F.Shelf.told l.shelf ≡ g.F.Shelf.told l.fn.shelf;
  counts : g.F.Shelf.faults l.fn.shelf ≤ g.F.Shelf.faults l.shelf;
}
