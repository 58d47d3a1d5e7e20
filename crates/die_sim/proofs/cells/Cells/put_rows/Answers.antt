use Rattle.die_sim.proofs.CellLemmas.{AreWired-same}
use Rattle.die_sim.proofs.cells.Cells.put_rows.Goals as goal

pub returns : goal.returns
returns c = record {
  wired = AreWired-same c.args.net.now c.args.self.now.cells.items c.put_rows.new.cells.items c.args.self.now.pins.items c.requires.wired c.put_rows.ensures.pins;
  rows = c.put_rows.ensures.rows;
  stuck = c.requires.stuck;
}
