use Rattle.std.proofs.Common.{◌∙◌, sym}
use Rattle.wave_tables.proofs.LineageLemmas.{position-map}
use Rattle.wave_tables.proofs.lineage.table_of.Goals as goal

pub returns : goal.returns
returns c = c.place_of.ensures ∙ sym (position-map _ _ c.args.tables.now)
