use Rattle.std.proofs.Common.{◌∙◌, sym}
use Rattle.edge_gen.proofs.InsideLemmas.{fit_rows}
use Rattle.edge_gen.proofs.inside.keep_inside.Goals as goal

pub returns-clause-rows : goal.returns-clause-rows
returns-clause-rows c = λ is row long. fit_rows c.args.table.now row c.args.skews.now long (sym c.each_wave.ensures ∙ is)
