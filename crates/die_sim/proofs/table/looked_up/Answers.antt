use Rattle.std.proofs.Common.{◌∙◌, List, ap}
use Rattle.std.specs.Prelude.{slice_index_or}
use Rattle.tester_types.specs.declared.level.Level.{Level}
use Rattle.tester_types.specs.declared.level.Level.TheVariants.{Zero}
use Rattle.die_sim.proofs.TableLemmas.{place_of, entry_is}
use Rattle.die_sim.proofs.table.looked_up.Goals as goal

pub returns : goal.returns
returns c =
    ap (λ (t : List Level). slice_index_or t (place_of c.args.row c.args.first c.args.second) Zero) c.table.ensures
    ∙ entry_is c.args.row c.args.first c.args.second
