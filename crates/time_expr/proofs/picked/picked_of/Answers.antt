use Rattle.std.proofs.Common.{rules, Vec}
use Rattle.std.specs.declared.alloc.Global.{Global}
use Rattle.time_expr.specs.Picked.{variables_of}
use Rattle.time_expr.specs.declared.picked.Picked.{Picked}
use Rattle.time_expr.proofs.PickedLemmas.{picked-ok}
use Rattle.time_expr.proofs.picked.picked_of.Goals as goal

pub returns : goal.returns
returns c =
    picked-ok (λ (v : Vec Picked Global). variables_of v.items) c.picked_in_specs.result c.args.blocks.now c.args.exec.now c.in_ok-categories.categories c.in_ok-taken.taken c.as_slice-2.result.now
    c.picked_in_specs.ensures (search rules) (search rules) (search rules)
