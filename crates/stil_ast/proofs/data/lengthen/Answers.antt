use Rattle.std.proofs.Common.{arith, refl, ◌-◌}
use Rattle.stil_ast.proofs.ItemLemmas.{items_of-longer}
use Rattle.stil_ast.proofs.data.lengthen.Goals as goal

pub returns-clause-items : goal.returns-clause-items
returns-clause-items c =
    items_of-longer c.args.runs.now.items (c.len-count.result - 1) c.args.times c.index-last.result.now c.args.item
    (omega (arith, c.len-count.ensures, c.args.runs.now.ok, c.if-count-eq0.false)) c.index-last.ensures
    (c.if-not-is_same.ensures refl)
