use Rattle.std.proofs.Common.{◌∙◌, sym, refl}
use Rattle.flat_tree.specs.declared.flat.Slot.TheVariants.{Table}
use Rattle.flat_tree.proofs.LeanLemmas.{in_front, table_dropped}
use Rattle.flat_tree.proofs.only_last.table_stays.Goals as goal

pub returns-then-has_table : goal.returns-then-has_table
returns-then-has_table c t signals kept slots m =
    let ahead = c.args.ahead.now in
    in_front signals ahead ahead (Table t) kept kept slots m m.size refl refl
    (λ lean was made. table_dropped signals ahead t _ _ made (sym c.has_table.ensures ∙ c.if-has_table.true))
