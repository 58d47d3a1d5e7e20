use Rattle.std.proofs.Common.{◌∙◌, sym}
use Rattle.macro_expand.proofs.NamingLemmas.{table_found, table_missed}
use Rattle.macro_expand.proofs.naming.table_number.Goals as goal

pub returns-then-eq : goal.returns-then-eq
returns-then-eq c =
    sym (table_found c.args.tables.now c.loop-number.number c.name.result.now c.args.name.now c.name.ensures (sym c.eq.ensures ∙ c.if-eq.true))
    ∙ c.loop-number.invariant

pub loop-number-preserved : goal.loop-number-preserved
loop-number-preserved c =
    table_missed c.args.tables.now c.loop-number.number c.name.result.now c.args.name.now c.name.ensures (sym c.eq.ensures ∙ c.if-eq.false)
    ∙ c.loop-number.invariant
