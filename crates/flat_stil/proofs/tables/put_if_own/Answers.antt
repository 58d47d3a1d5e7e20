use Rattle.std.proofs.Common.{sym, ◌∙◌}
use Rattle.flat_stil.proofs.LineLemmas.{is_own, not_own}
use Rattle.flat_stil.proofs.tables.put_if_own.Goals as goal

pub returns-then-has : goal.returns-then-has
returns-then-has c =
    is_own c.args.code.now c.args.own.now c.args.number c.args.table c.args.sheet.now c.put_numbered.new.sheet (sym c.has.ensures ∙ c.if-has.true)
    c.put_numbered.ensures

pub returns-else-has : goal.returns-else-has
returns-else-has c =
    not_own c.args.code.now c.args.own.now c.args.number c.args.table c.args.sheet.now (sym c.has.ensures ∙ c.if-has.false)
