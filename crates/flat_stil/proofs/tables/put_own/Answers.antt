use Rattle.std.proofs.Common.{sym, ap, ◌∙◌, List, ℕ}
use Rattle.flat_stil.specs.Working.{prints}
use Rattle.flat_parts.specs.FlatText.{own_table}
use Rattle.flat_stil.proofs.SheetLemmas.{prints_nothing, lines_at}
use Rattle.flat_stil.proofs.LineLemmas.{own_by}
use Rattle.flat_stil.proofs.tables.put_own.Goals as goal

pub loop-number-init : goal.loop-number-init
loop-number-init c = sym (prints_nothing c.args.sheet.now)

pub loop-number-preserved : goal.loop-number-preserved
loop-number-preserved c =
    lines_at (own_table c.args.code.now c.args.exec) c.args.sheet.now c.loop-number.sheet _ c.loop-number.number c.loop-number.invariant
    (c.put_if_own.ensures ∙ ap (λ (ls : List (List ℕ)). prints c.loop-number.sheet ls)
    (own_by c.args.code.now c.args.exec c.loop-number.number c.args.order.now c.args.own.now c.requires.order c.requires.own))
