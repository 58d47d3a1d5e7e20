use Rattle.std.proofs.Common.{List, ap, ◌∙◌, arith}
use Rattle.std.proofs.lemmas.List.{take_all}
use Rattle.plan_rows.specs.declared.row.Row.{Row}
use Rattle.plan_rows.specs.Judging.{names_at}
use Rattle.log_parts.specs.Slices.{lent}
use Rattle.lot_parts.proofs.SiteNameLemmas.{no_name, next_name}
use Rattle.lot_parts.proofs.names.names_at.Goals as goal
use Rattle.lot_parts.proofs.names.names_at.Goals.{in-Some+in_ok-push-in-Some, in-None}

pub loop-row-preserved : goal.loop-row-preserved
loop-row-preserved c = elim c.match-name_in.branch [
  | in-Some+in_ok-push-in-Some w ↦
      next_name c.args.site c.args.rows.now c.loop-row.row-index c.row-item.result c.loop-row.names.items c.match-name_in.names.items
      w.in-Some.name c.loop-row-test.true c.row-item.is c.loop-row.invariant w.in-Some.ensures.found
      (ap (λ n. n.items) w.names-is ∙ w.in_ok-push-in-Some.ensures.items)
  | in-None w ↦
      no_name c.args.site c.args.rows.now c.loop-row.row-index c.row-item.result c.match-name_in.names.items c.loop-row-test.true
      c.row-item.is (ap (λ n. lent n.items) w.names-is ∙ c.loop-row.invariant) w.in-None.ensures.none
]

pub returns : goal.returns
returns c =
    c.loop-row.invariant ∙ ap (λ (l : List Row). names_at c.args.site l) (take_all c.loop-row.row-index c.args.rows.now (omega arith))
