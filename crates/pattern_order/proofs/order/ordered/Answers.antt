use Rattle.std.proofs.Common.{sym, ap, ◌∙◌}
use Rattle.pattern_order.specs.Numbers.{burst_number}
use Rattle.pattern_order.proofs.OrderLemmas.{own-refused, order-known, order-unknown}
use Rattle.pattern_order.proofs.MeaningLemmas.{number-first}
use Rattle.pattern_order.proofs.order.ordered.Goals as goal

pub burst_order-requires : goal.burst_order-requires
burst_order-requires c =
    number-first c.args.names.now c.args.exec.now.burst.name c.in-Some.number
    (ap (burst_number c.args.names.now) (sym c.as_slice.ensures) ∙ sym c.number.ensures ∙ c.in-Some.is)

pub returns-in-Some : goal.returns-in-Some
returns-in-Some c =
    order-known c.args.names.now c.args.exec.now c.in-Some.number c.burst_order.result
    c.in_default.ensures
    (ap (burst_number c.args.names.now) (sym c.as_slice.ensures) ∙ sym c.number.ensures ∙ c.in-Some.is) c.burst_order.ensures

pub returns-in-None : goal.returns-in-None
returns-in-None c =
    order-unknown c.args.names.now c.args.exec.now c.refused.result
    c.in_default.ensures
    (ap (burst_number c.args.names.now) (sym c.as_slice.ensures) ∙ sym c.number.ensures ∙ c.in-None.is) c.refused.ensures

pub returns-in-Err : goal.returns-in-Err
returns-in-Err c =
    own-refused c.args.names.now c.args.exec.now c.in-Err.refusal c.in-Err.ensures
