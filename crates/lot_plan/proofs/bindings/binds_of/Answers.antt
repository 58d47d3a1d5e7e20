use Rattle.std.proofs.Common.{◌+◌, ap, sym, ◌∙◌, map, drop, get_or, false}
use Rattle.std.proofs.lemmas.Result.{err_from_is_err_and}
use Rattle.lot_plan.specs.Views.{needed_by}
use Rattle.lot_plan.specs.Binds.{binds_from, binds_of, is_driven}
use Rattle.std.proofs.lemmas.List.{drop_more}
use Rattle.lot_plan.proofs.BindLemmas.{no_pin, same_tests, stops_here, goes_on, driven-more}
use Rattle.lot_plan.proofs.bindings.binds_of.Goals as goal

pub returns-in_err-bind : goal.returns-in_err-bind
returns-in_err-bind c =
    let p = err_from_is_err_and c.from_residual-in_err-bind.result c.from_residual-in_err-bind.ensures.1 in
    rw (p.1, p.2)
    (stops_here c.args.net.now (λ n. get_or c.loop-pin.driven.items n false) c.loop-pin.binds.items
    (needed_by (get_or c.args.pins.now c.loop-pin.pin-index no_pin))
    (map needed_by (drop (c.loop-pin.pin-index + 1) c.args.pins.now)) (binds_of c.args.net.now (map needed_by c.args.pins.now))
    c.in_err-bind.field-0.0
    (same_tests (λ n. get_or c.loop-pin.driven.items n false) (is_driven c.loop-pin.binds.items) c.loop-pin.invariant.driven)
    (ap (λ ps. binds_from c.args.net.now c.loop-pin.binds.items (map needed_by ps))
    (sym (drop_more c.args.pins.now c.loop-pin.pin-index no_pin c.loop-pin-test.true)) ∙ c.loop-pin.invariant.all)
    c.in_err-bind.ensures.bind)

pub loop-pin-preserved : goal.loop-pin-preserved
loop-pin-preserved c = record {
  count = c.in_ok-bind.ensures.count ∙ c.loop-pin.invariant.count;
  driven = λ n. driven-more c.loop-pin.driven.items c.next_bind.new.driven.items c.loop-pin.binds.items c.in_ok-bind.bind n
      c.in_ok-bind.ensures.bind.1 (c.loop-pin.invariant.driven n) ∙ ap (λ bs. is_driven bs n) (sym c.in_ok-add_bind.ensures);
  all = ap (λ bs. binds_from c.args.net.now bs (map needed_by (drop (c.loop-pin.pin-index + 1) c.args.pins.now)))
      c.in_ok-add_bind.ensures
      ∙ goes_on c.args.net.now (λ n. get_or c.loop-pin.driven.items n false) c.loop-pin.binds.items
      (needed_by (get_or c.args.pins.now c.loop-pin.pin-index no_pin))
      (map needed_by (drop (c.loop-pin.pin-index + 1) c.args.pins.now))
      (binds_of c.args.net.now (map needed_by c.args.pins.now)) c.in_ok-bind.bind
      (same_tests (λ n. get_or c.loop-pin.driven.items n false) (is_driven c.loop-pin.binds.items) c.loop-pin.invariant.driven)
      (ap (λ ps. binds_from c.args.net.now c.loop-pin.binds.items (map needed_by ps))
      (sym (drop_more c.args.pins.now c.loop-pin.pin-index no_pin c.loop-pin-test.true)) ∙ c.loop-pin.invariant.all)
      c.in_ok-bind.ensures.bind.0;
}
