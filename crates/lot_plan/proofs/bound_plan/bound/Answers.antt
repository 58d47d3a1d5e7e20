use Rattle.std.proofs.Common.{List, map, ap, sym, subst, ◌∙◌}
use Rattle.std.specs.List.{range_with_len}
use Rattle.std.specs.Arc.{arc_value}
use Rattle.plan_rows.specs.declared.row.Row.{Row}
use Rattle.plan_rows.specs.Rows.{each_of, as_bin, lot_of, skews_at}
use Rattle.lot_plan.specs.Bound.{Bound}
use Rattle.lot_plan.specs.Readings.{first_of}
use Rattle.lot_plan.specs.Skews.{skews_of}
use Rattle.lot_plan.specs.Stored.{IsInStore, IsMade}
use Rattle.lot_plan.proofs.SkewLemmas.{are_skews}
use Rattle.lot_plan.proofs.bound_plan.bound.Goals as goal

pub invariant_of-result : goal.invariant_of-result
invariant_of-result c =
    let b : Bound = record { rows = c.args.rows; program = c.args.code.now; circuits = map arc_value c.args.nets.items } in
    let bindings = map arc_value c.in_ok-made.made.bindings in
    let made : IsMade b bindings c.in_ok-made.made.dies =
    subst (λ (x : Bound). IsMade x bindings c.in_ok-made.made.dies)
    (λ i. record {
      rows = c.as_slice.ensures i;
      program = c.args.code.now;
      circuits = map arc_value (c.deref.ensures.value i);
    })
    c.in_ok-made.ensures in
    let signals = c.as_slice-5.result.now in
    let skews = c.in_ok-skews.ensures
    ∙ ap (λ (l : List Row). map (λ site. skews_of signals (skews_at site l)) (range_with_len 0 c.args.sites))
    c.as_slice-4.ensures in
    subst (λ (x : Bound). IsInStore x c.lot_of.result c.first_of.result c.in_ok-bins.bins c.in_ok-skews.skews bindings c.in_ok-made.made.dies)
    (λ i. record {
      rows = c.args.rows;
      program = sym c.of.ensures i;
      circuits = map arc_value (sym c.from_vec.ensures i);
    })
    (record {
      bound = made.bound;
      own = c.lot_of.ensures ∙ ap lot_of c.as_slice-6.ensures;
      begins = c.first_of.ensures ∙ ap first_of c.as_slice-7.ensures;
      binned = c.in_ok-bins.ensures ∙ ap (each_of as_bin) c.as_slice-3.ensures;
      skewed = are_skews b c.args.sites signals c.in_ok-skews.skews c.requires.sites
          (c.as_slice-5.ensures ∙ c.in_ok-signals.ensures.all) skews;
      wired = made.wired;
      dies = made.dies;
    })
