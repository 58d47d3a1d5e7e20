use Rattle.std.proofs.Common.{◌≡◌, ◌<◌, ◌+◌, ◌-◌, take, ap, ◌∙◌, arith, rules}
use Rattle.std.specs.List.{flat_map, range_with_len}
use Rattle.std.proofs.lemmas.Result.{err_from_is_err_and}
use Rattle.tester_types.specs.Outside.{gained}
use Rattle.datalog.specs.DatalogText.{total_line}
use Rattle.log_parts.specs.Dealt.{dies_of}
use Rattle.log_parts.proofs.RangedLemmas.{ranged_more, ranged_stops, ranged_all}
use Rattle.log_parts.proofs.merged.put_totals.Goals as goal

pub returns-in_err-put_total : goal.returns-in_err-put_total
returns-in_err-put_total g c =
    let p = err_from_is_err_and c.from_residual.result c.from_residual.ensures.1 in
    let bin = c.loop-bin.bin in
    let here : bin ≡ 1 + (bin - 1) = omega arith in
    let within : bin - 1 < 99 = omega arith in
    record {
      puts = rw p.1
          (ranged_stops (λ b. total_line b (dies_of c.args.logs.now b)) 1 99 (bin - 1) bin _ _ _ within here c.loop-bin.invariant.held
          (rw c.count_all.ensures at c.in_err-put_total.ensures.puts));
      count = omega arith;
      cause = search rules;
    }

pub loop-bin-preserved : goal.loop-bin-preserved
loop-bin-preserved g c =
    let bin = c.loop-bin.bin in
    let here : bin ≡ 1 + (bin - 1) = omega arith in
    let within : bin - 1 < 99 = omega arith in
    record {
      held = ranged_more (λ b. total_line b (dies_of c.args.logs.now b)) 1 99 (bin - 1) bin _ _ _ within here c.loop-bin.invariant.held
          (rw c.count_all.ensures at c.in_ok-put_total.ensures.puts)
          ∙ ap (λ k. gained (g.K.Sink.told c.args.sink.now) (flat_map (λ b. total_line b (dies_of c.args.logs.now b)) (take k (range_with_len 1 99))))
          (let e : bin - 1 + 1 ≡ bin + 1 - 1 = omega arith in e);
      count = omega (arith, c.in_ok-put_total.ensures.count);
    }

pub returns : goal.returns
returns g c = record {
  puts = c.loop-bin.invariant.held
      ∙ ap (gained (g.K.Sink.told c.args.sink.now))
      (ranged_all (λ b. total_line b (dies_of c.args.logs.now b)) 1 99 (c.loop-bin.bin - 1) (omega arith));
  count = omega arith;
  cause = search rules;
}
