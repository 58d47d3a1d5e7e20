use Rattle.std.proofs.Common.{◌≡◌, ◌∙◌, ◌<◌, ◌+◌, [], ◌∷◌, ◌++◌, length, sym, ap, arith, append-nil, rules}
use Rattle.std.specs.List.{flat_map, range_with_len}
use Rattle.std.proofs.lemmas.Grind.{flat_map-append}
use Rattle.std.proofs.lemmas.List.FromFn.{length-range_with_len, get_or-range_with_len}
use Rattle.std.proofs.lemmas.Result.{err_from_is_err_and}
use Rattle.text_bytes.proofs.ListLemmas.{range-more}
use Rattle.die_sim.specs.Die.{device_of}
use Rattle.tester_types.specs.Outside.{gained}
use Rattle.tester_types.proofs.OutsideLemmas.{each_stops, gained_both}
use Rattle.vcd_dump.specs.Written.{var_text}
use Rattle.vcd_dump.proofs.WriteLemmas.{take_range}
use Rattle.vcd_dump.proofs.write.put_signals.Goals as goal

pub returns-in_err-put_signal : goal.returns-in_err-put_signal
returns-in_err-put_signal g c =
    let p = err_from_is_err_and c.from_residual.result c.from_residual.ensures.1 in
    let n = length c.args.code.now.signals in
    let i = c.loop-signal.signal in
    let within : i < n = omega (arith, c.loop-signal-test.true, c.signals-signal-end.ensures.count) in
    let here : i < length (range_with_len 0 n) = omega (arith, within, length-range_with_len 0 n) in
    let none : i ≡ 0 + i = omega arith in
    let front = take_range 0 i n (omega (arith, within)) in
    record {
      puts = rw p.1
          (each_stops (var_text (device_of c.args.image.now) c.args.code.now) _ _ _ (range_with_len 0 n) i i here
          (none ∙ sym (get_or-range_with_len 0 n i i within)) (c.loop-signal.invariant.held ∙ ap (λ l. gained (g.K.Sink.told c.args.sink.now) (flat_map (var_text (device_of c.args.image.now) c.args.code.now) l)) (sym front)) c.in_err-put_signal.ensures.puts);
      count = omega arith;
      cause = search rules;
    }

pub loop-signal-preserved : goal.loop-signal-preserved
loop-signal-preserved g c =
    let text = var_text (device_of c.args.image.now) c.args.code.now in
    let i = c.loop-signal.signal in
    record {
      held = gained_both (g.K.Sink.told c.args.sink.now) _ _ (flat_map text (range_with_len 0 i)) (text i) c.loop-signal.invariant.held c.in_ok-put_signal.ensures.puts
          ∙ ap (gained (g.K.Sink.told c.args.sink.now))
          (ap (λ t. flat_map text (range_with_len 0 i) ++ t) (sym (append-nil (text i)))
          ∙ sym (flat_map-append text (range_with_len 0 i) (i ∷ [])) ∙ ap (flat_map text) (sym (range-more i)));
      count = omega (arith, c.loop-signal.invariant.count, c.in_ok-put_signal.ensures.count);
    }
