use Rattle.std.proofs.Common.{ℕ, List, sym, subst, ap, ◌∙◌, arith, rules}
use Rattle.std.proofs.lemmas.Result.{err_from_is_err_and}
use Rattle.die_sim.specs.Die.{Image, device_of}
use Rattle.lot_plan.specs.Bound.{image_of}
use Rattle.tester_types.specs.Outside.{gained, Puts, GainsFront}
use Rattle.tester_types.proofs.OutsideLemmas.{front_more, puts_last}
use Rattle.vcd_dump.specs.Taken.{vars_of}
use Rattle.vcd_dump.specs.Written.{front_text, back_text}
use Rattle.vcd_dump.proofs.WriteLemmas.{dump_is, few_signals}
use Rattle.vcd_dump.proofs.write.write_dump.Goals as goal

pub put_back-requires : goal.put_back-requires
put_back-requires g c = few_signals (vars_of c.args.plan.now c.args.site) c.args.tape.now.calls c.requires.sound

pub returns-in_err-put_front : goal.returns-in_err-put_front
returns-in_err-put_front g c =
    let p = err_from_is_err_and c.from_residual.result c.from_residual.ensures.1 in
    let code = c.args.code.now in
    let calls = c.args.tape.now.calls in
    let front = front_text (device_of (image_of c.args.plan.now c.args.site 0 1)) code in
    record {
      puts = rw p.1
          (subst (λ (t : List ℕ). GainsFront (g.K.Sink.told c.args.sink.now) t (g.K.Sink.told c.put_front.new.sink))
          (sym (dump_is c.args.plan.now c.args.site code calls c.requires.one_program))
          (front_more _ _ front (back_text calls)
          (subst (λ (i : Image). GainsFront (g.K.Sink.told c.args.sink.now) (front_text (device_of i) code) (g.K.Sink.told c.put_front.new.sink)) c.image.ensures
          c.in_err-put_front.ensures.puts)));
      count = omega arith;
      cause = search rules;
    }

pub returns : goal.returns
returns g c =
    let code = c.args.code.now in
    let calls = c.args.tape.now.calls in
    let front = front_text (device_of (image_of c.args.plan.now c.args.site 0 1)) code in
    record {
      puts = subst (λ (t : List ℕ). Puts (g.K.Sink.told c.args.sink.now) t c.put_back.result (g.K.Sink.told c.put_back.new.sink))
          (sym (dump_is c.args.plan.now c.args.site code calls c.requires.one_program))
          (puts_last (g.K.Sink.told c.args.sink.now) (g.K.Sink.told c.put_front.new.sink) _ front (back_text calls) _
          (c.in_ok-put_front.ensures.puts ∙ ap (λ (i : Image). gained (g.K.Sink.told c.args.sink.now) (front_text (device_of i) code)) c.image.ensures)
          c.put_back.ensures.puts);
      count = omega arith;
      cause = search rules;
    }
