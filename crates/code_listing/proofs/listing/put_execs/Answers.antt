use Rattle.std.proofs.Common.{◌<◌, ◌++◌, ◌+◌, ◌-◌, ◌∙◌, ℕ, length, sym, arith, append_assoc}
use Rattle.std.proofs.lemmas.Result.{err_from_is_err_and}
use Rattle.text_bytes.proofs.TextLemmas.{lines_behind}
use Rattle.tester_types.proofs.OutsideLemmas.{gained_both}
use Rattle.code_listing.specs.Listing.{listed_exec}
use Rattle.code_listing.specs.Room.{text_of}
use Rattle.code_listing.specs.Text.{exec_text, execs_text}
use Rattle.code_listing.proofs.LineLemmas.{lists_stops}
use Rattle.code_listing.proofs.ListingLemmas.{execs_from, time-split, text-next, exec-text-lines}
use Rattle.code_listing.proofs.listing.put_execs.Goals as goal

pub put_exec-requires-clause-time : goal.put_exec-requires-clause-time
put_exec-requires-clause-time g c =
    let code = c.args.code.now in
    let within : c.loop-exec.exec < length code.execs = omega (arith, c.loop-exec-test.true, c.execs-exec-end.ensures) in
    omega (arith, c.requires.time, c.loop-exec.invariant.time, time-split code c.loop-exec.exec (length code.execs) within)

pub returns-in_err-time-clause-lists : goal.returns-in_err-time-clause-lists
returns-in_err-time-clause-lists g c =
    let code = c.args.code.now in
    let within : c.loop-exec.exec < length code.execs = omega (arith, c.loop-exec-test.true, c.execs-exec-end.ensures) in
    let p = err_from_is_err_and c.from_residual.result c.from_residual.ensures.1 in
    let i = c.loop-exec.invariant in
    rw (p.1, p.2)
    (lists_stops ℕ ℕ (g.K.Sink.told c.args.sink.now) (g.K.Sink.told c.loop-exec.sink) _ _ i.done
    (exec_text (text_of c.args.form code) (listed_exec code c.loop-exec.exec)) _ _
    (text-next (text_of c.args.form code) code c.loop-exec.exec (length code.execs) _ i.done within i.whole) i.lines i.held c.in_err-time.ensures.lists)

pub loop-exec-preserved : goal.loop-exec-preserved
loop-exec-preserved g c =
    let code = c.args.code.now in
    let within : c.loop-exec.exec < length code.execs = omega (arith, c.loop-exec-test.true, c.execs-exec-end.ensures) in
    let i = c.loop-exec.invariant in
    let text = text_of c.args.form code in
    let here = exec_text text (listed_exec code c.loop-exec.exec) in
    record {
      done = i.done ++ here;
      held = gained_both (g.K.Sink.told c.args.sink.now) (g.K.Sink.told c.loop-exec.sink) _ i.done here i.held c.in_ok-time.ensures.lists;
      whole = text-next text code c.loop-exec.exec (length code.execs) _ i.done within i.whole
          ∙ sym (append_assoc i.done here (execs_text text (execs_from code (c.loop-exec.exec + 1) (length code.execs - (c.loop-exec.exec + 1)))));
      lines = lines_behind i.done here i.lines (exec-text-lines c.args.form code (listed_exec code c.loop-exec.exec));
      time = omega (arith, i.time, c.in_ok-time.ensures.time, time-split code c.loop-exec.exec (length code.execs) within);
      room = c.in_ok-time.ensures.room;
      count = omega (arith, i.count, c.in_ok-time.ensures.count);
    }
