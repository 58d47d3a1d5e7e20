use Rattle.std.proofs.Common.{◌≡◌, ◌++◌, ◌+◌, ◌∙◌, [], List, ℕ, length, refl, sym, ap, inl, arith, append_assoc}
use Rattle.std.proofs.lemmas.Option.{get_or_from_slice_get}
use Rattle.std.proofs.lemmas.Result.{err_from_is_err_and}
use Rattle.std.specs.List.{flat_map}
use Rattle.text_bytes.proofs.TextLemmas.{lines_behind}
use Rattle.tester_types.specs.declared.cycle.Cycle.{Cycle}
use Rattle.tester_types.specs.declared.wave.Table.{Table}
use Rattle.tester_types.specs.Outside.{gained}
use Rattle.tester_types.proofs.OutsideLemmas.{gained-none, gained_both}
use Rattle.packed_code.specs.Walk.{cycles_left}
use Rattle.code_listing.specs.Listing.{no_table, listed, listed_exec, time_of}
use Rattle.code_listing.specs.Room.{text_of}
use Rattle.code_listing.proofs.LineLemmas.{lists_stops}
use Rattle.packed_code.proofs.WalkLemmas.{length-cycles}
use Rattle.code_listing.proofs.ListingLemmas.{listed_from, text_lines, whole-next, time-next, length-next, none-left, all-put, all-timed}
use Rattle.code_listing.proofs.listing.put_exec_cycles.Goals as goal

pub loop-number-init : goal.loop-number-init
loop-number-init g c =
    let code = c.args.code.now in
    record {
      over = c.walk-place.ensures.over;
      counted = omega (arith, ap length c.walk-place.ensures.coming);
      done = [];
      held = sym (gained-none (g.K.Sink.told c.args.sink.now));
      whole = ap (λ (cs : List Cycle). flat_map (text_of c.args.form code) (listed_from code 0 cs)) (sym c.walk-place.ensures.coming);
      lines = inl refl;
      time = ap (λ (cs : List Cycle). c.args.time + time_of (listed_from code 0 cs)) c.walk-place.ensures.coming;
      room = c.requires.room;
      count = omega arith;
    }

pub unreachable-requires : goal.unreachable-requires
unreachable-requires g c =
    let code = c.args.code.now in
    let left = none-left (cycles_left code c.loop-number.place) (cycles_left code c.next.new.self) c.next.result c.in_default.is c.next.ensures.given c.next.ensures.none in
    omega (arith, left, c.loop-number.invariant.counted, c.loop-number-test.true, c.cycles-number-end.ensures, length-cycles code c.args.exec)

pub returns-in_err-put_cycle-clause-lists : goal.returns-in_err-put_cycle-clause-lists
returns-in_err-put_cycle-clause-lists g c =
    let code = c.args.code.now in
    let p = err_from_is_err_and c.from_residual.result c.from_residual.ensures.1 in
    let i = c.loop-number.invariant in
    rw (p.1, p.2)
    (lists_stops (Unit {0}) ℕ (g.K.Sink.told c.args.sink.now) (g.K.Sink.told c.loop-number.sink) (g.K.Sink.told c.put_cycle.new.sink)
    (flat_map (text_of c.args.form code) (listed_exec code c.args.exec).cycles) i.done
    (text_of c.args.form code (listed code (c.loop-number.number, c.in-Some.cycle))) _ _
    (whole-next (text_of c.args.form code) code c.loop-number.number c.in-Some.cycle (cycles_left code c.loop-number.place) (cycles_left code c.next.new.self) _ i.done
    c.in-Some.ensures.given i.whole) i.lines i.held c.in_err-put_cycle.ensures.lists)

pub overflow_add-time : goal.overflow_add-time
overflow_add-time g c =
    let code = c.args.code.now in
    let i = c.loop-number.invariant in
    let split = time-next code c.loop-number.number c.in-Some.cycle (cycles_left code c.loop-number.place) (cycles_left code c.next.new.self) c.in-Some.ensures.given in
    let period = ap (λ (t : Table). t.period) (get_or_from_slice_get code.tables c.in-Some.cycle.table c.table.result.now no_table c.table.ensures.found) in
    record { fits = omega (arith, c.requires.time, i.time, split, period, c.from-time.ensures) }

pub loop-number-preserved : goal.loop-number-preserved
loop-number-preserved g c =
    let code = c.args.code.now in
    let i = c.loop-number.invariant in
    let old = cycles_left code c.loop-number.place in
    let left = cycles_left code c.next.new.self in
    let text = text_of c.args.form code in
    let here = listed code (c.loop-number.number, c.in-Some.cycle) in
    let split = time-next code c.loop-number.number c.in-Some.cycle old left c.in-Some.ensures.given in
    let period = ap (λ (t : Table). t.period) (get_or_from_slice_get code.tables c.in-Some.cycle.table c.table.result.now no_table c.table.ensures.found) in
    record {
      over = c.in-Some.ensures.over;
      counted = omega (arith, i.counted, length-next c.in-Some.cycle old left c.in-Some.ensures.given);
      done = i.done ++ text here;
      held = gained_both (g.K.Sink.told c.args.sink.now) (g.K.Sink.told c.loop-number.sink) (g.K.Sink.told c.put_cycle.new.sink) i.done (text here) i.held c.in_ok-put_cycle.ensures.lists;
      whole = whole-next text code c.loop-number.number c.in-Some.cycle old left _ i.done c.in-Some.ensures.given i.whole
          ∙ sym (append_assoc i.done (text here) (flat_map text (listed_from code (c.loop-number.number + 1) left)));
      lines = lines_behind i.done (text here) i.lines (text_lines c.args.form code here);
      time = omega (arith, i.time, split, period, c.from-time.ensures);
      room = c.in_ok-put_cycle.ensures.room;
      count = omega (arith, i.count, c.in_ok-put_cycle.ensures.count);
    }

pub returns-clause-lists : goal.returns-clause-lists
returns-clause-lists g c =
    let code = c.args.code.now in
    let i = c.loop-number.invariant in
    let none : length (cycles_left code c.loop-number.place) ≡ 0 =
    omega (arith, i.counted, c.loop-number-test.false, c.loop-number.auto.number-end, c.cycles-number-end.ensures, length-cycles code c.args.exec) in
    i.held ∙ ap (gained (g.K.Sink.told c.args.sink.now)) (all-put (text_of c.args.form code) code c.loop-number.number (cycles_left code c.loop-number.place) _ i.done none i.whole)

pub returns-clause-time : goal.returns-clause-time
returns-clause-time g c =
    let code = c.args.code.now in
    let i = c.loop-number.invariant in
    let none : length (cycles_left code c.loop-number.place) ≡ 0 =
    omega (arith, i.counted, c.loop-number-test.false, c.loop-number.auto.number-end, c.cycles-number-end.ensures, length-cycles code c.args.exec) in
    all-timed code c.loop-number.number (cycles_left code c.loop-number.place) c.loop-number.time _ none i.time
