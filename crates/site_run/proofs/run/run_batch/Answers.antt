use Rattle.std.proofs.Common.{◌≤◌, ◌∙◌, Some, length, take, arith, ap, subst}
use Rattle.std.proofs.lemmas.List.{length-drop, length-take-le}
use Rattle.packed_code.specs.Cycles.{cycles_of}
use Rattle.pattern_mem.specs.Cursor.{cycles_to_come}
use Rattle.die_sim.specs.Socket.{Calls}
use Rattle.cycle_run.specs.Tape.{with_calls}
use Rattle.cycle_run.specs.Seat.{between_of}
use Rattle.site_run.specs.Taped.{IsTaped}
use Rattle.site_run.specs.Seat.{running_of}
use Rattle.site_run.specs.Station.{code_in, stand_in}
use Rattle.site_run.proofs.RunLemmas.{cycles_told}
use Rattle.site_run.proofs.PolledLemmas.{cycles_are, behind_batch, lost_in_batch, polled_now, moved_on, moved_away}
use Rattle.site_run.proofs.TapeLemmas.{lost_taped, batch_calls, taped_now}
use Rattle.site_run.proofs.run.run_batch.Goals as goal

pub overflow_sub-left : goal.overflow_sub-left
overflow_sub-left g c =
    let run = c.args.run.now in
    let told = cycles_told (code_in c.args.ground.now) c.code.result.now run.exec c.cycles.result c.code.ensures c.cycles.ensures in
    omega (arith, told, c.requires.runs.done)

pub play_batch-requires-clause-some : goal.play_batch-requires-clause-some
play_batch-requires-clause-some g c =
    let run = c.args.run.now in
    let told = cycles_told (code_in c.args.ground.now) c.code.result.now run.exec c.cycles.result c.code.ensures c.cycles.ensures in
    omega (arith, told, c.requires.more, c.requires.some, c.min-cycles.ensures, c.from.ensures)

pub play_batch-requires-clause-within : goal.play_batch-requires-clause-within
play_batch-requires-clause-within g c =
    let run = c.args.run.now in
    let told = cycles_told (code_in c.args.ground.now) c.code.result.now run.exec c.cycles.result c.code.ensures c.cycles.ensures in
    omega (arith, told, c.requires.more, c.min-cycles.ensures)

pub returns-in-Ok-clause-polled : goal.returns-in-Ok-clause-polled
returns-in-Ok-clause-polled g c =
    let old = c.args.run.now in
    let code = code_in c.args.ground.now in
    let stand = stand_in c.args.ground.now in
    let told = g.K.Socket.told c.args.station.now.socket.now in
    let told' = g.K.Socket.told c.play_batch.new.station.socket.now in
    let count = c.min-cycles.result in
    let runs = c.requires.runs in
    let made = c.in-Ok.ensures.plays in
    let coming = cycles_to_come code old.cursor in
    let all = cycles_told code c.code.result.now old.exec c.cycles.result c.code.ensures c.cycles.ensures in
    let next = cycles_are c.args.ground.now told old c.args.most c.cycles.result count runs all (omega (arith, c.min-cycles.ensures, c.from.ensures)) in
    let left = ap length runs.coming ∙ length-drop old.done (cycles_of code old.exec) in
    let long = length-take-le count coming (omega (arith, all, left, c.min-cycles.ensures, c.from.ensures)) in
    polled_now stand c.args.most old.at.bench.checker.count.keep told told' old c.play_batch.new.run c.settle.new.run c.settle.result c.settle.ensures.polled
    c.settle.ensures.quiet
    (λ part die number planned.
    behind_batch part die number c.args.most stand old c.play_batch.new.run told told' count (take count coming) planned (next part die number planned)
    runs.keep runs.found runs.seen made.plays long made.exec made.done made.batch)

pub returns-in-Err-Contact-clause-polled : goal.returns-in-Err-Contact-clause-polled
returns-in-Err-Contact-clause-polled g c = λ part die number planned.
    let old = c.args.run.now in
    let code = code_in c.args.ground.now in
    let stand = stand_in c.args.ground.now in
    let told = g.K.Socket.told c.args.station.now.socket.now in
    let told' = g.K.Socket.told c.play_batch.new.station.socket.now in
    let count = c.min-cycles.result in
    let runs = c.requires.runs in
    let all = cycles_told code c.code.result.now old.exec c.cycles.result c.code.ensures c.cycles.ensures in
    let next = cycles_are c.args.ground.now told old c.args.most c.cycles.result count runs all (omega (arith, c.min-cycles.ensures, c.from.ensures)) in
    let stops = rw c.in-Err-Contact.field-0-is at c.in-Err-Contact.ensures.stops in
    lost_in_batch part die number c.args.most stand old c.play_batch.new.run told told' count (take count (cycles_to_come code old.cursor)) planned
    (next part die number planned) runs.keep runs.found runs.seen c.requires.set_up.skews runs.cursor.placed.program c.in-Err-Contact.instant
    stops.among

pub returns-in-Ok-clause-moved : goal.returns-in-Ok-clause-moved
returns-in-Ok-clause-moved g c =
    let old = c.args.run.now in
    let all = cycles_told (code_in c.args.ground.now) c.code.result.now old.exec c.cycles.result c.code.ensures c.cycles.ensures in
    let some : 1 ≤ c.min-cycles.result = omega (arith, all, c.min-cycles.ensures, c.from.ensures, c.requires.more, c.requires.some) in
    moved_on c.args.ground.now (g.K.Socket.told c.args.station.now.socket.now) (g.K.Socket.told c.play_batch.new.station.socket.now) old
    c.play_batch.new.run c.settle.new.run c.min-cycles.result c.settle.result c.requires.runs some c.in-Ok.ensures.plays c.settle.ensures.fits
    c.settle.ensures.kept c.settle.ensures.checker

pub returns-in-Err-Contact-clause-moved : goal.returns-in-Err-Contact-clause-moved
returns-in-Err-Contact-clause-moved g c =
    let old = c.args.run.now in
    let stops = rw c.in-Err-Contact.field-0-is at c.in-Err-Contact.ensures.stops in
    moved_away c.args.ground.now (g.K.Socket.told c.args.station.now.socket.now) (g.K.Socket.told c.play_batch.new.station.socket.now) old
    c.play_batch.new.run (take c.min-cycles.result (cycles_to_come (code_in c.args.ground.now) old.cursor)) c.in-Err-Contact.instant
    c.requires.runs c.requires.set_up.skews stops.among

pub returns-in-Ok-clause-tape : goal.returns-in-Ok-clause-tape
returns-in-Ok-clause-tape g c =
    let old = c.args.run.now in
    let code = code_in c.args.ground.now in
    let stand = stand_in c.args.ground.now in
    let told = g.K.Socket.told c.args.station.now.socket.now in
    let count = c.min-cycles.result in
    let all = cycles_told code c.code.result.now old.exec c.cycles.result c.code.ensures c.cycles.ensures in
    let next = cycles_are c.args.ground.now told old c.args.most c.cycles.result count c.requires.runs all
    (omega (arith, c.min-cycles.ensures, c.from.ensures)) in
    taped_now c.args.most old.at.bench.checker.count.keep stand (running_of told old) told.tape (g.K.Socket.told c.play_batch.new.station.socket.now).tape
    c.settle.result c.settle.ensures.quiet
    (λ part die number planned. c.in-Ok.ensures.plays.plays.tape ∙ ap (with_calls told.tape)
    (batch_calls part die number c.args.most old.at.bench.checker.count.keep stand (running_of told old)
    (take count (cycles_to_come code old.cursor)) planned (next part die number planned)))

pub returns-in-Err-Contact-clause-tape : goal.returns-in-Err-Contact-clause-tape
returns-in-Err-Contact-clause-tape g c = λ part die number planned.
    let old = c.args.run.now in
    let code = code_in c.args.ground.now in
    let stand = stand_in c.args.ground.now in
    let told = g.K.Socket.told c.args.station.now.socket.now in
    let told' = g.K.Socket.told c.play_batch.new.station.socket.now in
    let count = c.min-cycles.result in
    let runs = c.requires.runs in
    let cycles = take count (cycles_to_come code old.cursor) in
    let all = cycles_told code c.code.result.now old.exec c.cycles.result c.code.ensures c.cycles.ensures in
    let next = cycles_are c.args.ground.now told old c.args.most c.cycles.result count runs all (omega (arith, c.min-cycles.ensures, c.from.ensures)) in
    let stops = rw c.in-Err-Contact.field-0-is at c.in-Err-Contact.ensures.stops in
    subst (λ (calls : Calls). IsTaped (Some c.in-Err-Contact.instant) calls told.tape told'.tape)
    (batch_calls part die number c.args.most old.at.bench.checker.count.keep stand (running_of told old) cycles planned (next part die number planned))
    (lost_taped stand old.exec cycles (between_of told old.at) (between_of told' c.play_batch.new.run.at) c.in-Err-Contact.instant
    c.requires.set_up.skews runs.cursor.placed.program stops.among)

pub returns-in-Err-Contact-clause-cause : goal.returns-in-Err-Contact-clause-cause
returns-in-Err-Contact-clause-cause g c =
    let stops = rw c.in-Err-Contact.field-0-is at c.in-Err-Contact.ensures.stops in
    stops.cause
