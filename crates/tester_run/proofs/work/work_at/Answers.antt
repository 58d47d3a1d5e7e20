use Rattle.site_meaning.specs.Part.{part_of}
use Rattle.tester_run.proofs.TurnLemmas.{unloads}
use Rattle.tester_run.proofs.work.work_at.Goals as goal

pub returns-clause-work : goal.returns-clause-work
returns-clause-work g c =
    let told = g.K.Socket.told in
    unloads (part_of c.args.plan.now c.args.share.now.site) c.args.seat.now c.work-done.new.seat c.finish.new.self
    (told c.args.socket.now) (told c.work-done.new.socket) (told c.unload.new.self) c.work-done.new.share.records c.work-done.result
    c.finish.ensures c.work-done.ensures.work c.unload.ensures.count c.unload.ensures.tape
