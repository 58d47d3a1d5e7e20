use Rattle.std.proofs.Common.{IfSome, length, sym, subst}
use Rattle.site_meaning.specs.Part.{part_of}
use Rattle.site_meaning.specs.Polls.{Seat, asked}
use Rattle.site_run.specs.Site.{seat_of}
use Rattle.tester_run.specs.Turn.{IsNext}
use Rattle.tester_run.proofs.TurnLemmas.{waits_next, files_next}
use Rattle.tester_run.proofs.work.turn.Goals as goal

pub file-requires-clause-entry : goal.file-requires-clause-entry
file-requires-clause-entry g c =
    let site = c.args.site.now in
    let part = part_of c.args.plan.now site.site in
    let stops = c.poll-stops.result in
    let before = seat_of c.args.seat.now.seen (g.K.Socket.told c.args.socket.now) site in
    let seat = seat_of stops (g.K.Socket.told c.args.socket.now) site in
    let ready = c.requires.ready in
    let polled = c.in_ok-batch.ensures.polled in
    let next = waits_next part polled.contact seat c.requires.part (asked before stops ready.arises) ready.none_waits in
    files_next c.args.plan.now site.site c.args.book.now.places c.args.share.now.site (length c.args.share.now.records) site.die
    c.batch.new.self.waiting c.requires.places c.requires.is.within c.requires.share ready.filed_are
    (subst (λ (s : Seat). IfSome s.waiting (IsNext part site.die)) (sym polled.polled) next)
