use Rattle.std.proofs.Common.{◌∙◌, arith, refl, sym, ap, subst}
use Rattle.packed_code.specs.Conditions.{IsProgram}
use Rattle.site_meaning.specs.Part.{part_of}
use Rattle.site_meaning.proofs.SkewLemmas.{accepted_part}
use Rattle.lot_book.specs.Shares.{ShareFacts}
use Rattle.stop_board.specs.Seats.{SiteFacts}
use Rattle.site_run.specs.Site.{seat_of}
use Rattle.tester_run.proofs.TurnLemmas.{work_begins_at, turn_goes_on_at, work_is_done_at}
use Rattle.tester_run.proofs.work.work.Goals as goal

pub loop-init : goal.loop-init
loop-init g c =
    let told = g.K.Socket.told c.args.socket.now in
    let seat = c.args.seat.now in
    record {
      is = c.in_ok-site.ensures.is told;
      spent = c.in_ok-site.ensures.spent;
      number = c.in_ok-site.ensures.of ∙ c.site-number.ensures;
      share = refl;
      underway = work_begins_at (part_of c.args.plan.now c.args.share.now.site) seat told
          (seat_of seat.seen told c.in_ok-site.site) c.args.share.now.records (c.in_ok-site.ensures.first seat.seen told)
          (ap (λ (s : ShareFacts). s.records) c.requires.share);
      seat = refl;
      later = omega arith;
      count = omega arith;
    }

pub turn-requires-clause-part : goal.turn-requires-clause-part
turn-requires-clause-part g c =
    accepted_part c.args.plan.now c.loop.site.site
    (subst IsProgram (c.code.ensures ∙ sym c.requires.one_program) c.signals-signals.ensures.conditions)
    c.sites-sites.ensures.bound

pub loop-preserved : goal.loop-preserved
loop-preserved g c =
    let told = g.K.Socket.told in
    let kept = c.loop.invariant in
    let turned = c.in_ok-turn.ensures in
    let new = c.turn.new in
    record {
      is = turned.is;
      spent = turned.spent;
      number = turned.site ∙ kept.number;
      share = c.turn.ensures.share ∙ ap (λ (s : ShareFacts). record s { records = new.share.records }) kept.share;
      underway = turn_goes_on_at c.args.plan.now c.loop.site.site c.args.share.now.site c.loop.site.dies c.args.seat.now
          (told c.args.socket.now) (seat_of c.loop.seat.seen (told c.loop.socket) c.loop.site)
          (seat_of new.seat.seen (told new.socket) new.site) c.loop.seat new.seat (told c.loop.socket)
          (told new.socket) c.loop.share.records new.share.records kept.number kept.is.dies
          (accepted_part c.args.plan.now c.loop.site.site
          (subst IsProgram (c.code.ensures ∙ sym c.requires.one_program) c.signals-signals.ensures.conditions)
          c.sites-sites.ensures.bound) kept.underway (sym c.is_done.ensures ∙ c.if-is_done.false) turned.turned;
      seat = c.turn.ensures.seat
          ∙ ap (λ (s : SiteFacts). record s { seen = new.seat.seen; polls = new.seat.polls }) kept.seat;
      later = omega (arith, kept.later, c.turn.ensures.later);
      count = omega (arith, kept.count, c.turn.ensures.count);
    }

pub returns-then-is_done-clause-work : goal.returns-then-is_done-clause-work
returns-then-is_done-clause-work g c =
    let told = g.K.Socket.told in
    work_is_done_at c.args.plan.now c.loop.site.site c.args.share.now.site c.loop.site.dies c.args.seat.now (told c.args.socket.now)
    (seat_of c.loop.seat.seen (told c.loop.socket) c.loop.site) c.loop.seat (told c.loop.socket) c.loop.share.records
    c.loop.invariant.number c.loop.invariant.is.dies c.loop.invariant.underway (sym c.is_done.ensures ∙ c.if-is_done.true)
