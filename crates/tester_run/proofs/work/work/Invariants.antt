use Rattle.std.proofs.Common.{◌≡◌, ◌≤◌, false}
use Rattle.site_meaning.specs.Part.{part_of}
use Rattle.site_run.specs.Site.{seat_of, IsSiteOf}
use Rattle.tester_run.specs.Turn.{IsUnderway}
use Rattle.tester_run.proofs.work.work.Given as goal

-- the site stands, and the work so far
abbrev pub invariant-loop : goal.invariant-loop
invariant-loop g l =
    let told = g.K.Socket.told in
    record {
      is : IsSiteOf l.mem l.plan (told l.socket) l.site;
      spent : l.site.spent ≡ false;
      number : l.site.site ≡ l.fn.share.site;
      share : l.share ≡ record l.fn.share { records = l.share.records };
      underway : IsUnderway (part_of l.plan l.fn.share.site) l.fn.seat (told l.fn.socket)
          (seat_of l.seat.seen (told l.socket) l.site) l.seat (told l.socket) l.share.records;
      seat : l.seat ≡ record l.fn.seat { seen = l.seat.seen; polls = l.seat.polls };
      later : l.fn.seat.seen ≤ l.seat.seen;
      count : (told l.fn.socket).count ≤ (told l.socket).count;
    }
