use Rattle.std.proofs.Common.{◌≡◌, ◌≤◌, false}
use Rattle.site_meaning.specs.Part.{part_of}
use Rattle.site_run.specs.Site.{seat_of, IsSiteOf}
use Rattle.site_run.proofs.TouchdownLemmas.{GoesSo, LeadsOn}
use Rattle.site_run.proofs.site.Site.touchdown.Given as goal

-- the touchdown goes on
abbrev pub invariant-loop : goal.invariant-loop
invariant-loop g l =
    let told = g.K.Socket.told in
    record {
      is : IsSiteOf l.mem l.plan (told l.socket) l.self;
      spent : l.self.spent ≡ false;
      number : l.self.site ≡ l.fn.self.site;
      goes_so : GoesSo (part_of l.plan l.fn.self.site) l.fn.self.die (told l.fn.socket) (told l.socket)
          (seat_of l.fn.self.state.taken (told l.socket) l.self);
      leads_on : LeadsOn l.plan l.fn.self.state.taken l.fn.self l.self (told l.fn.socket) (told l.socket);
      count : (told l.fn.socket).count ≤ (told l.socket).count;
    }
