use Rattle.std.proofs.Common.{◌<◌, ◌∙◌, length, arith, refl, sym, ap, subst}
use Rattle.packed_code.specs.Conditions.{IsProgram}
use Rattle.plan_rows.specs.Rows.{dies_at}
use Rattle.site_meaning.specs.Part.{part_of}
use Rattle.site_meaning.proofs.SkewLemmas.{accepted_part}
use Rattle.site_run.specs.declared.site.Site.{Site}
use Rattle.site_run.specs.Site.{seat_of}
use Rattle.site_run.specs.Touchdown.{IsIdle, ArePolls, last, more}
use Rattle.site_run.proofs.TouchdownLemmas.{GoesSo, goes_first, goes_on, lands, still_site, poll_quiet, without_none}
use Rattle.site_run.proofs.site.Site.touchdown.Goals as goal

pub loop-init : goal.loop-init
loop-init g c =
    let told = g.K.Socket.told c.args.socket.now in
    let old = c.args.self.now in
    let plan = c.args.plan.now in
    record {
      is = c.requires.site;
      spent = c.requires.spent;
      number = refl;
      goes_so = goes_first (part_of plan old.site) told old
          (accepted_part plan old.site (subst IsProgram (c.code.ensures ∙ sym c.requires.site.one_program) c.signals-signals.ensures.conditions)
          c.sites-sites.ensures.bound) c.requires.idle;
      leads_on = λ entry new told' polls. polls;
      count = omega arith;
    }

pub batch-requires-clause-done : goal.batch-requires-clause-done
batch-requires-clause-done g c =
    let kept = c.loop.invariant in
    subst (λ n. c.loop.self.die < length (dies_at n c.args.plan.now.rows)) (sym kept.number) (omega (arith, kept.goes_so.die_is, c.requires.done))

pub batch-requires-clause-taken : goal.batch-requires-clause-taken
batch-requires-clause-taken g c = c.loop.invariant.goes_so.none_waits

pub loop-preserved : goal.loop-preserved
loop-preserved g c =
    let told = g.K.Socket.told in
    let old = c.args.self.now in
    let plan = c.args.plan.now in
    let kept = c.loop.invariant in
    let polled = c.in_ok-batch.ensures in
    let rest = c.take.ensures.rest in
    record {
      is = still_site c.args.mem.now plan (told c.batch.new.socket) c.batch.new.self c.take.new.self rest polled.is;
      spent = ap (λ (s : Site). s.spent) rest ∙ polled.ok;
      number = ap (λ (s : Site). s.site) rest ∙ polled.number ∙ kept.number;
      goes_so = subst (λ (s : Site). GoesSo (part_of plan old.site) old.die (told c.args.socket.now) (told c.batch.new.socket)
          (seat_of old.state.taken (told c.batch.new.socket) s)) (sym rest)
          (goes_on plan old.site old.state.taken c.loop.self c.batch.new.self (told c.args.socket.now) (told c.loop.socket) (told c.batch.new.socket)
          old.die (accepted_part plan old.site (subst IsProgram (c.code.ensures ∙ sym c.requires.site.one_program)
          c.signals-signals.ensures.conditions) c.sites-sites.ensures.bound) kept.number c.requires.done kept.count c.batch.ensures.count kept.goes_so
          polled.polled (sym c.take.ensures.record ∙ c.in_default.is));
      leads_on = λ entry new told' polls.
          let none = sym c.take.ensures.record ∙ c.in_default.is in
          kept.leads_on entry new told' (more c.loop.self c.batch.new.self new (told c.loop.socket) (told c.batch.new.socket) told'
          polled.polled (poll_quiet plan old.state.taken c.loop.self c.batch.new.self (told c.loop.socket) (told c.batch.new.socket)
          polled.polled none) none
          (subst (λ (s : Site). ArePolls plan old.state.taken entry s new (told c.batch.new.socket) told')
          (rest ∙ without_none c.batch.new.self none) polls));
      count = omega (arith, kept.count, c.batch.ensures.count);
    }

pub returns-in-Some-take-clause-polls : goal.returns-in-Some-take-clause-polls
returns-in-Some-take-clause-polls g c =
    let told = g.K.Socket.told in
    record {
      behind = c.batch.new.self;
      polls = c.loop.invariant.leads_on c.in-Some-take.landed c.batch.new.self (told c.batch.new.socket)
          (last c.loop.self c.batch.new.self (told c.loop.socket) (told c.batch.new.socket) c.in_ok-batch.ensures.polled
          (sym c.take.ensures.record ∙ c.in-Some-take.is));
      taken = c.take.ensures.rest;
    }

pub returns-in-Some-take-clause-given : goal.returns-in-Some-take-clause-given
returns-in-Some-take-clause-given g c =
    let told = g.K.Socket.told in
    let old = c.args.self.now in
    let plan = c.args.plan.now in
    let kept = c.loop.invariant in
    let landed = lands plan old.site old.state.taken c.loop.self c.batch.new.self (told c.args.socket.now) (told c.loop.socket)
    (told c.batch.new.socket) old.die (accepted_part plan old.site (subst IsProgram (c.code.ensures ∙ sym c.requires.site.one_program)
    c.signals-signals.ensures.conditions) c.sites-sites.ensures.bound) kept.number c.requires.done kept.count c.batch.ensures.count kept.goes_so
    c.in_ok-batch.ensures.polled c.in-Some-take.landed (sym c.take.ensures.record ∙ c.in-Some-take.is) in
    landed.given

pub returns-in-Some-take-clause-idle : goal.returns-in-Some-take-clause-idle
returns-in-Some-take-clause-idle g c =
    let told = g.K.Socket.told in
    let old = c.args.self.now in
    let plan = c.args.plan.now in
    let kept = c.loop.invariant in
    let landed = lands plan old.site old.state.taken c.loop.self c.batch.new.self (told c.args.socket.now) (told c.loop.socket)
    (told c.batch.new.socket) old.die (accepted_part plan old.site (subst IsProgram (c.code.ensures ∙ sym c.requires.site.one_program)
    c.signals-signals.ensures.conditions) c.sites-sites.ensures.bound) kept.number c.requires.done kept.count c.batch.ensures.count kept.goes_so
    c.in_ok-batch.ensures.polled c.in-Some-take.landed (sym c.take.ensures.record ∙ c.in-Some-take.is) in
    subst IsIdle (sym c.take.ensures.rest) landed.idle

pub returns-in-Some-take-clause-die : goal.returns-in-Some-take-clause-die
returns-in-Some-take-clause-die g c =
    let told = g.K.Socket.told in
    let old = c.args.self.now in
    let plan = c.args.plan.now in
    let kept = c.loop.invariant in
    let landed = lands plan old.site old.state.taken c.loop.self c.batch.new.self (told c.args.socket.now) (told c.loop.socket)
    (told c.batch.new.socket) old.die (accepted_part plan old.site (subst IsProgram (c.code.ensures ∙ sym c.requires.site.one_program)
    c.signals-signals.ensures.conditions) c.sites-sites.ensures.bound) kept.number c.requires.done kept.count c.batch.ensures.count kept.goes_so
    c.in_ok-batch.ensures.polled c.in-Some-take.landed (sym c.take.ensures.record ∙ c.in-Some-take.is) in
    ap (λ (s : Site). s.die) c.take.ensures.rest ∙ landed.die_is

pub returns-in-Some-take-clause-taken : goal.returns-in-Some-take-clause-taken
returns-in-Some-take-clause-taken g c =
    let told = g.K.Socket.told in
    let old = c.args.self.now in
    let plan = c.args.plan.now in
    let kept = c.loop.invariant in
    let landed = lands plan old.site old.state.taken c.loop.self c.batch.new.self (told c.args.socket.now) (told c.loop.socket)
    (told c.batch.new.socket) old.die (accepted_part plan old.site (subst IsProgram (c.code.ensures ∙ sym c.requires.site.one_program)
    c.signals-signals.ensures.conditions) c.sites-sites.ensures.bound) kept.number c.requires.done kept.count c.batch.ensures.count kept.goes_so
    c.in_ok-batch.ensures.polled c.in-Some-take.landed (sym c.take.ensures.record ∙ c.in-Some-take.is) in
    ap (λ (s : Site). s.state.taken) c.take.ensures.rest ∙ landed.taken_is ∙ kept.goes_so.no_stop
