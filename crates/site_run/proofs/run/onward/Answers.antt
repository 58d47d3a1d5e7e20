use Rattle.std.proofs.Common.{◌<◌, ◌∙◌, length, ap, refl, sym, subst}
use Rattle.packed_code.specs.Program.{Program}
use Rattle.packed_code.specs.Cycles.{cycles_of}
use Rattle.site_meaning.specs.Polls.{next_exec}
use Rattle.site_run.specs.Seat.{running_of}
use Rattle.site_run.proofs.MoveLemmas.{onward_some, onward_none, runs_on}
use Rattle.site_run.proofs.run.onward.Goals as goal

pub returns-in_default-clause-polled : goal.returns-in_default-clause-polled
returns-in_default-clause-polled c = λ part number told is.
    onward_none part number (running_of told c.args.run.now) c.args.from c.args.ground.now.mem.now.code is
    (sym c.in_default.is ∙ c.next_exec.ensures.first ∙ ap (λ (p : Program). next_exec p c.args.from) c.code.ensures)

pub at-requires : goal.at-requires
at-requires c = subst (λ (p : Program). c.in-Some.exec < length p.execs) c.code.ensures c.in-Some.ensures.within.1

pub returns-clause-polled : goal.returns-clause-polled
returns-clause-polled c = λ part number told is.
    onward_some part number (running_of told c.args.run.now) c.args.from c.in-Some.exec c.args.ground.now.mem.now.code is
    (sym c.in-Some.is ∙ c.next_exec.ensures.first ∙ ap (λ (p : Program). next_exec p c.args.from) c.code.ensures)

pub returns-clause-fits : goal.returns-clause-fits
returns-clause-fits c = λ device told before.
    let within = subst (λ (p : Program). c.in-Some.exec < length p.execs) c.code.ensures c.in-Some.ensures.within.1 in
    let some = subst (λ (p : Program). 0 < length (cycles_of p c.in-Some.exec)) c.code.ensures c.in-Some.ensures.within.2 in (
      runs_on c.args.ground.now.mem.now.code device told c.args.run.now _ c.args.from before c.in-Some.ensures.within.0 within
          c.in_ok-run.ensures.of c.in_ok-run.ensures.coming refl refl refl refl refl,
      some,
    )
