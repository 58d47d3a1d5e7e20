use Rattle.std.proofs.Common.{◌+◌, ◌∙◌, ℕ, length, ap, sym, subst}
use Rattle.site_meaning.specs.Polls.{unloaded}
use Rattle.site_run.specs.declared.trial.Outcome.TheVariants as outcome
use Rattle.site_run.specs.Seat.{IsMove}
use Rattle.site_run.proofs.GoLemmas.{advances_by, fits_by}
use Rattle.site_run.proofs.site.Site.go.Goals as goal

pub returns-in-Ok-clause-advances : goal.returns-in-Ok-clause-advances
returns-in-Ok-clause-advances g c =
    let old = c.args.self.now in
    let moved = c.in-Ok.moved in
    let number_is = c.number.ensures ∙ ap (λ v. length v.items + 1) c.before_batch.ensures.leaves.rest.trials in
    advances_by c.args.task.now.plan.now c.args.task.now.stops old (g.K.Socket.told c.args.socket.now) (g.K.Socket.told c.before_batch.new.socket) c.args.run
    c.before_batch.new.run moved c.outcome_of.result c.in-Ok.ensures.polled c.in-Ok.ensures.moved.later c.in-Ok.ensures.cause c.in-Ok.ensures.live
    (λ t step apart is. c.outcome_of.ensures.on t step apart (subst (λ (n : ℕ). IsMove n t c.before_batch.new.run moved step) (sym number_is) is))
    (λ zero_is. c.outcome_of.ensures.none zero_is ∙ ap (λ (n : ℕ). outcome.Ends (unloaded n)) number_is)
    c.in-Ok.ensures.tape

pub returns-in-Ok-clause-fits : goal.returns-in-Ok-clause-fits
returns-in-Ok-clause-fits g c =
    fits_by c.args.task.now.mem.now c.args.task.now.plan.now (g.K.Socket.told c.before_batch.new.socket) c.args.self.now c.args.run c.before_batch.new.run
    c.in-Ok.moved c.outcome_of.result c.outcome_of.ensures.of c.in-Ok.ensures.moved.fits c.in-Ok.ensures.moved.later (c.in-Ok.ensures.moved.keep ∙ c.requires.keep)
