use Rattle.std.proofs.Common.{◌∙◌, Option, IfSome, sym, subst}
use Rattle.site_run.specs.declared.run.Run.{Run}
use Rattle.site_run.specs.Site.{try_of, IsRunAt}
use Rattle.site_run.proofs.StepsLemmas.{steps_all, steps_running}
use Rattle.site_run.proofs.site.Site.advance.Goals as goal

pub returns-in-Some-clause-steps : goal.returns-in-Some-clause-steps
returns-in-Some-clause-steps g c =
    let old = c.args.self.now in
    let told = g.K.Socket.told c.args.socket.now in
    let runs = sym c.take.ensures.value ∙ c.in-Some.is in
    let at = subst (λ (o : Option Run). IfSome o (IsRunAt c.args.task.now.mem.now c.args.task.now.plan.now told old.site old.die (try_of old))) runs c.requires.works.of.runs in
    steps_all c.go.result _ _
    (λ o a. steps_running c.args.task.now.plan.now c.args.task.now.stops old c.take.new.self told (g.K.Socket.told c.go.new.socket) c.in-Some.run' o
    c.go.new.self.state.taken runs at.later a c.go.ensures.taken) c.go.ensures.advances
