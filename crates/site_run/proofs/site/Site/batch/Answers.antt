use Rattle.std.proofs.Common.{◌∙◌, Some, ap, refl, subst, sym}
use Rattle.packed_code.specs.Conditions.{IsProgram}
use Rattle.site_meaning.specs.Part.{part_of}
use Rattle.site_meaning.specs.Polls.{with_trial}
use Rattle.site_run.specs.Site.{seat_of}
use Rattle.site_run.proofs.StepsLemmas.{polled_goes, polled_ends}
use Rattle.site_run.proofs.site.Site.batch.Goals as goal

pub advance-requires : goal.advance-requires
advance-requires g c = record {
  works = record {
    bound = c.sites-sites.ensures.bound;
    program = subst IsProgram c.code.ensures c.signals-signals.ensures.conditions;
    of = c.requires.site;
    die = c.requires.done;
  };
}

pub returns-in-Ok-Goes-clause-polled : goal.returns-in-Ok-Goes-clause-polled
returns-in-Ok-Goes-clause-polled g c =
    let steps = rw c.in-Ok-Goes.field-0-is at c.in-Ok-Goes.ensures.steps in
    polled_goes c.args.plan.now c.args.stops c.args.self.now c.advance.new.self _ (g.K.Socket.told c.args.socket.now)
    (g.K.Socket.told c.advance.new.socket) c.in-Ok-Goes.run' c.requires.taken c.requires.done steps c.advance.ensures.leaves.rest
    (c.replace-none.ensures.after ∙ ap (λ r. Some r) c.in-Ok-Goes.run-is) refl refl refl refl

pub returns-in-Ok-clause-polled : goal.returns-in-Ok-clause-polled
returns-in-Ok-clause-polled g c =
    let plan = c.args.plan.now in
    let old = c.args.self.now in
    let mid = c.advance.new.self in
    let last = g.K.Socket.told c.unload.new.self in
    let steps = rw c.in-Ok-Ends.field-0-is at c.in-Ok-Ends.ensures.steps in
    let ended = c.in-Ok.ensures.ended (part_of plan old.site) c.args.stops last (ap (part_of plan) (sym c.advance.ensures.leaves.rest.site)) in
    polled_ends plan c.args.stops old mid c.finish.new.self (g.K.Socket.told c.args.socket.now) (g.K.Socket.told c.advance.new.socket) last
    c.in-Ok-Ends.trial c.requires.taken c.requires.done steps c.advance.ensures.leaves.rest c.advance.ensures.running c.unload.ensures.count
    c.advance.ensures.leaves.count c.unload.ensures.tape
    (ended ∙ ap (λ t. with_trial (part_of plan old.site) (seat_of c.args.stops last mid) t) c.in-Ok-Ends.trial-is)
