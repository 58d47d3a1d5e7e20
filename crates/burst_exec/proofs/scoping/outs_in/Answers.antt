use Rattle.std.proofs.Common.{ap, ◌∙◌, [], ◌∷◌, ◌++◌, Bool, arith}
use Rattle.burst_exec.proofs.OutLemmas.{outs_more, outs_all}
use Rattle.burst_exec.proofs.scoping.outs_in.Goals as goal

pub loop-signal-init : goal.loop-signal-init
loop-signal-init c = c.new-outs.ensures.items

pub loop-signal-preserved : goal.loop-signal-preserved
loop-signal-preserved c =
    c.in_ok-push.ensures.items
    ∙ ap (λ (b : Bool). c.loop-signal.outs.items ++ (b ∷ [])) c.is_out.ensures
    ∙ outs_more c.args.signals.now.directions c.loop-signal.outs.items c.loop-signal.signal c.direction.result
    c.direction.ensures c.loop-signal.invariant

pub returns : goal.returns
returns c = λ names named.
    outs_all names c.args.signals.now c.loop-signal.outs.items c.loop-signal.signal named c.loop-signal.invariant
    (omega (arith, c.loop-signal-test.false, c.loop-signal.auto.signal-end, c.count-signal-end.ensures.count))
