use Rattle.std.proofs.Common.{◌∙◌, Some, sym, ap, subst}
use Rattle.die_sim.specs.Socket.{Failing, Passes}
use Rattle.die_sim.proofs.SocketLemmas.{ok_is}
use Rattle.die_sim.proofs.failing_socket.FailingSocketSocket.load.Goals as goal

pub returns-clause-passes : goal.returns-clause-passes
returns-clause-passes c =
    let passed = ok_is c.begin.result (sym c.is_err.ensures.value ∙ c.if-is_err.false) c.begin.ensures.passes in
    let now = c.self-2.view_is in
    subst (λ (o : Failing). Passes o (record { die = Some c.in_ok-made.made; fails = c.self-2.inside.fails; calls = c.self-2.inside.calls; count = c.self-2.inside.count })) c.self.view_is
    (record {
      calls = ap (λ (f : Failing). f.calls) now ∙ passed.calls;
      number = λ q. passed.number (sym (ap (λ (f : Failing). f.calls) now) ∙ q);
      fails = ap (λ (f : Failing). f.fails) now ∙ passed.fails;
      count = ap (λ (f : Failing). f.count) now ∙ passed.count;
    })
