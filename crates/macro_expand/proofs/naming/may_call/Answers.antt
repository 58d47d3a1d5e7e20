use Rattle.std.proofs.Common.{◌∙◌, sym}
use Rattle.std.proofs.lemmas.Bool.{lt-ltb}
use Rattle.macro_expand.specs.Scopes.{scope_in}
use Rattle.macro_expand.specs.Standings.{callee_in, standing_in}
use Rattle.macro_expand.proofs.NamingLemmas.{call_unknown, call_cyclic}
use Rattle.macro_expand.proofs.StandingLemmas.{running-is}
use Rattle.macro_expand.proofs.naming.may_call.Goals as goal

pub returns-then-is_running : goal.returns-then-is_running
returns-then-is_running c = λ names check assigns w.
    let sc = scope_in names c.args.scope.now in
    rw c.trouble-then-is_running.ensures
    (call_cyclic sc check (standing_in sc c.args.s.now) c.args.line (callee_in sc c.args.callee) assigns w c.in-Some.def.now
    (lt-ltb c.args.s.now.calls 64 c.if-s-ge-DEEPEST_CALLS.false) c.if-s.false (sym (c.in-Some.ensures names))
    (running-is sc c.args.callee c.args.s.now.running.now ∙ sym c.is_running.ensures ∙ c.if-is_running.true))

pub returns-else-is_running : goal.returns-else-is_running
returns-else-is_running c = λ names.
    let sc = scope_in names c.args.scope.now in record {
      deep = lt-ltb c.args.s.now.calls 64 c.if-s-ge-DEEPEST_CALLS.false;
      form = c.if-s.false;
      found = sym (c.in-Some.ensures names);
      free = running-is sc c.args.callee c.args.s.now.running.now ∙ sym c.is_running.ensures ∙ c.if-is_running.false;
    }

pub returns-in-None : goal.returns-in-None
returns-in-None c = λ names check assigns w.
    let sc = scope_in names c.args.scope.now in
    rw c.trouble-in-None.ensures
    (call_unknown sc check (standing_in sc c.args.s.now) c.args.line (callee_in sc c.args.callee) assigns w
    (lt-ltb c.args.s.now.calls 64 c.if-s-ge-DEEPEST_CALLS.false) c.if-s.false (sym (c.in-None.ensures names)))
