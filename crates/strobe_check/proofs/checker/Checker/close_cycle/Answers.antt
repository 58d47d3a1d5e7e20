use Rattle.std.proofs.Common.{◌≡◌, length, replicate, None, refl, sym, ap, subst, ◌∙◌, arith}
use Rattle.strobe_check.specs.History.{HasSeen}
use Rattle.strobe_check.proofs.HistoryLemmas.{HasSeen-closed}
use Rattle.strobe_check.proofs.checker.Checker.close_cycle.Goals as goal

pub returns-clause-seen : goal.returns-clause-seen
returns-clause-seen c = λ history seen.
    let inside = c.self.inside in
    let long : length inside.windows ≡ length inside.bound.items = omega (arith, c.self.invariant.0, inside.bound.ok.0) in
    let windows : c.close.new.self ≡ replicate (length inside.bound.items) None =
    c.close.ensures ∙ ap (λ n. replicate n None) long in
    HasSeen-closed history _ _ (subst (HasSeen history) (sym c.self.view_is) seen) refl windows refl
