use Rattle.std.proofs.Common.{◌∙◌, sym, ap, List, ℕ}
use denote.Ref.{Bor}
use Rattle.std.specs.Option.{option_map}
use Rattle.grade_parts.specs.Step.{Known, knows_net}
use Rattle.grade_parts.proofs.TurnLemmas.{kept_known, next_none}
use Rattle.grade_parts.proofs.told.Told.comes_next.Goals as goal

pub returns-then-not-value : goal.returns-then-not-value
returns-then-not-value c =
    next_none c.args.self.now c.args.net.now c.args.value c.has_net.result
    (ap (λ (k : Known). k.waiting) (sym c.self.view_is) ∙ ap (option_map (λ (n : Bor (List ℕ)). n.now)) c.in-None.is)
    c.if-not-value.true
    (c.has_net.ensures
    ∙ sym (kept_known c.self.inside.nets (option_map (λ (n : Bor (List ℕ)). n.now) c.self.inside.waiting) c.args.net.now)
    ∙ ap (λ (k : Known). knows_net k c.args.net.now) c.self.view_is)
