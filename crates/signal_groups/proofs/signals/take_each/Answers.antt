use Rattle.std.proofs.Common.{◌≡◌, ℕ, ◌+◌, ◌<◌, List, Result, Ok, length, get_or, drop, sym, ap, ◌∙◌}
use Rattle.answers.specs.Reading.{and_then, stepping}
use Rattle.signal_groups.specs.Begun.{begun_in, decl_said}
use Rattle.signal_groups.proofs.LexedLemmas.{drop-at}
use Rattle.signal_groups.proofs.signals.take_each.Goals as goal

-- one step more
one_more : {S E F : Type 0} (step : S → E → Result S F) (before after : S) (es : List E) (at : ℕ) (e : E) (whole : Result S F)
    → at < length es → e ≡ get_or es at e → step before e ≡ Ok after → stepping step before (drop at es) ≡ whole
    → stepping step after (drop (at + 1) es) ≡ whole
one_more step before after es at e whole lt is ok h =
    sym (ap (stepping step before) (drop-at es at e lt)
    ∙ ap (λ x. and_then (step before x) (λ next. stepping step next (drop (at + 1) es))) (sym is)
    ∙ ap (λ r. and_then r (λ next. stepping step next (drop (at + 1) es))) ok)
    ∙ h

pub loop-decl-preserved : goal.loop-decl-preserved
loop-decl-preserved c =
    one_more decl_said (begun_in c.loop-decl.texts.keys c.loop-decl.kept.items)
    (begun_in c.take_declared.new.texts.keys c.take_declared.new.kept.items) c.args.decls.now c.loop-decl.decl-index
    c.decl-item.result _ c.loop-decl-test.true c.decl-item.is c.in_ok-take_declared.ensures c.loop-decl.invariant
