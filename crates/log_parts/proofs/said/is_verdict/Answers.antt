use Rattle.std.proofs.Common.{refl, sym, ap, ◌∙◌}
use Rattle.std.specs.Prelude.{codes}
use Rattle.std.specs.Str.{bytes_eq}
use Rattle.std.proofs.lemmas.Bool.{false≢true}
use Rattle.std.proofs.lemmas.Slice.Eq.{bytes_eq-Decides}
use Rattle.log_parts.proofs.SaidLemmas.{verdict_failed, verdict_lost, stop_decides}
use Rattle.log_parts.proofs.said.is_verdict.Goals as goal

pub returns-then-is_counted : goal.returns-then-is_counted
returns-then-is_counted c =
    (λ _. verdict_failed c.args.line.now (c.is_counted.ensures.0 c.if-is_counted.true), λ _. refl)

pub returns-then-is_counted-2 : goal.returns-then-is_counted-2
returns-then-is_counted-2 c =
    (λ _. verdict_lost c.args.line.now (c.is_counted-2.ensures.0 c.if-is_counted-2.true), λ _. refl)

pub returns : goal.returns
returns c =
    stop_decides c.args.line.now c.is_stopped.result
    (λ pass. false≢true (sym c.if-eq.false ∙ c.eq.ensures ∙ ap (bytes_eq c.args.line.now) c.as_slice.ensures
    ∙ (bytes_eq-Decides c.args.line.now (codes "verdict pass")).1 pass))
    (λ ends. false≢true (sym c.if-is_counted.false ∙ c.is_counted.ensures.1 ends))
    (λ ends. false≢true (sym c.if-is_counted-2.false ∙ c.is_counted-2.ensures.1 ends)) c.is_stopped.ensures
