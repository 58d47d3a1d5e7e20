use Rattle.std.proofs.Common.{Bool, sym, ap, subst, ◌∙◌}
use Rattle.std.specs.Prelude.{◌↔◌, IsTrue, codes}
use Rattle.std.specs.Str.{bytes_eq}
use Rattle.std.proofs.lemmas.Bool.{false≢true}
use Rattle.log_parts.specs.Step.{EndsNumbered}
use Rattle.log_parts.proofs.SaidLemmas.{counted}
use Rattle.log_parts.proofs.said.is_counted.Goals as goal

pub returns-in-Some : goal.returns-in-Some
returns-in-Some c =
    subst (λ (b : Bool). IsTrue b ↔ EndsNumbered c.args.word.now c.args.line.now (codes "verdict"))
    (sym (c.eq.ensures ∙ ap (bytes_eq c.in-Some.front.now) c.as_slice.ensures))
    (counted c.args.word.now c.args.line.now c.in-Some.front.now c.requires c.in-Some.ensures)

pub returns-in-None : goal.returns-in-None
returns-in-None c = (λ h. absurd (false≢true h), λ ends. absurd (c.in-None.ensures (codes "verdict") ends))
