use Rattle.std.proofs.Common.{◌∙◌, sym, inl, inr}
use Rattle.std.proofs.lemmas.Bool.{eqb-true, false≢true}
use Rattle.stil_tree.proofs.SlowBlocks.{at-ends}
use Rattle.stil_tree.proofs.slow.ends_at.Goals as goal
use Rattle.stil_tree.proofs.slow.ends_at.Goals.{then-is_sign, else-is_sign}

pub returns-then-open-eq0-clause-ends : goal.returns-then-open-eq0-clause-ends
returns-then-open-eq0-clause-ends c = λ ends.
    elim c.if-is_sign.branch [
      | then-is_sign w ↦
          at-ends c.args.tokens.now c.args.index _ c.requires.within
          (inl (sym c.is_sign.ensures ∙ w.if-is_sign.true, sym c.open_braces-open.ensures.count ∙ eqb-true _ 0 (sym w.t-10-is ∙ ends)))
      | else-is_sign w ↦ absurd (false≢true (sym w.if-is_sign.false ∙ sym w.t-10-is ∙ ends))
    ]

pub returns-then-is_sign-2-clause-ends : goal.returns-then-is_sign-2-clause-ends
returns-then-is_sign-2-clause-ends c = λ ends.
    at-ends c.args.tokens.now c.args.index _ c.requires.within
    (inr (sym c.is_sign-else-open-eq0.ensures ∙ c.if-is_sign-2.true, sym c.open_braces-open.ensures.count ∙ eqb-true _ 1 ends))
