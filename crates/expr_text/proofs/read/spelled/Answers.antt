use Rattle.std.proofs.Common.{Bool, inl, inr, ap, ◌∙◌}
use Rattle.std.specs.Prelude.{option_map}
use Rattle.std.proofs.lemmas.Result.{err_from_is_err_and}
use Rattle.expr_text.specs.Tree.{Tree}
use Rattle.expr_text.specs.Memory.{state_of}
use Rattle.expr_text.proofs.ReadLemmas.{ends_at}
use Rattle.expr_text.proofs.read.spelled.Goals as goal

pub returns-in_err-expr : goal.returns-in_err-expr
returns-in_err-expr c =
    let p = err_from_is_err_and c.from_residual-in_err-expr.result c.from_residual-in_err-expr.ensures.1 in
    let ends =
    ends_at c.args.text.now c.loop-at.at
    (state_of c.loop-at.reader) c.loop-at.in_range _ c.loop-at-test.false c.loop-at.invariant.rest in
    let given = c.in_err-expr.ensures in
    rw (p.1, p.2) (elim given [
      | inl n_memory ↦ inl n_memory
      | inr bad ↦ inr (bad.0, ends ∙ ap (option_map {U = Tree × Bool} (λ t. (t, c.loop-at.in_range))) bad.1)
    ])

pub returns : goal.returns
returns c =
    ends_at c.args.text.now c.loop-at.at
    (state_of c.loop-at.reader) c.loop-at.in_range _ c.loop-at-test.false c.loop-at.invariant.rest
    ∙ ap (option_map {U = Tree × Bool} (λ t. (t, c.loop-at.in_range))) c.in_ok-expr.ensures
