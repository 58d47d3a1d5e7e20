use Rattle.std.proofs.Common.{inl, inr, arith}
use Rattle.std.proofs.lemmas.Result.{err_from_is_err_and}
use Rattle.stil_tree.specs.Memory.{state_of}
use Rattle.stil_tree.proofs.Forests.{goes_on, stops}
use Rattle.stil_tree.proofs.grammar.forest_of.Goals as goal

pub returns-in_err-token : goal.returns-in_err-token
returns-in_err-token c =
    let p = err_from_is_err_and c.from_residual.result c.from_residual.ensures.1 in
    let given = c.in_err-token.ensures.state in
    rw (p.1, p.2) (elim given [
      | inl none ↦ inl none
      | inr fails ↦ inr (stops c.args.tokens.now c.loop-at.at _ (state_of c.loop-at.builder) _ (omega arith) c.loop-at.invariant.state fails)
    ])

pub loop-at-preserved : goal.loop-at-preserved
loop-at-preserved c = record {
  state = goes_on c.args.tokens.now c.loop-at.at _ (state_of c.loop-at.builder) (state_of c.token.new.self) (omega arith) c.loop-at.invariant.state c.in_ok-token.ensures.state;
  within = c.in_ok-token.ensures.first;
  standing = c.in_ok-token.ensures.stands;
}
