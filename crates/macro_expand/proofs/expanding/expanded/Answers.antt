use Rattle.std.proofs.Common.{refl}
use Rattle.macro_expand.specs.Expanding.{pattern_check}
use Rattle.macro_expand.specs.Walks.{walked}
use Rattle.macro_expand.proofs.ExpandLemmas.{tree_serves, outs-length, refusal_is}
use Rattle.macro_expand.proofs.expanding.expanded.Goals as goal

pub returns-in_ok-flat-in-Ok-clause-answer : goal.returns-in_ok-flat-in-Ok-clause-answer
returns-in_ok-flat-in-Ok-clause-answer c = λ names named.
    let scope = c.args.scope.now in
    let whole = c.in-Ok.ensures names named in record {
      left = walked c.in-Ok.walk;
      checked = whole.0;
      counted = refl;
      tree =
          tree_serves names scope c.args.body.now c.args.walked.now c.in-Ok.walk.out c.in_ok-flat-in-Ok.flat (walked c.in-Ok.walk) _ whole.0 whole.1
          c.in_ok-flat-in-Ok.ensures.same (outs-length names scope named) c.in_ok-flat-in-Ok.ensures.lean;
    }

pub returns-in-Err-clause-answer : goal.returns-in-Err-clause-answer
returns-in-Err-clause-answer c = λ names named.
    let scope = c.args.scope.now in
    let before = c.args.walked.now in
    refusal_is names scope c.args.body.now before before c.refusal_of.result
    (c.refusal_of.ensures (pattern_check names scope c.args.body.now before) (c.in-Err.ensures names named))
