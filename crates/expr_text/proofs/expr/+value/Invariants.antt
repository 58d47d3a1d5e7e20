use Rattle.std.proofs.Common.{◌≡◌, drop}
use Rattle.expr_text.specs.Ratio.{given}
use Rattle.expr_text.specs.Value.{chain_of, extreme_of, all_of, best_of_all, links_of, values_of}
use Rattle.expr_text.proofs.expr.+value.Given as goal

-- the chain that goes on from the total so far has the value of the whole
abbrev pub invariant-chain_value-loop-link : goal.invariant-chain_value-loop-link
invariant-chain_value-loop-link l =
    chain_of l.total (links_of l.vars (drop l.link-index l.rest)) ≡ chain_of l.fn.first (links_of l.vars l.rest)

-- the best so far with those to come is the best of the whole
abbrev pub invariant-extreme_value-loop-operand : goal.invariant-extreme_value-loop-operand
invariant-extreme_value-loop-operand l =
    given (all_of (values_of l.vars (drop l.operand-index l.rest))) (λ others. best_of_all l.bound l.best others)
    ≡ extreme_of l.bound l.fn.first (values_of l.vars l.rest)
