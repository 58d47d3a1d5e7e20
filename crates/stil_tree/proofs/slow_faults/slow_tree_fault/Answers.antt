use Rattle.std.proofs.Common.{◌≡◌, ◌∙◌, sym, length, subst, arith}
use Rattle.stil_tree.proofs.SlowFaults.{Stands, stands-start, goes_on, is_refused, found_is, none_is}
use Rattle.stil_tree.proofs.slow_faults.slow_tree_fault.Goals as goal

pub loop-at-init : goal.loop-at-init
loop-at-init c = stands-start c.args.tokens.now

pub returns-in-Some-clause-some : goal.returns-in-Some-clause-some
returns-in-Some-clause-some c =
    is_refused c.args.tokens.now c.loop-at.at _ c.in-Some.fault c.loop-at.invariant (omega arith) c.in-Some.ensures

pub loop-at-preserved : goal.loop-at-preserved
loop-at-preserved c = goes_on c.args.tokens.now c.loop-at.at _ c.loop-at.invariant (omega arith) (sym c.in_default.is ∙ c.refusal_at.ensures)

pub returns-clause-some : goal.returns-clause-some
returns-clause-some c =
    let all : c.loop-at.at ≡ length c.args.tokens.now = omega arith in
    found_is c.args.tokens.now c.refusal_at_end.result (subst (Stands c.args.tokens.now) all c.loop-at.invariant) c.refusal_at_end.ensures

pub returns-clause-none : goal.returns-clause-none
returns-clause-none c =
    let all : c.loop-at.at ≡ length c.args.tokens.now = omega arith in
    none_is c.args.tokens.now c.refusal_at_end.result (subst (Stands c.args.tokens.now) all c.loop-at.invariant) c.refusal_at_end.ensures
