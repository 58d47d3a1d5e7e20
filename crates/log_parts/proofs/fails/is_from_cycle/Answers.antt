use Rattle.std.proofs.Common.{ℕ, ap, drop, arith, ◌≡◌, ◌∙◌}
use Rattle.log_parts.specs.Tries.{from_cycle}
use Rattle.log_parts.proofs.fails.is_from_cycle.Goals as goal

pub returns : goal.returns
returns c =
    let first : c.loop-at.at ≡ 0 = omega (arith, c.loop-at-test.false) in
    c.loop-at.invariant.1.cycle ∙ ap (λ (at : ℕ). from_cycle (drop at c.args.words.now)) first
