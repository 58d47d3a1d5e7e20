use Rattle.std.proofs.Common.{ℕ, subst}
use Rattle.stil_program.specs.Places.{IsToldBehind, Tells}
use Rattle.stil_program.proofs.tokens.told_at.Goals as goal

pub returns : goal.returns
returns c =
    subst (λ (n : ℕ). Tells (IsToldBehind c.args.bytes.now c.args.read.now c.args.kind n) c.told_behind.result)
    c.line_of_place.ensures c.told_behind.ensures
