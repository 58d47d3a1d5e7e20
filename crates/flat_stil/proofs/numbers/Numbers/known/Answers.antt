use Rattle.std.proofs.Common.{◌≡◌, ℕ, false, List, subst, arith}
use Rattle.flat_parts.specs.Order.{is_in}
use Rattle.flat_stil.proofs.OrderLemmas.{none_beyond}
use Rattle.flat_stil.proofs.numbers.Numbers.known.Goals as goal

pub returns-else-number-len : goal.returns-else-number-len
returns-else-number-len c =
    subst (λ (l : List ℕ). is_in l c.args.number ≡ false) c.self.view_is
    (none_beyond c.self.inside.order.items c.self.inside.places.items c.args.number (omega (arith, c.len.ensures, c.if-number-len.false))
    c.self.invariant)
