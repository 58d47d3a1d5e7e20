use Rattle.std.proofs.Common.{◌≡◌, ℕ, false, List, length, get_or, set, Some, None, sym, ap, ◌∙◌, subst, arith}
use Rattle.flat_parts.specs.Order.{is_in}
use Rattle.flat_stil.specs.Working.{IsPlace}
use Rattle.flat_stil.proofs.OrderLemmas.{places_more}
use Rattle.flat_stil.proofs.numbers.Numbers.add.Goals as goal

pub invariant_of-self-2 : goal.invariant_of-self-2
invariant_of-self-2 c =
    let order = c.self.inside.order.items in
    let places = c.reach.new.places.items in
    let number = c.args.number in
    let new : is_in order number ≡ false = ap (λ (l : List ℕ). is_in l number) c.self.view_is ∙ sym c.has.ensures ∙ c.if-has.false in
    let last : c.len-last.result ≡ length order = omega (arith, c.len-last.ensures) in
    λ n. subst (λ (l : List ℕ). IsPlace l n (get_or (set places number (Some c.len-last.result)) n None)) (sym c.in_ok-push.ensures.items)
    (places_more order places number c.len-last.result c.in_ok-reach.ensures.room new last
    (λ m. subst (IsPlace order m) (sym (c.in_ok-reach.ensures.kept m)) (c.self.invariant m)) n)
