use Rattle.std.proofs.Common.{ℕ, ◌<◌, List, length, get_or, arith, sym, subst}
use Rattle.std.proofs.lemmas.List.Elements.{All-get_or, All-from_get_or}
use Rattle.die_sim.specs.Pending.{HasPlace, ActivatesEach}
use Rattle.die_sim.proofs.PendingLemmas.{ActivatesEach-all, AreSeats-same}
use Rattle.die_sim.proofs.settle.activate_all.Goals as goal

pub activate_each-requires : goal.activate_each-requires
activate_each-requires c =
    let seats = c.requires.seats in
    let all = All-from_get_or (λ g. HasPlace c.args.pending.now g) c.args.net.now.order 0 (λ k l. let here = seats.here k l in let room = seats.room in omega (arith, here, room, l)) in
    subst (λ (xs : List ℕ). (k : ℕ) (d : ℕ) → k < length xs → HasPlace c.args.pending.now (get_or xs k d)) (sym c.order.ensures.order)
    (λ k d l. All-get_or (λ g. HasPlace c.args.pending.now g) _ k d l all)

pub returns : goal.returns
returns c =
    let each = subst (λ (xs : List ℕ). ActivatesEach xs c.args.pending.now c.activate_each.new.pending) c.order.ensures.order c.activate_each.ensures in
    record {
      seats = AreSeats-same c.args.net.now.order c.args.pending.now c.activate_each.new.pending each.seats c.requires.seats;
      pending = ActivatesEach-all c.args.net.now.net.drivers c.args.net.now.order c.requires.whole.order c.args.pending.now c.activate_each.new.pending c.requires.clear each;
    }
