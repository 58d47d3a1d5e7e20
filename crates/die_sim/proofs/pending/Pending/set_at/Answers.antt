use Rattle.std.proofs.Common.{◌≡◌, ◌<◌, ℕ, true, length, sym, subst}
use Rattle.die_sim.specs.Pending.{PendingGates, place_at, SetsPending}
use Rattle.die_sim.proofs.PendingLemmas.{SetsPending-set}
use Rattle.die_sim.proofs.pending.Pending.set_at.Goals as goal

pub returns-clause-sets : goal.returns-clause-sets
returns-clause-sets c =
    let within = subst (λ (m : PendingGates). c.args.place < length m.bits) (sym c.self.view_is) c.requires in
    subst (λ (m : PendingGates). (n : ℕ) → place_at m n ≡ c.args.place → SetsPending n true m (record { places = c.self.inside.places.items; bits = c.set.new.self })) c.self.view_is
    (λ n is. SetsPending-set c.self.inside.places.items c.self.inside.bits c.set.new.self n c.args.place true c.self.invariant (sym is) within c.set.ensures)
