use Rattle.std.proofs.Common.{◌≡◌, ◌∙◌, ◌<◌, ◌≤◌, ℕ, true, false, length, get_or, ap, subst}
use Rattle.die_sim.specs.Pending.{PendingGates, place_at, is_pending}
use Rattle.die_sim.proofs.pending.Pending.next.Goals as goal

pub returns-clause-skipped : goal.returns-clause-skipped
unfolding is_pending
returns-clause-skipped c =
    subst (λ (m : PendingGates). (g : ℕ) → c.args.from ≤ place_at m g → place_at m g < c.next.result → is_pending m g ≡ false) c.self.view_is
    (λ g a b. c.next.ensures.skipped (place_at (record { places = c.self.inside.places.items; bits = c.self.inside.bits }) g) a b)

pub returns-clause-found : goal.returns-clause-found
unfolding is_pending
returns-clause-found c =
    subst (λ (m : PendingGates). (g : ℕ) → place_at m g ≡ c.next.result → c.next.result < length m.bits → is_pending m g ≡ true) c.self.view_is
    (λ g e l. ap (λ (k : ℕ). get_or c.self.inside.bits k false) e ∙ c.next.ensures.found l)
