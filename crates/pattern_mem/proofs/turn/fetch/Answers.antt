use Rattle.std.proofs.Common.{◌≡◌, ◌∷◌, ◌∙◌, ℕ, List, get_or, ap, sym}
use Rattle.atomic_table.specs.Table.{Me, rest}
use Rattle.pattern_mem.specs.Pool.{Pool, basis_of}
use Rattle.pattern_mem.specs.declared.view.View.{View}
use Rattle.pattern_mem.proofs.turn.fetch.Goals as goal

pub returns-clause-holds : goal.returns-clause-holds
returns-clause-holds c =
    let holds = c.requires.holds in
    let left : Pool = c.fetch.new.self in
    let lent : Pool = c.slot_mut-pool.result.now in
    let slots = ap (λ (m : Me Pool View). m.1) holds.1 in
    let same : lent ≡ holds.0 = ap (λ (l : List (ℕ × Pool)). (get_or l 0 (0, holds.0)).1) (sym c.slot_mut-pool.ensures.value ∙ slots) in (
      left,
      (λ i. (ap (λ (m : Me Pool View). m.0) holds.1 i, (0, left) ∷ ap (λ (m : Me Pool View). rest m.1) holds.1 i)),
      c.fetch.ensures.basis ∙ ap basis_of same ∙ holds.2,
    )
