-- The images of the dies of a bound plan: they bind each signal, and their circuits are whole.
use Rattle.std.proofs.Common.{◌≡◌, ℕ, ◌+◌, ◌<◌, List, [], ◌∷◌, ◌++◌, length, Option, Some, None, ◌∙◌, arith, zero-add, length-append}
use Rattle.std.proofs.lemmas.List.{length-map}
use Rattle.bench_net.specs.Circuit.{Circuit, IsWhole}
use Rattle.die_sim.specs.declared.image.Bind.{Bind}
use Rattle.plan_rows.specs.Rows.{dies_at}
use Rattle.lot_plan.specs.Needs.{PinNeed, need_of, needs_of}
use Rattle.lot_plan.specs.Binds.{bound_or, bind_to, is_driven, binds_from, list_of, unbound_in}
use Rattle.lot_plan.specs.Bound.{Bound, signals_of, circuit_of, image_of}
use Rattle.lot_plan.specs.Refusal.{IsBound}
use Rattle.lot_plan.proofs.ReadyLemmas.{circuit-whole, circuit-bound}

-- signals that are all bound are as many as the signals that ask
binds-long : (c : Circuit) (before : List Bind) (needs : List PinNeed) → unbound_in (binds_from c before needs) ≡ None →
    length (list_of (binds_from c before needs)) ≡ length before + length needs
binds-long c before [] is = omega arith
binds-long c before (w ∷ needs) is = by (bind_to c (is_driven before) w.role w.net) (λ b. binds-long c (before ++ b ∷ []) needs) is
  where
    by : (o : Option Bind) → ((b : Bind) → unbound_in (binds_from c (before ++ b ∷ []) needs) ≡ None →
        length (list_of (binds_from c (before ++ b ∷ []) needs)) ≡ length (before ++ b ∷ []) + length needs) →
        unbound_in (bound_or w.name o (λ b. binds_from c (before ++ b ∷ []) needs)) ≡ None →
        length (list_of (bound_or w.name o (λ b. binds_from c (before ++ b ∷ []) needs))) ≡ length before + length (w ∷ needs)
    by None later is = cc
    by (Some b) later is = omega (arith, later b is, length-append before (b ∷ []))

-- the image of a die binds each signal
pub image-long : (b : Bound) (s d n : ℕ) → IsBound b → d < length (dies_at s b.rows)
    → length (image_of b s d n).binds ≡ length b.program.signals
image-long b s d n bound within =
    binds-long (circuit_of b s d) [] (needs_of b.rows (signals_of b)) (circuit-bound b s d bound within)
    ∙ zero-add (length (needs_of b.rows (signals_of b)))
    ∙ length-map (signals_of b) (need_of b.rows)

-- and its circuit is whole
pub image-whole : (b : Bound) (s d n : ℕ) → IsBound b → d < length (dies_at s b.rows) → IsWhole (image_of b s d n).circuit
image-whole b s d n bound within = circuit-whole b s d bound within
