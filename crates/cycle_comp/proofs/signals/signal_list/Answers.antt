use Rattle.std.proofs.Common.{◌≡◌, ◌∙◌, ◌++◌, ◌∷◌, [], map, sym, ap, List, ℕ, Some}
use Rattle.std.specs.Prelude.{slice_get}
use Rattle.signal_groups.specs.Table.{Table}
use Rattle.packed_code.specs.declared.parts.CodeSignal.{CodeSignal}
use Rattle.cycle_comp.proofs.StepLemmas.{signal-next}
use Rattle.cycle_comp.proofs.signals.signal_list.Goals as goal

pub loop-signal-preserved : goal.loop-signal-preserved
loop-signal-preserved c = λ names is.
    let i : ℕ = c.loop-signal.signal in
    let text : slice_get (map (λ s. s.text) names.signals) i ≡ Some c.in_ok-from_slice.field-0 =
    ap (λ (t : Table). slice_get t.texts i) (sym is) ∙ c.name.ensures ∙ ap (λ (t : List ℕ). Some t) (sym c.in_ok-from_slice.ensures) in
    let dir : slice_get (map (λ s. s.direction) names.signals) i ≡ Some c.direction.result =
    ap (λ (t : Table). slice_get t.directions i) (sym is) ∙ c.direction.ensures in
    c.in_ok-push.ensures.items
    ∙ (ap (λ (l : List CodeSignal). l ++ record { name = c.in_ok-from_slice.field-0; direction = c.direction.result } ∷ [])
    (c.loop-signal.invariant names is)
    ∙ sym (signal-next names.signals i c.in_ok-from_slice.field-0 c.direction.result text dir))
