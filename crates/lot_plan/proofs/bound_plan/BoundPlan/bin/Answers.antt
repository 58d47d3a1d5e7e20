use Rattle.std.proofs.Common.{◌≡◌, ℕ, ◌≤◌, List, sym, ap, subst, ◌∙◌}
use Rattle.std.specs.List.{find}
use Rattle.std.specs.Option.{option_map_or}
use Rattle.plan_rows.specs.declared.row.BinRow.{BinRow}
use Rattle.lot_plan.specs.Readings.{bin_of, ends_so, usual_bin}
use Rattle.lot_plan.proofs.BinLemmas.{bin_of-within}
use Rattle.lot_plan.proofs.bound_plan.BoundPlan.bin.Goals as goal

pub returns-clause-within : goal.returns-clause-within
returns-clause-within c =
    let verdict = c.args.verdict.now in
    let is : c.bin_in.result ≡ bin_of c.self.inside.rows verdict =
    c.bin_in.ensures
    ∙ ap (λ (bins : List BinRow). option_map_or (λ b. b.bin) (find (λ b. ends_so verdict b.ending) bins) (usual_bin verdict))
    (c.as_slice.ensures ∙ c.self.invariant.binned) in
    subst (λ (bin : ℕ). (1 ≤ bin) × (bin ≤ 99)) (sym is) (bin_of-within c.self.inside.rows verdict c.self.invariant.bound.kept)
