-- What the part of a plan that belongs to a site says of a try.
use Rattle.std.proofs.Common.{◌≡◌, ℕ, ℤ, ◌<◌, List, length, ap, sym, subst, ◌∙◌}
use Rattle.packed_code.specs.Program.{Program}
use Rattle.packed_code.specs.Conditions.{IsProgram}
use Rattle.bench_net.specs.Circuit.{IsWhole}
use Rattle.die_sim.specs.Die.{Image, device_of}
use Rattle.plan_rows.specs.declared.row.LotRow.{LotRow}
use Rattle.plan_rows.specs.Rows.{dies_at, lot_of}
use Rattle.lot_plan.specs.Bound.{Bound, image_of}
use Rattle.lot_plan.specs.Refusal.{IsBound}
use Rattle.lot_plan.specs.Skews.{site_skews}
use Rattle.site_meaning.specs.Part.{Part, part_of, lot_in, image_in, stand_for}
use Rattle.site_meaning.proofs.PartLemmas.{lot_in-part_of, skews_in-part_of, image_in-part_of}
use Rattle.site_meaning.proofs.ImageLemmas.{image-long, image-whole}
use Rattle.cycle_run.specs.Cycle.{stand_of}
use Rattle.cycle_run.specs.Step.{FitCode}
use Rattle.cycle_run.proofs.FitLemmas.{skews_fit}
use Rattle.site_run.specs.Seat.{IsPlanned}

-- a try of the site is set up by the plan: its die is whole, and its signals and the skews are those of the program
pub set_up_by : (b : Bound) (site die number : ℕ) (code : Program) (image : Image) (skews : List ℤ) → IsBound b → IsProgram code
    → b.program ≡ code → die < length (dies_at site b.rows) → image ≡ image_of b site die number → skews ≡ site_skews b site
    → IsWhole image.circuit × (length image.binds ≡ length code.signals) × FitCode code skews
set_up_by b site die number code image skews bound program same within image_is skews_are = (
  subst (λ (i : Image). IsWhole i.circuit) (sym image_is) (image-whole b site die number bound within),
  ap (λ (i : Image). length i.binds) image_is ∙ image-long b site die number bound within ∙ ap (λ (p : Program). length p.signals) same,
  subst (λ (l : List ℤ). FitCode code l) (sym skews_are)
      (subst (λ (p : Program). FitCode p (site_skews b site)) same (skews_fit b site (subst (λ (p : Program). IsProgram p) (sym same) program) bound)),
)

-- what the part of the site says of a try
pub is_planned : (b : Bound) (site die number : ℕ) (code : Program) (part : Part) → part ≡ part_of b site → b.program ≡ code
    → die < length (dies_at site b.rows)
    → IsPlanned part die number (stand_of code (site_skews b site) (device_of (image_of b site die number))) (lot_of b.rows).batch (lot_of b.rows).keep
is_planned b site die number code part same program within =
    let own = part_of b site in
    let stand_is : stand_for own die number ≡ stand_of code (site_skews b site) (device_of (image_of b site die number)) =
    ap (λ (l : List ℤ). stand_of b.program l (device_of (image_in own die number))) (skews_in-part_of b site)
    ∙ ap (λ (i : Image). stand_of b.program (site_skews b site) (device_of i)) (image_in-part_of b site die number within)
    ∙ ap (λ (p : Program). stand_of p (site_skews b site) (device_of (image_of b site die number))) program in
    record {
      code = ap (λ (p : Part). p.code) same ∙ program;
      stand_is = ap (λ (p : Part). stand_for p die number) same ∙ stand_is;
      most_is = ap (λ (p : Part). (lot_in p).batch) same ∙ ap (λ (l : LotRow). l.batch) (lot_in-part_of b site);
      keep_is = ap (λ (p : Part). (lot_in p).keep) same ∙ ap (λ (l : LotRow). l.keep) (lot_in-part_of b site);
    }
