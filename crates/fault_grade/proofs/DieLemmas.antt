-- The first die of a plan: it is planned, and its part says of it what the plan says.
use Rattle.std.proofs.Common.{◌≡◌, ℕ, ◌+◌, ◌-◌, ◌<◌, ℤ, Bool, cond, List, [], ◌∷◌, length, map, filter, Option, Some, None, refl, sym, ap, ◌∙◌, subst, arith}
use Rattle.std.specs.Prelude.{IfSome, ◌==◌, max, fold, slice_get, option_map}
use Rattle.std.specs.List.{range_with_len}
use Rattle.std.specs.Option.{option_map_or}
use Rattle.std.proofs.lemmas.Bool.{eq-eqb}
use Rattle.packed_code.specs.Program.{Program}
use Rattle.packed_code.specs.Conditions.{IsProgram}
use Rattle.bench_net.specs.Circuit.{Circuit, IsWhole}
use Rattle.die_sim.specs.Die.{Image}
use Rattle.die_sim.specs.declared.image.StuckAt.{StuckAt}
use Rattle.plan_rows.specs.declared.row.Row.{Row}
use Rattle.plan_rows.specs.declared.row.DieRow.{DieRow}
use Rattle.plan_rows.specs.Rows.{dies_of, dies_at, sites_of}
use Rattle.lot_plan.specs.Bound.{Bound, image_of}
use Rattle.lot_plan.specs.Readings.{first_of}
use Rattle.lot_plan.specs.Skews.{site_skews}
use Rattle.lot_plan.specs.Refusal.{IsBound}
use Rattle.site_meaning.specs.Part.{circuit_in, part_of}
use Rattle.site_meaning.proofs.PartLemmas.{skews_in-part_of, image_in-part_of, circuit_in-part_of}
use Rattle.cycle_run.specs.Step.{FitCode}
use Rattle.cycle_run.proofs.FitLemmas.{skews_fit}
use Rattle.fault_grade.specs.Grade.{image_with, first, graded, nets_in, first_site}
use Rattle.fault_grade.specs.Run.{fault_at, run_of}
use Rattle.word_run.specs.First.{first_on}
use Rattle.fault_grade.specs.Search.{graded_on, run_on}
use Rattle.fault_grade.proofs.FirstLemmas.{first-is}

-- ---- the first die record

-- where there is a site, there is a die record
no-dies : (dies : List DieRow) → 0 < fold (λ most d. max most (d.site + 1)) 0 dies
    → option_map {U = ℕ × ℕ} (λ (d : DieRow). (d.site, 0)) (slice_get dies 0) ≡ None → ⊥
no-dies [] some is = omega (arith, some)
no-dies (d ∷ dies) some is = cc is

pub has-first : (rows : List Row) → 0 < sites_of rows → first_of rows ≡ None → ⊥
has-first rows some is = no-dies (dies_of rows) some is

-- its die is planned
die-planned : (dies : List DieRow) (site die : ℕ) → option_map {U = ℕ × ℕ} (λ (d : DieRow). (d.site, 0)) (slice_get dies 0) ≡ Some (site, die)
    → 0 < length (filter (λ (d : DieRow). d.site == site) dies)
die-planned [] site die is = absurd (let no : None ≡ Some (site, die) = is in cc no)
die-planned (d ∷ dies) site die is =
    let pair : (d.site, 0) ≡ (site, die) = cc is in
    let same : d.site ≡ site = ap (λ (p : ℕ × ℕ). p.0) pair in
    let later = filter (λ (d : DieRow). d.site == site) dies in
    subst (λ (b : Bool). 0 < length (cond b (d ∷ later) later)) (sym (eq-eqb d.site site same)) (omega arith)

pub first-planned : (rows : List Row) (site die : ℕ) → first_of rows ≡ Some (site, die) → 0 < length (dies_at site rows)
first-planned rows site die is = die-planned (dies_of rows) site die is

-- the site of the first record has a die
site-planned : (dies : List DieRow) → 0 < fold (λ most d. max most (d.site + 1)) 0 dies
    → 0 < length (filter (λ (d : DieRow). d.site == option_map_or (λ p. p.0)
    (option_map {U = ℕ × ℕ} (λ (d : DieRow). (d.site, 0)) (slice_get dies 0)) 0) dies)
site-planned [] some = absurd (omega (arith, some))
site-planned (d ∷ dies) some =
    let later = filter (λ (other : DieRow). other.site == d.site) dies in
    subst (λ (b : Bool). 0 < length (cond b (d ∷ later) later)) (sym (eq-eqb d.site d.site refl)) (omega arith)

pub first-die : (plan : Bound) → 0 < sites_of plan.rows → 0 < length (dies_at (first_site plan) plan.rows)
first-die plan some = site-planned (dies_of plan.rows) some

-- the skews of a site fit a code that is the plan's
pub code-fits : (plan : Bound) (site : ℕ) (code : Program) → IsProgram code → plan.program ≡ code → IsBound plan
    → FitCode code (site_skews plan site)
code-fits plan site code program same bound =
    subst (λ (p : Program). FitCode p (site_skews plan site)) same
    (skews_fit plan site (subst (λ (p : Program). IsProgram p) (sym same) program) bound)

-- ---- what the part of the site says

module _ (plan : Bound) (site : ℕ) (planned : 0 < length (dies_at site plan.rows)) where
  pub first-of_plan : (faults : List StuckAt)
      → first (part_of plan site) 0 faults
      ≡ first_on plan.program (site_skews plan site) (record (image_of plan site 0 1) { faults = faults })
  first-of_plan faults =
      first-is (part_of plan site) 0 faults
      ∙ ap (λ (l : List ℤ). first_on plan.program l (image_with (part_of plan site) 0 faults)) (skews_in-part_of plan site)
      ∙ ap (λ (i : Image). first_on plan.program (site_skews plan site) (record i { faults = faults }))
      (image_in-part_of plan site 0 1 planned)

  pub circuit-of_plan : circuit_in (part_of plan site) 0 ≡ (image_of plan site 0 1).circuit
  circuit-of_plan = circuit_in-part_of plan site 0 planned

  pub nets-of_plan : nets_in (part_of plan site) ≡ length (image_of plan site 0 1).circuit.net.names
  nets-of_plan = ap (λ (c : Circuit). length c.net.names) (circuit_in-part_of plan site 0 planned)

  graded-of_plan : (numbers : List ℕ)
      → map (λ k. graded (part_of plan site) (fault_at k)) numbers
      ≡ map (λ k. graded_on plan.program (site_skews plan site) (image_of plan site 0 1) (fault_at k)) numbers
  graded-of_plan [] = refl
  graded-of_plan (k ∷ numbers) =
      let here = first-of_plan (fault_at k ∷ []) in
      let later = graded-of_plan numbers in
      λ i. record { net = (fault_at k).net; value = (fault_at k).value; first = here i } ∷ later i

  pub run-of_plan : (from to : ℕ)
      → run_of (part_of plan site) from to ≡ run_on plan.program (site_skews plan site) (image_of plan site 0 1) from to
  unfolding run_of run_on
  run-of_plan from to = graded-of_plan (range_with_len from (to - from))

  -- its fault is one of a net of its image
  pub net-of_plan : (whole : IsWhole (image_of plan site 0 1).circuit) (fault : Option StuckAt)
      → IfSome fault (λ f. f.net < nets_in (part_of plan site))
      → IfSome fault (λ f. f.net < length (image_of plan site 0 1).circuit.net.drivers)
  net-of_plan whole None within = tt
  net-of_plan whole (Some fault) within = omega (arith, within, nets-of_plan, whole.drivers)
