-- The part of a site of a plan, under another number, is alike to the part of that number in a plan that says the same.
use Rattle.std.proofs.Common.{◌≡◌, ℕ, ◌<◌, List, length, refl, sym, ap, ◌∙◌, subst}
use Rattle.std.specs.Prelude.{Some}
use Rattle.std.proofs.lemmas.List.{length-map}
use Rattle.tester_types.specs.Outside.{Files, file_of}
use Rattle.bench_net.specs.Circuit.{Circuit}
use Rattle.plan_rows.specs.declared.row.DieRow.{DieRow}
use Rattle.plan_rows.specs.Rows.{dies_at}
use Rattle.lot_plan.specs.Bound.{die_at, circuit_of}
use Rattle.site_meaning.specs.Part.{Part, part_of, circuit_in, dies_in}
use Rattle.site_meaning.specs.Alike.{AreCircuitsAlike, ArePartsAlike}
use Rattle.site_meaning.proofs.PartLemmas.{circuit_in-part_of, dies_in-part_of}
use Rattle.tool_inputs.specs.Inputs.{Inputs, AreInputs, bound_of}
use Rattle.lot_laws.specs.Moved.{SayTheSameMoved}
use Rattle.lot_laws.proofs.SiteLemmas.{one_circuit, die_net}
use Rattle.lot_laws.proofs.MovedRows.{rows_of}
use Rattle.lot_laws.proofs.MovedLemmas.{there, dies_is}
use Rattle.lot_laws.proofs.OtherSite.{both_dies, files_are, moved_code}

module _ (files others : Files) (program plan program' plan' : List ℕ) (inputs inputs' : Inputs)
    (are : AreInputs (Some files) program plan inputs) (are' : AreInputs (Some others) program' plan' inputs') (site place : ℕ)
    (says : SayTheSameMoved files others program program' inputs inputs' site place) where
  -- the part of the site
  abbrev here : Part
  here = part_of (bound_of inputs) site

  -- the circuits of its dies
  circuits_are : (die : ℕ) → die < dies_in (there here place (rows_of site inputs.rows))
      → AreCircuitsAlike (circuit_in here die) (circuit_in (part_of (bound_of inputs') place) die)
  circuits_are die planned =
      let within : die < length (dies_at site inputs.rows) =
      subst (λ (n : ℕ). die < n) (dies_is here place (rows_of site inputs.rows) ∙ dies_in-part_of (bound_of inputs) site) planned in
      let many : length (dies_at site inputs.rows) ≡ length (dies_at place inputs'.rows) =
      sym (length-map (dies_at site inputs.rows) (λ (d : DieRow). record d { site = place }))
      ∙ sym (ap (λ (l : List DieRow). length l) (both_dies (bound_of inputs) (bound_of inputs') site place says.rows)) in
      let within' : die < length (dies_at place inputs'.rows) = subst (λ (n : ℕ). die < n) many within in
      let bytes : file_of files (die_at inputs.rows site die).file ≡ file_of others (die_at inputs'.rows place die).file =
      says.nets die within ∙ ap (file_of others) (sym (files_are (bound_of inputs) (bound_of inputs') site place says.rows die)) in
      subst (λ (c : Circuit). AreCircuitsAlike c (circuit_in (part_of (bound_of inputs') place) die)) (sym (circuit_in-part_of (bound_of inputs) site die within))
      (subst (λ (c : Circuit). AreCircuitsAlike (circuit_of (bound_of inputs) site die) c) (sym (circuit_in-part_of (bound_of inputs') place die within'))
      (one_circuit files others (die_at inputs.rows site die).file (die_at inputs'.rows place die).file (circuit_of (bound_of inputs) site die)
      (circuit_of (bound_of inputs') place die) bytes (die_net files program plan inputs are site die within)
      (die_net others program' plan' inputs' are' place die within')))

  -- the part under the other number
  pub moved_alike : ArePartsAlike (there here place (rows_of site inputs.rows))
      (part_of (bound_of inputs') place)
  moved_alike = record {
    site = refl;
    rows = says.rows;
    code = moved_code files others program plan program' plan' inputs inputs' are are' site place says;
    circuits = circuits_are;
  }
