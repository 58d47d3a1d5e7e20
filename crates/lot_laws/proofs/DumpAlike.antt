-- Files of the same bytes give one tape and one list of vars: `tape_alike`, `vars_alike`.
use Rattle.std.proofs.Common.{◌≡◌, ℕ, ◌<◌, ◌∷◌, List, [], length, Option, Some, refl, sym, ap, ◌∙◌, subst, cond, slice_get}
use Rattle.std.specs.Prelude.{◌||◌, Result}
use Rattle.std.specs.List.{flat_map, range_with_len}
use Rattle.std.specs.Option.{option_map_or}
use Rattle.tester_types.specs.Outside.{Files, file_of}
use Rattle.tester_types.specs.declared.record.Trial.{Trial}
use Rattle.packed_code.specs.declared.parts.CodeSignal.{CodeSignal}
use Rattle.bench_net.specs.Circuit.{Circuit}
use Rattle.die_sim.specs.Die.{is_clock, is_input, bind_at}
use Rattle.die_sim.specs.declared.image.Bind.{Bind}
use Rattle.plan_rows.specs.declared.row.Row.{Row}
use Rattle.plan_rows.specs.Rows.{dies_at}
use Rattle.lot_plan.specs.Needs.{needs_of, clock_of}
use Rattle.lot_plan.specs.Binds.{binds_of, list_of}
use Rattle.lot_plan.specs.Bound.{Bound, circuit_of}
use Rattle.site_meaning.specs.Part.{Part, part_of, dies_in}
use Rattle.site_meaning.specs.Trials.{uncut, trial}
use Rattle.site_meaning.specs.Alike.{ArePartsAlike}
use Rattle.site_meaning.proofs.AlikeLemmas.{binds_alike, trials_alike}
use Rattle.site_meaning.proofs.PartLemmas.{dies_in-part_of, circuit_in-part_of}
use Rattle.site_run.specs.Taped.{calls_of_try}
use Rattle.vcd_text.specs.Dump.{Var, name_of}
use Rattle.vcd_dump.specs.Taken.{tape_of, vars_of}
use Rattle.tool_inputs.specs.Inputs.{Inputs, AreInputs, bound_of}
use Rattle.lot_laws.specs.Alone.{IsOneProgram, AreOneNets}
use Rattle.lot_laws.proofs.CallsAlike.{try_calls_alike}
use Rattle.lot_laws.proofs.SiteLemmas.{parts_alike}
use Rattle.lot_laws.proofs.LotLemmas.{rows_are, says}

-- ---- vars

-- the var of a signal, by how a die is bound and by the signals of a code
abbrev var_by : Option ℕ → List Bind → List CodeSignal → ℕ → List Var
var_by clock binds signals signal =
    cond (is_clock clock signal || is_input (bind_at binds signal))
    ((signal, name_of signal (option_map_or (λ (s : CodeSignal). s.name) (slice_get signals signal) [])) ∷ []) []

-- those of all signals, of the die that a circuit gives
abbrev vars_by : List Row → List CodeSignal → Circuit → List Var
vars_by rows signals c =
    flat_map (var_by (clock_of rows signals) (list_of (binds_of c (needs_of rows signals))) signals) (range_with_len 0 (length signals))

vars_of-by : (plan : Bound) (site : ℕ) → vars_of plan site ≡ vars_by plan.rows plan.program.signals (circuit_of plan site 0)
unfolding vars_of
vars_of-by plan site = refl

-- circuits of one netlist give the same
vars_of_net : (rows : List Row) (signals : List CodeSignal) (c d : Circuit) → c.net ≡ d.net
    → vars_by rows signals c ≡ vars_by rows signals d
vars_of_net rows signals c d net =
    ap (λ (r : Result (List Bind) (List ℕ)). flat_map (var_by (clock_of rows signals) (list_of r) signals) (range_with_len 0 (length signals)))
    (binds_alike c d net [] (needs_of rows signals))

-- ---- files of the same bytes

module _ (files others : Files) (program plan program' plan' : List ℕ) (inputs inputs' : Inputs)
    (are : AreInputs (Some files) program plan inputs) (are' : AreInputs (Some others) program' plan' inputs')
    (one : IsOneProgram files others program program') (planned : file_of files plan ≡ file_of others plan')
    (nets : (site : ℕ) → AreOneNets files others inputs.rows site) (site : ℕ) (some : 0 < length (dies_at site inputs.rows)) where
  -- the parts of the site are alike
  abbrev here : Part
  here = part_of (bound_of inputs) site

  abbrev there : Part
  there = part_of (bound_of inputs') site

  alike : ArePartsAlike here there
  alike =
      parts_alike files others program plan program' plan' inputs inputs' are are' site
      (says files others program plan program' plan' inputs inputs' are are' one planned nets site)

  same_rows : inputs.rows ≡ inputs'.rows
  same_rows = rows_are files others program plan program' plan' inputs inputs' are are' one planned nets

  first_planned : 0 < dies_in here
  first_planned = subst (λ (n : ℕ). 0 < n) (sym (dies_in-part_of (bound_of inputs) site)) some

  -- so they put one tape
  pub tape_alike : tape_of (bound_of inputs) site ≡ tape_of (bound_of inputs') site
  unfolding tape_of
  tape_alike =
      try_calls_alike here there alike 0 1 (trial here 0 1 uncut).cycles first_planned
      ∙ ap (λ (t : Trial). calls_of_try there 0 1 t.cycles) (trials_alike here there alike 0 1 uncut first_planned)

  -- their first dies have one netlist
  nets_are : (circuit_of (bound_of inputs) site 0).net ≡ (circuit_of (bound_of inputs') site 0).net
  nets_are =
      ap (λ (c : Circuit). c.net) (sym (circuit_in-part_of (bound_of inputs) site 0 some))
      ∙ (alike.circuits 0 first_planned).net
      ∙ ap (λ (c : Circuit). c.net) (circuit_in-part_of (bound_of inputs') site 0
      (subst (λ (rows : List Row). 0 < length (dies_at site rows)) same_rows some))

  -- and one list of vars
  pub vars_alike : vars_of (bound_of inputs) site ≡ vars_of (bound_of inputs') site
  vars_alike =
      vars_of-by (bound_of inputs) site
      ∙ vars_of_net inputs.rows inputs.code.signals (circuit_of (bound_of inputs) site 0) (circuit_of (bound_of inputs') site 0) nets_are
      ∙ (λ i. vars_by (same_rows i) (alike.code.signals i) (circuit_of (bound_of inputs') site 0))
      ∙ sym (vars_of-by (bound_of inputs') site)
