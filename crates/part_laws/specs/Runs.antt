-- Runs of the parts of a plan, each on a tester of its own, and the one floor that their testers are together.
use Rattle.std.specs.Prelude.{◌≡◌, ℕ, ◌/◌, ◌%◌, ◌<◌, true, Some, None, List, length, map, slice_get, slice_index_or, if◌then◌else◌}
use Rattle.std.specs.List.{range_with_len}
use Rattle.tester_types.specs.Outside.{Files, file_of}
use Rattle.plan_rows.specs.declared.row.Row.{Row}
use Rattle.plan_rows.specs.Rows.{sites_of}
use Rattle.lot_plan.specs.Refusal.{refusal}
use Rattle.die_sim.specs.Socket.{Told}
use Rattle.tool_inputs.specs.Inputs.{Inputs, AreInputs, bound_of}
use Rattle.lot_laws.specs.Alone.{IsOneProgram, AreOneNets}
use Rattle.stil_tool.specs.Lot.{Floor}
use Rattle.stil_tool.specs.Alone.{LotRun, sites_in}
use Rattle.plan_parts.specs.Cut.{has_dies, rank_of, site_at}
use Rattle.plan_parts.specs.PartText.{IsPartText}

-- A run of a part of the lot of these files: its program is the same one, its plan the text of the part, and the
-- netlists of its dies have the same bytes.
pub record IsRunOfPart {S : Type 0} (tells : S → Told) (files : Files) (program plan : List ℕ) (inputs : Inputs)
    (parts part : ℕ) (run : LotRun tells) : Type 0 where
  pub one_program : IsOneProgram files run.files program run.program
  pub bytes : List ℕ
  pub of_plan : file_of files plan ≡ Some bytes
  pub text : List ℕ
  pub of_part : file_of run.files run.plan ≡ Some text
  pub is : IsPartText parts part bytes inputs.rows text
  pub nets : (number : ℕ) → number < sites_in run
      → AreOneNets files run.files inputs.rows (site_at parts part inputs.rows number)

-- these runs are those of all parts of a lot, in order, whose files say this and which nothing refuses
pub record AreRunsOfParts {S : Type 0} (tells : S → Told) (files : Files) (program plan : List ℕ) (inputs : Inputs)
    (runs : List (LotRun tells)) : Type 0 where
  pub are : AreInputs (Some files) program plan inputs
  pub accepted : refusal (bound_of inputs) ≡ None
  pub some : 0 < length runs
  pub each : (part : ℕ) (run : LotRun tells) → slice_get runs part ≡ Some run
      → IsRunOfPart tells files program plan inputs (length runs) part run

-- ---- one floor of many

-- nothing: no sockets, and no stops
abbrev pub no_floor : {S : Type 0} → Floor S
no_floor = record { sockets = List.[]; stops = λ site. 0; asked = true }

-- the floor of the part to which a site with dies went
abbrev pub floor_for : {S : Type 0} → List (Floor S) → List Row → ℕ → Floor S
floor_for floors rows site = slice_index_or floors (rank_of rows site % length floors) no_floor

-- the socket of a site: that of its number in its part, and one that stays idle for a site without dies
abbrev pub socket_for : {S : Type 0} → S → List (Floor S) → List Row → ℕ → S
socket_for idle floors rows site =
    if has_dies rows site
    then slice_index_or (floor_for floors rows site).sockets (rank_of rows site / length floors) idle
    else idle

-- how many stops were said for a site: as many as for its number in its part
abbrev pub stops_for : {S : Type 0} → List (Floor S) → List Row → ℕ → ℕ
stops_for floors rows site =
    if has_dies rows site then (floor_for floors rows site).stops (rank_of rows site / length floors) else 0

-- the floors of all parts as that of one tester with a socket for each site of the plan
abbrev pub joined : {S : Type 0} → S → List (Floor S) → List Row → Floor S
joined idle floors rows = record {
  sockets = map (socket_for idle floors rows) (range_with_len 0 (sites_of rows));
  stops = stops_for floors rows;
  asked = true;
}
