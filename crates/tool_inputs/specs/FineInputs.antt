-- Files that are fine: they are there and accepted, and no load fails.
use Rattle.std.specs.Prelude.{◌≡◌, ℕ, ◌≤◌, List, length, Option, None}
use Rattle.std.specs.List.{AllByRecursion}
use Rattle.tester_types.specs.Outside.{HasRisen, Files}
use Rattle.bench_net.specs.Circuit.{Net}
use Rattle.bench_net.specs.Net.{IsNet}
use Rattle.packed_code.specs.Program.{Program}
use Rattle.plan_rows.specs.declared.row.Row.{Row}
use Rattle.plan_rows.specs.Rows.{files_of}
use Rattle.plan_rows.specs.Plan as plans
use Rattle.lot_plan.specs.Refusal.{refusal}
use Rattle.tool_inputs.specs.Endings.{limit, IsThere}
use Rattle.tool_inputs.specs.Inputs.{is_saved, IsCodeBy, Inputs, AreInputs, bound_of}

-- the files are told, and this one is there, not too long, and its bytes are as they must be
pub record HasFile (told : Option Files) (name : List ℕ) (fact : List ℕ → Type 0) : Type 0 where
  pub bytes : List ℕ
  pub there : IsThere told name bytes
  pub fits : length bytes ≤ limit
  pub is : fact bytes

-- bytes that are a program, saved or a STIL text
abbrev pub IsProgramBytes : List ℕ → Type 0
IsProgramBytes bytes = (code : Program) × IsCodeBy (is_saved bytes) bytes code

-- bytes that are a netlist
abbrev pub IsNetBytes : List ℕ → Type 0
IsNetBytes bytes = (net : Net) × IsNet bytes net

-- The program, the plan and its netlists are there and accepted, the plan is bound to whatever code and netlists these
-- files say, and no load failed.
pub record AreFine (told : Option Files) (before now : ℕ) (program plan : List ℕ) : Type 0 where
  pub code : HasFile told program IsProgramBytes
  pub rows : List Row
  pub rows_are : HasFile told plan (λ (bytes : List ℕ). plans.IsPlan bytes rows)
  pub nets : AllByRecursion (λ (file : List ℕ). HasFile told file IsNetBytes) (files_of rows)
  pub bound : (inputs : Inputs) → AreInputs told program plan inputs → refusal (bound_of inputs) ≡ None
  pub loads : HasRisen before now → ⊥
