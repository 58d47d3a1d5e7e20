-- What holds of the texts of a drill of a number from 1 to 200.
use Rattle.std.specs.Prelude.{◌≡◌, ℕ, ◌≤◌, List, [], ◌∷◌, None, Some}
use Rattle.bench_net.specs.Circuit.{Circuit}
use Rattle.bench_net.specs.Net.{IsNet}
use Rattle.bench_net.specs.Fault as nets
use Rattle.bench_net.specs.declared.fault.NetFault.{NetFault}
use Rattle.plan_rows.specs.Plan as plans
use Rattle.plan_rows.specs.Rows.{sites_of}
use Rattle.plan_rows.specs.declared.row.Row.{Row}
use Rattle.plan_rows.specs.declared.fault.PlanFault.{PlanFault}
use Rattle.packed_code.specs.Program.{Program}
use Rattle.lot_plan.specs.Refusal.{refusal}
use Rattle.stil_ast.specs.declared.fault.StilFault.{StilFault}
use Rattle.stil_program.specs.Program.{IsTextFault, IsProgramOf}
use Rattle.drill_fine.specs.Texts.{stil_text, net_text, plan_text}
use Rattle.drill_fine.specs.Rows.{drill_rows}

-- the pattern has no fault
abbrev pub PatternIsFine : Type 0
PatternIsFine = (n : ℕ) → n ≤ 200 → IsTextFault (stil_text n) None

-- nothing refuses it
abbrev pub PatternIsAccepted : Type 0
PatternIsAccepted = (n : ℕ) (fault : StilFault) → n ≤ 200 → IsTextFault (stil_text n) (Some fault) → ⊥

-- nothing refuses the netlist
abbrev pub NetIsAccepted : Type 0
NetIsAccepted = (n : ℕ) (fault : NetFault) → 1 ≤ n → n ≤ 200 → nets.IsFault (net_text n) fault → ⊥

-- nothing refuses the plan
abbrev pub PlanIsAccepted : Type 0
PlanIsAccepted = (n : ℕ) (fault : PlanFault) → n ≤ 200 → plans.IsFault (plan_text n) fault → ⊥

-- the rows of the plan are those of four dies, at the sites 0 to 3
abbrev pub PlanHasFourSites : Type 0
PlanHasFourSites =
    (n : ℕ) (rows : List Row) → n ≤ 200 → plans.IsPlan (plan_text n) rows
    → (rows ≡ drill_rows n) × (sites_of rows ≡ 4)

-- and what the three texts say is bound
abbrev pub DrillIsBound : Type 0
DrillIsBound =
    (n : ℕ) (code : Program) (rows : List Row) (circuit : Circuit) → 1 ≤ n → n ≤ 200
    → IsProgramOf (stil_text n) code → plans.IsPlan (plan_text n) rows → IsNet (net_text n) circuit.net
    → refusal (record { rows = rows; program = code; circuits = circuit ∷ [] }) ≡ None
