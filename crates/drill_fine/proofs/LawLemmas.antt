-- What the texts of a drill say, and that nothing refuses it.
use Rattle.std.proofs.Common.{◌≡◌, ℕ, ◌≤◌, List, [], ◌∷◌, None, Result, Ok, sym, ap, subst, ◌∙◌, arith}
use Rattle.bench_net.proofs.ReadLemmas.{one_net, no_fault_where_net}
use Rattle.plan_rows.specs.Judging.{plan_of}
use Rattle.plan_rows.specs.Plan.{IsPlan}
use Rattle.plan_rows.specs.Rows.{sites_of}
use Rattle.plan_rows.specs.declared.row.Row.{Row}
use Rattle.plan_rows.specs.declared.fault.PlanFault.{PlanFault}
use Rattle.plan_rows.proofs.PlanLemmas.{one_list, no_fault_where_read}
use Rattle.packed_code.specs.Program.{Program}
use Rattle.lot_plan.specs.Refusal.{refusal}
use Rattle.stil_ast.specs.Meaning.Signals.{names_of}
use Rattle.stil_ast.specs.Faults.FrontFaults.{Front, read_as}
use Rattle.stil_ast.specs.declared.blocks.Blocks.{Blocks}
use Rattle.cycle_comp.specs.Compiled.{signal_of}
use Rattle.stil_program.specs.Front.{IsFront}
use Rattle.stil_program.specs.Program.{IsProgramOf}
use Rattle.drill_fine.specs.Texts.{stil_text, net_text, plan_text}
use Rattle.drill_fine.specs.Bindings.{code_signals}
use Rattle.drill_fine.specs.Rows.{drill_rows}
use Rattle.drill_fine.specs.Laws.{NetIsAccepted, PlanIsAccepted, PlanHasFourSites, DrillIsBound}
use Rattle.drill_fine.proofs.BindLemmas.{drill_is_bound}
use Rattle.drill_fine.proofs.FrontLemmas.{blocks_for, drill_is_read}
use Rattle.drill_fine.proofs.NetLemmas.{drill_net, drill_is_net}
use Rattle.drill_fine.proofs.PlanLemmas.{drill_is_plan, drill_sites}
use Rattle.drill_fine.proofs.SaidLemmas.{drill_tokens}

-- the netlist is accepted
pub net_accepted : NetIsAccepted
net_accepted n fault some few h = no_fault_where_net (net_text n) (drill_net n) fault (drill_is_net n some (omega (arith, few))) h

-- and so is the plan
pub plan_accepted : PlanIsAccepted
plan_accepted n fault few h = no_fault_where_read (plan_text n) (drill_rows n) fault (drill_is_plan n (omega (arith, few))) h

-- whose rows are these
pub rows_are : (n : ℕ) (rows : List Row) → n ≤ 200 → IsPlan (plan_text n) rows → rows ≡ drill_rows n
rows_are n rows few p =
    let q = drill_is_plan n (omega (arith, few)) in
    let same : ◌≡◌ {A = Result (List Row) PlanFault} (Ok rows) (Ok (drill_rows n)) =
    sym p.read ∙ ap plan_of (one_list (plan_text n) p.records q.records p.are q.are) ∙ q.read in
    cc

pub four_sites : PlanHasFourSites
four_sites n rows few p =
    let same = rows_are n rows few p in
    (same, ap sites_of same ∙ drill_sites n)

-- what a text is read as is one thing
abbrev pub OneFront : Type 0
OneFront = (bytes : List ℕ) (front other : Front) → IsFront bytes front → IsFront bytes other → front ≡ other

-- the signals of the code
pub signals_are : OneFront → (n : ℕ) (code : Program) → IsProgramOf (stil_text n) code → code.signals ≡ code_signals
signals_are one n code p =
    let same : ◌≡◌ {A = Front} (read_as p.blocks) (read_as (blocks_for (drill_tokens n) n)) =
    one (stil_text n) (read_as p.blocks) (read_as (blocks_for (drill_tokens n) n)) p.text.read (drill_is_read n) in
    let blocks : p.blocks ≡ blocks_for (drill_tokens n) n = cc in
    p.compiled.code_is.signals ∙ ap (λ (b : Blocks). Rattle.std.specs.Prelude.map signal_of (names_of b).signals) blocks

-- what the texts say is bound
pub bound_fine : OneFront → DrillIsBound
bound_fine one n code rows circuit some few p q r =
    subst (λ (rs : List Row). refusal (record { rows = rs; program = code; circuits = circuit ∷ [] }) ≡ None)
    (sym (rows_are n rows few q))
    (drill_is_bound n some (omega (arith, few)) code circuit (signals_are one n code p)
    (one_net (net_text n) circuit.net (drill_net n) r (drill_is_net n some (omega (arith, few)))))
