-- Why a drill isn't run, and what a run of it is.
use Rattle.std.proofs.Common.{◌≡◌, ℕ, ◌<◌, ◌≤◌, List, [], ◌∷◌, ◌⊎◌, Option, Some, None, codes, decimal, length, refl, sym, ap, ◌∙◌, subst, arith, inl, inr}
use Rattle.std.specs.Option.{IfSome, IfNone}
use Rattle.bench_net.specs.declared.fault.NetFault.{NetFault}
use Rattle.bench_net.specs.declared.fault.NetFault.TheVariants as nets
use Rattle.bench_net.specs.Fault.{IsFault as IsNetFault}
use Rattle.packed_code.specs.Program.{Program}
use Rattle.plan_rows.specs.declared.fault.PlanFault.{PlanFault}
use Rattle.plan_rows.specs.declared.fault.PlanFault.TheVariants as plans
use Rattle.plan_rows.specs.Plan.{IsPlan, IsFault as IsPlanFault}
use Rattle.plan_rows.specs.Rows.{sites_of, files_of}
use Rattle.plan_rows.specs.declared.row.Row.{Row}
use Rattle.lot_plan.specs.Bound.{Bound}
use Rattle.lot_plan.specs.Refusal.{refusal}
use Rattle.die_sim.specs.Socket.{Told}
use Rattle.drill_fine.specs.Texts.{stil_text, net_text, plan_text}
use Rattle.drill_fine.proofs.LawLemmas.{four_sites}
use Rattle.stil_ast.specs.declared.fault.StilFault.{StilFault}
use Rattle.stil_ast.specs.Data.Refusal.{StilRefusal}
use Rattle.answers.specs.declared.short.Short.TheVariants as stil
use Rattle.stil_program.specs.Program.{IsTextFault, IsRefusal}
use Rattle.tool_inputs.specs.declared.status.Status.{Status}
use Rattle.tool_inputs.specs.declared.status.Status.TheVariants.{Done, Usage, ReadFault, WriteFault, RefusedStil, RefusedNet, RefusedPlan, TooFewSockets, OutOfMemory, TooLong, RefusedSaved, TooFlat, NoDie, TapeTooLong}
use Rattle.tool_inputs.specs.declared.refusal.Refusal.{Refusal}
use Rattle.tool_inputs.specs.declared.refusal.Refusal.TheVariants as refused
use Rattle.tool_inputs.specs.Refusals.{status_of, line_of}
use Rattle.tool_inputs.specs.Refused.{IsTextRefusal}
use Rattle.tool_inputs.specs.Inputs.{Inputs, bound_of}
use Rattle.stil_tool.specs.Lot.{usable, Floor}
use Rattle.stil_tool.specs.Drill.{AreDrill, AreTexts, drill_file, IsTextRefused, IsDrillRefused, IsDrillReady, IsDrilled, DrillRunWants, DrillComes}
use Rattle.stil_tool.specs.Drill.IsTextRefused.{no_memory, of_program, of_plan, of_net, unbound}
use Rattle.stil_tool.specs.Drill.IsDrillRefused.{of_text, few_sockets}
use Rattle.stil_tool.specs.Drill.DrillComes.{is_run, is_refused}
use Rattle.tool_inputs.proofs.InputLemmas.{text_refusal}

-- ---- the plan

-- it has one file
pub one_file : (n : ℕ) (rows : List Row) → n ≤ 200 → IsPlan (plan_text n) rows → length (files_of rows) ≡ 1
one_file n rows few is = ap (λ (rs : List Row). length (files_of rs)) (four_sites n rows few is).0

-- ---- the words

abbrev second_word : List (List ℕ) → List ℕ
second_word [] = []
second_word (word ∷ []) = []
second_word (word ∷ number ∷ words) = number

-- a number that was read
pub drill_found : (words : List (List ℕ)) (word : List ℕ) (o : Option ℕ) → words ≡ codes "drill" ∷ word ∷ []
    → IfSome o (λ n. (1 ≤ n) × (n ≤ 200) × (word ≡ decimal n)) → IfSome o (AreDrill words)
drill_found words word None same is = tt
drill_found words word (Some n) same is =
    record { is = same ∙ ap (λ (w : List ℕ). codes "drill" ∷ w ∷ []) is.2; some = is.0; few = is.1 }

-- and one that wasn't
pub drill_none : (words : List (List ℕ)) (word : List ℕ) (o : Option ℕ) → words ≡ codes "drill" ∷ word ∷ []
    → IfNone o ((n : ℕ) → 1 ≤ n → n ≤ 200 → word ≡ decimal n → ⊥) → IfNone o ((number : ℕ) → AreDrill words number → ⊥)
drill_none words word (Some n) same none = tt
drill_none words word None same none = λ number are. none number are.some are.few (ap second_word (sym same ∙ are.is))

-- ---- the texts

-- the text is refused by its first fault
pub text_refused : (number : ℕ) (bytes : List ℕ) (e : StilRefusal) (fault : StilFault) → bytes ≡ stil_text number
    → e ≡ stil.Fault fault → (e ≡ stil.NoMemory) ⊎ IsRefusal bytes e → IsTextRefused number (refused.Stil fault)
text_refused number bytes e fault same is from = by (text_refusal bytes e fault is from)
  where
    by : IsTextRefusal bytes (refused.Stil fault) → IsTextRefused number (refused.Stil fault)
    by (inl none) = no_memory none
    by (inr told) = of_program told.0 (subst (λ (bs : List ℕ). IsTextFault bs (Some told.0)) same told.1) told.2

-- so is the plan
pub plan_refused : (number : ℕ) (bytes : List ℕ) (e : PlanFault) → bytes ≡ plan_text number
    → (e ≡ plans.NoMemory) ⊎ IsPlanFault bytes e → IsTextRefused number (refused.Plan e)
plan_refused number bytes e same (inl none) = no_memory (ap (λ f. status_of (refused.Plan f)) none)
plan_refused number bytes e same (inr is) = of_plan e (subst (λ (bs : List ℕ). IsPlanFault bs e) same is) refl

-- and the netlist
pub net_refused : (number : ℕ) (bytes name : List ℕ) (e : NetFault) → bytes ≡ net_text number → name ≡ drill_file
    → (e ≡ nets.NoMemory) ⊎ IsNetFault bytes e → IsTextRefused number (refused.Net name e)
net_refused number bytes name e same named (inl none) = no_memory (ap (λ f. status_of (refused.Net name f)) none)
net_refused number bytes name e same named (inr is) =
    of_net e (subst (λ (bs : List ℕ). IsNetFault bs e) same is) (ap (λ (n : List ℕ). refused.Net n e) named)

-- and the binding
pub unbound_refused : (number : ℕ) (inputs : Inputs) (e : PlanFault) → AreTexts number inputs
    → (e ≡ plans.NoMemory) ⊎ (refusal (bound_of inputs) ≡ Some e) → IsTextRefused number (refused.Plan e)
unbound_refused number inputs e are (inl none) = no_memory (ap (λ f. status_of (refused.Plan f)) none)
unbound_refused number inputs e are (inr is) = unbound inputs are e is refl

-- ---- the run

-- what is wanted at a refusal
pub refused_wants : {S : Type 0} (tells : S → Told) (number : ℕ) (floor : Floor S) (r : Refusal)
    → IsDrillRefused number (length floor.sockets) r → DrillComes tells number floor floor (status_of r) (line_of r)
refused_wants tells number floor r cause =
    is_refused (record { refused = r; cause = cause; answer = refl; line = refl }) (λ other. refl)

-- a drill that is ready, and has too few sockets
pub few_refused : (number sockets : ℕ) (code : Program) (bound : Bound) (sites have : ℕ) → IsDrillReady number code bound
    → sites ≡ sites_of bound.rows → have ≡ usable sockets → have < sites
    → IsDrillRefused number sockets (refused.TooFewSockets sites have)
few_refused number sockets code bound sites have ready all usable_are few =
    let same : sites ≡ sites_of ready.inputs.rows = all ∙ ap (λ (b : Bound). sites_of b.rows) ready.is in
    few_sockets ready.inputs ready.are ready.accepted (omega (arith, same, usable_are, few))
    (ap (λ (n : ℕ). refused.TooFewSockets n have) same ∙ ap (refused.TooFewSockets (sites_of ready.inputs.rows)) usable_are)

-- what a run wants is wanted of the drill
pub run_wants : {S : Type 0} (tells : S → Told) (number : ℕ) (old new : Floor S) (code : Program) (bound : Bound) (status : Status)
    (text : List ℕ) → IsDrillReady number code bound → sites_of bound.rows ≤ usable (length old.sockets)
    → DrillRunWants tells number bound old new status text → DrillComes tells number old new status text
run_wants tells number old new code bound Done text ready enough want =
    is_run refl ready.inputs ready.are ready.accepted
    (subst (λ (b : Bound). sites_of b.rows ≤ usable (length old.sockets)) ready.is enough)
    (subst (λ (b : Bound). IsDrilled tells number b old new text) ready.is want)
run_wants tells number old new code bound OutOfMemory text ready enough want =
    is_refused (record { refused = refused.NoMemory; cause = of_text (no_memory refl); answer = refl; line = want })
    (λ other. absurd (other refl))
run_wants tells number old new code bound Usage text ready enough want = absurd want
run_wants tells number old new code bound ReadFault text ready enough want = absurd want
run_wants tells number old new code bound WriteFault text ready enough want = absurd want
run_wants tells number old new code bound RefusedStil text ready enough want = absurd want
run_wants tells number old new code bound RefusedNet text ready enough want = absurd want
run_wants tells number old new code bound RefusedPlan text ready enough want = absurd want
run_wants tells number old new code bound TooFewSockets text ready enough want = absurd want
run_wants tells number old new code bound TooLong text ready enough want = absurd want
run_wants tells number old new code bound RefusedSaved text ready enough want = absurd want
run_wants tells number old new code bound TooFlat text ready enough want = absurd want
run_wants tells number old new code bound NoDie text ready enough want = absurd want
run_wants tells number old new code bound TapeTooLong text ready enough want = absurd want
