-- A drill's texts are fine, so memory alone keeps one from being run that has four sockets: `drill_wants`, `drill_completes`.
use Rattle.std.proofs.Common.{◌≡◌, ◌⊎◌, ℕ, ◌≤◌, List, length, Option, Some, None, refl, sym, ap, ◌∙◌, subst, arith, inl, inr}
use Rattle.tester_types.specs.Outside.{HasRisen, Files, gained, GainsFront}
use Rattle.die_sim.specs.Socket.{Told}
use Rattle.lot_plan.specs.Bound.{Bound}
use Rattle.bench_net.specs.Circuit.{Circuit}
use Rattle.plan_rows.specs.Rows.{sites_of}
use Rattle.lot_plan.specs.Refusal.{refusal}
use Rattle.tool_inputs.specs.declared.status.Status.{Status}
use Rattle.tool_inputs.specs.declared.status.Status.TheVariants.{WriteFault, OutOfMemory, TooFewSockets as Few}
use Rattle.tool_inputs.specs.declared.refusal.Refusal.{Refusal}
use Rattle.tool_inputs.specs.declared.refusal.Refusal.TheVariants as refused
use Rattle.tool_inputs.specs.Endings.{Answers, IsDone, memory_line}
use Rattle.tool_inputs.specs.Refusals.{net_status, net_line, plan_status, plan_line, saved_status, saved_line, status_of, line_of}
use Rattle.tool_inputs.specs.Inputs.{Inputs, bound_of}
use Rattle.bench_net.specs.declared.fault.NetFault.{NetFault}
use Rattle.bench_net.specs.declared.fault.NetFault.TheVariants as nets
use Rattle.plan_rows.specs.declared.fault.PlanFault.{PlanFault}
use Rattle.plan_rows.specs.declared.fault.PlanFault.TheVariants as plans
use Rattle.page_code.specs.declared.fault.SavedFault.{SavedFault}
use Rattle.page_code.specs.declared.fault.SavedFault.TheVariants as saves
use Rattle.stil_program.proofs.FrontLemmas.{one_front}
use Rattle.stil_program.proofs.FaultLemmas.{one_text_fault}
use Rattle.drill_fine.specs.Texts.{stil_text}
use Rattle.drill_fine.proofs.FineLemmas.{text_fine}
use Rattle.drill_fine.proofs.LawLemmas.{net_accepted, plan_accepted, four_sites, bound_fine}
use Rattle.stil_tool.specs.Lot.{Floor, usable}
use Rattle.stil_tool.specs.Drill.{drill_sites, AreTexts, IsTextRefused, IsDrillRefused, DrillComes, DrillWants, IsFineDrill}
use Rattle.stil_tool.specs.Drill.IsTextRefused.{no_memory as none_left, of_program, of_plan, of_net, unbound}
use Rattle.stil_tool.specs.Drill.IsDrillRefused.{of_text, few_sockets}
use Rattle.stil_tool.specs.Drill.DrillComes.{is_run, is_refused}
use Rattle.stil_tool.specs.Drill.DrillWants.{is_drilled, too_few, no_memory}
use Rattle.stil_tool.specs.Tester.{TesterWants}
use Rattle.stil_tool.specs.Tester.TesterWants.{of_lot, of_drill, of_grade, of_other}

-- ---- want of memory has one line

net_memory : (file : List ℕ) (fault : NetFault) → net_status fault ≡ OutOfMemory → net_line file fault ≡ memory_line
net_memory file nets.NoMemory is = refl
net_memory file (nets.Line n) is = cc
net_memory file nets.OutOfRange is = cc
net_memory file (nets.Arity n) is = cc
net_memory file (nets.Twice n) is = cc
net_memory file (nets.Missing n) is = cc
net_memory file (nets.Loop n) is = cc

plan_memory : (fault : PlanFault) → plan_status fault ≡ OutOfMemory → plan_line fault ≡ memory_line
plan_memory plans.NoMemory is = refl
plan_memory (plans.Shape n) is = cc
plan_memory (plans.UnknownName n) is = cc
plan_memory (plans.Twice n) is = cc
plan_memory (plans.OutOfRange n) is = cc
plan_memory (plans.Unbound n) is = cc
plan_memory (plans.SkewOutside n) is = cc

saved_memory : (fault : SavedFault) → saved_status fault ≡ OutOfMemory → saved_line fault ≡ memory_line
saved_memory saves.NoMemory is = refl
saved_memory saves.BadMagic is = cc
saved_memory saves.BadVersion is = cc
saved_memory (saves.Torn n) is = cc
saved_memory (saves.BadCode n) is = cc

one_line : (r : Refusal) → status_of r ≡ OutOfMemory → line_of r ≡ memory_line
one_line refused.NoMemory is = refl
one_line (refused.ReadFault file) is = cc
one_line (refused.TooLong file) is = cc
one_line (refused.Stil fault) is = cc
one_line (refused.Saved fault) is = saved_memory fault is
one_line (refused.Net file fault) is = net_memory file fault is
one_line (refused.Plan fault) is = plan_memory fault is
one_line (refused.TooFewSockets sites have) is = cc
one_line (refused.NoDie site) is = cc
one_line (refused.TapeTooLong site) is = cc

-- ---- the texts of a drill are fine

no_fault : {X : Type 0} (a : X) (o : Option X) → o ≡ Some a → o ≡ None → ⊥
no_fault a o some none = let never : Some a ≡ None = sym some ∙ none in cc never

-- so want of memory alone keeps them from being read and bound
texts_fine : (n : ℕ) (r : Refusal) → 1 ≤ n → n ≤ 200 → IsTextRefused n r → status_of r ≡ OutOfMemory
texts_fine n r some few (none_left is) = is
texts_fine n r some few (of_program fault is same) =
    absurd (no_fault fault (Some fault) refl (one_text_fault (stil_text n) (Some fault) None is (text_fine n few)))
texts_fine n r some few (of_plan fault is same) = absurd (plan_accepted n fault few is)
texts_fine n r some few (of_net fault is same) = absurd (net_accepted n fault some few is)
texts_fine n r some few (unbound inputs are fault is same) =
    let bound : Bound = bound_of inputs in
    absurd (no_fault fault (refusal bound) is (subst (λ (cs : List Circuit). refusal (record { rows = inputs.rows; program = inputs.code; circuits = cs }) ≡ None)
    (sym are.one) (bound_fine one_front n inputs.code inputs.rows are.circuit some few are.code are.rows are.net)))

-- and it has four sites
sites_are : (n : ℕ) (inputs : Inputs) → n ≤ 200 → AreTexts n inputs → sites_of inputs.rows ≡ drill_sites
sites_are n inputs few are = (four_sites n inputs.rows few are.rows).1

-- what comes of a drill is what is wanted of one
pub drill_wants : {S : Type 0} (tells : S → Told) (n : ℕ) (old new : Floor S) (status : Status) (text : List ℕ) → 1 ≤ n → n ≤ 200
    → DrillComes tells n old new status text → DrillWants tells n old new status text
drill_wants tells n old new status text some few (is_run done inputs are accepted enough drilled) =
    is_drilled done (omega (arith, enough, sites_are n inputs few are)) inputs are accepted drilled
drill_wants tells n old new status text some few (is_refused refusal_is kept) = by refusal_is.refused refusal_is.cause refusal_is.answer refusal_is.line
  where
    by : (r : Refusal) → IsDrillRefused n (length old.sockets) r → status ≡ status_of r → text ≡ line_of r
        → DrillWants tells n old new status text
    by r (of_text is) answer line =
        let none = texts_fine n r some few is in
        no_memory (answer ∙ none) (line ∙ one_line r none)
    by r (few_sockets inputs are accepted less same) answer line =
        let sites = sites_are n inputs few are in
        let is : status ≡ Few = answer ∙ ap status_of same in
        too_few is (omega (arith, less, sites))
        (line ∙ ap line_of same ∙ ap (λ (k : ℕ). line_of (refused.TooFewSockets k (usable (length old.sockets)))) sites)
        (kept (λ memory. let never : Few ≡ OutOfMemory = sym is ∙ memory in cc never))

-- ---- completeness

drill_done : {S : Type 0} (tells : S → Told) (words : List (List ℕ)) (faults faults' n : ℕ) (old new : Floor S) (status : Status) (text : List ℕ)
    → IsFineDrill words faults faults' (length old.sockets) → DrillWants tells n old new status text → IsDone status
drill_done tells words faults faults' n old new status text fine (is_drilled done enough inputs are accepted drilled) = inl done
drill_done tells words faults faults' n old new status text fine (too_few is less line kept) = absurd (omega (arith, less, fine.enough))
drill_done tells words faults faults' n old new status text fine (no_memory is line) = inr is

wanted_done : {S : Type 0} (tells : S → Told) (words : List (List ℕ)) (told : Option Files) (before now faults faults' : ℕ)
    (old new : Floor S) (status : Status) (text : List ℕ) → IsFineDrill words faults faults' (length old.sockets)
    → TesterWants tells words told before now old new status text → IsDone status
wanted_done tells words told before now faults faults' old new status text fine (of_lot program plan are want) =
    let wrong : 2 ≡ 3 = ap (λ (l : List (List ℕ)). length l) (sym fine.are.is ∙ are) in absurd (omega (arith, wrong))
wanted_done tells words told before now faults faults' old new status text fine (of_drill number are want) =
    drill_done tells words faults faults' number old new status text fine want
wanted_done tells words told before now faults faults' old new status text fine (of_grade program plan are want kept) =
    let wrong : 2 ≡ 3 = ap (λ (l : List (List ℕ)). length l) (sym fine.are.is ∙ are) in absurd (omega (arith, wrong))
wanted_done tells words told before now faults faults' old new status text fine (of_other none want) =
    absurd (none (inr (inl (fine.number, fine.are))))

pub drill_completes : {S : Type 0} (tells : S → Told) (words : List (List ℕ)) (told : Option Files) (before now : ℕ) (old new : Floor S)
    (held held' : Option (List ℕ)) (faults faults' : ℕ) (result : Status)
    → Answers (TesterWants tells words told before now old new) held faults result held' faults'
    → IsFineDrill words faults faults' (length old.sockets) → IsDone result
drill_completes tells words told before now old new held held' faults faults' result a fine = by a.ends.ends
  where
    by : ((result ≡ a.status) × (held' ≡ gained held a.text)) ⊎ ((result ≡ WriteFault) × GainsFront held a.text held' × HasRisen faults faults')
        → IsDone result
    by (inl whole) = subst IsDone (sym whole.0) (wanted_done tells words told before now faults faults' old new a.status a.text fine a.wanted)
    by (inr front) = absurd (fine.puts front.2)
