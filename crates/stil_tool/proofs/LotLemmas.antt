-- Why a lot is refused stays so over a whole call, and what a run wants is wanted of the lot.
use Rattle.std.proofs.Common.{◌≡◌, ℕ, ◌<◌, ◌≤◌, List, length, Option, refl, ap, ◌∙◌, subst, arith}
use Rattle.tester_types.specs.Outside.{Files}
use Rattle.packed_code.specs.Program.{Program}
use Rattle.plan_rows.specs.Rows.{sites_of}
use Rattle.die_sim.specs.Socket.{Told}
use Rattle.lot_plan.specs.Bound.{Bound}
use Rattle.tool_inputs.specs.declared.status.Status.{Status}
use Rattle.tool_inputs.specs.declared.status.Status.TheVariants.{Done, Usage, ReadFault, WriteFault, RefusedStil, RefusedNet, RefusedPlan, TooFewSockets, OutOfMemory, TooLong, RefusedSaved, TooFlat, NoDie, TapeTooLong}
use Rattle.tool_inputs.specs.declared.refusal.Refusal.{Refusal}
use Rattle.tool_inputs.specs.declared.refusal.Refusal.TheVariants as refused
use Rattle.tool_inputs.specs.Refusals.{status_of, line_of}
use Rattle.tool_inputs.specs.Inputs.{IsReady}
use Rattle.stil_tool.specs.Lot.{Floor, IsLot, usable, IsRefused, RunWants, LotWants}
use Rattle.stil_tool.specs.Lot.IsRefused.{of_inputs, few_sockets}
use Rattle.tool_inputs.specs.Inputs.AreRefused.{no_memory}
use Rattle.stil_tool.specs.Lot.LotWants.{is_run, is_refused}

-- what a run wants is wanted of the lot
pub run_wants : {S : Type 0} (tells : S → Told) (told : Option Files) (before now : ℕ) (old new : Floor S) (program plan : List ℕ)
    (code : Program) (bound : Bound) (status : Status) (text : List ℕ) → IsReady told program plan code bound
    → sites_of bound.rows ≤ usable (length old.sockets) → RunWants tells bound old new status text
    → LotWants tells told before now old new program plan status text
run_wants tells told before now old new program plan code bound Done text ready enough want = is_run refl (record {
  inputs = ready.inputs;
  are = ready.are;
  accepted = ready.accepted;
  enough = subst (λ (b : Bound). sites_of b.rows ≤ usable (length old.sockets)) ready.is enough;
  lot = subst (λ (b : Bound). IsLot tells b old new text) ready.is want;
})
run_wants tells told before now old new program plan code bound OutOfMemory text ready enough want =
    is_refused (record { refused = refused.NoMemory; cause = of_inputs (no_memory refl); answer = refl; line = want })
    (λ other. absurd (other refl))
run_wants tells told before now old new program plan code bound Usage text ready enough want = absurd want
run_wants tells told before now old new program plan code bound ReadFault text ready enough want = absurd want
run_wants tells told before now old new program plan code bound WriteFault text ready enough want = absurd want
run_wants tells told before now old new program plan code bound RefusedStil text ready enough want = absurd want
run_wants tells told before now old new program plan code bound RefusedNet text ready enough want = absurd want
run_wants tells told before now old new program plan code bound RefusedPlan text ready enough want = absurd want
run_wants tells told before now old new program plan code bound TooFewSockets text ready enough want = absurd want
run_wants tells told before now old new program plan code bound TooLong text ready enough want = absurd want
run_wants tells told before now old new program plan code bound RefusedSaved text ready enough want = absurd want
run_wants tells told before now old new program plan code bound TooFlat text ready enough want = absurd want
run_wants tells told before now old new program plan code bound NoDie text ready enough want = absurd want
run_wants tells told before now old new program plan code bound TapeTooLong text ready enough want = absurd want

-- what is wanted at a refusal
pub refused_wants : {S : Type 0} (tells : S → Told) (told : Option Files) (before now : ℕ) (floor : Floor S) (program plan : List ℕ)
    (r : Refusal) → IsRefused told before now (length floor.sockets) program plan r →
    LotWants tells told before now floor floor program plan (status_of r) (line_of r)
refused_wants tells told before now floor program plan r cause =
    is_refused (record { refused = r; cause = cause; answer = refl; line = refl }) (λ other. refl)

-- a lot that is ready, and has too few sockets
pub few_sockets_refused : (told : Option Files) (before now sockets : ℕ) (program plan : List ℕ) (code : Program) (bound : Bound)
    (sites have : ℕ) → IsReady told program plan code bound → sites ≡ sites_of bound.rows → have ≡ usable sockets → have < sites
    → IsRefused told before now sockets program plan (refused.TooFewSockets sites have)
few_sockets_refused told before now sockets program plan code bound sites have ready all usable_are few =
    let same : sites ≡ sites_of ready.inputs.rows = all ∙ ap (λ (b : Bound). sites_of b.rows) ready.is in
    few_sockets ready.inputs ready.are ready.accepted (omega (arith, same, usable_are, few))
    (ap (λ (n : ℕ). refused.TooFewSockets n have) same ∙ ap (refused.TooFewSockets (sites_of ready.inputs.rows)) usable_are)
