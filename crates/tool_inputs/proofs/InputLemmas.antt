-- Why a lot is refused stays so over a whole call, and what a run wants is wanted of the lot.
use Rattle.std.proofs.Common.{◌≡◌, ℕ, ◌-◌, ◌^◌, ◌<◌, ◌≤◌, Bool, true, ltb, List, Option, Some, None, Err, refl, sym, ap, ◌∙◌, subst, arith, inl, inr, false, ◌⊎◌}
use Rattle.std.proofs.lemmas.Bool.{cases_Bool, ltb-true, ltb-false}
use Rattle.tester_types.specs.Outside.{HasRisen, Files}
use Rattle.packed_code.specs.Program.{Program}
use Rattle.plan_rows.specs.declared.fault.PlanFault.{PlanFault}
use Rattle.plan_rows.specs.declared.fault.PlanFault.TheVariants as fault
use Rattle.plan_rows.specs.Plan.{IsFault as IsPlanFault}
use Rattle.bench_net.specs.declared.fault.NetFault.{NetFault}
use Rattle.bench_net.specs.declared.fault.NetFault.TheVariants as nets
use Rattle.bench_net.specs.Fault.{IsFault as IsNetFault}
use Rattle.plan_rows.specs.Rows.{files_of, sites_of}
use Rattle.lot_plan.specs.Refusal.{refusal}
use Rattle.page_code.specs.Reading.{load_of}
use Rattle.page_code.specs.Saved.{Saved}
use Rattle.stil_program.specs.Program.{IsTextFault, IsProgramOf, IsRefusal}
use Rattle.stil_ast.specs.declared.fault.StilFault.{StilFault}
use Rattle.stil_ast.specs.Data.Refusal.{StilRefusal}
use Rattle.answers.specs.declared.short.Short.TheVariants as stil
use Rattle.lot_plan.specs.Bound.{Bound}
use Rattle.tool_inputs.specs.declared.status.Status.{Status}
use Rattle.tool_inputs.specs.declared.refusal.Refusal.{Refusal}
use Rattle.tool_inputs.specs.declared.refusal.Refusal.TheVariants as refused
use Rattle.tool_inputs.specs.Endings.{LoadFailed, Ends, IsFile}
use Rattle.tool_inputs.specs.Refusals.{status_of}
use Rattle.tool_inputs.specs.Inputs.{AreRefused, is_saved, IsCodeBy, Inputs, AreInputs, bound_of, IsProgramFile, IsPlanFile, AreNetFiles, IsUnread, IsProgramRefused, IsPlanRefused, IsNetRefused, AreNetsRefused, IsReady, IsGradeRefused}
use Rattle.tool_inputs.specs.Refused.{IsTextRefusal, IsSavedRefusal}
use Rattle.tool_inputs.specs.Inputs.IsProgramRefused.{no_memory as program_memory, of_text, of_saved}
use Rattle.tool_inputs.specs.Inputs.IsPlanRefused.{no_memory as plan_memory, unread as plan_unread, faulty as plan_faulty}
use Rattle.tool_inputs.specs.Inputs.IsNetRefused.{no_memory as net_memory, unread as net_unread, faulty as net_faulty}
use Rattle.tool_inputs.specs.Inputs.AreNetsRefused.{no_memory as nets_memory, of_file}
use Rattle.tool_inputs.specs.Inputs.AreRefused.{no_memory, unbound}
use Rattle.tool_inputs.specs.Inputs.IsGradeRefused.{no_die}

-- a count that rose within a call, and never falls, rose over the whole of it
pub wide-risen : (b b' n' n : ℕ) → b ≤ b' → b' ≤ n' → n' ≤ n → HasRisen b' n' → HasRisen b n
wide-risen b b' n' n low between high risen full = by (cases_Bool (ltb b' (2 ^ 64 - 1)))
  where
    by : (ltb b' (2 ^ 64 - 1) ≡ true) ⊎ (ltb b' (2 ^ 64 - 1) ≡ false) → b < n
    by (inl below) =
        let rose : b' < n' = risen (ltb-true b' (2 ^ 64 - 1) below) in
        omega (arith, rose, low, high)
    by (inr full_now) =
        let most : 2 ^ 64 - 1 ≤ b' = ltb-false b' (2 ^ 64 - 1) full_now in
        omega (arith, most, full, between, high)

wide-failed : (told : Option Files) (name : List ℕ) (b b' n' n : ℕ) → b ≤ b' → b' ≤ n' → n' ≤ n →
    LoadFailed told b' n' name → LoadFailed told b n name
wide-failed told name b b' n' n low between high (inl risen) = inl (wide-risen b b' n' n low between high risen)
wide-failed told name b b' n' n low between high (inr lacks) = inr lacks

wide-unread : (told : Option Files) (name : List ℕ) (b b' n' n : ℕ) (r : Refusal) → b ≤ b' → b' ≤ n' → n' ≤ n →
    IsUnread told b' n' name r → IsUnread told b n name r
wide-unread told name b b' n' n refused.NoMemory low between high is = tt
wide-unread told name b b' n' n (refused.ReadFault file) low between high is = (is.0, wide-failed told name b b' n' n low between high is.1)
wide-unread told name b b' n' n (refused.TooLong file) low between high is = is
wide-unread told name b b' n' n (refused.Stil fault) low between high is = absurd is
wide-unread told name b b' n' n (refused.Saved fault) low between high is = absurd is
wide-unread told name b b' n' n (refused.Net file fault) low between high is = absurd is
wide-unread told name b b' n' n (refused.Plan fault) low between high is = absurd is
wide-unread told name b b' n' n (refused.TooFewSockets sites have) low between high is = absurd is
wide-unread told name b b' n' n (refused.NoDie site) low between high is = absurd is
wide-unread told name b b' n' n (refused.TapeTooLong site) low between high is = absurd is

-- a plan that is refused in a part of a call
pub wide-plan : (told : Option Files) (name : List ℕ) (b b' n : ℕ) (r : Refusal) → b ≤ b' → b' ≤ n →
    IsPlanRefused told b' n name r → IsPlanRefused told b n name r
wide-plan told name b b' n r low between (plan_memory is) = plan_memory is
wide-plan told name b b' n r low between (plan_unread is) = plan_unread (wide-unread told name b b' n n r low between (omega arith) is)
wide-plan told name b b' n r low between (plan_faulty bytes file fault is same) = plan_faulty bytes file fault is same

-- a netlist that is refused in a part of a call
pub wide-net : (told : Option Files) (name : List ℕ) (b b' n : ℕ) (r : Refusal) → b ≤ b' → b' ≤ n →
    IsNetRefused told b' n name r → IsNetRefused told b n name r
wide-net told name b b' n r low between (net_memory is) = net_memory is
wide-net told name b b' n r low between (net_unread is) = net_unread (wide-unread told name b b' n n r low between (omega arith) is)
wide-net told name b b' n r low between (net_faulty bytes file fault is same) = net_faulty bytes file fault is same

-- netlists that are refused in a part of a call
pub wide-nets : (told : Option Files) (files : List (List ℕ)) (b b' n : ℕ) (r : Refusal) → b ≤ b' → b' ≤ n →
    AreNetsRefused told b' n files r → AreNetsRefused told b n files r
wide-nets told files b b' n r low between (nets_memory is) = nets_memory is
wide-nets told files b b' n r low between (of_file front later file split circuits are is) =
    of_file front later file split circuits are (wide-net told file b b' n r low between is)

-- what was read of the files, one after another, where no load changes what the shelf tells
pub inputs_are : (told first second : Option Files) (program plan : List ℕ) (inputs : Inputs) →
    IsProgramFile told program inputs.code → first ≡ told → IsPlanFile first plan inputs.rows →
    second ≡ first → AreNetFiles second (files_of inputs.rows) inputs.circuits → AreInputs told program plan inputs
inputs_are told first second program plan inputs code same plan_is same' nets = record {
  code = code;
  rows = subst (λ (t : Option Files). IsPlanFile t plan inputs.rows) same plan_is;
  nets = subst (λ (t : Option Files). AreNetFiles t (files_of inputs.rows) inputs.circuits) (same' ∙ same) nets;
}

-- what is refused where the binding is
pub unbound_refused : (told : Option Files) (before now : ℕ) (program plan : List ℕ) (inputs : Inputs) (e : PlanFault) →
    AreInputs told program plan inputs → (e ≡ fault.NoMemory) ⊎ (refusal (bound_of inputs) ≡ Some e) →
    AreRefused told before now program plan (refused.Plan e)
unbound_refused told before now program plan inputs e are (inl none) = no_memory (ap (λ f. status_of (refused.Plan f)) none)
unbound_refused told before now program plan inputs e are (inr is) = unbound inputs are e is refl

-- a netlist that its reader refuses
pub net_refused : (told : Option Files) (before now : ℕ) (name bytes seen text : List ℕ) (e : NetFault) → IsFile told name bytes →
    seen ≡ bytes → text ≡ name → (e ≡ nets.NoMemory) ⊎ IsNetFault seen e → IsNetRefused told before now name (refused.Net text e)
net_refused told before now name bytes seen text e file same named (inl none) =
    net_memory (ap (λ f. status_of (refused.Net text f)) none)
net_refused told before now name bytes seen text e file same named (inr is) =
    net_faulty bytes file e (subst (λ bs. IsNetFault bs e) same is) (ap (λ t. refused.Net t e) named)

-- a plan that its reader refuses
pub plan_refused : (told : Option Files) (before now : ℕ) (name bytes seen : List ℕ) (e : PlanFault) → IsFile told name bytes →
    seen ≡ bytes → (e ≡ fault.NoMemory) ⊎ IsPlanFault seen e → IsPlanRefused told before now name (refused.Plan e)
plan_refused told before now name bytes seen e file same (inl none) = plan_memory (ap (λ f. status_of (refused.Plan f)) none)
plan_refused told before now name bytes seen e file same (inr is) =
    plan_faulty bytes file e (subst (λ bs. IsPlanFault bs e) same is) refl

-- the fault of a refusal, where it has one
abbrev fault_or : StilFault → StilRefusal → StilFault
fault_or other stil.NoMemory = other
fault_or other (stil.Fault f) = f

-- a text's first fault
pub text_refusal : (bytes : List ℕ) (e : StilRefusal) (fault : StilFault) → e ≡ stil.Fault fault → (e ≡ stil.NoMemory) ⊎ IsRefusal bytes e
    → IsTextRefusal bytes (refused.Stil fault)
text_refusal bytes e fault is (inl none) = let wrong = sym is ∙ none in cc
text_refusal bytes e fault is (inr told) =
    let same : stil.Fault fault ≡ stil.Fault told.fault = sym is ∙ told.is in
    inr (told.fault, told.first, ap (λ (f : StilRefusal). refused.Stil (fault_or fault f)) same)

-- a program that is read by its first bytes
pub program_read : (told : Option Files) (name bytes seen : List ℕ) (code : Program) → IsFile told name bytes → seen ≡ bytes →
    IsCodeBy (is_saved seen) seen code → IsProgramFile told name code
program_read told name bytes seen code file same is = record {
  bytes = bytes;
  file = file;
  reads = subst (λ (bs : List ℕ). IsCodeBy (is_saved bs) bs code) same is;
}

-- a saved program, and a text
pub by_saved : (b : Bool) (bytes : List ℕ) (code : Program) → true ≡ b → Saved code bytes → IsCodeBy b bytes code
by_saved true bytes code so is = is
by_saved false bytes code so is = cc

pub by_text : (b : Bool) (bytes : List ℕ) (code : Program) → false ≡ b → IsProgramOf bytes code → IsCodeBy b bytes code
by_text true bytes code so is = cc
by_text false bytes code so is = is

-- a text that is refused
pub text_refused : (told : Option Files) (before now : ℕ) (name bytes seen : List ℕ) (r : Refusal) → IsFile told name bytes → seen ≡ bytes →
    false ≡ is_saved seen → IsTextRefusal seen r → IsProgramRefused told before now name r
text_refused told before now name bytes seen r file same so (inl none) = program_memory none
text_refused told before now name bytes seen r file same so (inr is) =
    of_text bytes file (sym (subst (λ (bs : List ℕ). false ≡ is_saved bs) same so)) is.0
    (subst (λ (bs : List ℕ). IsTextFault bs (Some is.0)) same is.1) is.2

-- bytes that are no saved program
pub saved_refused : (told : Option Files) (before now : ℕ) (name bytes seen : List ℕ) (r : Refusal) → IsFile told name bytes → seen ≡ bytes →
    true ≡ is_saved seen → IsSavedRefusal seen r → IsProgramRefused told before now name r
saved_refused told before now name bytes seen r file same so (inl none) = program_memory none
saved_refused told before now name bytes seen r file same so (inr is) =
    of_saved bytes file (sym (subst (λ (bs : List ℕ). true ≡ is_saved bs) same so)) is.0
    (subst (λ (bs : List ℕ). load_of bs ≡ Err is.0) same is.1) is.2

-- a run that ends with a status and a text ends with the same ones under other names
pub same_ends : (held held' : Option (List ℕ)) (faults faults' : ℕ) (result status status' : Status) (text text' : List ℕ) →
    status ≡ status' → text ≡ text' → Ends held faults status text result held' faults' →
    Ends held faults status' text' result held' faults'
same_ends held held' faults faults' result status status' text text' answer line ends =
    subst (λ (s : Status). Ends held faults s text' result held' faults') answer
    (subst (λ (t : List ℕ). Ends held faults status t result held' faults') line ends)

-- a plan that is ready, and has no die
pub no_die_refused : (told : Option Files) (before now : ℕ) (program plan : List ℕ) (code : Program) (bound : Bound)
    → IsReady told program plan code bound → sites_of bound.rows ≡ 0
    → IsGradeRefused told before now program plan (refused.NoDie None)
no_die_refused told before now program plan code bound ready none =
    no_die ready.inputs ready.are ready.accepted (sym (ap (λ (b : Bound). sites_of b.rows) ready.is) ∙ none) refl
