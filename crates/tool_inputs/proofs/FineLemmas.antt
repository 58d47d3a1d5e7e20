-- Files that are there and accepted aren't refused, but for want of memory: `inputs_fine`.
use Rattle.std.proofs.Common.{◌≡◌, ℕ, Bool, true, false, List, [], ◌∷◌, ◌++◌, Option, Some, None, Err, refl, sym, ap, ◌∙◌, subst, inr}
use Rattle.std.specs.List.{AllByRecursion}
use Rattle.stil_program.proofs.AnswerLemmas.{no_fault}
use Rattle.tester_types.specs.Outside.{HasRisen, Files}
use Rattle.bench_net.proofs.ReadLemmas.{no_fault_where_net}
use Rattle.packed_code.specs.Program.{Program}
use Rattle.page_code.specs.Reading.{load_of}
use Rattle.page_code.specs.declared.fault.SavedFault.{SavedFault}
use Rattle.page_code.specs.declared.fault.SavedFault.TheVariants as saved
use Rattle.page_code.proofs.LoadLemmas.{is_only}
use Rattle.plan_rows.specs.declared.row.Row.{Row}
use Rattle.plan_rows.specs.Plan as plans
use Rattle.plan_rows.proofs.PlanLemmas.{one_plan, no_fault_where_read}
use Rattle.stil_ast.specs.declared.fault.StilFault.{StilFault}
use Rattle.stil_program.specs.Program.{IsTextFault}
use Rattle.stil_program.proofs.FaultLemmas.{one_text_fault}
use Rattle.tool_inputs.specs.declared.status.Status.TheVariants.{OutOfMemory}
use Rattle.tool_inputs.specs.declared.refusal.Refusal.{Refusal}
use Rattle.tool_inputs.specs.declared.refusal.Refusal.TheVariants as refused
use Rattle.tool_inputs.specs.Endings.{IsFile}
use Rattle.tool_inputs.specs.Refusals.{status_of, saved_status}
use Rattle.tool_inputs.specs.Inputs.{is_saved, IsCodeBy, IsPlanFile, IsUnread, IsProgramRefused, IsPlanRefused, IsNetRefused, AreNetsRefused}
use Rattle.tool_inputs.specs.Inputs.IsProgramRefused.{no_memory as program_memory, unread as program_unread, of_text, of_saved}
use Rattle.tool_inputs.specs.Inputs.IsPlanRefused.{no_memory as plan_memory, unread as plan_unread, faulty as plan_faulty}
use Rattle.tool_inputs.specs.Inputs.IsNetRefused.{no_memory as net_memory, unread as net_unread, faulty as net_faulty}
use Rattle.tool_inputs.specs.Inputs.AreNetsRefused.{no_memory as nets_memory, of_file}
use Rattle.plan_rows.specs.Rows.{files_of}
use Rattle.tool_inputs.specs.Inputs.{AreRefused}
use Rattle.tool_inputs.specs.Inputs.AreRefused.{no_memory, of_program, of_plan, of_nets, unbound}
use Rattle.tool_inputs.specs.FineInputs.{AreFine, HasFile, IsProgramBytes, IsNetBytes}
use Rattle.tool_inputs.proofs.FileLemmas.{same_bytes, not_lacking, not_too_long}

-- a file that is there can be loaded but for want of memory
loaded : (told : Option Files) (before now : ℕ) (name : List ℕ) (fact : List ℕ → Type 0) (r : Refusal) → HasFile told name fact
    → (HasRisen before now → ⊥) → IsUnread told before now name r → status_of r ≡ OutOfMemory
loaded told before now name fact refused.NoMemory there steady is = refl
loaded told before now name fact (refused.ReadFault file) there steady is =
    absurd (not_lacking told before now name there.bytes there.there steady is.1)
loaded told before now name fact (refused.TooLong file) there steady is =
    absurd (not_too_long told name there.bytes there.there there.fits is.1)
loaded told before now name fact (refused.Stil fault) there steady is = absurd is
loaded told before now name fact (refused.Saved fault) there steady is = absurd is
loaded told before now name fact (refused.Net file fault) there steady is = absurd is
loaded told before now name fact (refused.Plan fault) there steady is = absurd is
loaded told before now name fact (refused.TooFewSockets sites have) there steady is = absurd is
loaded told before now name fact (refused.NoDie site) there steady is = absurd is
loaded told before now name fact (refused.TapeTooLong site) there steady is = absurd is

-- what is so of its bytes is so of those that were read
of_read : (told : Option Files) (name bytes : List ℕ) (fact : List ℕ → Type 0) → HasFile told name fact → IsFile told name bytes → fact bytes
of_read told name bytes fact there file = subst fact (sym (same_bytes told name bytes there.bytes file.are there.there)) there.is

-- a program isn't refused by its text
fine_text : (b : Bool) (bytes : List ℕ) (code : Program) (fault : StilFault) → b ≡ false → IsCodeBy b bytes code
    → IsTextFault bytes (Some fault) → ⊥
fine_text true bytes code fault text is first = cc
fine_text false bytes code fault text is first =
    let same = one_text_fault bytes (Some fault) None first (no_fault bytes is.blocks is.text) in cc

-- nor as a saved one
fine_saved : (b : Bool) (bytes : List ℕ) (code : Program) (fault : SavedFault) → b ≡ true → IsCodeBy b bytes code
    → load_of bytes ≡ Err fault → fault ≡ saved.NoMemory
fine_saved true bytes code fault saves is first = is_only bytes (Err fault) code is (inr first)
fine_saved false bytes code fault saves is first = cc

program_fine : (told : Option Files) (before now : ℕ) (name : List ℕ) (r : Refusal) → HasFile told name IsProgramBytes
    → (HasRisen before now → ⊥) → IsProgramRefused told before now name r → status_of r ≡ OutOfMemory
program_fine told before now name r there steady (program_memory is) = is
program_fine told before now name r there steady (program_unread is) = loaded told before now name IsProgramBytes r there steady is
program_fine told before now name r there steady (of_text bytes file text fault first is) =
    let program = of_read told name bytes IsProgramBytes there file in
    absurd (fine_text (is_saved bytes) bytes program.0 fault text program.1 first)
program_fine told before now name r there steady (of_saved bytes file saves fault first is) =
    let program = of_read told name bytes IsProgramBytes there file in
    ap status_of is ∙ ap saved_status (fine_saved (is_saved bytes) bytes program.0 fault saves program.1 first)

plan_fine : (told : Option Files) (before now : ℕ) (name : List ℕ) (rows : List Row) (r : Refusal)
    → HasFile told name (λ (bytes : List ℕ). plans.IsPlan bytes rows) → (HasRisen before now → ⊥) → IsPlanRefused told before now name r
    → status_of r ≡ OutOfMemory
plan_fine told before now name rows r there steady (plan_memory is) = is
plan_fine told before now name rows r there steady (plan_unread is) =
    loaded told before now name (λ (bytes : List ℕ). plans.IsPlan bytes rows) r there steady is
plan_fine told before now name rows r there steady (plan_faulty bytes file fault is same) =
    absurd (no_fault_where_read bytes rows fault (of_read told name bytes (λ (bs : List ℕ). plans.IsPlan bs rows) there file) is)

net_fine : (told : Option Files) (before now : ℕ) (name : List ℕ) (r : Refusal) → HasFile told name IsNetBytes
    → (HasRisen before now → ⊥) → IsNetRefused told before now name r → status_of r ≡ OutOfMemory
net_fine told before now name r there steady (net_memory is) = is
net_fine told before now name r there steady (net_unread is) = loaded told before now name IsNetBytes r there steady is
net_fine told before now name r there steady (net_faulty bytes file fault is same) =
    let net = of_read told name bytes IsNetBytes there file in
    absurd (no_fault_where_net bytes net.0 fault net.1 is)

-- what is so of each of a list is so of one that stands in it
all_there : {X : Type 0} (P : X → Type 0) (front : List X) (x : X) (later : List X) → AllByRecursion P (front ++ x ∷ later) → P x
all_there P [] x later all = all.0
all_there P (y ∷ front) x later all = all_there P front x later all.1

nets_fine : (told : Option Files) (before now : ℕ) (files : List (List ℕ)) (r : Refusal)
    → AllByRecursion (λ (file : List ℕ). HasFile told file IsNetBytes) files → (HasRisen before now → ⊥)
    → AreNetsRefused told before now files r → status_of r ≡ OutOfMemory
nets_fine told before now files r there steady (nets_memory is) = is
nets_fine told before now files r there steady (of_file front later file split circuits are is) =
    net_fine told before now file r
    (all_there (λ (f : List ℕ). HasFile told f IsNetBytes) front file later
    (subst (AllByRecursion (λ (f : List ℕ). HasFile told f IsNetBytes)) split there))
    steady is

-- the rows that are read are the plan's
pub rows_same : (told : Option Files) (name : List ℕ) (rows read : List Row) → HasFile told name (λ (bytes : List ℕ). plans.IsPlan bytes rows)
    → IsPlanFile told name read → read ≡ rows
rows_same told name rows read there file =
    one_plan file.bytes read rows file.plan (of_read told name file.bytes (λ (bs : List ℕ). plans.IsPlan bs rows) there file.file)

-- nothing of fine files is refused
pub inputs_fine : (told : Option Files) (before now : ℕ) (program plan : List ℕ) (r : Refusal)
    → AreFine told before now program plan → AreRefused told before now program plan r → status_of r ≡ OutOfMemory
inputs_fine told before now program plan r fine (no_memory is) = is
inputs_fine told before now program plan r fine (of_program is) = program_fine told before now program r fine.code fine.loads is
inputs_fine told before now program plan r fine (of_plan code file is) =
    plan_fine told before now plan fine.rows r fine.rows_are fine.loads is
inputs_fine told before now program plan r fine (of_nets code file rows rows_file is) =
    nets_fine told before now (files_of fine.rows) r fine.nets fine.loads
    (subst (λ (rs : List Row). AreNetsRefused told before now (files_of rs) r)
    (rows_same told plan fine.rows rows fine.rows_are rows_file) is)
inputs_fine told before now program plan r fine (unbound inputs are fault is same) =
    let none = fine.bound inputs are in let wrong = sym is ∙ none in cc
