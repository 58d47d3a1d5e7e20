-- Runs of `grade` and of `dump` on the same bytes print one text: `one_grade_text`, `one_dump_text`.
use Rattle.std.proofs.Common.{◌≡◌, ℕ, ◌<◌, Bool, true, false, List, Some, length, refl, sym, ap, ◌∙◌}
use Rattle.tester_types.specs.Outside.{Files}
use Rattle.bench_net.specs.declared.fault.NetFault.{NetFault}
use Rattle.bench_net.specs.declared.fault.NetFault.TheVariants as nets
use Rattle.page_code.specs.declared.fault.SavedFault.{SavedFault}
use Rattle.page_code.specs.declared.fault.SavedFault.TheVariants as saves
use Rattle.plan_rows.specs.declared.fault.PlanFault.{PlanFault}
use Rattle.plan_rows.specs.declared.fault.PlanFault.TheVariants as plans
use Rattle.plan_rows.specs.Rows.{dies_at, sites_of}
use Rattle.site_meaning.specs.Part.{circuit_in}
use Rattle.die_sim.specs.Socket.{Calls}
use Rattle.fault_grade.specs.Grade.{first_part, grade_of}
use Rattle.fault_grade.specs.declared.graded.Grade.{Grade}
use Rattle.grade_listing.specs.GradeText.{grade_text}
use Rattle.vcd_text.specs.Dump.{Var, dump_of}
use Rattle.vcd_dump.specs.Taken.{tape_of, vars_of}
use Rattle.tool_inputs.specs.declared.status.Status.{Status}
use Rattle.tool_inputs.specs.declared.status.Status.TheVariants.{Done}
use Rattle.tool_inputs.specs.declared.refusal.Refusal.{Refusal}
use Rattle.tool_inputs.specs.declared.refusal.Refusal.TheVariants as refused
use Rattle.tool_inputs.specs.Refusals.{net_status, plan_status, saved_status, status_of}
use Rattle.tool_inputs.specs.Inputs.{Inputs, AreInputs, bound_of}
use Rattle.lot_laws.specs.Alone.{AreOneNets}
use Rattle.lot_laws.proofs.GradeAlike.{names_alike, grade_alike, first_parts, first_there}
use Rattle.lot_laws.proofs.DumpAlike.{tape_alike, vars_alike}
use Rattle.stil_tool.specs.Grade.{GradeWants, graded_text}
use Rattle.stil_tool.specs.Grade.{is_graded, is_refused}
use Rattle.stil_tool.specs.Dump.{DumpWants, dumped_text}
use Rattle.stil_tool.specs.Dump as dump
use Rattle.stil_tool.specs.OneText.{AreSameFiles, OneGradeText, OneDumpText}

-- ---- no refusal is done

-- whether a status is that of a command that wrote what was asked for
abbrev is_done : Status → Bool
is_done Done = true
is_done _ = false

net_not_done : (fault : NetFault) → is_done (net_status fault) ≡ false
net_not_done nets.NoMemory = refl
net_not_done (nets.Line n) = refl
net_not_done nets.OutOfRange = refl
net_not_done (nets.Arity name) = refl
net_not_done (nets.Twice name) = refl
net_not_done (nets.Missing name) = refl
net_not_done (nets.Loop name) = refl

plan_not_done : (fault : PlanFault) → is_done (plan_status fault) ≡ false
plan_not_done plans.NoMemory = refl
plan_not_done (plans.Shape row) = refl
plan_not_done (plans.UnknownName row) = refl
plan_not_done (plans.Twice row) = refl
plan_not_done (plans.OutOfRange row) = refl
plan_not_done (plans.SkewOutside row) = refl
plan_not_done (plans.Unbound signal) = refl

saved_not_done : (fault : SavedFault) → is_done (saved_status fault) ≡ false
saved_not_done saves.NoMemory = refl
saved_not_done saves.BadMagic = refl
saved_not_done saves.BadVersion = refl
saved_not_done (saves.Torn place) = refl
saved_not_done (saves.BadCode place) = refl

refused_not_done : (r : Refusal) → is_done (status_of r) ≡ false
refused_not_done refused.NoMemory = refl
refused_not_done (refused.ReadFault file) = refl
refused_not_done (refused.TooLong file) = refl
refused_not_done (refused.Stil fault) = refl
refused_not_done (refused.Saved fault) = saved_not_done fault
refused_not_done (refused.Net file fault) = net_not_done fault
refused_not_done (refused.Plan fault) = plan_not_done fault
refused_not_done (refused.TooFewSockets sites have) = refl
refused_not_done (refused.NoDie site) = refl
refused_not_done (refused.TapeTooLong site) = refl

pub never_done : (r : Refusal) → Done ≡ status_of r → ⊥
never_done r same = absurd (let no : true ≡ false = ap is_done same ∙ refused_not_done r in cc)

-- ---- grade

-- what a run says, and its text
pub record IsGradeOf (files : Files) (program plan text : List ℕ) : Type 0 where
  pub inputs : Inputs
  pub are : AreInputs (Some files) program plan inputs
  pub die : 0 < sites_of inputs.rows
  pub written : text ≡ graded_text (bound_of inputs)

pub graded_so : (files : Files) (before now : ℕ) (program plan text : List ℕ)
    → GradeWants (Some files) before now program plan Done text → IsGradeOf files program plan text
graded_so files before now program plan text (is_graded done inputs are accepted die written) =
    record { inputs = inputs; are = are; die = die; written = written }
graded_so files before now program plan text (is_refused r cause answer line) = absurd (never_done r answer)

-- files of the same bytes have one grade
same_grade : (files others : Files) (program plan program' plan' : List ℕ) (inputs inputs' : Inputs)
    → AreInputs (Some files) program plan inputs → AreInputs (Some others) program' plan' inputs'
    → AreSameFiles files others program plan program' plan' → 0 < sites_of inputs.rows
    → graded_text (bound_of inputs) ≡ graded_text (bound_of inputs')
same_grade files others program plan program' plan' inputs inputs' are are' same some =
    let part = first_part (bound_of inputs) in
    let other = first_part (bound_of inputs') in
    let alike = first_parts files others program plan program' plan' inputs inputs' are are' same.one_program same.one_plan
    (same.nets inputs.rows are.rows) in
    let there = first_there (bound_of inputs) some in
    ap (λ (names : List (List ℕ)). grade_text names (grade_of (bound_of inputs))) (names_alike part other alike there)
    ∙ ap (λ (g : Grade). grade_text (circuit_in other 0).net.names g) (grade_alike part other alike there)

pub one_grade_text : OneGradeText
one_grade_text run other same =
    let a = graded_so run.files run.before run.now run.program run.plan run.text run.is in
    let b = graded_so other.files other.before other.now other.program other.plan other.text other.is in
    a.written
    ∙ same_grade run.files other.files run.program run.plan other.program other.plan a.inputs b.inputs a.are b.are same a.die
    ∙ sym b.written

-- ---- dump

-- what a run says, and its text
record IsDumpOf (files : Files) (program plan : List ℕ) (site : ℕ) (text : List ℕ) : Type 0 where
  pub inputs : Inputs
  pub are : AreInputs (Some files) program plan inputs
  pub die : 0 < length (dies_at site inputs.rows)
  pub written : text ≡ dumped_text (bound_of inputs) site

dumped_so : (files : Files) (before now : ℕ) (program plan : List ℕ) (site : ℕ) (text : List ℕ)
    → DumpWants (Some files) before now program plan site Done text → IsDumpOf files program plan site text
dumped_so files before now program plan site text (dump.is_dumped done inputs are accepted die few written) =
    record { inputs = inputs; are = are; die = die; written = written }
dumped_so files before now program plan site text (dump.is_refused r cause answer line) = absurd (never_done r answer)

pub one_dump_text : OneDumpText
one_dump_text site run other same =
    let a = dumped_so run.files run.before run.now run.program run.plan site run.text run.is in
    let b = dumped_so other.files other.before other.now other.program other.plan site other.text other.is in
    let netlists : (s : ℕ) → AreOneNets run.files other.files a.inputs.rows s = same.nets a.inputs.rows a.are.rows in
    a.written
    ∙ ap (λ (vars : List Var). dump_of vars (tape_of (bound_of a.inputs) site))
    (vars_alike run.files other.files run.program run.plan other.program other.plan a.inputs b.inputs a.are b.are same.one_program same.one_plan
    netlists site a.die)
    ∙ ap (λ (tape : Calls). dump_of (vars_of (bound_of b.inputs) site) tape)
    (tape_alike run.files other.files run.program run.plan other.program other.plan a.inputs b.inputs a.are b.are same.one_program same.one_plan
    netlists site a.die)
    ∙ sym b.written
