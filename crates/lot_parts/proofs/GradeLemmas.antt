-- Why there is no part of a grade, and what a run of one is.
use Rattle.std.proofs.Common.{◌≡◌, ℕ, ◌<◌, List, Option, refl, ap, ◌∙◌, subst}
use Rattle.tester_types.specs.Outside.{Files}
use Rattle.packed_code.specs.Program.{Program}
use Rattle.plan_rows.specs.Rows.{sites_of}
use Rattle.lot_plan.specs.Bound.{Bound}
use Rattle.bench_net.specs.Circuit.{Circuit}
use Rattle.site_meaning.specs.Part.{circuit_in}
use Rattle.fault_grade.specs.declared.graded.Grade.{Grade}
use Rattle.fault_grade.specs.Grade.{first_part}
use Rattle.grade_listing.specs.GradeText.{grade_text}
use Rattle.grade_parts.specs.Part.{part_grade}
use Rattle.tool_inputs.specs.declared.status.Status.{Status}
use Rattle.tool_inputs.specs.declared.status.Status.TheVariants.{Done, Usage, ReadFault, WriteFault, RefusedStil, RefusedNet, RefusedPlan, TooFewSockets, OutOfMemory, TooLong, RefusedSaved, TooFlat, NoDie, TapeTooLong}
use Rattle.tool_inputs.specs.declared.refusal.Refusal.{Refusal}
use Rattle.tool_inputs.specs.declared.refusal.Refusal.TheVariants as refused
use Rattle.tool_inputs.specs.Refusals.{status_of, line_of}
use Rattle.tool_inputs.specs.Inputs.{IsReady, IsGradeRefused}
use Rattle.tool_inputs.specs.Inputs.AreRefused.{no_memory}
use Rattle.tool_inputs.specs.Inputs.IsGradeRefused.{of_inputs}
use Rattle.lot_parts.specs.Grades.{part_text, GradeRunWants, GradeWants}
use Rattle.lot_parts.specs.Grades.GradeWants.{is_graded, is_refused}

-- what is wanted at a refusal
pub refused_wants : (told : Option Files) (before now : ℕ) (program plan : List ℕ) (parts part : ℕ) (r : Refusal)
    → IsGradeRefused told before now program plan r → GradeWants told before now program plan parts part (status_of r) (line_of r)
refused_wants told before now program plan parts part r cause = is_refused r cause refl refl

-- the lines of a part of a grade of the first die, over the names of its netlist
pub graded_so : (bound : Bound) (circuit : Circuit) (grade : Grade) (parts part : ℕ) → circuit ≡ circuit_in (first_part bound) 0
    → grade ≡ part_grade bound parts part → grade_text circuit.net.names grade ≡ part_text bound parts part
graded_so bound circuit grade parts part same is =
    ap (λ (c : Circuit). grade_text c.net.names grade) same
    ∙ ap (λ (g : Grade). grade_text (circuit_in (first_part bound) 0).net.names g) is

-- what a run wants is wanted of the part
pub run_wants : (told : Option Files) (before now : ℕ) (program plan : List ℕ) (parts part : ℕ) (code : Program) (bound : Bound)
    (status : Status) (text : List ℕ) → IsReady told program plan code bound → 0 < sites_of bound.rows
    → GradeRunWants bound parts part status text → GradeWants told before now program plan parts part status text
run_wants told before now program plan parts part code bound Done text ready some want =
    is_graded refl ready.inputs ready.are ready.accepted
    (subst (λ (b : Bound). 0 < sites_of b.rows) ready.is some) (want ∙ ap (λ (b : Bound). part_text b parts part) ready.is)
run_wants told before now program plan parts part code bound OutOfMemory text ready some want =
    is_refused refused.NoMemory (of_inputs (no_memory refl)) refl want
run_wants told before now program plan parts part code bound Usage text ready some want = absurd want
run_wants told before now program plan parts part code bound ReadFault text ready some want = absurd want
run_wants told before now program plan parts part code bound WriteFault text ready some want = absurd want
run_wants told before now program plan parts part code bound RefusedStil text ready some want = absurd want
run_wants told before now program plan parts part code bound RefusedNet text ready some want = absurd want
run_wants told before now program plan parts part code bound RefusedPlan text ready some want = absurd want
run_wants told before now program plan parts part code bound TooFewSockets text ready some want = absurd want
run_wants told before now program plan parts part code bound TooLong text ready some want = absurd want
run_wants told before now program plan parts part code bound RefusedSaved text ready some want = absurd want
run_wants told before now program plan parts part code bound TooFlat text ready some want = absurd want
run_wants told before now program plan parts part code bound NoDie text ready some want = absurd want
run_wants told before now program plan parts part code bound TapeTooLong text ready some want = absurd want
