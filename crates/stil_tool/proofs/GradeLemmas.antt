-- Why there is no grade, what a run of it is, and that one of fine files is done: `grade_completes`.
use Rattle.std.proofs.Common.{◌≡◌, ◌⊎◌, ℕ, ◌<◌, List, length, Option, refl, sym, ap, ◌∙◌, subst, arith, inl, inr}
use Rattle.tester_types.specs.Outside.{HasRisen, Files, gained, GainsFront}
use Rattle.die_sim.specs.Socket.{Told}
use Rattle.packed_code.specs.Program.{Program}
use Rattle.plan_rows.specs.Rows.{sites_of}
use Rattle.lot_plan.specs.Bound.{Bound}
use Rattle.bench_net.specs.Circuit.{Circuit}
use Rattle.site_meaning.specs.Part.{circuit_in}
use Rattle.fault_grade.specs.declared.graded.Grade.{Grade}
use Rattle.fault_grade.specs.Grade.{first_part, grade_of}
use Rattle.grade_listing.specs.GradeText.{grade_text}
use Rattle.tool_inputs.specs.declared.status.Status.{Status}
use Rattle.tool_inputs.specs.declared.status.Status.TheVariants.{Done, Usage, ReadFault, WriteFault, RefusedStil, RefusedNet, RefusedPlan, TooFewSockets, OutOfMemory, TooLong, RefusedSaved, TooFlat, NoDie, TapeTooLong}
use Rattle.tool_inputs.specs.declared.refusal.Refusal.{Refusal}
use Rattle.tool_inputs.specs.declared.refusal.Refusal.TheVariants as refused
use Rattle.tool_inputs.specs.Endings.{Answers, IsDone}
use Rattle.tool_inputs.specs.Refusals.{status_of, line_of}
use Rattle.tool_inputs.specs.Inputs.{IsReady, IsGradeRefused}
use Rattle.tool_inputs.specs.Inputs.AreRefused.{no_memory}
use Rattle.tool_inputs.specs.Inputs.IsGradeRefused.{of_inputs, no_die}
use Rattle.tool_inputs.proofs.FineLemmas.{inputs_fine, rows_same}
use Rattle.stil_tool.specs.Grade.{graded_text, GradeRunWants, GradeWants, IsFineGrade}
use Rattle.stil_tool.specs.Grade.GradeWants.{is_graded, is_refused}
use Rattle.stil_tool.specs.Lot.{Floor}
use Rattle.stil_tool.specs.Tester.{TesterWants}
use Rattle.stil_tool.specs.Tester.TesterWants.{of_lot, of_drill, of_grade, of_other}
use Rattle.stil_tool.proofs.FineLotLemmas.{program_word, plan_word, first_byte, first_word}

-- what is wanted at a refusal
pub refused_wants : (told : Option Files) (before now : ℕ) (program plan : List ℕ) (r : Refusal)
    → IsGradeRefused told before now program plan r → GradeWants told before now program plan (status_of r) (line_of r)
refused_wants told before now program plan r cause = is_refused r cause refl refl

-- the lines of a grade of the first die, over the names of its netlist
pub graded_so : (bound : Bound) (circuit : Circuit) (grade : Grade) → circuit ≡ circuit_in (first_part bound) 0 → grade ≡ grade_of bound
    → grade_text circuit.net.names grade ≡ graded_text bound
graded_so bound circuit grade same is =
    ap (λ (c : Circuit). grade_text c.net.names grade) same
    ∙ ap (λ (g : Grade). grade_text (circuit_in (first_part bound) 0).net.names g) is

-- what a run wants is wanted of the grade
pub run_wants : (told : Option Files) (before now : ℕ) (program plan : List ℕ) (code : Program) (bound : Bound) (status : Status)
    (text : List ℕ) → IsReady told program plan code bound → 0 < sites_of bound.rows → GradeRunWants bound status text
    → GradeWants told before now program plan status text
run_wants told before now program plan code bound Done text ready some want =
    is_graded refl ready.inputs ready.are ready.accepted
    (subst (λ (b : Bound). 0 < sites_of b.rows) ready.is some) (want ∙ ap graded_text ready.is)
run_wants told before now program plan code bound OutOfMemory text ready some want =
    is_refused refused.NoMemory (of_inputs (no_memory refl)) refl want
run_wants told before now program plan code bound Usage text ready some want = absurd want
run_wants told before now program plan code bound ReadFault text ready some want = absurd want
run_wants told before now program plan code bound WriteFault text ready some want = absurd want
run_wants told before now program plan code bound RefusedStil text ready some want = absurd want
run_wants told before now program plan code bound RefusedNet text ready some want = absurd want
run_wants told before now program plan code bound RefusedPlan text ready some want = absurd want
run_wants told before now program plan code bound TooFewSockets text ready some want = absurd want
run_wants told before now program plan code bound TooLong text ready some want = absurd want
run_wants told before now program plan code bound RefusedSaved text ready some want = absurd want
run_wants told before now program plan code bound TooFlat text ready some want = absurd want
run_wants told before now program plan code bound NoDie text ready some want = absurd want
run_wants told before now program plan code bound TapeTooLong text ready some want = absurd want

-- ---- a grade of fine files

-- it is refused for want of memory alone
grade_fine : (words : List (List ℕ)) (told : Option Files) (before now faults faults' : ℕ) (r : Refusal)
    → (fine : IsFineGrade words told before now faults faults') → IsGradeRefused told before now fine.program fine.plan r
    → status_of r ≡ OutOfMemory
grade_fine words told before now faults faults' r fine (of_inputs is) =
    inputs_fine told before now fine.program fine.plan r fine.files is
grade_fine words told before now faults faults' r fine (no_die inputs are accepted none same) =
    let rows = rows_same told fine.plan fine.files.rows inputs.rows fine.files.rows_are are.rows in
    absurd (omega (arith, none, fine.die, ap sites_of rows))

grade_done : (words : List (List ℕ)) (told : Option Files) (before now faults faults' : ℕ) (program plan : List ℕ) (status : Status)
    (text : List ℕ) → (fine : IsFineGrade words told before now faults faults') → fine.program ≡ program → fine.plan ≡ plan
    → GradeWants told before now program plan status text → IsDone status
grade_done words told before now faults faults' program plan status text fine same same' (is_graded done inputs are accepted some line) = inl done
grade_done words told before now faults faults' program plan status text fine same same' (is_refused r cause answer line) =
    inr (answer ∙ grade_fine words told before now faults faults' r fine
    (subst (λ (p : List ℕ). IsGradeRefused told before now fine.program p r) (sym same')
    (subst (λ (p : List ℕ). IsGradeRefused told before now p plan r) (sym same) cause)))

wanted_done : {S : Type 0} (tells : S → Told) (words : List (List ℕ)) (told : Option Files) (before now faults faults' : ℕ)
    (old new : Floor S) (status : Status) (text : List ℕ) → IsFineGrade words told before now faults faults'
    → TesterWants tells words told before now old new status text → IsDone status
wanted_done tells words told before now faults faults' old new status text fine (of_lot program plan are want) =
    let wrong : 103 ≡ 108 = ap (λ (l : List (List ℕ)). first_byte (first_word l)) (sym fine.are ∙ are) in absurd (omega (arith, wrong))
wanted_done tells words told before now faults faults' old new status text fine (of_drill number are want) =
    let wrong : 3 ≡ 2 = ap (λ (l : List (List ℕ)). length l) (sym fine.are ∙ are.is) in absurd (omega (arith, wrong))
wanted_done tells words told before now faults faults' old new status text fine (of_grade program plan are want kept) =
    grade_done words told before now faults faults' program plan status text fine
    (ap program_word (sym fine.are ∙ are)) (ap plan_word (sym fine.are ∙ are)) want
wanted_done tells words told before now faults faults' old new status text fine (of_other none want) =
    absurd (none (inr (inr (fine.program, fine.plan, fine.are))))

pub grade_completes : {S : Type 0} (tells : S → Told) (words : List (List ℕ)) (told : Option Files) (before now : ℕ) (old new : Floor S)
    (held held' : Option (List ℕ)) (faults faults' : ℕ) (result : Status)
    → Answers (TesterWants tells words told before now old new) held faults result held' faults'
    → IsFineGrade words told before now faults faults' → IsDone result
grade_completes tells words told before now old new held held' faults faults' result a fine = by a.ends.ends
  where
    by : ((result ≡ a.status) × (held' ≡ gained held a.text)) ⊎ ((result ≡ WriteFault) × GainsFront held a.text held' × HasRisen faults faults')
        → IsDone result
    by (inl whole) = subst IsDone (sym whole.0) (wanted_done tells words told before now faults faults' old new a.status a.text fine a.wanted)
    by (inr front) = absurd (fine.puts front.2)
