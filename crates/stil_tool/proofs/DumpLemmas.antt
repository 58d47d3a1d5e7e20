-- Why there is no dump, what a run of it is, and that one of fine files is done: `dump_completes`.
use Rattle.std.proofs.Common.{◌≡◌, ◌⊎◌, ◌↔◌, IsTrue, ℕ, zero, suc, ◌<◌, ◌≤◌, Bool, false, List, [], ◌∷◌, length, Option, Some, refl, sym, ap, ◌∙◌, subst, arith, inl, inr}
use Rattle.std.proofs.lemmas.Bool.{false≢true}
use Rattle.tester_types.specs.Outside.{HasRisen, Files, gained, GainsFront}
use Rattle.packed_code.specs.Program.{Program}
use Rattle.plan_rows.specs.declared.row.Row.{Row}
use Rattle.plan_rows.specs.Rows.{dies_at}
use Rattle.lot_plan.specs.Bound.{Bound}
use Rattle.vcd_dump.specs.Taken.{tape_of, drives_in, most_drives}
use Rattle.tool_inputs.specs.declared.status.Status.{Status}
use Rattle.tool_inputs.specs.declared.status.Status.TheVariants.{WriteFault, OutOfMemory}
use Rattle.tool_inputs.specs.declared.refusal.Refusal.{Refusal}
use Rattle.tool_inputs.specs.declared.refusal.Refusal.TheVariants as refused
use Rattle.tool_inputs.specs.Endings.{Answers, IsDone}
use Rattle.tool_inputs.specs.Refusals.{status_of, line_of}
use Rattle.tool_inputs.specs.Inputs.{IsReady}
use Rattle.tool_inputs.specs.Inputs.AreRefused.{no_memory}
use Rattle.tool_inputs.proofs.FineLemmas.{inputs_fine, rows_same}
use Rattle.stil_tool.specs.Dump.{IsDumpRefused, dumped_text, DumpRunWants, DumpWants, IsFineDump}
use Rattle.stil_tool.specs.Dump.IsDumpRefused.{of_inputs, no_die, too_long}
use Rattle.stil_tool.specs.Dump.DumpRunWants.{is_written, is_long, no_memory as run_memory}
use Rattle.stil_tool.specs.Dump.DumpWants.{is_dumped, is_refused}
use Rattle.stil_tool.specs.Offline.{Wants}
use Rattle.stil_tool.specs.Offline.Wants.{no_form, of_command, of_dump}
use Rattle.stil_tool.proofs.FineLotLemmas.{program_word, plan_word}
use Rattle.std.proofs.lemmas.Fmt.{decimal_injective}

-- ---- the words

abbrev site_word : List (List ℕ) → List ℕ
site_word [] = []
site_word (word ∷ []) = []
site_word (word ∷ program ∷ []) = []
site_word (word ∷ program ∷ plan ∷ []) = []
site_word (word ∷ program ∷ plan ∷ site ∷ words) = site

-- ---- the run

-- no die, where it isn't so that there are some
pub none_there : (b : Bool) (n : ℕ) → IsTrue b ↔ (0 < n) → b ≡ false → n ≡ 0
none_there b zero some is = refl
none_there b (suc n) some is = absurd (false≢true (sym is ∙ some.1 (omega arith)))

-- what is wanted at a refusal
pub refused_wants : (told : Option Files) (before now : ℕ) (program plan : List ℕ) (site : ℕ) (r : Refusal)
    → IsDumpRefused told before now program plan site r → DumpWants told before now program plan site (status_of r) (line_of r)
refused_wants told before now program plan site r cause = is_refused r cause refl refl

-- a plan that is ready, and has no die at the site
pub no_die_refused : (told : Option Files) (before now : ℕ) (program plan : List ℕ) (site : ℕ) (code : Program) (bound : Bound)
    → IsReady told program plan code bound → length (dies_at site bound.rows) ≡ 0
    → IsDumpRefused told before now program plan site (refused.NoDie (Some site))
no_die_refused told before now program plan site code bound ready none =
    no_die ready.inputs ready.are ready.accepted (sym (ap (λ (b : Bound). length (dies_at site b.rows)) ready.is) ∙ none) refl

-- what a run wants is wanted of the dump
pub run_wants : (told : Option Files) (before now : ℕ) (program plan : List ℕ) (site : ℕ) (code : Program) (bound : Bound)
    (status : Status) (text : List ℕ) → IsReady told program plan code bound → 0 < length (dies_at site bound.rows)
    → DumpRunWants bound site status text → DumpWants told before now program plan site status text
run_wants told before now program plan site code bound status text ready some (is_written done few line) =
    is_dumped done ready.inputs ready.are ready.accepted
    (subst (λ (b : Bound). 0 < length (dies_at site b.rows)) ready.is some)
    (subst (λ (b : Bound). drives_in (tape_of b site) ≤ most_drives) ready.is few)
    (line ∙ ap (λ (b : Bound). dumped_text b site) ready.is)
run_wants told before now program plan site code bound status text ready some (is_long done many line) =
    is_refused (refused.TapeTooLong site)
    (too_long ready.inputs ready.are ready.accepted
    (subst (λ (b : Bound). 0 < length (dies_at site b.rows)) ready.is some)
    (subst (λ (b : Bound). most_drives < drives_in (tape_of b site)) ready.is many) refl) done line
run_wants told before now program plan site code bound status text ready some (run_memory done line) =
    is_refused refused.NoMemory (of_inputs (no_memory refl)) done line

-- ---- a dump of fine files

-- it is refused for want of memory alone
dump_fine : (words : List (List ℕ)) (told : Option Files) (before now faults faults' : ℕ) (r : Refusal)
    → (fine : IsFineDump words told before now faults faults') → IsDumpRefused told before now fine.program fine.plan fine.site r
    → status_of r ≡ OutOfMemory
dump_fine words told before now faults faults' r fine (of_inputs is) =
    inputs_fine told before now fine.program fine.plan r fine.files is
dump_fine words told before now faults faults' r fine (no_die inputs are accepted none same) =
    let rows = rows_same told fine.plan fine.files.rows inputs.rows fine.files.rows_are are.rows in
    absurd (omega (arith, none, fine.die, ap (λ (rs : List Row). length (dies_at fine.site rs)) rows))
dump_fine words told before now faults faults' r fine (too_long inputs are accepted some many same) =
    let few = fine.few inputs are in absurd (omega (arith, many, few))

dump_done : (words : List (List ℕ)) (told : Option Files) (before now faults faults' : ℕ) (program plan : List ℕ) (site : ℕ)
    (status : Status) (text : List ℕ) → (fine : IsFineDump words told before now faults faults') → fine.program ≡ program
    → fine.plan ≡ plan → fine.site ≡ site → DumpWants told before now program plan site status text → IsDone status
dump_done words told before now faults faults' program plan site status text fine same same' same''
    (is_dumped done inputs are accepted some few line) = inl done
dump_done words told before now faults faults' program plan site status text fine same same' same'' (is_refused r cause answer line) =
    inr (answer ∙ dump_fine words told before now faults faults' r fine
    (subst (λ (n : ℕ). IsDumpRefused told before now fine.program fine.plan n r) (sym same'')
    (subst (λ (p : List ℕ). IsDumpRefused told before now fine.program p site r) (sym same')
    (subst (λ (p : List ℕ). IsDumpRefused told before now p plan site r) (sym same) cause))))

offline_done : (words : List (List ℕ)) (told : Option Files) (before now faults faults' : ℕ) (status : Status) (text : List ℕ)
    → IsFineDump words told before now faults faults' → Wants words told before now status text → IsDone status
offline_done words told before now faults faults' status text fine (no_form none same line) =
    absurd (none (inr (fine.program, fine.plan, fine.site, fine.are)))
offline_done words told before now faults faults' status text fine (of_dump program plan site are want) =
    dump_done words told before now faults faults' program plan site status text fine
    (ap program_word (sym fine.are.is ∙ are.is)) (ap plan_word (sym fine.are.is ∙ are.is))
    (decimal_injective fine.site site (omega (arith, fine.are.few)) (omega (arith, are.few)) (ap site_word (sym fine.are.is ∙ are.is))) want
offline_done words told before now faults faults' status text fine (of_command command file are want) =
    let wrong : 4 ≡ 2 = ap (λ (l : List (List ℕ)). length l) (sym fine.are.is ∙ are) in absurd (omega (arith, wrong))

pub dump_completes : (words : List (List ℕ)) (told : Option Files) (before now : ℕ) (held held' : Option (List ℕ)) (faults faults' : ℕ)
    (result : Status) → Answers (Wants words told before now) held faults result held' faults'
    → IsFineDump words told before now faults faults' → IsDone result
dump_completes words told before now held held' faults faults' result a fine = by a.ends.ends
  where
    by : ((result ≡ a.status) × (held' ≡ gained held a.text)) ⊎ ((result ≡ WriteFault) × GainsFront held a.text held' × HasRisen faults faults')
        → IsDone result
    by (inl whole) = subst IsDone (sym whole.0) (offline_done words told before now faults faults' a.status a.text fine a.wanted)
    by (inr front) = absurd (fine.puts front.2)
