-- A lot whose files are there and accepted is done, where no count rises: `lot_completes`.
use Rattle.std.proofs.Common.{◌≡◌, ◌⊎◌, ℕ, List, [], ◌∷◌, length, Option, sym, ap, ◌∙◌, subst, arith, inl, inr}
use Rattle.tester_types.specs.Outside.{HasRisen, Files, gained, GainsFront}
use Rattle.die_sim.specs.Socket.{Told}
use Rattle.plan_rows.specs.Rows.{sites_of}
use Rattle.lot_plan.specs.Refusal.{refusal}
use Rattle.tool_inputs.specs.declared.status.Status.{Status}
use Rattle.tool_inputs.specs.declared.status.Status.TheVariants.{WriteFault, OutOfMemory}
use Rattle.tool_inputs.specs.declared.refusal.Refusal.{Refusal}
use Rattle.tool_inputs.specs.Endings.{Answers, IsDone}
use Rattle.tool_inputs.specs.Refusals.{status_of}
use Rattle.stil_tool.specs.Lot.{Floor, IsRefused, LotWants}
use Rattle.stil_tool.specs.Lot.IsRefused.{of_inputs, few_sockets}
use Rattle.stil_tool.specs.Lot.LotWants.{is_run, is_refused}
use Rattle.stil_tool.specs.Tester.{TesterWants}
use Rattle.stil_tool.specs.Tester.TesterWants.{of_lot, of_drill, of_grade, of_other}
use Rattle.stil_tool.specs.FineLot.{IsFineLot}
use Rattle.tool_inputs.proofs.FineLemmas.{inputs_fine, rows_same}

lot_fine : (words : List (List ℕ)) (told : Option Files) (before now faults faults' sockets : ℕ) (r : Refusal)
    → (fine : IsFineLot words told before now faults faults' sockets) → IsRefused told before now sockets fine.program fine.plan r
    → status_of r ≡ OutOfMemory
lot_fine words told before now faults faults' sockets r fine (of_inputs is) =
    inputs_fine told before now fine.program fine.plan r fine.files is
lot_fine words told before now faults faults' sockets r fine (few_sockets inputs are accepted few same) =
    let rows = rows_same told fine.plan fine.files.rows inputs.rows fine.files.rows_are are.rows in
    absurd (omega (arith, few, fine.enough, ap sites_of rows))

-- ---- the first byte of the first word tells commands apart

abbrev pub first_byte : List ℕ → ℕ
first_byte [] = 0
first_byte (byte ∷ bytes) = byte

abbrev pub first_word : List (List ℕ) → List ℕ
first_word [] = []
first_word (word ∷ words) = word

-- ---- the words say one program and one plan

abbrev pub program_word : List (List ℕ) → List ℕ
program_word [] = []
program_word (word ∷ []) = []
program_word (word ∷ program ∷ words) = program

abbrev pub plan_word : List (List ℕ) → List ℕ
plan_word [] = []
plan_word (word ∷ []) = []
plan_word (word ∷ program ∷ []) = []
plan_word (word ∷ program ∷ plan ∷ words) = plan

lot_done : {S : Type 0} (tells : S → Told) (words : List (List ℕ)) (told : Option Files) (before now faults faults' : ℕ) (old new : Floor S)
    (program plan : List ℕ) (status : Status) (text : List ℕ) → (fine : IsFineLot words told before now faults faults' (length old.sockets))
    → fine.program ≡ program → fine.plan ≡ plan → LotWants tells told before now old new program plan status text → IsDone status
lot_done tells words told before now faults faults' old new program plan status text fine same same' (is_run done run) = inl done
lot_done tells words told before now faults faults' old new program plan status text fine same same' (is_refused refusal kept) =
    inr (refusal.answer ∙ lot_fine words told before now faults faults' (length old.sockets) refusal.refused fine
    (subst (λ (p : List ℕ). IsRefused told before now (length old.sockets) fine.program p refusal.refused) (sym same')
    (subst (λ (p : List ℕ). IsRefused told before now (length old.sockets) p plan refusal.refused) (sym same) refusal.cause)))

wanted_done : {S : Type 0} (tells : S → Told) (words : List (List ℕ)) (told : Option Files) (before now faults faults' : ℕ)
    (old new : Floor S) (status : Status) (text : List ℕ) → IsFineLot words told before now faults faults' (length old.sockets)
    → TesterWants tells words told before now old new status text → IsDone status
wanted_done tells words told before now faults faults' old new status text fine (of_lot program plan are want) =
    lot_done tells words told before now faults faults' old new program plan status text fine
    (ap program_word (sym fine.are ∙ are)) (ap plan_word (sym fine.are ∙ are)) want
wanted_done tells words told before now faults faults' old new status text fine (of_drill number are want) =
    let wrong : 3 ≡ 2 = ap (λ (l : List (List ℕ)). length l) (sym fine.are ∙ are.is) in absurd (omega (arith, wrong))
wanted_done tells words told before now faults faults' old new status text fine (of_grade program plan are want kept) =
    let wrong : 108 ≡ 103 = ap (λ (l : List (List ℕ)). first_byte (first_word l)) (sym fine.are ∙ are) in absurd (omega (arith, wrong))
wanted_done tells words told before now faults faults' old new status text fine (of_other none want) =
    absurd (none (inl (fine.program, fine.plan, fine.are)))

pub lot_completes : {S : Type 0} (tells : S → Told) (words : List (List ℕ)) (told : Option Files) (before now : ℕ) (old new : Floor S)
    (held held' : Option (List ℕ)) (faults faults' : ℕ) (result : Status)
    → Answers (TesterWants tells words told before now old new) held faults result held' faults'
    → IsFineLot words told before now faults faults' (length old.sockets) → IsDone result
lot_completes tells words told before now old new held held' faults faults' result a fine = by a.ends.ends
  where
    by : ((result ≡ a.status) × (held' ≡ gained held a.text)) ⊎ ((result ≡ WriteFault) × GainsFront held a.text held' × HasRisen faults faults')
        → IsDone result
    by (inl whole) = subst IsDone (sym whole.0) (wanted_done tells words told before now faults faults' old new a.status a.text fine a.wanted)
    by (inr front) = absurd (fine.puts front.2)
