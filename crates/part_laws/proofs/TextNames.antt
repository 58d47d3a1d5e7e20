-- A program that a file has, saved or as a text, shows its names in lines.
use Rattle.std.proofs.Common.{◌≡◌, ℕ, zero, suc, ◌+◌, Bool, true, false, List, [], ◌∷◌, ◌++◌, length, refl, sym, ap, ◌∙◌, subst, arith, append_assoc, inl, inr}
use Rattle.std.specs.Prelude.{◌≤◌, Option, None}
use Rattle.std.specs.List.{AllByRecursion}
use Rattle.std.proofs.lemmas.List.{length-append, get_or_past}
use Rattle.text_bytes.specs.Limits.{most_bytes}
use Rattle.tester_types.specs.Outside.{Files}
use Rattle.stil_ast.specs.Faults.SignalFaults.{fourth_fault, signals_fault}
use Rattle.stil_ast.specs.Faults.ExecutiveFaults.{fifth_fault}
use Rattle.stil_ast.specs.Faults.CodeFaults.{sixth_fault}
use Rattle.stil_ast.specs.Faults.Found.{or_else}
use Rattle.stil_ast.specs.Meaning.ExecutiveData.{Executive}
use Rattle.stil_ast.specs.Meaning.Signals.{names_of}
use Rattle.stil_ast.proofs.FoundLemmas.{or_else-none}
use Rattle.signal_groups.specs.Table.{table_of}
use Rattle.stil_read.proofs.OneTextLemmas.{blocks_are_of_one_text}
use Rattle.time_expr.specs.TimesOf.{times_of}
use Rattle.packed_code.specs.Program.{Exec, Program}
use Rattle.packed_code.specs.Conditions.{EachBehind, IsSignal, IsChain}
use Rattle.packed_code.specs.Cycles.{exec_of}
use Rattle.cycle_comp.specs.OfText.{AreOfText}
use Rattle.cycle_comp.proofs.ChainLemmas.{code_chains}
use Rattle.cycle_comp.proofs.CodeLemmas.{goods}
use Rattle.cycle_comp.proofs.ProgramLemmas.{IsGoodExec}
use Rattle.cycle_comp.proofs.SignalLemmas.{signals_are}
use Rattle.page_code.specs.Saved.{Saved}
use Rattle.stil_program.specs.Program.{IsProgramOf}
use Rattle.tool_inputs.specs.Inputs.{is_saved, IsCodeBy, IsProgramFile}
use Rattle.part_laws.proofs.OneLine.{ShowsNames, whole_shows}

-- no executive
abbrev no_exec : Exec
no_exec = record { name = []; chains = []; instrs = [] }

-- ---- the code of a text

module _ (bytes : List ℕ) (short : length bytes ≤ most_bytes) (code : Program) (is : IsProgramOf bytes code) where
  -- how many signals it has
  abbrev count : ℕ
  count = length (names_of is.blocks).signals

  -- nothing is faulty before it is compiled
  fine : (fourth_fault is.blocks ≡ None) × (fifth_fault times_of is.blocks ≡ None)
  fine =
      let parts = or_else-none (fourth_fault is.blocks) (or_else (fifth_fault times_of is.blocks) (sixth_fault times_of is.blocks)) is.text.fine in
      (parts.0, (or_else-none (fifth_fault times_of is.blocks) (sixth_fault times_of is.blocks) parts.1).0)

  -- so its executives are those of a text
  abbrev of_text : AreOfText (table_of (names_of is.blocks)) is.compiled.executives
  of_text = record {
    blocks = is.blocks;
    of_one = blocks_are_of_one_text bytes is.text.read.tokens is.text.read.forest is.blocks short is.text.read.reads
        is.text.read.parses is.text.read.are;
    table_is = refl;
    no_fourth = fine.0;
    no_fifth = fine.1;
    are = is.compiled.are;
  }

  -- the names of its signals
  signals_fit : EachBehind IsSignal [] code.signals
  signals_fit =
      subst (EachBehind IsSignal []) (sym is.compiled.code_is.signals)
      (signals_are is.blocks.signals of_text.of_one.each_signal (or_else-none (signals_fault [] (names_of is.blocks).signals) _ fine.0).0)

  -- the chains of executives behind others, and none past the last
  chains_from : (before rest : List Executive) → is.compiled.executives ≡ before ++ rest
      → AllByRecursion (IsGoodExec count) rest
      → (k : ℕ) → AllByRecursion (IsChain count) (exec_of code (length before + k)).chains
  chains_from before [] split good k =
      let past : length code.execs ≤ length before + k =
      omega (arith, is.compiled.code_is.count, ap length split, length-append before []) in
      subst (λ (e : Exec). AllByRecursion (IsChain count) e.chains) (sym (get_or_past code.execs (length before + k) no_exec past)) tt
  chains_from before (e ∷ rest) split good zero =
      let here : length before + 0 ≡ length before = omega arith in
      let own = is.compiled.code_is.each before rest e split in
      subst (λ (n : ℕ). AllByRecursion (IsChain count) (exec_of code n).chains) (sym here)
      (subst (AllByRecursion (IsChain count)) (sym own.chains) (code_chains count e.chains good.0.chains good.0.short))
  chains_from before (e ∷ rest) split good (suc k) =
      let there : length (before ++ e ∷ []) + k ≡ length before + suc k = omega (arith, length-append before (e ∷ [])) in
      subst (λ (n : ℕ). AllByRecursion (IsChain count) (exec_of code n).chains) there
      (chains_from (before ++ e ∷ []) rest (split ∙ sym (append_assoc before (e ∷ []) rest)) good.1 k)

  -- so it shows its names
  text_shows : ShowsNames code
  text_shows = record {
    signals = signals_fit;
    count = count;
    chains = λ exec.
        let none : length {A = Executive} [] + exec ≡ exec = omega arith in
        subst (λ (n : ℕ). AllByRecursion (IsChain count) (exec_of code n).chains) none
        (chains_from [] is.compiled.executives refl (goods (table_of (names_of is.blocks)) is.compiled.executives of_text) exec);
  }

-- ---- a program file

-- the code of a saved program
saved_shows : (bytes : List ℕ) (code : Program) → Saved code bytes → ShowsNames code
saved_shows bytes code (inl one) = whole_shows code one.conditions
saved_shows bytes code (inr two) = whole_shows code two.conditions

-- a code by how it is read
by_shows : (by : Bool) (bytes : List ℕ) (code : Program) → length bytes ≤ most_bytes
    → IsCodeBy by bytes code → ShowsNames code
by_shows true bytes code short is = saved_shows bytes code is
by_shows false bytes code short is = text_shows bytes short code is

-- the code of a file
pub file_shows : (told : Option Files) (name : List ℕ) (code : Program)
    → IsProgramFile told name code → ShowsNames code
file_shows told name code is = by_shows (is_saved is.bytes) is.bytes code is.file.fits is.reads
