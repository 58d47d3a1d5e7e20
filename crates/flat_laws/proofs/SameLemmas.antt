-- The blocks of a flat text say the whole code: `same_program`.
use Rattle.std.proofs.Common.{◌≡◌, ℕ, List, [], ◌∷◌, length, map, Some, ap, ◌∙◌, refl}
use Rattle.std.specs.Prelude.{slice_get}
use Rattle.std.specs.List.{AllZip}
use Rattle.std.proofs.lemmas.List.FromFn.{length-range_with_len}
use Rattle.packed_code.specs.declared.parts.CodeSignal.{CodeSignal}
use Rattle.packed_code.specs.Program.{Program}
use Rattle.packed_code.specs.Conditions.{IsProgram}
use Rattle.packed_code.specs.Cycles.{exec_of}
use Rattle.stil_ast.specs.Meaning.Signals.{Signal, names_of}
use Rattle.stil_ast.specs.Meaning.Executive.{chain_list}
use Rattle.stil_ast.specs.Meaning.Bursts.{exec_scans}
use Rattle.stil_ast.specs.Meaning.Chains.{chains_of, chains_named}
use Rattle.stil_ast.specs.declared.scan.ScanBlock.{ScanBlock}
use Rattle.stil_ast.specs.declared.executive.ExecDecl.{ExecDecl}
use Rattle.stil_ast.specs.declared.blocks.Blocks.{Blocks}
use Rattle.time_expr.specs.TimesOf.{times_of}
use Rattle.cycle_comp.specs.Compiled.{signal_of}
use Rattle.flat_parts.specs.FlatText.{executives}
use Rattle.flat_parts.specs.FlatBlocks.{AreFlatBlocks, IsExecDecl}
use Rattle.flat_fine.proofs.ListLemmas.{beside, as_many, at_range}
use Rattle.flat_fine.proofs.SignalLemmas.{IsSameSignal, names_are}
use Rattle.flat_fine.proofs.TimeLemmas.{time_is}
use Rattle.flat_cycles.proofs.EntryLemmas.{same_cycles}
use Rattle.flat_laws.specs.SameProgram.{IsSameProgram}

signals_same : (own : List CodeSignal) (all : List Signal) → AllZip IsSameSignal own all → map signal_of all ≡ own
signals_same [] [] are = refl
signals_same [] (n ∷ all) are = absurd are
signals_same (s ∷ own) [] are = absurd are
signals_same (s ∷ own) (n ∷ all) are =
    ap (λ (x : Signal). signal_of x ∷ map signal_of all) are.0 ∙ ap (λ (l : List CodeSignal). s ∷ l) (signals_same own all are.1)

module _ (code : Program) (blocks : Blocks) (flat : AreFlatBlocks code blocks) where
  count_same : length blocks.executives ≡ length code.execs
  count_same = as_many (IsExecDecl code) (executives code) blocks.executives flat.executives ∙ length-range_with_len 0 (length code.execs)

  name_same : (exec : ℕ) (e : ExecDecl) → slice_get blocks.executives exec ≡ Some e → e.name ≡ (exec_of code exec).name
  name_same exec e at =
      let b = beside (IsExecDecl code) (executives code) blocks.executives exec e flat.executives at in
      b.2.name ∙ ap (λ (n : ℕ). (exec_of code n).name) (at_range (length code.execs) exec b.0 b.1).0

  no_chains : (e : ExecDecl) → chain_list blocks e ≡ []
  no_chains e = ap (λ (scans : List ScanBlock). chains_of (names_of blocks) (chains_named scans (exec_scans blocks e))) flat.scans

pub same_program : (code : Program) (blocks : Blocks) → IsProgram code → AreFlatBlocks code blocks → IsSameProgram times_of code blocks
same_program code blocks whole flat = record {
  signals = signals_same code.signals (names_of blocks).signals (names_are code blocks flat).signals;
  count = count_same code blocks flat;
  names = name_same code blocks flat;
  cycles = same_cycles times_of time_is code blocks whole flat;
  unchained = no_chains code blocks flat;
}
