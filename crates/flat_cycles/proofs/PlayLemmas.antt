-- What an executive of a flat text runs: its own pattern alone, over its own tables and all rows, without scan chains.
use Rattle.std.proofs.Common.{◌≡◌, ℕ, ◌<◌, Bool, true, false, List, [], ◌∷◌, map, length, filter, slice_get, Some, refl, sym, ap, subst, ◌∙◌}
use Rattle.std.specs.List.{AllZip}
use Rattle.packed_code.specs.Program.{Program}
use Rattle.packed_code.specs.Conditions.{IsProgram}
use Rattle.stil_ast.specs.Data.Texts.{upwards}
use Rattle.stil_ast.specs.declared.scan.ScanBlock.{ScanBlock}
use Rattle.stil_ast.specs.declared.executive.ExecDecl.{ExecDecl}
use Rattle.stil_ast.specs.declared.blocks.Blocks.{Blocks}
use Rattle.stil_ast.specs.Meaning.Signals.{Names, names_of}
use Rattle.stil_ast.specs.Meaning.Chains.{Chain, chains_named, chains_of, scan_outs}
use Rattle.stil_ast.specs.Meaning.Bursts.{Played, exec_scans}
use Rattle.stil_ast.specs.Meaning.Executive.{Part, exec_tables, chain_list, part_of, cut_behind, up_to_stop, parts}
use Rattle.stil_ast.specs.Meaning.Running.{stops}
use Rattle.flat_parts.specs.FlatText.{executives}
use Rattle.flat_parts.specs.FlatBlocks.{IsExecDecl, AreFlatBlocks, own_numbers, IsNumberedTable}
use Rattle.flat_fine.proofs.ListLemmas.{beside, at_range}
use Rattle.flat_fine.proofs.LookupLemmas.{IsFlatExec, flat_exec, tables_are, as_played, played_is}

none_pass : {A : Type 0} (xs : List A) → filter (λ (x : A). false) xs ≡ []
none_pass [] = refl
none_pass (x ∷ xs) = none_pass xs

-- no signal is the end of a chain
no_outs : (names : Names) (chains : List Chain) → chains ≡ [] → scan_outs names chains ≡ []
no_outs names chains e = ap (scan_outs names) e ∙ none_pass (upwards 0 (length names.signals))

cut_alone : (b : Bool) (p : Part) → cut_behind b p [] ≡ p ∷ []
cut_alone true p = refl
cut_alone false p = refl

-- an executive of the flat text of a code
pub record IsTextExec (code : Program) (blocks : Blocks) (exec : ℕ) (e : ExecDecl) : Type 0 where
  pub program : IsProgram code
  pub flat : AreFlatBlocks code blocks
  pub at : slice_get blocks.executives exec ≡ Some e

module _ (code : Program) (blocks : Blocks) (exec : ℕ) (e : ExecDecl) (text : IsTextExec code blocks exec e) where
  -- all that the executive names
  abbrev pub own : IsFlatExec code blocks exec e
  own = flat_exec code blocks exec e text.program text.flat text.at

  -- the code has an executive of its number
  pub exec_less : exec < length code.execs
  exec_less =
      let b = beside (IsExecDecl code) (executives code) blocks.executives exec e text.flat.executives text.at in
      (at_range (length code.execs) exec b.0 b.1).1

  -- its pattern, as it is played
  abbrev pub own_play : Played
  own_play = as_played code blocks exec e own

  -- it runs this pattern alone
  pub one_part : parts blocks e ≡ part_of blocks e own_play ∷ []
  one_part =
      ap (λ (all : List Played). up_to_stop (map (part_of blocks e) all)) (played_is code blocks exec e own)
      ∙ cut_alone (stops (part_of blocks e own_play).statements) (part_of blocks e own_play)

  -- over its tables
  pub own_tables : AllZip (IsNumberedTable code) (own_numbers code exec) (exec_tables blocks e)
  own_tables =
      subst (AllZip (IsNumberedTable code) (own_numbers code exec)) (sym (tables_are code blocks exec e own)) own.timing_is.tables

  -- without chains
  pub unmarked : scan_outs (names_of blocks) (chain_list blocks e) ≡ []
  unmarked =
      no_outs (names_of blocks) (chain_list blocks e)
      (ap (λ (scans : List ScanBlock). chains_of (names_of blocks) (chains_named scans (exec_scans blocks e))) text.flat.scans)
