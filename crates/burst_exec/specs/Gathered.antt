-- Executives as they are taken one after another.
use Rattle.std.specs.Prelude.{◌≡◌, ℕ, ◌+◌, ◌-◌, ◌^◌, ◌≤◌, min, List, Option, None, drop, take, sum_by}
use Rattle.text_bytes.specs.Limits.{most_waves}
use Rattle.stil_ast.specs.Meaning.ExecutiveData.{Executive}
use Rattle.stil_ast.specs.Faults.ExecutiveFaults.{exec_waves, exec_walked, execs_fault, fifth_fault}
use Rattle.stil_ast.specs.declared.blocks.Blocks.{Blocks}
use Rattle.stil_ast.specs.declared.executive.ExecDecl.{ExecDecl}
use Rattle.stil_ast.specs.declared.fault.StilFault.{StilFault}
use Rattle.time_expr.specs.TimesOf.{times_of}
use Rattle.burst_exec.specs.Executives.{AreExecutives}
use Rattle.burst_exec.specs.Patterns.{ArePlayed}
use Rattle.burst_exec.specs.Staged.{staged_fault, tables_of, chains_of, waves_of, order_of}
use Rattle.burst_exec.specs.declared.progress.Progress.{Progress}

-- the first fault of all executives of a text
unfoldable pub text_fault : Blocks → Option StilFault
text_fault blocks = fifth_fault times_of blocks

-- the first fault of executives behind others
unfoldable pub rest_fault : Blocks → List ExecDecl → List ExecDecl → Option StilFault
rest_fault blocks before rest = execs_fault times_of blocks before rest

-- an executive was taken behind others
pub record IsTaken (blocks : Blocks) (e : ExecDecl) (before now : Progress) (x : Executive) : Type 0 where
  pub no_fault : staged_fault blocks before.waves e ≡ None
  pub played : ArePlayed blocks e (order_of blocks e) before.walked x.trees now.walked
  pub waves_are : now.waves ≡ min (before.waves + waves_of blocks e) (2 ^ 32 - 1)
  pub name_is : x.name ≡ e.name
  pub line_is : x.line ≡ e.line
  pub tables_are : x.tables ≡ tables_of blocks e
  pub chains_are : x.chains ≡ chains_of blocks e

-- so many executives were taken
pub record IsGathering (blocks : Blocks) (count : ℕ) (now : Progress) (found : List Executive) : Type 0 where
  pub faults : rest_fault blocks (take count blocks.executives) (drop count blocks.executives) ≡ text_fault blocks
  pub waves_are : now.waves ≡ sum_by (exec_waves blocks) (take count blocks.executives)
  pub few : now.waves ≤ most_waves
  pub walked_is : now.walked ≡ sum_by (exec_walked blocks) (take count blocks.executives)
  pub made : AreExecutives blocks (take count blocks.executives) found
