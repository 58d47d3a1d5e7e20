-- An executive before the bodies of its patterns are looked at (IEEE 1450-1999, clauses 16 to 18): its patterns in
-- running order, its tables and its chains, or the first fault of its names, variables, tables and chains. These words
-- stand for definitions of the language that are long.
use Rattle.std.specs.Prelude.{◌≡◌, ℕ, ◌+◌, ◌-◌, ◌^◌, min, List, Option}
use Rattle.stil_ast.specs.Faults.Found.{or_else}
use Rattle.stil_ast.specs.Faults.BurstFaults.{exec_names_fault}
use Rattle.stil_ast.specs.Faults.ExecutiveFaults.{timed_of, exec_waves, check_patterns, checked_fault}
use Rattle.stil_ast.specs.Faults.TableFaults.{tables_fault}
use Rattle.stil_ast.specs.Meaning.Bursts.{Played, played}
use Rattle.stil_ast.specs.Meaning.Chains.{Chain}
use Rattle.stil_ast.specs.Meaning.Executive.{exec_value, table_list, chain_list}
use Rattle.stil_ast.specs.Meaning.Variables.{picked, variables_fault}
use Rattle.stil_ast.specs.declared.blocks.Blocks.{Blocks}
use Rattle.stil_ast.specs.declared.executive.ExecDecl.{ExecDecl}
use Rattle.stil_ast.specs.declared.fault.StilFault.{StilFault}
use Rattle.tester_types.specs.declared.wave.Table.{Table}
use Rattle.expr_text.specs.Ratio.{Ratio}
use Rattle.time_expr.specs.TimeIn.{AreNames}
use Rattle.time_expr.specs.TimesOf.{times_of}
use Rattle.scan_chain.specs.Fault.{chain_list_fault}
use Rattle.burst_exec.specs.declared.staging.Stage.{Stage}

-- the first fault of an executive's names
unfoldable pub names_fault : Blocks → ExecDecl → Option StilFault
names_fault blocks e = exec_names_fault blocks e

-- of its variables
unfoldable pub values_fault : Blocks → ExecDecl → Option StilFault
values_fault blocks e = variables_fault times_of (picked blocks e)

-- of its tables, behind executives with so many waves
unfoldable pub waves_fault : Blocks → ℕ → ExecDecl → Option StilFault
waves_fault blocks waves e = tables_fault (timed_of times_of blocks e) waves

-- of its chains
unfoldable pub ends_fault : Blocks → ExecDecl → Option StilFault
ends_fault blocks e = chain_list_fault blocks e

-- the first fault of all these, in this order
unfoldable pub staged_fault : Blocks → ℕ → ExecDecl → Option StilFault
staged_fault blocks waves e =
    or_else (names_fault blocks e)
    (or_else (values_fault blocks e) (or_else (waves_fault blocks waves e) (ends_fault blocks e)))

-- its patterns in running order
unfoldable pub order_of : Blocks → ExecDecl → List Played
order_of blocks e = played blocks e

-- its variables have these values
unfoldable pub AreValues : Blocks → ExecDecl → List (List ℕ × Ratio) → Type 0
AreValues blocks e vars = AreNames (exec_value times_of blocks e) vars

-- its tables
unfoldable pub tables_of : Blocks → ExecDecl → List Table
tables_of blocks e = table_list times_of blocks e

-- how many waves they have
unfoldable pub waves_of : Blocks → ExecDecl → ℕ
waves_of blocks e = exec_waves blocks e

-- its chains
unfoldable pub chains_of : Blocks → ExecDecl → List Chain
chains_of blocks e = chain_list blocks e

-- the first fault of its patterns, behind so many statements walked and signals assigned
unfoldable pub patterns_fault : Blocks → ℕ → ExecDecl → Option StilFault
patterns_fault blocks walked e = checked_fault (check_patterns blocks e (played blocks e) walked)

-- the first fault of an executive, behind executives with so many waves, statements and signals
unfoldable pub whole_fault : Blocks → ℕ → ℕ → ExecDecl → Option StilFault
whole_fault blocks waves walked e = or_else (staged_fault blocks waves e) (patterns_fault blocks walked e)

-- what is known of an executive that has no fault of these, behind executives with so many waves
pub record IsStageOf (blocks : Blocks) (waves : ℕ) (e : ExecDecl) (s : Stage) : Type 0 where
  pub order_is : s.order ≡ order_of blocks e
  pub tables_are : s.tables ≡ tables_of blocks e
  pub chains_are : s.chains ≡ chains_of blocks e
  -- the waves of all executives so far, as far as 32 bits count
  pub waves_are : s.waves ≡ min (waves + waves_of blocks e) (2 ^ 32 - 1)
