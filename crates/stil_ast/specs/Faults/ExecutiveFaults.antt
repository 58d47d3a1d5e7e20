-- The first fault of executives before they are compiled: names, variables, tables, chains, patterns.
use Rattle.std.specs.Prelude.{ℕ, List, [], ◌∷◌, ◌++◌, Option, Some, None, Bool, true, false, length, sum_by}
use Rattle.stil_ast.specs.Faults.Found.{or_else}
use Rattle.stil_ast.specs.Data.Places.{of_pattern}
use Rattle.stil_ast.specs.Meaning.Running.{stops}
use Rattle.stil_ast.specs.Meaning.Signals.{names_of}
use Rattle.stil_ast.specs.Meaning.Times.{Times}
use Rattle.stil_ast.specs.Meaning.Variables.{picked, variables_fault}
use Rattle.stil_ast.specs.Faults.TableFaults.{Timed, tables_fault, waves_of_first}
use Rattle.stil_ast.specs.Meaning.Chains.{chains_named, chains_fault}
use Rattle.stil_ast.specs.Meaning.Bursts.{Played, played, exec_scans}
use Rattle.stil_ast.specs.Faults.BurstFaults.{exec_names_fault}
use Rattle.stil_ast.specs.Meaning.Resolved.{resolved}
use Rattle.stil_ast.specs.Faults.AssignmentFaults.{Checked, fine, refused}
use Rattle.stil_ast.specs.Faults.PatternFaults.{check_pattern}
use Rattle.stil_ast.specs.Meaning.Executive.{exec_tables, timing_place, exec_value, scope_of}
use Rattle.stil_ast.specs.declared.executive.ExecDecl.{ExecDecl}
use Rattle.stil_ast.specs.declared.blocks.Blocks.{Blocks}
use Rattle.stil_ast.specs.declared.fault.StilFault.{StilFault}

-- what the tables of an executive are judged with
abbrev pub timed_of : {V : Type 0} → Times V → Blocks → ExecDecl → Timed V
timed_of times blocks e = record {
  times = times;
  vars = exec_value times blocks e;
  names = names_of blocks;
  place = timing_place e;
  tables = exec_tables blocks e;
}

-- how many waves the tables of an executive have
abbrev pub exec_waves : Blocks → ExecDecl → ℕ
exec_waves blocks e =
    waves_of_first (names_of blocks) (exec_tables blocks e) (length (exec_tables blocks e))

-- the patterns in running order, up to a Stop
abbrev pub behind_pattern : Bool → Checked → (ℕ → Checked) → Checked
behind_pattern stopped (refused fault) next = refused fault
behind_pattern true (fine w) next = fine w
behind_pattern false (fine w) next = next w.count

-- the patterns of an executive in running order, behind so many statements walked and signals assigned
abbrev pub check_patterns : Blocks → ExecDecl → List Played → ℕ → Checked
check_patterns blocks e [] count = fine (record { args = []; hashes = []; count = count })
check_patterns blocks e (p ∷ rest) count =
    behind_pattern (stops (resolved (scope_of blocks e p) of_pattern p.pattern.body))
    (check_pattern (scope_of blocks e p) p.pattern.body count) (check_patterns blocks e rest)

-- the fault of a check
abbrev pub checked_fault : Checked → Option StilFault
checked_fault (fine w) = None
checked_fault (refused fault) = Some fault

-- how many statements and signals a check has walked
abbrev pub checked_count : Checked → ℕ
checked_count (fine w) = w.count
checked_count (refused fault) = 0

-- how many statements an executive walks and signals it assigns
abbrev pub exec_walked : Blocks → ExecDecl → ℕ
exec_walked blocks e = checked_count (check_patterns blocks e (played blocks e) 0)

-- one executive, behind others
abbrev pub exec_fault : {V : Type 0} → Times V → Blocks → List ExecDecl → ExecDecl → Option StilFault
exec_fault times blocks before e =
    or_else (exec_names_fault blocks e)
    (or_else (variables_fault times (picked blocks e))
    (or_else (tables_fault (timed_of times blocks e) (sum_by (exec_waves blocks) before))
    (or_else (chains_fault (names_of blocks) (exec_scans blocks e) (chains_named blocks.scans (exec_scans blocks e)))
    (checked_fault (check_patterns blocks e (played blocks e) (sum_by (exec_walked blocks) before))))))

-- executives in text order, behind others
abbrev pub execs_fault : {V : Type 0} → Times V → Blocks → List ExecDecl → List ExecDecl
    → Option StilFault
execs_fault times blocks before [] = None
execs_fault times blocks before (e ∷ rest) =
    or_else (exec_fault times blocks before e) (execs_fault times blocks (before ++ (e ∷ [])) rest)

-- the first fault of the fifth pass
abbrev pub fifth_fault : {V : Type 0} → Times V → Blocks → Option StilFault
fifth_fault times blocks = execs_fault times blocks [] blocks.executives
