use Rattle.std.proofs.Common.{◌≡◌, ◌+◌, drop, map}
use Rattle.std.specs.List.{enumerate_from}
use Rattle.stil_ast.specs.Faults.Found.{first_in}
use Rattle.stil_ast.specs.Faults.TableFaults.{table_fault, tables_fault, waves_of_first}
use Rattle.stil_ast.specs.Data.Texts.{upwards}
use Rattle.wave_tables.specs.Scope.{timed}
use Rattle.wave_tables.specs.Check.{period_at}
use Rattle.wave_tables.proofs.judge.check_tables.Given as goal

abbrev pub invariant-loop-number : goal.invariant-loop-number
invariant-loop-number l = record {
  periods : l.periods.items ≡ map (period_at (timed l.scope)) (upwards 0 l.number);
  total : l.total ≡ l.before + waves_of_first (timed l.scope).names (timed l.scope).tables l.number;
  none : tables_fault (timed l.scope) l.before
      ≡ first_in (table_fault (timed l.scope) l.before)
      (enumerate_from l.number (drop l.number (timed l.scope).tables));
}
