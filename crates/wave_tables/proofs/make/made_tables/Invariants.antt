use Rattle.std.proofs.Common.{◌≡◌, take, map}
use Rattle.std.specs.List.{enumerate_from}
use Rattle.stil_ast.specs.Meaning.Tables.{made_table}
use Rattle.wave_tables.specs.Scope.{timed}
use Rattle.wave_tables.proofs.make.made_tables.Given as goal

abbrev pub invariant-loop-number : goal.invariant-loop-number
invariant-loop-number l =
    l.made.items ≡ map (made_table (timed l.scope).times (timed l.scope).vars (timed l.scope).names
    (timed l.scope).place (timed l.scope).tables)
    (enumerate_from 0 (take l.number (timed l.scope).tables))
