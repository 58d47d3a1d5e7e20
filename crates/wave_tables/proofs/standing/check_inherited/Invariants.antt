use Rattle.std.proofs.Common.{◌≡◌, ℕ, drop, pos}
use Rattle.std.specs.List.{enumerate_from}
use Rattle.stil_ast.specs.Meaning.Tables.{own_waveforms}
use Rattle.stil_ast.specs.Faults.Found.{first_in}
use Rattle.stil_ast.specs.Faults.TableFaults.{inherited_fault}
use Rattle.stil_ast.specs.declared.timing.TableDecl.{TableDecl}
use Rattle.wave_tables.specs.Scope.{timed}
use Rattle.wave_tables.specs.Check.{late_in}
use Rattle.wave_tables.proofs.standing.check_inherited.Given as goal

abbrev pub invariant-loop-number : goal.invariant-loop-number
invariant-loop-number l =
    inherited_fault (timed l.scope) (pos l.heir.period) l.heir.number
    ≡ first_in (λ (other : ℕ × TableDecl).
    late_in (timed l.scope) (pos l.heir.period) l.heir.number (own_waveforms (timed l.scope).names other.0 other.1))
    (enumerate_from l.number (drop l.number (timed l.scope).tables))
