use Rattle.std.proofs.Common.{◌≡◌, drop}
use Rattle.stil_ast.specs.Faults.Found.{first_in}
use Rattle.stil_ast.specs.Faults.TableFaults.{inherit_fault}
use Rattle.wave_tables.specs.Scope.{timed}
use Rattle.wave_tables.proofs.check.check_inherits.Given as goal

abbrev pub invariant-loop-named : goal.invariant-loop-named
invariant-loop-named l = first_in (inherit_fault (timed l.scope).place (timed l.scope).tables) l.inherits
    ≡ first_in (inherit_fault (timed l.scope).place (timed l.scope).tables) (drop l.named-index l.inherits)
