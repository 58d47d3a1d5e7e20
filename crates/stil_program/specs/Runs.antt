-- The sixth pass over what an executive runs: its patterns one after another, as the language runs them, vector by
-- vector (IEEE 1450-1999, clauses 16 and 22).
use Rattle.std.specs.Prelude.{List, [], ◌∷◌, Option, None}
use Rattle.tester_types.specs.declared.wave.Table.{Table}
use Rattle.stil_ast.specs.Meaning.Running.{Here, run, outside}
use Rattle.stil_ast.specs.Meaning.Executive.{Part}
use Rattle.stil_ast.specs.Faults.CodeFaults.{vector_fault}
use Rattle.stil_ast.specs.Faults.Found.{or_else, first_in}
use Rattle.stil_ast.specs.declared.fault.StilFault.{StilFault}

-- the fault of the first faulty vector, in time order, that these patterns run to; each begins with the state that the
-- one before it left
abbrev pub runs_fault : List Table → List Part → Here → Option StilFault
runs_fault tables [] h = None
runs_fault tables (p ∷ parts) h =
    or_else (first_in (vector_fault tables p.titles) (run p.setting p.statements (outside h.state)).made)
    (runs_fault tables parts (run p.setting p.statements (outside h.state)).here)
