-- How the code names a fault of a pattern.
use Rattle.std.specs.Prelude.{◌≡◌}
use Rattle.stil_ast.specs.Data.Places.{Titles}
use Rattle.stil_ast.specs.Faults.Found.{fault_in}
use Rattle.stil_ast.specs.Faults.AssignmentFaults.{Checked, refused}
use Rattle.stil_ast.specs.Meaning.Resolved.{origin}
use Rattle.flat_tree.specs.Origins.{body_of}
use Rattle.answers.specs.declared.short.Short.{Short}
use Rattle.macro_expand.specs.declared.trouble.BodyFault.{BodyFault}
use Rattle.answers.specs.declared.short.Short.TheVariants.{NoMemory, Fault}

-- want of memory, or a fault of a kind in a body of a kind, on a line
abbrev pub Trouble : Type 0
Trouble = Short BodyFault

-- a check has the fault that is named, unless memory ran out
abbrev pub IsAt : Titles → Checked → Trouble → Type 0
IsAt titles checked NoMemory = Unit {0}
IsAt titles checked (Fault at) = checked ≡ refused (fault_in titles (origin (body_of at.body) at.line) at.kind)
