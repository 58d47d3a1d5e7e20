-- The first fault of a text whose blocks have their forms: signals and groups; executives; what they compile to.
use Rattle.std.specs.Prelude.{Option}
use Rattle.stil_ast.specs.Faults.Found.{or_else}
use Rattle.stil_ast.specs.Meaning.Times.{Times}
use Rattle.stil_ast.specs.Faults.SignalFaults.{fourth_fault}
use Rattle.stil_ast.specs.Faults.ExecutiveFaults.{fifth_fault}
use Rattle.stil_ast.specs.Faults.CodeFaults.{sixth_fault}
use Rattle.stil_ast.specs.declared.blocks.Blocks.{Blocks}
use Rattle.stil_ast.specs.declared.fault.StilFault.{StilFault}

-- each pass is asked where those before it have no fault
abbrev pub blocks_fault : {V : Type 0} → Times V → Blocks → Option StilFault
blocks_fault times blocks =
    or_else (fourth_fault blocks) (or_else (fifth_fault times blocks) (sixth_fault times blocks))
