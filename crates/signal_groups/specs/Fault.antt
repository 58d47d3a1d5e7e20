-- The fault by which a text is refused for its signals and groups.
use Rattle.std.specs.Prelude.{◌≡◌, Some}
use Rattle.stil_ast.specs.Faults.SignalFaults.{fourth_fault}
use Rattle.stil_ast.specs.declared.blocks.Blocks.{Blocks}
use Rattle.stil_ast.specs.declared.fault.StilFault.{StilFault}
use Rattle.stil_ast.specs.Data.Refusal.{StilRefusal}
use Rattle.answers.specs.declared.short.Short.TheVariants as refusal

-- the first fault of signals and groups
pub record IsFourth (blocks : Blocks) (e : StilRefusal) : Type 0 where
  pub fault : StilFault
  pub is : e ≡ refusal.Fault fault
  pub first : fourth_fault blocks ≡ Some fault
