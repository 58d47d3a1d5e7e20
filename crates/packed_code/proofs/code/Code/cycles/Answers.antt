use Rattle.std.proofs.Common.{◌∙◌, ap}
use Rattle.packed_code.proofs.CountLemmas.{cycle_count-length}
use Rattle.packed_code.specs.Meaning.{cycle_count}
use Rattle.packed_code.specs.Program.{Exec}
use Rattle.packed_code.proofs.code.Code.cycles.Goals as goal

pub returns : goal.returns
returns c = c.cycles.ensures ∙ ap (λ (e : Exec). cycle_count e.instrs) c.exec.ensures ∙ cycle_count-length _
