use Rattle.std.proofs.Common.{◌≡◌, Option, Some, None}
use Rattle.stil_ast.specs.declared.fault.StilFault.{StilFault}
use Rattle.stil_program.proofs.FaultLemmas.{one_text_fault}
use Rattle.drill_fine.specs.Texts.{stil_text}
use Rattle.drill_fine.proofs.FineLemmas.{text_fine}
use Rattle.drill_fine.proofs.laws.pattern_is_accepted.Goals as goal

pub returns : goal.returns
returns c = λ n fault few h.
    let same : ◌≡◌ {A = Option StilFault} (Some fault) None = one_text_fault (stil_text n) (Some fault) None h (text_fine n few) in
    cc
