use Rattle.std.proofs.Common.{Option, subst}
use Rattle.text_bytes.specs.Texts.{behind}
use Rattle.answers.specs.Answers.{Passes}
use Rattle.stil_ast.specs.declared.fault.StilFault.{StilFault}
use Rattle.scan_chain.proofs.WorkingLemmas.{faults_behind-none}
use Rattle.scan_chain.proofs.checking.check_chains.Goals as goal

-- chains one behind another have the first fault of the definition
pub returns : goal.returns
returns c = λ names same.
    subst (λ (fault : Option StilFault). Passes fault c.check_behind.result)
    (faults_behind-none names c.args.block.now (behind c.args.decls.now)) (c.check_behind.ensures names same)
