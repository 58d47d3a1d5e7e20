use Rattle.std.proofs.Common.{subst}
use Rattle.std.specs.Prelude.{Result}
use Rattle.stil_ast.specs.declared.fault.StilFault.{StilFault}
use Rattle.answers.specs.Answers.{Gives}
use Rattle.signal_groups.specs.Begun.{Begun, begun_in}
use Rattle.signal_groups.proofs.BegunLemmas.{each_declared}
use Rattle.signal_groups.proofs.signals.take_signals.Goals as goal

pub returns : goal.returns
returns c =
    subst (λ (wanted : Result Begun StilFault). Gives (λ _. begun_in c.take_each.new.texts.keys c.take_each.new.kept.items) wanted c.take_each.result)
    (each_declared (begun_in c.args.texts.now.keys c.args.kept.now.items) c.args.decls.now) c.take_each.ensures
