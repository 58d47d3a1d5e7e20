use Rattle.std.proofs.Common.{sym, ◌∙◌}
use Rattle.std.proofs.lemmas.List.{length-map}
use Rattle.bench_net.specs.Views.{texts}
use Rattle.bench_net.proofs.NetLemmas.{number_from_none}
use Rattle.lot_plan.proofs.names.file_number.Goals as goal

pub returns-in-None : goal.returns-in-None
returns-in-None c =
    c.len.ensures.len ∙ sym (length-map c.args.files.now.keys (λ k. k.now))
    ∙ number_from_none (texts c.args.files.now.keys) c.args.file.now c.in-None.ensures
