use Rattle.bench_net.specs.Views.{texts}
use Rattle.lot_plan.proofs.NameLemmas.{keys-absent, with_file-new}
use Rattle.lot_plan.proofs.names.add.Goals as goal

pub returns : goal.returns
returns c = with_file-new (texts c.args.names.now.keys) (texts c.insert.new.self.keys) c.args.name.now c.if-is_among.ensures
    (keys-absent (λ k. k.now) c.args.names.now.keys c.insert.new.self.keys c.args.name c.if-is_among.ensures
    c.in_ok-insert.ensures.keys)
