use Rattle.plan_rows.proofs.TallyLemmas.{added-put}
use Rattle.plan_rows.proofs.tally.put_name.Goals as goal

pub returns : goal.returns
returns c = added-put (λ k. k.items) c.args.names.now.keys c.insert.new.self.keys c.args.name.now c.in_ok-name.name
    c.in_ok-name.ensures.items c.in_ok-insert.ensures.keys
