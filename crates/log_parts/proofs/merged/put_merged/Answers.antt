use Rattle.std.proofs.Common.{ℕ, List, subst}
use Rattle.tester_types.specs.Outside.{Puts}
use Rattle.log_parts.proofs.MergedLemmas.{merged_is}
use Rattle.log_parts.proofs.merged.put_merged.Goals as goal

pub returns-clause-puts : goal.returns-clause-puts
returns-clause-puts g c = λ rows parts all.
    subst (λ (t : List ℕ). Puts (g.K.Sink.told c.args.sink.now) t c.put_lot.result (g.K.Sink.told c.put_lot.new.sink))
    (merged_is rows parts c.args.sites.now c.args.logs.now all c.requires) c.put_lot.ensures.puts
