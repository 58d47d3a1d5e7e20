use Rattle.std.proofs.Common.{sym, ◌∙◌}
use Rattle.std.specs.Str.{bytes_eq}
use Rattle.bench_net.proofs.NetLemmas.{position-map}
use Rattle.bench_net.proofs.numbers.place_in.Goals as goal

pub returns : goal.returns
returns c = c.get_index_of.ensures.index
    ∙ sym (position-map (λ k. k.items) (bytes_eq c.args.name.now) c.args.names.now.keys)
