use Rattle.std.proofs.Common.{sym, ◌∙◌}
use Rattle.std.proofs.lemmas.List.{length-map}
use Rattle.text_bytes.specs.Texts.{key_texts}
use Rattle.bench_net.proofs.NetLemmas.{number_from_none}
use Rattle.bench_net.proofs.numbers.number.Goals as goal

pub returns-in-None : goal.returns-in-None
returns-in-None c =
    c.len.ensures.len ∙ sym (length-map c.args.names.now.keys (λ k. k.items))
    ∙ number_from_none (key_texts c.args.names.now.keys) c.args.name.now c.in-None.ensures
