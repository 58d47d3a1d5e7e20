use Rattle.std.proofs.Common.{◌∙◌}
use Rattle.text_bytes.specs.Texts.{key_texts}
use Rattle.bench_net.specs.Numbers.{lacks}
use Rattle.bench_net.proofs.KeyLemmas.{find_rest}
use Rattle.bench_net.proofs.build.first_missing.Goals as goal

pub loop-rest-preserved : goal.loop-rest-preserved
loop-rest-preserved c =
    find_rest (lacks
    (key_texts c.args.names.now.keys) c.args.driven.now) c.loop-rest.rest.now c.line-item.result c.in-len1-up.len_at_least c.line-item.is c.in-None.ensures
    ∙ c.loop-rest.invariant
