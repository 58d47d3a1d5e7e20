use Rattle.text_bytes.specs.Texts.{key_texts}
use Rattle.bench_net.specs.Views.{texts}
use Rattle.bench_net.proofs.NumberLemmas.{names-more, AreNumbers-more, AreNumbers-done}
use Rattle.bench_net.proofs.numbers.numbers.Goals as goal

pub loop-rest-preserved : goal.loop-rest-preserved
loop-rest-preserved c = record {
  names = names-more
      (key_texts c.loop-rest.names.keys) _ _ c.loop-rest.rest.now _ c.in-len1-up.len_at_least c.in_ok-net.ensures.names c.loop-rest.invariant.names;
  numbers = AreNumbers-more
      (key_texts c.loop-rest.names.keys) _ (key_texts c.args.names.now.keys) (texts c.args.pins.now) c.loop-rest.nets.items _ c.loop-rest.rest.now _ c.in_ok-net.net c.in-len1-up.len_at_least c.in_ok-net.ensures.names c.in_ok-net.ensures.number c.in_ok-push.ensures.items c.loop-rest.invariant.numbers;
}

pub returns-clause-numbers : goal.returns-clause-numbers
returns-clause-numbers c =
    AreNumbers-done
    (key_texts c.loop-rest.names.keys) (key_texts c.args.names.now.keys) (texts c.args.pins.now) c.loop-rest.nets.items c.from_vec.result c.loop-rest.rest.now c.in_default.len_below c.from_vec.ensures c.loop-rest.invariant.numbers
