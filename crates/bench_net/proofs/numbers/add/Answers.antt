use Rattle.std.proofs.Common.{ap, ◌∙◌, arith}
use Rattle.std.proofs.lemmas.List.{length-map}
use Rattle.text_bytes.specs.Texts.{added, key_texts}
use Rattle.bench_net.proofs.NumberLemmas.{added-numbered, added-inserted, IsNumber-place}
use Rattle.bench_net.proofs.numbers.add.Goals as goal

pub returns-then-place-len-clause-names : goal.returns-then-place-len-clause-names
returns-then-place-len-clause-names c =
    let keys = c.args.names.now.keys in
    added-numbered (key_texts keys) c.args.name.now
    (omega (arith, c.if-place-len.true, c.number-place.ensures, c.len.ensures.len, length-map keys (λ k. k.items)))

pub returns-then-place-len-clause-number : goal.returns-then-place-len-clause-number
returns-then-place-len-clause-number c =
    IsNumber-place (key_texts c.args.names.now.keys) c.args.name.now c.number-place.result c.kept.result c.number-place.ensures c.kept.ensures

pub returns-clause-names : goal.returns-clause-names
returns-clause-names c =
    added-inserted (λ k. k.items) c.args.names.now.keys c.insert.new.self.keys c.in_ok-owned.owned c.in_ok-insert.ensures.keys
    ∙ ap (added (key_texts c.args.names.now.keys)) c.in_ok-owned.ensures.items

pub returns-clause-number : goal.returns-clause-number
returns-clause-number c =
    IsNumber-place (key_texts c.args.names.now.keys) c.args.name.now c.number-place.result c.kept-2.result c.number-place.ensures c.kept-2.ensures
