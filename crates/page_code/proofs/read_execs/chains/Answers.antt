use Rattle.std.proofs.Common.{[], List, Ok, ap, sym, ◌∙◌}
use Rattle.std.proofs.lemmas.Result.{err_from_is_err_and}
use Rattle.page_code.specs.Fields.{items_at}
use Rattle.page_code.specs.Reading.{chain_at}
use Rattle.packed_code.specs.declared.parts.CodeChain.{CodeChain}
use Rattle.page_code.proofs.ItemsLemmas.{goes_on, stops, is_done}
use Rattle.page_code.proofs.read_execs.chains.Goals as goal

pub returns-in_err-chain : goal.returns-in_err-chain
returns-in_err-chain c =
    let p = err_from_is_err_and c.from_residual.result c.from_residual.ensures.1 in
    rw (p.1, p.2)
    (stops c.in_err-chain.field-0.0 (λ before. chain_at c.args.signals) c.loop.chains.items c.args.count c.loop.counter c.loop.rest.now
    (items_at (λ before. chain_at c.args.signals) c.args.count [] c.args.bytes.now) c.loop-test.true c.in_err-chain.ensures c.loop.invariant)

pub loop-preserved : goal.loop-preserved
loop-preserved c =
    rw c.in_ok-push.ensures.items
    (goes_on (λ before. chain_at c.args.signals) c.loop.chains.items c.args.count c.loop.counter c.loop.rest.now c.in_ok-chain.chain c.in_ok-chain.after.now
    (items_at (λ before. chain_at c.args.signals) c.args.count [] c.args.bytes.now) c.loop-test.true c.in_ok-chain.ensures c.loop.invariant)

pub returns : goal.returns
returns c =
    is_done (λ before. chain_at c.args.signals) c.loop.chains.items c.args.count c.loop.counter c.loop.rest.now
    (items_at (λ before. chain_at c.args.signals) c.args.count [] c.args.bytes.now) c.loop-test.false c.loop.invariant
    ∙ ap (λ (items : List CodeChain). Ok (items, c.loop.rest.now)) (sym c.from_vec.ensures)
