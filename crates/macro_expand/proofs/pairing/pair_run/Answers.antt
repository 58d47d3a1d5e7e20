use Rattle.std.proofs.Common.{arith, subst, get_or, ◌≡◌, ◌++◌, ◌+◌, ◌-◌, List, ap, sym, ◌∙◌, drop, length, map, replicate}
use Rattle.stil_ast.specs.Data.Items.{item_of}
use Rattle.stil_ast.specs.Meaning.Statements.{Item}
use Rattle.macro_expand.specs.declared.pairing.Pair.{Pair}
use Rattle.macro_expand.specs.Pairs.{taker_of, paired}
use Rattle.macro_expand.proofs.PairLemmas.{pair_more, replicate-less}
use Rattle.macro_expand.proofs.pairing.pair_run.Goals as goal

pub loop-preserved : goal.loop-preserved
loop-preserved c = λ rest.
    let item = item_of c.args.run.item in
    let left = replicate (c.args.run.times - (c.loop.counter + 1)) item ++ rest in
    let signals = c.args.signals.now in
    let same : c.len.result ≡ length c.loop.pairs.items = omega (arith, c.len.ensures, c.loop.pairs.ok) in
    let pair : Pair = record { signal = c.in-Some.signal.now; item = c.args.run.item } in
    ap (λ (pairs : List Pair). map taker_of pairs ++ paired (drop (length pairs) signals) left) c.in_ok-push-in-Some.ensures.items
    ∙ pair_more signals c.loop.pairs.items pair left (omega (arith, c.len.ensures, c.in-Some.ensures.lookup.3.0))
    (subst (λ n. c.in-Some.signal.now ≡ get_or signals n c.in-Some.signal.now) same c.in-Some.ensures.lookup.1)
    ∙ ap (λ (items : List Item). map taker_of c.loop.pairs.items ++ paired (drop (length c.loop.pairs.items) signals) (items ++ rest))
    (sym (replicate-less item c.args.run.times c.loop.counter c.loop-test.true))
    ∙ c.loop.invariant rest
