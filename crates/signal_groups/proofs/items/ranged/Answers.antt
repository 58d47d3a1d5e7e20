use Rattle.std.proofs.Common.{◌≡◌, ◌+◌, ◌++◌, ◌∷◌, ◌<◌, ℕ, List, length, drop, ap, sym, ◌∙◌, arith}
use Rattle.std.specs.List.{filter_map}
use Rattle.stil_ast.specs.Data.Texts.{indices, indexed}
use Rattle.signal_groups.specs.Lookup.{number_in}
use Rattle.signal_groups.proofs.LexedLemmas.{drop-at}
use Rattle.signal_groups.proofs.items.ranged.Goals as goal

pub loop-place-preserved : goal.loop-place-preserved
loop-place-preserved c =
    let is = indices c.args.range in
    let place = c.loop-place.place in
    let lt : place < length is = omega (arith, c.loop-place-test.true, c.index_count-place-end.ensures.count) in
    let next : c.index_at.result ∷ drop (place + 1) is ≡ drop place is =
    ap (λ i. i ∷ drop (place + 1) is) c.index_at.ensures ∙ sym (drop-at is place 0 lt) in
    c.in_ok-add_at.ensures (drop (place + 1) is)
    ∙ ap (λ (js : List ℕ). c.loop-place.found.items
    ++ filter_map (λ i. number_in c.args.table.now.texts (indexed c.args.name.now i)) js) next
    ∙ c.loop-place.invariant
