use Rattle.std.proofs.Common.{◌∙◌, ◌∷◌, [], ◌++◌, Some, ap, sym, map, drop}
use Rattle.std.proofs.lemmas.List.{take-map, drop-map}
use Rattle.stil_tree.specs.Trees.{entry_of, trees_from}
use Rattle.stil_tree.proofs.Lists.{entries-push_block}
use Rattle.stil_tree.proofs.builder.close.Goals as goal

pub returns : goal.returns
returns c =
    let o = c.args.block.now in
    let old = c.args.done.now.items in
    let body = c.from_vec.ensures ∙ ap (λ ss. trees_from (map entry_of ss)) c.in_ok-body.ensures.tail
    ∙ ap trees_from (sym (drop-map entry_of o.start old)) in
    entries-push_block _ _ o.first o.count _ _ c.in_ok-push.ensures.items body
    ∙ ap (λ es. es ++ record { first = o.first; count = o.count; body = Some (trees_from (drop o.start (map entry_of old))) } ∷ [])
    (ap (map entry_of) c.in_ok-body.ensures.items ∙ sym (take-map entry_of o.start old))
