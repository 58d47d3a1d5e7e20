use Rattle.std.proofs.Common.{◌+◌, ◌∷◌, sym, subst, ap, length, map, reverse, take, arith, ◌∙◌}
use Rattle.std.proofs.lemmas.List.{length-map, length-append, length-take-le}
use Rattle.stil_tree.specs.Trees.{entry_of, trees_from}
use Rattle.stil_tree.specs.Step.{closed}
use Rattle.stil_tree.specs.Memory.{level, frames, Stand}
use Rattle.stil_tree.proofs.Blocks.{finished, innermost, stands-more}
use Rattle.stil_tree.proofs.Steps.{closed-done}
use Rattle.stil_tree.proofs.builder.Builder.close_block.Goals as goal

pub returns-clause-state : goal.returns-clause-state
returns-clause-state c =
    let o = c.in-Some.block in
    let os = reverse c.pop.new.self.items in
    let done = map entry_of c.args.self.now.done.items in
    let here = innermost c.args.self.now.blocks.items c.pop.new.self.items o c.in-Some.ensures.items in
    let stand : Stand (o ∷ os) (length done) =
    subst (Stand (o ∷ os)) (sym (length-map c.args.self.now.done.items entry_of))
    (subst (λ bs. Stand bs (length c.args.self.now.done.items)) here c.requires.standing) in
    finished os o done (map entry_of c.close.new.done.items) (c.args.at + 1) stand c.in_ok-close.ensures
    ∙ sym (ap (λ bs. closed c.args.at (frames bs done) (trees_from (level bs done)) c.args.self.now.first) here
    ∙ closed-done c.args.at (record { before = trees_from (level os (take o.start done)); first = o.first; count = o.count })
    (frames os (take o.start done)) (trees_from (level (o ∷ os) done)) c.args.self.now.first (omega arith))

pub returns-clause-stands : goal.returns-clause-stands
returns-clause-stands c =
    let o = c.in-Some.block in
    let os = reverse c.pop.new.self.items in
    let old = c.args.self.now.done.items in
    let here = innermost c.args.self.now.blocks.items c.pop.new.self.items o c.in-Some.ensures.items in
    let stand : Stand (o ∷ os) (length old) = subst (λ bs. Stand bs (length old)) here c.requires.standing in
    let long = sym (length-map c.close.new.done.items entry_of) ∙ ap length c.in_ok-close.ensures ∙ length-append (take o.start (map entry_of old)) _ in
    let short = length-take-le o.start (map entry_of old) (omega (arith, length-map old entry_of, stand.0)) in
    stands-more os o.start _ (omega (arith, long, short)) stand.1
