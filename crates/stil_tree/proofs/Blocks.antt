-- The open blocks in memory, as statements are added and blocks are opened and closed.
use Rattle.std.proofs.Common.{◌≡◌, ℕ, zero, suc, ◌≤◌, List, [], ◌∷◌, ◌++◌, length, reverse, take, drop, None, Some, refl, ap, ◌∙◌, arith}
use Rattle.std.proofs.lemmas.List.{append-nil, drop-append-le, take-append-le, take_all, drop_all, length-take-le, reverse-append}
use Rattle.stil_tree.specs.declared.builder.Open.{Open}
use Rattle.stil_tree.specs.Trees.{Entry, end, block, trees_from}
use Rattle.stil_tree.specs.Step.{going, join, ended_by}
use Rattle.stil_tree.specs.Memory.{level, frames, Stand, ended_entry}
use Rattle.stil_tree.proofs.Lists.{trees_from-push}

-- more statements are more of the innermost block
level-more : (os : List Open) (done more : List Entry) → Stand os (length done) → level os (done ++ more) ≡ level os done ++ more
level-more [] done more stand = refl
level-more (o ∷ os) done more stand = drop-append-le o.start done more stand.0

-- the blocks around it stay
frames-more : (os : List Open) (done more : List Entry) → Stand os (length done) → frames os (done ++ more) ≡ frames os done
frames-more [] done more stand = refl
frames-more (o ∷ os) done more stand = rw (take-append-le o.start done more stand.0) refl

-- blocks stand within more statements too
pub stands-more : (os : List Open) (n m : ℕ) → n ≤ m → Stand os n → Stand os m
stands-more [] n m less stand = tt
stands-more (o ∷ os) n m less stand = (omega (arith, less, stand.0), stand.1)

-- a statement without a block is one entry more, or none
trees-ended : (es : List Entry) (first width : ℕ) → trees_from (es ++ ended_entry first width) ≡ ended_by (trees_from es) first width
trees-ended es first zero = ap trees_from (append-nil es)
trees-ended es first (suc width) = trees_from-push es (record { first = first; count = suc width; body = None })

-- the state behind the end of a statement
pub ended : (os : List Open) (done now : List Entry) (first width next : ℕ) → Stand os (length done) → now ≡ done ++ ended_entry first width →
    going (frames os now) (trees_from (level os now)) next ≡ going (frames os done) (ended_by (trees_from (level os done)) first width) next
ended os done now first width next stand is =
    let more = ended_entry first width in
    ap (λ es. going (frames os es) (trees_from (level os es)) next) is
    ∙ ap (λ fs. going fs (trees_from (level os (done ++ more))) next) (frames-more os done more stand)
    ∙ ap (λ ts. going (frames os done) ts next) (ap trees_from (level-more os done more stand) ∙ trees-ended (level os done) first width)

-- the state behind the opening of a block
pub begun : (os : List Open) (o : Open) (done : List Entry) (next : ℕ) → o.start ≡ length done →
    going (frames (o ∷ os) done) (trees_from (level (o ∷ os) done)) next
    ≡ going (record { before = trees_from (level os done); first = o.first; count = o.count } ∷ frames os done) end next
begun os o done next start =
    let all : take o.start done ≡ done = take_all o.start done (omega (arith, start)) in
    let none : drop o.start done ≡ [] = drop_all o.start done (omega (arith, start)) in
    rw (all, none) refl

-- the state behind its end
pub finished : (os : List Open) (o : Open) (done now : List Entry) (next : ℕ) → Stand (o ∷ os) (length done) →
    now ≡ take o.start done ++ record { first = o.first; count = o.count; body = Some (trees_from (drop o.start done)) } ∷ [] →
    going (frames os now) (trees_from (level os now)) next
    ≡ going (frames os (take o.start done))
    (join (trees_from (level os (take o.start done))) (block o.first o.count (trees_from (level (o ∷ os) done)) end)) next
finished os o done now next stand is =
    let before = take o.start done in
    let e : Entry = record { first = o.first; count = o.count; body = Some (trees_from (drop o.start done)) } in
    let long : length before ≡ o.start = length-take-le o.start done stand.0 in
    let stand' : Stand os (length before) = stands-more os o.start (length before) (omega (arith, long)) stand.1 in
    ap (λ es. going (frames os es) (trees_from (level os es)) next) is
    ∙ ap (λ fs. going fs (trees_from (level os (before ++ e ∷ []))) next) (frames-more os before (e ∷ []) stand')
    ∙ ap (λ ts. going (frames os before) ts next) (ap trees_from (level-more os before (e ∷ []) stand') ∙ trees_from-push (level os before) e)

-- the innermost block in memory is the last
pub innermost : (old new : List Open) (o : Open) → old ≡ new ++ o ∷ [] → reverse old ≡ o ∷ reverse new
innermost old new o is = ap reverse is ∙ reverse-append new (o ∷ [])
