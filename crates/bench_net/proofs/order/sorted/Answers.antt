use Rattle.std.proofs.Common.{◌≡◌, ◌<◌, ℕ, List, [], get_or, length, subst, sym, ap, ◌∙◌, arith}
use Rattle.std.proofs.lemmas.List.{get_or_read}
use Rattle.bench_net.specs.Sorting.{AreReadyBelow, CanSettle, walked}
use Rattle.bench_net.proofs.WalkLemmas.{Walk-starts}
use Rattle.bench_net.proofs.NextLemmas.{Walk-next, Walk-goes_on, CanSettle-Walk, net_within, walk-smaller}
use Rattle.bench_net.proofs.order.sorted.Goals as goal

pub loop-at-init : goal.loop-at-init
loop-at-init c =
    Walk-starts c.args.drivers.now c.in_ok-left.left.items c.in_ok-order.order.items c.in_ok-left.ensures
    (subst (λ (l : List ℕ). AreReadyBelow c.args.drivers.now l c.in_ok-order.order.items
    (length c.args.drivers.now)) c.as_slice.ensures.value c.in_ok-order.ensures)

pub readers_at-gates-requires : goal.readers_at-gates-requires
readers_at-gates-requires c =
    let l : c.loop-at.at < length c.loop-at.order.items = omega (arith, c.loop-at.order.ok) in
    let read = get_or_read c.loop-at.order.items c.loop-at.at c.index.result.now l c.index.ensures 0
    in
    let within = net_within c.args.drivers.now c.loop-at.left.items c.loop-at.order.items _ _ c.loop-at.at l c.loop-at.invariant in
    omega (arith, read, within, c.requires.readers.one_each)

pub settle-requires : goal.settle-requires
settle-requires c =
    let l : c.loop-at.at < length c.loop-at.order.items = omega (arith, c.loop-at.order.ok) in
    let read = get_or_read c.loop-at.order.items c.loop-at.at c.index.result.now l c.index.ensures 0
    in
    let gates : c.readers_at-gates.result.now
    ≡ get_or c.args.readers.now (get_or c.loop-at.order.items c.loop-at.at 0)
    [] = c.readers_at-gates.ensures ∙ ap (λ n. get_or c.args.readers.now n []) read in
    subst (λ (gs : List ℕ). CanSettle c.loop-at.left.items gs) (sym gates)
    (CanSettle-Walk c.args.drivers.now c.loop-at.left.items c.loop-at.order.items _ _
    (Walk-next c.args.drivers.now c.args.readers.now c.loop-at.left.items c.loop-at.order.items c.loop-at.at l c.requires.readers c.loop-at.invariant))

pub loop-at-smaller : goal.loop-at-smaller
loop-at-smaller c =
    let l : c.loop-at.at < length c.loop-at.order.items = omega (arith, c.loop-at.order.ok) in
    walk-smaller c.loop-at.left.items c.loop-at.order.items c.settle.new.left.items c.settle.new.order.items c.readers_at-gates.result.now c.loop-at.at l c.in_ok-settle.ensures

pub loop-at-preserved : goal.loop-at-preserved
loop-at-preserved c =
    let l : c.loop-at.at < length c.loop-at.order.items = omega (arith, c.loop-at.order.ok) in
    let read = get_or_read c.loop-at.order.items c.loop-at.at c.index.result.now l c.index.ensures 0
    in
    let gates : c.readers_at-gates.result.now
    ≡ get_or c.args.readers.now (get_or c.loop-at.order.items c.loop-at.at 0)
    [] = c.readers_at-gates.ensures ∙ ap (λ n. get_or c.args.readers.now n []) read in
    Walk-goes_on c.args.drivers.now c.args.readers.now c.loop-at.left.items c.loop-at.order.items c.settle.new.left.items c.settle.new.order.items c.loop-at.at l c.requires.readers c.loop-at.invariant
    (c.in_ok-settle.ensures ∙ ap (walked c.loop-at.left.items c.loop-at.order.items) gates)
