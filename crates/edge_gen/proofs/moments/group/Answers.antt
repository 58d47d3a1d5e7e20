use Rattle.std.proofs.Common.{sym, append_assoc}
use Rattle.std.proofs.lemmas.List.Sums.{prefix_len-le-length}
use Rattle.std.proofs.lemmas.List.Sorted.{IsNonDecreasingBy-drop}
use Rattle.edge_gen.proofs.GroupLemmas.{grouped-first}
use Rattle.edge_gen.proofs.moments.group.Goals as goal

pub split_at-requires : goal.split_at-requires
split_at-requires c = rw c.count_at.ensures (prefix_len-le-length _ _)

pub loop-first-preserved : goal.loop-first-preserved
loop-first-preserved c =
    let rest = c.loop-first.rest.now in
    let start = c.args.start in
    let first = c.in-Some.first.now in
    let step = grouped-first start rest first (sym c.in-Some.ensures.value) c.loop-first.invariant.1 in
    let pushed = c.in_ok-push.ensures.items in
    let made = c.in_ok-moment.ensures in
    let front = c.split_at.ensures.front in
    let back = c.split_at.ensures.back in
    let whole = c.loop-first.invariant.0 in
    (rw (pushed, append_assoc) cc, rw back (IsNonDecreasingBy-drop (λ event. event.time) _ rest c.loop-first.invariant.1))
