use Rattle.std.proofs.Common.{◌≡◌, ◌<◌, ℕ, List, Bool, true, false, Option, None, length, map, sym, ap, ◌∙◌, arith, subst}
use Rattle.std.specs.Prelude.{is_some, slice_index_or}
use Rattle.std.proofs.lemmas.List.{length-map}
use Rattle.stil_ast.specs.declared.fault.StilKind.{StilKind}
use Rattle.signal_groups.specs.Graph.{IsStuck, is_done}
use Rattle.signal_groups.specs.Located.{group_at}
use Rattle.signal_groups.proofs.CompleteLemmas.{graph-below, bad-refused, stuck-refused, completes-refused, completes-done}
use Rattle.signal_groups.proofs.complete.complete.Goals as goal

pub refusal-requires-clause-below : goal.refusal-requires-clause-below
refusal-requires-clause-below c =
    graph-below c.args.table.texts c.args.table.groups (map group_at c.args.groups.now) c.as_slice-then-first_bad-len-2.result.now
    (c.as_slice-then-first_bad-len-2.ensures.value ∙ c.in_ok-kinds.ensures.graph)
    (c.requires.each ∙ sym (length-map c.args.groups.now group_at))

pub refusal-requires-clause-some : goal.refusal-requires-clause-some
refusal-requires-clause-some c =
    let groups = map group_at c.args.groups.now in
    let count : length c.as_slice.result.now ≡ length groups =
    ap length (c.as_slice.ensures.value ∙ c.in_ok-kinds.ensures.kinds) ∙ length-map groups _ in
    let lt : c.first_bad.result < length c.as_slice.result.now =
    omega (arith, c.if-first_bad-len.true, c.len.ensures, c.as_slice.ensures.len) in
    bad-refused c.as_slice-then-first_bad-len.result.now c.as_slice-then-first_bad-len-2.result.now groups c.first_bad.result
    (omega (arith, lt, count))
    (subst (λ (ks : List (Option StilKind)). is_some (slice_index_or ks c.first_bad.result None) ≡ true)
    (c.as_slice.ensures.value ∙ sym c.as_slice-then-first_bad-len.ensures.value) (c.first_bad.ensures.bad lt))

pub returns-then-first_bad-len : goal.returns-then-first_bad-len
returns-then-first_bad-len c = λ names begun.
    completes-refused names (map group_at c.args.groups.now) c.args.table c.as_slice-then-first_bad-len.result.now
    c.as_slice-then-first_bad-len-2.result.now c.refusal.result begun
    (c.as_slice-then-first_bad-len.ensures.value ∙ c.in_ok-kinds.ensures.kinds)
    (c.as_slice-then-first_bad-len-2.ensures.value ∙ c.in_ok-kinds.ensures.graph) c.refusal.ensures

pub refusal-requires-then-first_waiting-len-clause-below : goal.refusal-requires-then-first_waiting-len-clause-below
refusal-requires-then-first_waiting-len-clause-below c =
    graph-below c.args.table.texts c.args.table.groups (map group_at c.args.groups.now) c.as_slice-then-first_waiting-len-2.result.now
    (c.as_slice-then-first_waiting-len-2.ensures.value ∙ c.in_ok-kinds.ensures.graph)
    (c.requires.each ∙ sym (length-map c.args.groups.now group_at))

pub refusal-requires-then-first_waiting-len-clause-some : goal.refusal-requires-then-first_waiting-len-clause-some
refusal-requires-then-first_waiting-len-clause-some c =
    let groups = map group_at c.args.groups.now in
    let graph = c.as_slice-then-first_waiting-len-2.result.now in
    let same : c.as_slice-2.result.now ≡ graph = c.as_slice-2.ensures.value ∙ sym c.as_slice-then-first_waiting-len-2.ensures.value in
    let each : length groups ≡ length graph =
    sym (ap length (c.as_slice-then-first_waiting-len-2.ensures.value ∙ c.in_ok-kinds.ensures.graph) ∙ length-map groups _) in
    let lt : c.first_waiting.result < length c.as_slice-3.result.now =
    omega (arith, c.if-first_waiting-len.true, c.len-3.ensures, c.as_slice-3.ensures.len) in
    let done : length c.as_slice-3.result.now ≡ length graph =
    ap length c.as_slice-3.ensures.value ∙ c.in_ok-settle.ensures.count ∙ ap length same in
    stuck-refused c.as_slice-then-first_waiting-len.result.now graph groups c.settle.new.done.items c.first_waiting.result
    (graph-below c.args.table.texts c.args.table.groups groups graph
    (c.as_slice-then-first_waiting-len-2.ensures.value ∙ c.in_ok-kinds.ensures.graph)
    (c.requires.each ∙ sym (length-map c.args.groups.now group_at)))
    each (subst (λ (gr : List (List ℕ)). IsStuck gr c.settle.new.done.items) same c.in_ok-settle.ensures.stuck)
    (omega (arith, lt, done))
    (subst (λ (ds : List Bool). is_done ds c.first_waiting.result ≡ false) c.as_slice-3.ensures.value (c.first_waiting.ensures.waiting lt))

pub returns-then-first_waiting-len : goal.returns-then-first_waiting-len
returns-then-first_waiting-len c = λ names begun.
    completes-refused names (map group_at c.args.groups.now) c.args.table c.as_slice-then-first_waiting-len.result.now
    c.as_slice-then-first_waiting-len-2.result.now c.refusal-then-first_waiting-len.result begun
    (c.as_slice-then-first_waiting-len.ensures.value ∙ c.in_ok-kinds.ensures.kinds)
    (c.as_slice-then-first_waiting-len-2.ensures.value ∙ c.in_ok-kinds.ensures.graph) c.refusal-then-first_waiting-len.ensures

pub returns : goal.returns
returns c = λ names begun.
    let groups = map group_at c.args.groups.now in
    let graph = c.as_slice-2.result.now in
    let eg = c.as_slice-2.ensures.value ∙ c.in_ok-kinds.ensures.graph in
    let count : length c.as_slice.result.now ≡ length groups =
    ap length (c.as_slice.ensures.value ∙ c.in_ok-kinds.ensures.kinds) ∙ length-map groups _ in
    let each : length groups ≡ length graph = sym (ap length eg ∙ length-map groups _) in
    let done : length c.as_slice-3.result.now ≡ length graph = ap length c.as_slice-3.ensures.value ∙ c.in_ok-settle.ensures.count in
    completes-done names groups c.args.table c.settle.new.table c.in_ok-kinds.kinds.items graph c.settle.new.done.items begun
    c.in_ok-kinds.ensures.kinds eg
    (λ k lk.
    subst (λ (ks : List (Option StilKind)). slice_index_or ks k None ≡ None) c.as_slice.ensures.value
    (c.first_bad.ensures.before k
    (omega (arith, lk, c.if-first_bad-len.false, c.len.ensures, c.as_slice.ensures.len, count, each))))
    (λ k lk.
    subst (λ (ds : List Bool). is_done ds k ≡ true) c.as_slice-3.ensures.value
    (c.first_waiting.ensures.before k
    (omega (arith, lk, c.if-first_waiting-len.false, c.len-3.ensures, c.as_slice-3.ensures.len, done))))
    c.in_ok-settle.ensures.settled
