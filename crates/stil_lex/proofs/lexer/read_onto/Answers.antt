use Rattle.std.proofs.Common.{◌∙◌, sym, inr, Ok, drop, arith}
use Rattle.std.proofs.lemmas.List.{take_rest, length-take, length-drop}
use Rattle.stil_lex.proofs.Loop.{front_at, front_len, feeds_at, goes_on, stops}
use Rattle.stil_lex.proofs.lexer.read_onto.Goals as goal

pub returns-in-Err : goal.returns-in-Err
returns-in-Err c =
    let is = rw take_rest at c.front_of.ensures in
    inr (stops c.args.bytes.now c.loop-at.at c.loop-at.line c.loop-at.tokens.items c.in-Err.fault c.loop-at.invariant (sym c.in-Err.is ∙ is))

pub overflow_add-end : goal.overflow_add-end
overflow_add-end c =
    let is = rw take_rest at c.front_of.ensures in
    let f = front_at c.args.bytes.now c.loop-at.at (Ok c.in-Ok.front) (omega arith) (sym c.in-Ok.is ∙ is) in
    omega (arith, (front_len c.args.bytes.now c.loop-at.at _ _ (omega arith) f).1)

pub overflow_cast-end : goal.overflow_cast-end
overflow_cast-end c =
    let is = rw take_rest at c.front_of.ensures in
    let f = front_at c.args.bytes.now c.loop-at.at (Ok c.in-Ok.front) (omega arith) (sym c.in-Ok.is ∙ is) in
    omega (arith, (front_len c.args.bytes.now c.loop-at.at _ _ (omega arith) f).1)

pub slice_bounds-feeds_of-end : goal.slice_bounds-feeds_of-end
slice_bounds-feeds_of-end c =
    let is = rw take_rest at c.front_of.ensures in
    let f = front_at c.args.bytes.now c.loop-at.at (Ok c.in-Ok.front) (omega arith) (sym c.in-Ok.is ∙ is) in
    let len = front_len c.args.bytes.now c.loop-at.at _ _ (omega arith) f in
    simp (length-take, length-drop) (omega arith)

pub loop-at-smaller : goal.loop-at-smaller
loop-at-smaller c =
    let is = rw take_rest at c.front_of.ensures in
    let f = front_at c.args.bytes.now c.loop-at.at (Ok c.in-Ok.front) (omega arith) (sym c.in-Ok.is ∙ is) in
    let len = front_len c.args.bytes.now c.loop-at.at _ _ (omega arith) f in
    omega arith

pub loop-at-preserved : goal.loop-at-preserved
loop-at-preserved c =
    let is = rw take_rest at c.front_of.ensures in
    let f = front_at c.args.bytes.now c.loop-at.at (Ok c.in-Ok.front) (omega arith) (sym c.in-Ok.is ∙ is) in
    let told = rw take_rest at c.feeds_of.ensures in
    let feeds = feeds_at (drop c.loop-at.at c.args.bytes.now) _ _ c.feeds_of.result f told in
    let next = goes_on c.args.bytes.now c.loop-at.at c.loop-at.line c.loop-at.tokens.items c.in-Ok.front.kind c.in-Ok.front.len c.feeds_of.result c.loop-at.invariant f feeds in
    rw c.in_ok-keep.ensures next
