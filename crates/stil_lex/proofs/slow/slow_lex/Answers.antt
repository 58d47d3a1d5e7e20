use Rattle.std.proofs.Common.{arith}
use Rattle.std.proofs.lemmas.List.{take_rest}
use Rattle.stil_lex.proofs.Slowly.{goes_on_slowly}
use Rattle.stil_lex.proofs.SlowlyBack.{no_reading}
use Rattle.stil_lex.proofs.slow.slow_lex.Goals as goal

pub loop-at-preserved : goal.loop-at-preserved
loop-at-preserved c =
    let begins = rw take_rest at c.in-Some.ensures.some in
    let next = goes_on_slowly c.args.bytes.now c.loop-at.at c.loop-at.tokens.items c.in-Some.front.kind c.in-Some.front.len c.loop-at.invariant begins in
    rw (c.in_ok-keep.ensures, c.line_feeds.ensures) next

pub returns-in_default-clause-none : goal.returns-in_default-clause-none
returns-in_default-clause-none c = λ tokens reads.
    let none = rw take_rest at c.in_default.ensures.none in
    no_reading c.args.bytes.now c.loop-at.at _ c.loop-at.tokens.items tokens c.loop-at.invariant (omega arith) none reads
