use Rattle.std.proofs.lemmas.List.{take_rest}
use Rattle.stil_lex.proofs.Slowly.{goes_on_slowly}
use Rattle.stil_lex.proofs.slow_faults.pieces_len.Goals as goal

pub loop-front-preserved : goal.loop-front-preserved
loop-front-preserved c =
    let begins = rw take_rest at c.in-Some.ensures.some in
    let read = c.loop-front.invariant in
    (_, goes_on_slowly c.args.bytes.now c.loop-front.at read.0 c.in-Some.front.kind c.in-Some.front.len read.1 begins)
