use Rattle.std.proofs.lemmas.List.{take_rest}
use Rattle.stil_lex.proofs.SlowFaults.{found_is, none_is}
use Rattle.stil_lex.proofs.slow_faults.slow_fault.Goals as goal

pub returns-clause-some : goal.returns-clause-some
returns-clause-some c =
    let first = rw take_rest at c.refusal.ensures.some in
    found_is c.args.bytes.now c.pieces_len-at.result c.refusal.result c.pieces_len-at.ensures first

pub returns-clause-none : goal.returns-clause-none
returns-clause-none c =
    let none = rw take_rest at c.refusal.ensures.none in
    none_is c.args.bytes.now c.pieces_len-at.result c.refusal.result c.pieces_len-at.ensures none
