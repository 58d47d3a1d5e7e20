use Rattle.std.proofs.Common.{arith}
use Rattle.lot_parts.proofs.WordsLemmas.{is_part, no_parts, no_which, past_last}
use Rattle.lot_parts.proofs.words.part_of.Goals as goal

pub returns-in-None-clause-none : goal.returns-in-None-clause-none
returns-in-None-clause-none c = no_parts c.args.which.now c.args.of.now c.in-None.ensures.none

pub returns-in-None-read_count-clause-none : goal.returns-in-None-read_count-clause-none
returns-in-None-read_count-clause-none c = no_which c.args.which.now c.args.of.now c.in-None-read_count.ensures.none

pub returns-then-number-parts-clause-none : goal.returns-then-number-parts-clause-none
returns-then-number-parts-clause-none c =
    let w = c.in-Some-read_count.ensures.found in
    let p = c.in-Some.ensures.found in
    past_last c.args.which.now c.args.of.now c.in-Some-read_count.number c.in-Some.parts w.1 p.1 w.2 p.2 (omega arith)

pub returns-clause-found : goal.returns-clause-found
returns-clause-found c =
    let w = c.in-Some-read_count.ensures.found in
    let p = c.in-Some.ensures.found in
    is_part c.args.which.now c.args.of.now c.in-Some-read_count.number c.in-Some.parts w.0 (omega arith) p.1 w.2 p.2
