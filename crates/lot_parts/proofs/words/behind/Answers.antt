use Rattle.lot_parts.proofs.WordsLemmas.{begins, begins_other, begins_none}
use Rattle.lot_parts.proofs.words.behind.Goals as goal

pub returns-then-eq-clause-found : goal.returns-then-eq-clause-found
returns-then-eq-clause-found c =
    begins c.args.words.now c.in-Some.rest.now c.in-Some.first.now _ c.args.word.now c.in-Some.ensures.cases.0
    c.as_str.ensures.value c.if-eq.ensures

pub returns-else-eq-clause-none : goal.returns-else-eq-clause-none
returns-else-eq-clause-none c =
    begins_other c.args.words.now c.in-Some.rest.now c.in-Some.first.now _ c.args.word.now c.in-Some.ensures.cases.0
    c.as_str.ensures.value c.if-eq.ensures

pub returns-in-None-clause-none : goal.returns-in-None-clause-none
returns-in-None-clause-none c = begins_none c.args.words.now c.args.word.now c.in-None.ensures.cases
