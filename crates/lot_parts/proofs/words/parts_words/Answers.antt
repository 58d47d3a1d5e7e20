use Rattle.std.proofs.Common.{[], ◌∷◌, arith}
use Rattle.lot_parts.proofs.WordsLemmas.{one_word, parts_short}
use Rattle.lot_parts.proofs.words.parts_words.Goals as goal

pub returns-in-None-clause-none : goal.returns-in-None-clause-none
returns-in-None-clause-none c = λ plan are. c.in-None.ensures.none (plan ∷ []) are

pub returns-in-len1-clause-found : goal.returns-in-len1-clause-found
returns-in-len1-clause-found c =
    one_word _ c.in-Some.rest.now c.plan-item.result _ c.as_str.result.now c.in-Some.ensures.found
    c.in-len1.len_at_least c.in-len1.len_below c.plan-item.is c.as_str.ensures.value

pub returns-in_default-clause-none : goal.returns-in_default-clause-none
returns-in_default-clause-none c =
    parts_short _ c.in-Some.rest.now _ c.in-Some.ensures.found (λ same. grind (arith, same))
