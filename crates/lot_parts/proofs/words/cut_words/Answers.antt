use Rattle.std.proofs.Common.{[], ◌∷◌, arith}
use Rattle.lot_parts.proofs.WordsLemmas.{three_words, cut_none, cut_short}
use Rattle.lot_parts.proofs.words.cut_words.Goals as goal

pub returns-in-None-clause-none : goal.returns-in-None-clause-none
returns-in-None-clause-none c = λ plan parts part are. c.in-None.ensures.none (plan ∷ are.last) are.is

pub returns-in-None-part_of-clause-none : goal.returns-in-None-part_of-clause-none
returns-in-None-part_of-clause-none c =
    cut_none _ _ c.as_str-plan.result.now c.as_str-which.result.now c.as_str-of.result.now
    (three_words _ c.in-Some.rest.now c.first-item.result c.second-item.result c.third-item.result _ c.as_str-plan.result.now
    c.as_str-which.result.now c.as_str-of.result.now c.in-Some.ensures.found c.in-len3.len_at_least c.in-len3.len_below
    c.first-item.is c.second-item.is c.third-item.is c.as_str-plan.ensures.value c.as_str-which.ensures.value c.as_str-of.ensures.value)
    c.in-None-part_of.ensures.none

pub returns-in-Some-part_of-clause-found : goal.returns-in-Some-part_of-clause-found
returns-in-Some-part_of-clause-found c = record {
  last = c.as_str-which.result.now ∷ c.as_str-of.result.now ∷ [];
  of = c.in-Some-part_of.ensures.found;
  is =
      three_words _ c.in-Some.rest.now c.first-item.result c.second-item.result c.third-item.result _ c.as_str-plan.result.now
      c.as_str-which.result.now c.as_str-of.result.now c.in-Some.ensures.found c.in-len3.len_at_least c.in-len3.len_below
      c.first-item.is c.second-item.is c.third-item.is c.as_str-plan.ensures.value c.as_str-which.ensures.value c.as_str-of.ensures.value;
}

pub returns-in_default-clause-none : goal.returns-in_default-clause-none
returns-in_default-clause-none c =
    cut_short _ c.in-Some.rest.now _ c.in-Some.ensures.found (λ same. grind (arith, same))
