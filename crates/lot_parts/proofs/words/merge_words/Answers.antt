use Rattle.std.proofs.Common.{◌≡◌, ◌∷◌, false, true, refl, arith}
use Rattle.lot_parts.proofs.WordsLemmas.{merge_is, merge_short, merge_none, files_long}
use Rattle.lot_parts.proofs.words.merge_words.Goals as goal

pub returns-in-None-clause-none : goal.returns-in-None-clause-none
returns-in-None-clause-none c = λ plan files are. c.in-None.ensures.none (plan ∷ files) are.is

pub returns-in-None-split_first-clause-none : goal.returns-in-None-split_first-clause-none
returns-in-None-split_first-clause-none c =
    merge_short _ c.in-Some.rest.now _ c.in-Some.ensures.found c.in-None-split_first.ensures.cases

pub returns-then-is_list-clause-found : goal.returns-then-is_list-clause-found
returns-then-is_list-clause-found c =
    let list = c.if-is_list.ensures.0 refl in
    record {
      some = omega (arith, list.0, files_long c.in-Some-split_first.files.now);
      few = omega (arith, list.1, files_long c.in-Some-split_first.files.now);
      is = merge_is _ c.in-Some.rest.now c.in-Some-split_first.files.now c.in-Some-split_first.plan.now _ c.as_str.result.now c.in-Some.ensures.found
          c.in-Some-split_first.ensures.cases.0 c.as_str.ensures.value;
    }

pub returns-else-is_list-clause-none : goal.returns-else-is_list-clause-none
returns-else-is_list-clause-none c =
    merge_none _ c.in-Some.rest.now c.in-Some-split_first.files.now c.in-Some-split_first.plan.now _ c.in-Some.ensures.found c.in-Some-split_first.ensures.cases.0
    (λ list. let wrong : false ≡ true = c.if-is_list.ensures.1 list in cc)
