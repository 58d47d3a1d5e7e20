use Rattle.std.proofs.Common.{◌≡◌, false, true, refl, arith}
use Rattle.lot_parts.proofs.WordsLemmas.{merge_grade_none, files_long}
use Rattle.lot_parts.proofs.words.merge_grade_words.Goals as goal

pub returns-in-None-clause-none : goal.returns-in-None-clause-none
returns-in-None-clause-none c = λ files are. c.in-None.ensures.none files are.is

pub returns-then-is_list-clause-found : goal.returns-then-is_list-clause-found
returns-then-is_list-clause-found c =
    let list = c.if-is_list.ensures.0 refl in
    record {
      some = omega (arith, list.0, files_long c.in-Some.files.now);
      few = omega (arith, list.1, files_long c.in-Some.files.now);
      is = c.in-Some.ensures.found;
    }

pub returns-else-is_list-clause-none : goal.returns-else-is_list-clause-none
returns-else-is_list-clause-none c =
    merge_grade_none _ c.in-Some.files.now _ c.in-Some.ensures.found
    (λ list. let wrong : false ≡ true = c.if-is_list.ensures.1 list in cc)
