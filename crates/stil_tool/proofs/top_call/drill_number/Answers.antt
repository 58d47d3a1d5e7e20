use Rattle.stil_tool.proofs.WordsLemmas.{two_words}
use Rattle.stil_tool.proofs.DrillLemmas.{drill_found, drill_none}
use Rattle.stil_tool.proofs.top_call.drill_number.Goals as goal

pub returns-in-len2-clause-found : goal.returns-in-len2-clause-found
returns-in-len2-clause-found c =
    drill_found _ c.as_str-in-len2.result.now c.read_number.result
    (two_words c.args.words.now c.command-item.result c.number-item.result _ c.as_str.result.now c.as_str-in-len2.result.now
    c.in-len2.len_at_least c.in-len2.len_below c.command-item.is c.number-item.is c.as_str.ensures.value c.if-eq.ensures
    c.as_str-in-len2.ensures.value)
    c.read_number.ensures.found

pub returns-in-len2-clause-none : goal.returns-in-len2-clause-none
returns-in-len2-clause-none c =
    drill_none _ c.as_str-in-len2.result.now c.read_number.result
    (two_words c.args.words.now c.command-item.result c.number-item.result _ c.as_str.result.now c.as_str-in-len2.result.now
    c.in-len2.len_at_least c.in-len2.len_below c.command-item.is c.number-item.is c.as_str.ensures.value c.if-eq.ensures
    c.as_str-in-len2.ensures.value)
    c.read_number.ensures.none
