use Rattle.std.proofs.Common.{[], ◌∷◌, arith}
use Rattle.stil_tool.proofs.WordsLemmas.{three_words, not_other}
use Rattle.stil_tool.proofs.top_call.files_behind.Goals as goal

pub returns-then-eq-clause-found : goal.returns-then-eq-clause-found
returns-then-eq-clause-found c =
    three_words c.args.words.now c.command-item.result c.program-item.result c.plan-item.result _ c.as_str.result.now
    c.as_str-then-eq.result.now c.as_str-then-eq-2.result.now c.in-len3.len_at_least c.in-len3.len_below c.command-item.is
    c.program-item.is c.plan-item.is c.as_str.ensures.value c.if-eq.ensures c.as_str-then-eq.ensures.value
    c.as_str-then-eq-2.ensures.value

pub returns-else-eq-clause-none : goal.returns-else-eq-clause-none
returns-else-eq-clause-none c = λ program plan are.
    not_other c.args.words.now c.command-item.result c.args.word.now c.as_str.result.now (program ∷ plan ∷ [])
    (omega (arith, c.in-len3.len_at_least))
    c.command-item.is c.as_str.ensures.value c.if-eq.ensures are
