use Rattle.std.proofs.Common.{sym, ◌∙◌, decimal}
use Rattle.stil_tool.proofs.WordsLemmas.{four_words}
use Rattle.stil_tool.proofs.offline_call.dump_command.Goals as goal

pub returns-in-Some-clause-found : goal.returns-in-Some-clause-found
returns-in-Some-clause-found c = record {
  is =
      four_words c.args.words.now c.command-item.result c.program-item.result c.plan-item.result c.site-item.result _
      c.as_str.result.now c.as_str-in-Some.result.now c.as_str-in-Some-2.result.now (decimal c.in-Some.site)
      c.in-len4.len_at_least c.in-len4.len_below c.command-item.is c.program-item.is c.plan-item.is c.site-item.is
      c.as_str.ensures.value c.if-eq.ensures c.as_str-in-Some.ensures.value c.as_str-in-Some-2.ensures.value
      (sym c.in-Some.ensures.found.2 ∙ c.as_str-then-eq.ensures.value);
  few = c.in-Some.ensures.found.1;
}
