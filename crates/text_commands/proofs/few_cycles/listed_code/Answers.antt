use Rattle.text_commands.proofs.CommandLemmas.{few_listed, told_many, line_there}
use Rattle.text_commands.proofs.few_cycles.listed_code.Goals as goal

pub refusal_at-requires-clause-lines : goal.refusal_at-requires-clause-lines
refusal_at-requires-clause-lines c =
    line_there c.args.bytes.now c.in_ok-text.text.code c.in_ok-text.text.lines.items c.in-Some.exec c.in_ok-text.ensures.found c.in-Some.ensures.found.within

pub returns-in-Some : goal.returns-in-Some
returns-in-Some c =
    told_many c.args.bytes.now c.in_ok-text.text.code c.in_ok-text.text.lines.items c.in-Some.exec c.refusal_at.result c.in_ok-text.ensures.found
    c.in-Some.ensures.found c.refusal_at.ensures

pub returns-in-None : goal.returns-in-None
returns-in-None c =
    few_listed c.args.bytes.now c.in_ok-text.text.code c.in_ok-text.text.lines.items c.in_ok-text.ensures.found c.in-None.ensures.none
