use Rattle.std.proofs.Common.{sym, ◌∙◌}
use Rattle.log_parts.proofs.FailLemmas.{no_fail, fail_words}
use Rattle.log_parts.proofs.fails.is_fail.Goals as goal

pub returns-in-Some : goal.returns-in-Some
returns-in-Some c =
    c.is_from_cycle.ensures ∙ fail_words c.args.line.now c.in-Some.words.now c.requires c.in-Some.ensures

pub returns-in-None : goal.returns-in-None
returns-in-None c = sym (no_fail c.args.line.now c.in-None.ensures)
