use Rattle.std.proofs.Common.{rules, ◌∙◌}
use Rattle.pattern_mem.proofs.RuleLemmas.{take_keeps}
use Rattle.pattern_mem.proofs.turn.take.Goals as goal

pub compare_exchange-requires : goal.compare_exchange-requires
compare_exchange-requires g c = (search rules, search rules, take_keeps _ _ _ _ (c.loop.invariant.same ∙ c.requires.pass))
