use Rattle.std.proofs.Common.{rules}
use Rattle.pattern_mem.proofs.RuleLemmas.{give_keeps}
use Rattle.pattern_mem.proofs.turn.give.Goals as goal

pub store-requires : goal.store-requires
store-requires c = (search rules, search rules, give_keeps _ _ _ _ c.requires.holds)
