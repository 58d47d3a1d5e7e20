use Rattle.std.proofs.Common.{rules, ◌∙◌}
use Rattle.lot_book.specs.Rule.{as_share}
use Rattle.lot_book.proofs.StepLemmas.{take_keeps}
use Rattle.lot_book.proofs.turn.take.Goals as goal

pub compare_exchange-requires : goal.compare_exchange-requires
compare_exchange-requires g c = (search rules, search rules, take_keeps _ _ _ (as_share c.args.seat.now.me.0) (c.loop.invariant.same ∙ c.requires.share))
