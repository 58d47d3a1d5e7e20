use Rattle.std.proofs.Common.{rules}
use Rattle.lot_book.specs.Rule.{as_share}
use Rattle.lot_book.proofs.StepLemmas.{give_keeps}
use Rattle.lot_book.proofs.turn.give.Goals as goal

pub store-requires : goal.store-requires
store-requires c =
    let changed = c.requires.changed in
    (search rules, search rules, give_keeps _ _ _ (as_share c.args.seat.now.me.0) changed.0 changed.1 changed.2 changed.3)
