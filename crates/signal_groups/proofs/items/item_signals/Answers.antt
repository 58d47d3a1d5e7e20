use Rattle.std.proofs.Common.{◌<◌, ℕ, List, length, sym, subst}
use Rattle.std.specs.Prelude.{All}
use Rattle.signal_groups.specs.Lexed.{name_ref}
use Rattle.signal_groups.proofs.LookupLemmas.{item_in-within}
use Rattle.signal_groups.proofs.items.item_signals.Goals as goal

pub returns-clause-within : goal.returns-clause-within
returns-clause-within c =
    subst (λ (ss : List ℕ). All (λ s. s < length c.args.table.now.texts) ss) (sym c.in_ok-found.ensures)
    (item_in-within c.args.table.now (name_ref c.args.item.now) c.soundness.ensures)
