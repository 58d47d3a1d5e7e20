use Rattle.std.proofs.Common.{◌∙◌, sym, ap}
use Rattle.floor_core.specs.Book.{planned}
use Rattle.floor_core.proofs.BookLemmas.{length-planned}
use Rattle.plan_rows.specs.Rows.{sites_of}
use Rattle.lot_book.proofs.MakingLemmas.{begins_with, opener_is}
use Rattle.lot_book.proofs.book.Book.new.Goals as goal

pub new-requires-2 : goal.new-requires-2
new-requires-2 c =
    begins_with c.args.plan.now.rows c.push.new.self.items c.in_ok-slots.slots.items c.in_ok-state.state
    c.in_ok-push.ensures.items c.in_ok-slots.ensures.items c.in_ok-state.ensures

pub invariant_of-list : goal.invariant_of-list
invariant_of-list c =
    let key = c.in-Ok.made.0.shared.key in
    let same = c.in-Ok.ensures.ok.5 in
    opener_is c.shares.new.opener.me (planned key.rows) c.sites.result c.in_ok-shares.ensures.opener
    (length-planned key.rows ∙ ap (λ k. sites_of k.rows) same ∙ sym c.sites.ensures.count)
