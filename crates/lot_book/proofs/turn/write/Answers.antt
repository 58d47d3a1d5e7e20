use Rattle.std.proofs.Common.{◌≡◌, ◌∙◌, ℕ, List, get_or, ap, sym}
use Rattle.atomic_table.specs.Table.{Me}
use Rattle.tester_types.specs.Records.{SiteRecords}
use Rattle.floor_core.specs.Book.{filed}
use Rattle.lot_book.specs.declared.view.View.{View}
use Rattle.lot_book.proofs.FilingLemmas.{is_written}
use Rattle.lot_book.proofs.turn.write.Goals as goal

pub returns-clause-written : goal.returns-clause-written
returns-clause-written c =
    let holds = c.requires.holds in
    let lent : List SiteRecords = c.slot_mut-held.result.now in
    let slots = ap (λ (m : Me (List SiteRecords) View). m.1) holds.1 in
    let same : lent ≡ holds.0 =
    ap (λ (l : List (ℕ × List SiteRecords)). (get_or l 0 (0, holds.0)).1) (sym c.slot_mut-held.ensures.value ∙ slots) in
    is_written c.args.seat.now.me _ c.args.entry holds.0 c.file_into.new.self holds.1 holds.2
    (c.file_into.ensures ∙ ap (λ b. filed b c.args.entry) same) c.requires.site c.requires.room
