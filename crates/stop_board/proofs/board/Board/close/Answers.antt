use Rattle.std.proofs.Common.{◌≡◌, ◌≤◌, map, ◌++◌, ◌∙◌, ap, sym, subst, All, List, ℕ, slice_index}
use Rattle.stop_board.specs.Rule.{as_desk, IsWithin}
use Rattle.stop_board.specs.Seats.{SiteFacts, DeskFacts, view_of}
use Rattle.stop_board.specs.declared.view.DeskView.{DeskView}
use Rattle.stop_board.specs.declared.view.SiteView.{SiteView}
use Rattle.stop_board.proofs.ClosingLemmas.{closes, within_last}
use Rattle.stop_board.proofs.board.Board.close.Goals as goal

-- the desk's numbers are those of the desk's seat as it came
asked_is_desks : (c : goal.After-of_words) → (as_desk c.take_in-seat.result.me.0).asked ≡ c.args.desk.asked
asked_is_desks c =
    ap (λ (d : DeskView). d.asked) c.take_in-seat.ensures.taken ∙ ap (λ (d : DeskFacts). d.asked) c.desk.view_is

-- the words are the desk's numbers
words_are_desks : (c : goal.After-of_words) → c.of_words.result ≡ (as_desk c.take_in-seat.result.me.0).asked
words_are_desks c =
    let at_end = closes _ _ _ _ c.take_in-seat.ensures.desk c.close_with-closed.ensures.values.2 in
    c.of_words.ensures ∙ c.first_words-words.ensures ∙ at_end.0

pub returns-clause-asked : goal.returns-clause-asked
returns-clause-asked c = words_are_desks c ∙ asked_is_desks c

pub returns-clause-seen : goal.returns-clause-seen
returns-clause-seen c =
    let at_end = closes _ _ _ _ c.take_in-seat.ensures.desk c.close_with-closed.ensures.values.2 in
    let asked : List ℕ = (as_desk c.take_in-seat.result.me.0).asked in
    let before : List SiteView = (as_desk c.desk.inside.seat.me.0).ended in
    let ended : (as_desk c.take_in-seat.result.me.0).ended ≡ before ++ map view_of c.args.seats =
    ap (λ (d : DeskView). d.ended) c.take_in-seat.ensures.taken ∙ ap (λ l. before ++ map view_of l) c.into_vec.ensures in
    subst (λ (l : List ℕ). All (λ (seat : SiteFacts). seat.seen ≤ slice_index l seat.site) c.args.seats) (sym (words_are_desks c))
    (within_last asked before c.args.seats (subst (λ (l : List SiteView). All (IsWithin asked) l) ended at_end.1))
