use Rattle.std.proofs.Common.{rules, arith, ap, ◌≡◌, ◌∷◌, [], ◌∙◌, sym}
use Rattle.std.proofs.lemmas.List.Elements.{All-head, All-tail, All-same}
use Rattle.stop_board.specs.Rule.{as_desk, as_site}
use Rattle.stop_board.specs.Steps.{desk_after_ending}
use Rattle.stop_board.specs.Seats.{SiteFacts, view_of}
use Rattle.stop_board.specs.declared.view.View.TheVariants.{Desk}
use Rattle.stop_board.proofs.ClosingLemmas.{joins, one_more_back}
use Rattle.stop_board.proofs.board.Board.take_in.Goals as goal

pub join_seat-requires : goal.join_seat-requires
join_seat-requires c =
    let inv = c.loop-seat.invariant in
    let seat = c.seat.invariant in
    let OfBoard : SiteFacts → Type 0 = λ s. s.board ≡ c.args.self.now in
    let left = All-same OfBoard (c.in-Some.field-0 ∷ c.next.new.self.rest.items) _ (sym c.in-Some.ensures.steps.0) inv.left in
    let board : c.in-Some.field-0.board ≡ c.args.self.now = All-head OfBoard _ _ left in (
      search rules,
      ap (λ (s : SiteFacts). s.board) c.seat.view_is ∙ board ∙ sym c.self.view_is,
      ap (λ m. m.1) seat.0,
      search rules,
      joins _ _ _ _ (ap (λ m. m.0) inv.is.0) (ap (λ m. m.0) seat.0),
    )

pub loop-seat-preserved : goal.loop-seat-preserved
loop-seat-preserved c =
    let inv = c.loop-seat.invariant in
    let join = c.join_seat.ensures in
    let desk = c.loop-seat.desk in
    let w = c.seat.inside.seat.me.0 in
    let after = desk_after_ending desk.me.0 w in
    let moved : c.join_seat.new.seat.me ≡ (after, []) = join.2 ∙ ap (λ m. (after, m.1)) inv.is.0 in
    let view : c.join_seat.new.seat.me.0 ≡ after = ap (λ m. m.0) moved in
    let made : (as_desk c.join_seat.new.seat.me.0).made ≡ (as_desk desk.me.0).made = ap (λ v. (as_desk v).made) view in
    let few = inv.is.1 in
    record {
      can_go = search rules;
      ends = search rules;
      board = search rules;
      is = (moved ∙ ap (λ v. (Desk (as_desk v), [])) (sym view), omega arith);
      taken = ap as_desk view
          ∙ one_more_back (as_desk desk.me.0) (as_desk c.args.desk.me.0) c.loop-seat.yielded c.in-Some.field-0 (as_site w)
          inv.taken (ap view_of c.seat.view_is);
      left = All-tail (λ (s : SiteFacts). s.board ≡ c.args.self.now) c.in-Some.field-0 c.next.new.self.rest.items
          (All-same (λ (s : SiteFacts). s.board ≡ c.args.self.now) _ _ (sym c.in-Some.ensures.steps.0) inv.left);
    }
