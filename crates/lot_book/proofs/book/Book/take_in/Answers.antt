use Rattle.std.proofs.Common.{rules, ap, ◌≡◌, ◌∷◌, [], ◌∙◌, sym}
use Rattle.std.proofs.lemmas.List.Elements.{All-head, All-tail, All-same}
use Rattle.lot_book.specs.Rule.{as_opener, as_share}
use Rattle.lot_book.specs.Steps.{opener_after_ending}
use Rattle.lot_book.specs.Shares.{ShareFacts, view_of, after_return}
use Rattle.lot_book.specs.declared.view.View.TheVariants.{Opener, Share}
use Rattle.lot_book.proofs.ClosingLemmas.{joins, one_more_back}
use Rattle.lot_book.proofs.book.Book.take_in.Goals as goal

pub join_seat-requires : goal.join_seat-requires
join_seat-requires c =
    let inv = c.loop-seat.invariant in
    let share = c.seat.invariant in
    let OfBook : ShareFacts → Type 0 = λ s. s.book ≡ c.args.self.now in
    let left = All-same OfBook (c.in-Some.field-0 ∷ c.next.new.self.rest.items) _ (sym c.in-Some.ensures.steps.0) inv.left in
    let book : c.in-Some.field-0.book ≡ c.args.self.now = All-head OfBook _ _ left in
    let view = ap (λ m. m.0) inv.taken in
    let one = ap (λ m. m.0) share.0 in (
      search rules,
      ap (λ (s : ShareFacts). s.book.table) c.seat.view_is ∙ ap (λ b. b.table) book ∙ sym (ap (λ b. b.table) c.self.view_is),
      ap (λ m. m.1) share.0,
      search rules,
      joins _ _ _ _ (view ∙ ap (λ v. Opener (as_opener v)) (sym view)) (one ∙ ap (λ v. Share (as_share v)) (sym one)) (ap (λ v. (as_share v).held) one),
    )

pub loop-seat-preserved : goal.loop-seat-preserved
loop-seat-preserved c =
    let inv = c.loop-seat.invariant in
    let join = c.join_seat.ensures in
    let opener = c.loop-seat.opener in
    let first = as_opener c.args.opener.me.0 in
    let w = c.seat.inside.seat.me.0 in
    record {
      can_go = search rules;
      ends = search rules;
      book = search rules;
      taken = join.2 ∙ ap (λ m. (opener_after_ending m.0 w, m.1)) inv.taken
          ∙ ap (λ o. (Opener o, []))
          (one_more_back (after_return first c.loop-seat.yielded) first c.loop-seat.yielded c.in-Some.field-0 (as_share w)
          (λ i. after_return first c.loop-seat.yielded) (ap (λ m. as_share m.0) c.seat.invariant.0 ∙ ap view_of c.seat.view_is));
      left = All-tail (λ (s : ShareFacts). s.book ≡ c.args.self.now) c.in-Some.field-0 c.next.new.self.rest.items
          (All-same (λ (s : ShareFacts). s.book ≡ c.args.self.now) _ _ (sym c.in-Some.ensures.steps.0) inv.left);
    }
