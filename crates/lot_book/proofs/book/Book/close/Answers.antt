use Rattle.std.proofs.Common.{◌≡◌, ◌++◌, [], ◌∙◌, List, All, map, length, ap, sym, subst}
use mathlib.Core.Option.{some-injective}
use Rattle.std.proofs.lemmas.List.{length-map}
use Rattle.tester_types.specs.Records.{SiteRecords}
use Rattle.floor_core.specs.Book.{places_in}
use Rattle.lot_book.specs.Rule.{opener_view, as_opener, IsOfBook}
use Rattle.lot_book.specs.Shares.{BookFacts, view_of, after_return}
use Rattle.lot_book.specs.declared.view.View.TheVariants.{Opener}
use Rattle.lot_book.specs.declared.view.OpenerView.{OpenerView}
use Rattle.lot_book.proofs.ClosingLemmas.{closes, filed_of_last}
use Rattle.lot_book.proofs.book.Book.close.Goals as goal

-- the opener as it came
abbrev opener : goal.After-free → OpenerView
opener c = as_opener c.closer.inside.seat.me.0

-- it has made a share for each site, and none had come back
as_made : (c : goal.After-free) → opener c ≡ opener_view (length (opener c).places) (opener c).places []
as_made c = ap (λ m. as_opener m.0) c.closer.invariant

-- its places are the book's
places_are : (c : goal.After-free) → (opener c).places ≡ c.args.self.places
places_are c = ap (λ (b : BookFacts). b.places) (c.closer.view_is ∙ c.requires.closer)

-- the opener once all shares came back
abbrev after : goal.After-free → OpenerView
after c = after_return (opener c) c.args.shares.shares

-- as many shares came back as were made
all_back : (c : goal.After-free) → length (after c).ended ≡ (after c).made
all_back c =
    ap (λ (o : OpenerView). length (o.ended ++ map view_of c.args.shares.shares)) (as_made c)
    ∙ length-map c.args.shares.shares view_of ∙ c.requires.all ∙ ap length (sym (places_are c))
    ∙ sym (ap (λ (o : OpenerView). o.made) (as_made c))

-- what the book has at the end
at_end : (c : goal.After-free)
    → (places_in c.take-state.result ≡ (after c).places) × All (IsOfBook c.take-state.result) (after c).ended
at_end c =
    let view = ap (λ m. m.0) c.take_in-seat.ensures.taken
    ∙ ap (λ l. Opener (after_return (opener c) l)) c.into_vec.ensures in
    let end = closes c.take_in-seat.result.id c.take_in-seat.result.me (after c) _ _ view (all_back c) c.close_with-closed.ensures.values.2 in
    let same : end.0 ≡ c.take-state.result =
    some-injective end.0 c.take-state.result (sym end.1 ∙ c.take-state.ensures.value) in
    subst (λ (book : List SiteRecords). (places_in book ≡ (after c).places) × All (IsOfBook book) (after c).ended) same (end.2, end.3)

pub returns-clause-places : goal.returns-clause-places
returns-clause-places c = (at_end c).0 ∙ places_are c

pub returns-clause-records : goal.returns-clause-records
returns-clause-records c = filed_of_last c.take-state.result (opener c).ended c.args.shares.shares (at_end c).1
