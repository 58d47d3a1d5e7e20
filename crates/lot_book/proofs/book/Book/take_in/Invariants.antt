use Rattle.std.proofs.Common.{◌≡◌, [], All}
use Rattle.lot_book.specs.Rule.{as_opener}
use Rattle.lot_book.specs.Shares.{after_return}
use Rattle.lot_book.specs.declared.view.View.TheVariants.{Opener}
use Rattle.lot_book.proofs.book.Book.take_in.Given as goal

abbrev pub invariant-loop-seat : goal.invariant-loop-seat
invariant-loop-seat l = record {
  can_go : (goal.iterator-loop-seat).can_next l.seat-iterator;
  ends : (goal.iterator-loop-seat).is_finite l.seat-iterator;
  book : l.opener.table_id ≡ l.self.table;
  taken : l.opener.me ≡ (Opener (after_return (as_opener l.initial.opener.me.0) l.yielded), []);
  left : All (λ share. share.book ≡ l.self) l.seat-iterator.rest.items;
}
