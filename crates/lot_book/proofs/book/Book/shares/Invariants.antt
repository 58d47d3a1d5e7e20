use Rattle.std.proofs.Common.{◌≡◌, []}
use Rattle.lot_book.specs.Shares.{new_shares, made_opener}
use Rattle.lot_book.proofs.book.Book.shares.Given as goal

abbrev pub invariant-loop-site : goal.invariant-loop-site
invariant-loop-site l = record {
  book : l.opener.table_id ≡ l.self.table;
  opener : l.opener.me ≡ (made_opener l.self.places l.site, []);
  made : l.shares.items ≡ new_shares l.self l.site;
}
