use Rattle.std.proofs.Common.{◌≡◌, length}
use Rattle.tests_sites.proofs.shared_book_tests.file_all.Given as goal

abbrev pub invariant-loop-die : goal.invariant-loop-die
invariant-loop-die g l = record {
  book : l.share.book ≡ l.book;
  site : l.site ≡ l.share.site;
  filed : l.die ≡ length l.share.records;
}
