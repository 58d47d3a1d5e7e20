use Rattle.std.proofs.Common.{◌≡◌, length, map}
use Rattle.std.specs.List.{range_with_len}
use Rattle.plan_rows.specs.Rows.{dies_at}
use Rattle.floor_core.specs.Book.{empty_site}
use Rattle.floor_core.proofs.book.BookState.new.Given as goal

abbrev pub invariant-loop-site : goal.invariant-loop-site
invariant-loop-site l = record {
  made : l.sites.items ≡ map empty_site (map (λ site. length (dies_at site l.plan.rows)) (range_with_len 0 l.site));
}
