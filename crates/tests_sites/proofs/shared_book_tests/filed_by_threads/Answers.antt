use Rattle.std.proofs.Common.{◌≡◌, ◌<◌, [], refl, ◌∙◌}
use Rattle.plan_rows.specs.Rows.{sites_of}
use Rattle.lot_book.specs.Shares.{ShareFacts}
use Rattle.lot_book.proofs.ShareLemmas.{each_new_share}
use Rattle.tests_sites.proofs.shared_book_tests.filed_by_threads.Goals as goal

pub file_by_threads-requires-clause-book : goal.file_by_threads-requires-clause-book
file_by_threads-requires-clause-book g c κs within =
    each_new_share (λ (s : ShareFacts). s.book ≡ c.in_ok-book.book) c.as_mut_slice.result.now c.in_ok-book.book
    (sites_of c.args.plan.now.rows) (c.as_mut_slice.ensures.value ∙ c.into_vec-shares.ensures ∙ c.in_ok-book.ensures.shares)
    (λ site inside. refl)

pub file_by_threads-requires-clause-site : goal.file_by_threads-requires-clause-site
file_by_threads-requires-clause-site g c κs within =
    each_new_share (λ (s : ShareFacts). s.site < sites_of c.args.plan.now.rows) c.as_mut_slice.result.now c.in_ok-book.book
    (sites_of c.args.plan.now.rows) (c.as_mut_slice.ensures.value ∙ c.into_vec-shares.ensures ∙ c.in_ok-book.ensures.shares)
    (λ site inside. inside)

pub file_by_threads-requires-clause-empty : goal.file_by_threads-requires-clause-empty
file_by_threads-requires-clause-empty g c κs within =
    each_new_share (λ (s : ShareFacts). s.records ≡ []) c.as_mut_slice.result.now c.in_ok-book.book
    (sites_of c.args.plan.now.rows) (c.as_mut_slice.ensures.value ∙ c.into_vec-shares.ensures ∙ c.in_ok-book.ensures.shares)
    (λ site inside. refl)
