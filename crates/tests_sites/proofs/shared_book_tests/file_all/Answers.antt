use Rattle.std.proofs.Common.{arith, ap, sym, ◌≡◌, ◌∙◌, ℕ, List, slice_index}
use Rattle.floor_core.proofs.BookLemmas.{slice_index-planned}
use Rattle.tests_sites.proofs.shared_book_tests.file_all.Goals as goal

pub file-requires-clause-planned : goal.file-requires-clause-planned
file-requires-clause-planned g c =
    let site = c.site-site.result in
    let there : slice_index c.args.book.now.places site ≡ c.dies-die-end.result =
    ap (λ (l : List ℕ). slice_index l site) c.requires.plan
    ∙ slice_index-planned c.args.plan.now.rows site (omega (arith, c.requires.site, c.site-site.ensures))
    ∙ sym c.dies-die-end.ensures in
    omega (arith, there)
