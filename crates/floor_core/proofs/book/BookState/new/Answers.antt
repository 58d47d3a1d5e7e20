use Rattle.std.proofs.Common.{arith, ap, sym, ◌≡◌, ◌∙◌, ℕ, ◌∷◌, [], ◌++◌, length, map}
use Rattle.std.specs.List.{range_with_len}
use Rattle.std.proofs.lemmas.List.{map-append}
use Rattle.std.proofs.lemmas.List.FromFn.{map-range_with_len_more}
use Rattle.plan_rows.specs.Rows.{dies_at}
use Rattle.floor_core.specs.Book.{empty_site}
use Rattle.floor_core.proofs.book.BookState.new.Goals as goal

pub loop-site-preserved : goal.loop-site-preserved
loop-site-preserved c =
    let site : ℕ = c.loop-site.site in
    let dies : ℕ → ℕ = λ s. length (dies_at s c.args.plan.now.rows) in
    let before = map dies (range_with_len 0 site) in
    let item : c.in_ok-new.field-0 ≡ empty_site (dies site) =
    c.in_ok-new.ensures ∙ ap empty_site (c.from-in-loop-site.ensures ∙ c.dies.ensures) in
    record {
      made = c.in_ok-push.ensures.items
          ∙ ap (λ made. made ++ c.in_ok-new.field-0 ∷ []) c.loop-site.invariant.made
          ∙ ap (λ x. map empty_site before ++ x ∷ []) item
          ∙ sym (map-append empty_site before (dies site ∷ []))
          ∙ sym (ap (map empty_site) (map-range_with_len_more dies 0 site site (omega arith)));
    }
