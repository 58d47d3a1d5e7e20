use Rattle.std.proofs.Common.{rules, arith, ap, ◌≡◌, ◌∙◌, sym, [], ◌∷◌, ◌++◌}
use Rattle.std.proofs.lemmas.List.FromFn.{map-range_with_len_more}
use Rattle.lot_book.specs.Rule.{as_opener}
use Rattle.lot_book.specs.Steps.{opener_after_making, share_made}
use Rattle.lot_book.specs.Shares.{made_opener, share_facts, new_share, new_shares}
use Rattle.lot_book.specs.declared.view.View.TheVariants.{Opener}
use Rattle.lot_book.proofs.MakingLemmas.{make_keeps}
use Rattle.lot_book.proofs.book.Book.shares.Goals as goal

pub split_seat-seat-requires : goal.split_seat-seat-requires
split_seat-seat-requires c =
    let view : c.loop-site.opener.me.0 ≡ made_opener c.args.self.now.places c.loop-site.site = ap (λ m. m.0) c.loop-site.invariant.opener in
    (search rules, search rules, make_keeps _ _ (view ∙ ap (λ v. Opener (as_opener v)) (sym view)))

pub loop-site-preserved : goal.loop-site-preserved
loop-site-preserved c =
    let inv = c.loop-site.invariant in
    let split = c.split_seat-seat.ensures in
    let seat = c.split_seat-seat.result in
    let book = c.args.self.now in
    let site = c.loop-site.site in
    let table : seat.table_id ≡ book.table = split.3 ∙ inv.book in
    let item : share_facts seat.table_id seat.me.0 ≡ new_share book site =
    ap (λ m. share_facts seat.table_id m.0) (split.4 ∙ ap (λ m. (share_made m.0, [])) inv.opener)
    ∙ ap (λ t. new_share (record { table = t; places = book.places }) site) table in
    record {
      book = search rules;
      opener = split.2 ∙ ap (λ m. (opener_after_making m.0, m.1)) inv.opener;
      made = c.in_ok-push.ensures.items ∙ ap (λ shares. shares ++ share_facts seat.table_id seat.me.0 ∷ []) inv.made
          ∙ ap (λ x. new_shares book site ++ x ∷ []) item ∙ sym (map-range_with_len_more (new_share book) 0 site site (omega arith));
    }
