use Rattle.std.proofs.Common.{rules, arith, ap, ◌≡◌, ◌∙◌, sym, [], ◌∷◌, ◌++◌}
use Rattle.std.proofs.lemmas.List.FromFn.{map-range_with_len_more}
use Rattle.stop_board.specs.Rule.{as_desk}
use Rattle.stop_board.specs.Seats.{made_desk, site_facts, new_seat, new_seats}
use Rattle.stop_board.specs.Steps.{desk_after_making, site_made}
use Rattle.stop_board.specs.declared.view.View.TheVariants.{Desk}
use Rattle.stop_board.proofs.MakingLemmas.{splits}
use Rattle.stop_board.proofs.board.Board.seats.Goals as goal

pub split_seat-seat-requires : goal.split_seat-seat-requires
split_seat-seat-requires c =
    let view : c.loop-site.desk.me.0 ≡ made_desk c.loop-site.site = ap (λ m. m.0) c.loop-site.invariant.desk in
    let made : (as_desk c.loop-site.desk.me.0).made ≡ c.loop-site.site = ap (λ v. (as_desk v).made) view in
    (search rules, search rules, splits _ _ (view ∙ ap (λ v. Desk (as_desk v)) (sym view)) (omega arith))

pub loop-site-preserved : goal.loop-site-preserved
loop-site-preserved c =
    let inv = c.loop-site.invariant in
    let split = c.split_seat-seat.ensures in
    let seat = c.split_seat-seat.result in
    let id = c.args.self.now in
    let site = c.loop-site.site in
    let board : seat.table_id ≡ id = split.3 ∙ inv.board in
    let item : site_facts seat.table_id seat.me.0 ≡ new_seat id site =
    ap (λ m. site_facts seat.table_id m.0) (split.4 ∙ ap (λ m. (site_made m.0, [])) inv.desk) ∙ ap (λ t. new_seat t site) board in
    record {
      board = search rules;
      desk = split.2 ∙ ap (λ m. (desk_after_making m.0, m.1)) inv.desk;
      made = c.in_ok-push.ensures.items ∙ ap (λ seats. seats ++ site_facts seat.table_id seat.me.0 ∷ []) inv.made
          ∙ ap (λ x. new_seats id site ++ x ∷ []) item ∙ sym (map-range_with_len_more (new_seat id) 0 site site (omega arith));
    }
