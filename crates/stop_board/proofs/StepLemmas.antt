-- A poll, a finish, an ask and a look each keep the rule.
use Rattle.std.proofs.Common.{◌≡◌, ℕ, ◌+◌, ◌%◌, ◌^◌, ◌<◌, ◌≤◌, [], ◌∷◌, ◌++◌, false, cond, length, set, slice_index, sym, refl, ap, ◌∙◌, arith}
use Rattle.text_bytes.specs.Limits.{most_sites}
use mathlib.Core.Option.{none, some}
use lib.ListN.{get_elem?}
use Rattle.atomic_table.specs.Table.{State, Me, keeps, step, Allows}
use Rattle.stop_board.specs.Rule.{as_desk, as_site, if_finished, IsWithin, IsKept}
use Rattle.stop_board.specs.Steps.{after_ask, after_look, after_poll, after_finish, asked_once_more, Asks, Polls, Finishes, Looks}
use Rattle.stop_board.specs.Seats.{IsDeskSeat, IsSiteSeat}
use Rattle.stop_board.specs.declared.view.View.{View}
use Rattle.stop_board.specs.declared.view.View.TheVariants.{Desk, Site}
use Rattle.stop_board.specs.declared.view.DeskView.{DeskView}
use Rattle.stop_board.specs.declared.view.SiteView.{SiteView}
use Rattle.stop_board.proofs.RuleLemmas.{finished, site_place, desk_place, site_moves, desk_moves}
use Rattle.stop_board.proofs.WordLemmas.{grows-asked_once_more, length-asked_once_more, word_of_site, last_word, finished-le-made, loaded, asked_once, finished_once}

-- where the seat is a site's, its view is that of a site
site_there : {S : Type 0} (s : State S View) (id site : ℕ) (me : Me S View) → IsSiteSeat me site
    → get_elem? s.views id ≡ some me.0 → get_elem? s.views id ≡ some (Site (as_site me.0))
site_there {S = S} s id site me is there = there ∙ ap (λ (m : Me S View). some m.0) is.0

-- where the seat is the desk's, its view is that of a desk
pub desk_there : {S : Type 0} (s : State S View) (id : ℕ) (me : Me S View) → IsDeskSeat me
    → get_elem? s.views id ≡ some me.0 → get_elem? s.views id ≡ some (Desk (as_desk me.0))
desk_there {S = S} s id me is there = there ∙ ap (λ (m : Me S View). some m.0) is.0

-- a site's seat saw no more than was asked for
seen_there : {S : Type 0} (s : State S View) (kept : IsKept s) (id : ℕ) (v : SiteView) → get_elem? s.views id ≡ some (Site v)
    → IsWithin kept.desk.asked v
seen_there s kept id v there = let here = site_place s kept id v there in kept.seen here.0 v here.2

-- a poll
pub polls : {S : Type 0} (slots id site : ℕ) (me : Me S View) → IsSiteSeat me site
    → Allows IsKept slots id me site (λ n. n) (Polls (step slots site 0 0 none) me)
polls slots id site me is s kept wide there fits =
    let v = as_site me.0 in
    let n : ℕ = slice_index s.words site in
    let at = site_there s id site me is there in
    let word : n ≡ slice_index kept.desk.asked v.site =
    word_of_site s kept site is.2 ∙ ap (λ i. slice_index kept.desk.asked i) is.1 in
    let before = seen_there s kept id v at in
    let after = after_poll v n in (
      Site after,
      keeps,
      tt,
      site_moves s kept id v after (set s.words site n) (finished s kept) at refl (omega arith) (omega arith) refl
          (loaded s kept site),
      (refl, omega arith),
    )

-- a finish
pub finishes : {S : Type 0} (slots id site : ℕ) (me : Me S View) → IsSiteSeat me site → (as_site me.0).finished ≡ false
    → Allows IsKept slots id me most_sites (λ n. (n + 1) % 2 ^ 64) (Finishes (step slots most_sites 1 0 none) me)
finishes slots id site me is once s kept wide there fits =
    let v = as_site me.0 in
    let n : ℕ = (slice_index s.words most_sites + 1) % 2 ^ 64 in
    let at = site_there s id site me is there in
    let few : finished s kept ≤ most_sites = omega (arith, finished-le-made s kept, kept.few) in
    let more : n ≡ finished s kept + 1 = omega (arith, last_word s kept) in
    let not_yet : if_finished v ≡ 0 = ap (λ b. cond b 1 0) once in
    let after = after_finish v in (
      Site after,
      keeps,
      tt,
      site_moves s kept id v after (set s.words most_sites n) (finished s kept + 1) at refl (seen_there s kept id v at)
          (omega arith) (omega arith) (finished_once s kept n more),
      refl,
    )

-- an ask
pub asks : {S : Type 0} (slots id site : ℕ) (me : Me S View) → IsDeskSeat me → site < (as_desk me.0).made
    → slice_index (as_desk me.0).asked site < 2 ^ 63
    → Allows IsKept slots id me site (λ n. (n + 1) % 2 ^ 64) (Asks (step slots site 1 0 none) me)
asks slots id site me is made room s kept wide there fits =
    let d = as_desk me.0 in
    let n : ℕ = (slice_index s.words site + 1) % 2 ^ 64 in
    let at = desk_there s id me is there in
    let same = (desk_place s kept id d at).1 in
    let asked_same : kept.desk.asked ≡ d.asked = ap (λ (x : DeskView). x.asked) same in
    let few : site < most_sites = omega (arith, is.1) in
    let before = word_of_site s kept site few in
    let more : n ≡ slice_index kept.desk.asked site + 1 = omega (arith, ap (λ l. slice_index l site) asked_same) in
    let words : set s.words site n ≡ asked_once_more d.asked site ++ finished s kept ∷ [] =
    asked_once s kept site n few more ∙ ap (λ l. asked_once_more l site ++ finished s kept ∷ []) asked_same in
    let each_site : length d.asked ≡ most_sites = ap length (sym asked_same) ∙ kept.each_site in
    let looked = ap (λ (x : DeskView). x.looked) same in (
      Desk (after_ask d site),
      keeps,
      tt,
      desk_moves s kept id d (asked_once_more d.asked site) d.looked (set s.words site n) at
          (length-asked_once_more d.asked site ∙ each_site) (omega (arith, kept.looked))
          (λ i. grows-asked_once_more d.asked site i (omega arith)) words,
      refl,
    )

-- a look
pub looks : {S : Type 0} (slots id : ℕ) (me : Me S View) → IsDeskSeat me
    → Allows IsKept slots id me most_sites (λ n. n) (Looks (step slots most_sites 0 0 none) me)
looks slots id me is s kept wide there fits =
    let d = as_desk me.0 in
    let n : ℕ = slice_index s.words most_sites in
    let at = desk_there s id me is there in
    let same = (desk_place s kept id d at).1 in
    let asked_same : kept.desk.asked ≡ d.asked = ap (λ (x : DeskView). x.asked) same in
    let word = last_word s kept in
    let words : set s.words most_sites n ≡ d.asked ++ finished s kept ∷ [] =
    loaded s kept most_sites ∙ ap (λ l. l ++ finished s kept ∷ []) asked_same in
    let looked = ap (λ (x : DeskView). x.looked) same in
    let made = ap (λ (x : DeskView). x.made) same in (
      Desk (after_look d n),
      keeps,
      tt,
      desk_moves s kept id d d.asked n (set s.words most_sites n) at (ap length (sym asked_same) ∙ kept.each_site) (omega arith)
          (λ i. omega arith) words,
      (refl, omega (arith, kept.looked), omega (arith, finished-le-made s kept)),
    )
