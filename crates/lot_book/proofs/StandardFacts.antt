-- Known states of a book of two sites, which the rule must allow or refuse.
use Rattle.std.proofs.Common.{◌≡◌, ℕ, suc, zero, List, [], ◌∷◌, ◌≤◌, Some, None, cond, nat_lt, length, sym, refl, ap, ◌∙◌, subst, inl, inr, arith}
use Rattle.text_bytes.proofs.BoolLemmas.{below_no, below_one_more}
use mathlib.Core.Option.{none, some, some-injective, some-ne-none}
use lib.ListN.{get_elem?}
use Rattle.atomic_table.specs.Table.{State}
use Rattle.tester_types.specs.Records.{SiteRecords}
use Rattle.tester_types.specs.declared.record.Record.{Record}
use Rattle.floor_core.specs.Book.{at_site}
use Rattle.lot_book.specs.Rule.{opener_view, share_view, over_shares, if_at, if_holds, IsOfBook, IsKept}
use Rattle.lot_book.specs.declared.view.View.{View}
use Rattle.lot_book.specs.declared.view.View.TheVariants.{Opener, Share}
use Rattle.lot_book.specs.declared.view.OpenerView.{OpenerView}
use Rattle.lot_book.specs.declared.view.ShareView.{ShareView}
use Rattle.lot_book.proofs.RuleLemmas.{Homes, state, share-injective, turn_is}

-- a record of site 0
abbrev entry : Record
entry = record { site = 0; die = 0; trials = [] }

-- a place for one record at each of two sites, and the record of site 0
abbrev book : List SiteRecords
book = record { records = entry ∷ []; spare = 0 } ∷ record { records = []; spare = 1 } ∷ []

abbrev places : List ℕ
places = 1 ∷ 1 ∷ []

-- the opener, which has made two shares
abbrev opener : OpenerView
opener = opener_view 2 places []

-- a table of two shares, with this turn and its slot so
abbrev table : ℕ → Homes → ShareView → ShareView → State (List SiteRecords) View
table turn homes first second = state (turn ∷ []) homes (Opener opener ∷ Share first ∷ Share second ∷ [])

-- the shares of the sites 0 and 1 as they rest, and the share of site 1 as it holds the book
abbrev first_rests : ShareView
first_rests = share_view 0 places (entry ∷ []) None

abbrev second_rests : ShareView
second_rests = share_view 1 places [] None

abbrev second_holds : ShareView
second_holds = share_view 1 places [] (Some book)

-- among two shares' views none is an opener's
no_opener_of_two : (a b : ShareView) (k : ℕ) (o : OpenerView) → get_elem? (Share a ∷ Share b ∷ []) k ≡ some (Opener o) → ⊥
no_opener_of_two a b zero o e = let same : Share a ≡ Opener o = some-injective (Share a) (Opener o) e in cc
no_opener_of_two a b (suc zero) o e = let same : Share b ≡ Opener o = some-injective (Share b) (Opener o) e in cc
no_opener_of_two a b (suc (suc k)) o e = some-ne-none (Opener o) (sym e)

-- what is so of both is so of each of two
each_of_two : (P : ShareView → Type 0) (a b : ShareView) → P a → P b
    → (k : ℕ) (v : ShareView) → get_elem? (Share a ∷ Share b ∷ []) k ≡ some (Share v) → P v
each_of_two P a b p q zero v e = subst P (share-injective a v (some-injective (Share a) (Share v) e)) p
each_of_two P a b p q (suc zero) v e = subst P (share-injective b v (some-injective (Share b) (Share v) e)) q
each_of_two P a b p q (suc (suc k)) v e = absurd (some-ne-none (Share v) (sym e))

-- the sites from 2 on have no records
none_beyond : (site : ℕ) → 2 ≤ site → (at_site book site).records ≡ []
none_beyond zero past = absurd (omega (arith, past))
none_beyond (suc zero) past = absurd (omega (arith, past))
none_beyond (suc (suc site)) past = refl

-- the book at home
at_home : IsKept (table 0 (some book ∷ []) first_rests second_rests)
at_home = record {
  opener = opener;
  shares = Share first_rests ∷ Share second_rests ∷ [];
  book = book;
  views = refl;
  no_opener = no_opener_of_two first_rests second_rests;
  once = λ site. omega (arith, below_no site 0 (omega arith), below_one_more site 0, below_one_more site 1);
  all = refl;
  turn = refl;
  most = omega arith;
  none_ended = λ k v h. absurd (omega arith);
  home = λ e. refl;
  out = λ e. absurd (omega (arith, e));
  places = refl;
  each = each_of_two (IsOfBook book) first_rests second_rests
      (record { places = refl; records = refl; held = inl refl }) (record { places = refl; records = refl; held = inl refl });
  each_ended = λ k v h. absurd (omega arith);
  beyond = none_beyond;
}

-- the book with the share of site 1
held : IsKept (table 1 (none ∷ []) first_rests second_holds)
held = record {
  opener = opener;
  shares = Share first_rests ∷ Share second_holds ∷ [];
  book = book;
  views = refl;
  no_opener = no_opener_of_two first_rests second_holds;
  once = λ site. omega (arith, below_no site 0 (omega arith), below_one_more site 0, below_one_more site 1);
  all = refl;
  turn = refl;
  most = omega arith;
  none_ended = λ k v h. absurd (omega arith);
  home = λ e. absurd (omega (arith, e));
  out = λ e. refl;
  places = refl;
  each = each_of_two (IsOfBook book) first_rests second_holds
      (record { places = refl; records = refl; held = inl refl }) (record { places = refl; records = refl; held = inr refl });
  each_ended = λ k v h. absurd (omega arith);
  beyond = none_beyond;
}

module _ (turn : ℕ) (homes : Homes) (first second : ShareView) (kept : IsKept (table turn homes first second)) where
  -- the rule's opener and shares are the table's
  its_opener : opener ≡ kept.opener
  its_opener = let e = kept.views in cc

  its_shares : Share first ∷ Share second ∷ [] ≡ kept.shares
  its_shares = let e = kept.views in cc

  its_sum : (f : ShareView → ℕ) → over_shares f opener (Share first ∷ Share second ∷ []) ≡ over_shares f kept.opener kept.shares
  its_sum f = ap (over_shares f opener) its_shares ∙ ap (λ (o : OpenerView). over_shares f o kept.shares) its_opener

-- no two shares are of one site
two_of_one_site : IsKept (table 0 (some book ∷ []) first_rests first_rests) → ⊥
two_of_one_site kept =
    let most : over_shares (if_at 0) kept.opener kept.shares ≡ 1 =
    kept.once 0 ∙ ap (λ (o : OpenerView). cond {A = ℕ} (nat_lt 0 o.made) 1 0) (sym (its_opener 0 (some book ∷ []) first_rests first_rests kept)) in
    omega (arith, most, its_sum 0 (some book ∷ []) first_rests first_rests kept (if_at 0))

-- a book isn't at home while a share holds it
held_at_home : IsKept (table 0 (some book ∷ []) first_rests second_holds) → ⊥
held_at_home kept =
    omega (
      arith,
      turn_is (table 0 (some book ∷ []) first_rests second_holds) kept,
      its_sum 0 (some book ∷ []) first_rests second_holds kept if_holds,
    )

-- no share's list lacks a record that the book has at its site
record_dropped : IsKept (table 0 (some book ∷ []) (share_view 0 places [] None) second_rests) → ⊥
record_dropped kept =
    let first = share_view 0 places [] None in
    let homes : Homes = some book ∷ [] in
    let there : get_elem? kept.shares 0 ≡ some (Share first) = ap (λ (vs : List View). get_elem? vs 0) (sym (its_shares 0 homes first second_rests kept)) in
    let home : homes ≡ some kept.book ∷ [] =
    kept.home (sym (its_sum 0 homes first second_rests kept if_holds)) in
    let same : book ≡ kept.book = some-injective book kept.book (some-injective (some book) (some kept.book) (ap (λ (hs : Homes). get_elem? hs 0) home)) in
    let known : length {A = Record} [] ≡ length (at_site kept.book 0).records = ap length (kept.each 0 first there).records in
    let has : 1 ≡ length (at_site kept.book 0).records = ap (λ b. length (at_site b 0).records) same in
    omega (arith, known, has)
