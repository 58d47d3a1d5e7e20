-- The rule is kept where one share's view changes.
use Rattle.std.proofs.Common.{◌≡◌, ◌≢◌, ℕ, zero, suc, ◌+◌, ◌<◌, ◌≤◌, List, [], ◌∷◌, cond, ◌==◌, nat_lt, Bool, true, false, All, get_or, length, set, slice_index, sym, refl, ap, ◌∙◌, subst, ⊎_elim, arith, eq-eqb, le-ltb}
use mathlib.Core.Option.{Option, none, some, some-injective}
use mathlib.Core.Logic.{dite}
use native.Mathlib.Decide.{dec_le}
use lib.ListN.{get_elem?}
use Rattle.std.proofs.lemmas.List.Sums.{get_or-le-sum_by}
use Rattle.text_bytes.proofs.SumLemmas.{sum_by-set_there, term-le-sum_by}
use Rattle.atomic_table.specs.Table.{State}
use Rattle.atomic_table.proofs.Lists.{at_set}
use Rattle.tester_types.specs.Records.{SiteRecords}
use Rattle.floor_core.specs.Book.{at_site, places_in}
use Rattle.lot_book.specs.Rule.{of_share, over_shares, one, if_at, if_holds, IsOfBook, IsKept}
use Rattle.lot_book.specs.declared.view.View.{View}
use Rattle.lot_book.specs.declared.view.View.TheVariants.{Opener, Share}
use Rattle.lot_book.specs.declared.view.OpenerView.{OpenerView}
use Rattle.lot_book.specs.declared.view.ShareView.{ShareView}
use Rattle.lot_book.proofs.SumLemmas.{terms-le-sum_by}

-- where the slots of a table are: a book, or none where it is out
abbrev pub Homes : Type 0
Homes = List (Option (List SiteRecords))

-- a table's state, of its parts
abbrev pub state : List ℕ → Homes → List View → State (List SiteRecords) View
state words homes views = record { words = words; homes = homes; views = views }

-- two shares' views that are one view are one
pub share-injective : (v w : ShareView) → Share v ≡ Share w → v ≡ w
share-injective v w e = cc

-- a share's view stands behind the opener's
pub behind_opener : (opener : OpenerView) (shares : List View) (id : ℕ) (v : ShareView)
    → get_elem? (Opener opener ∷ shares) id ≡ some (Share v) → (k : ℕ) × (id ≡ suc k) × (get_elem? shares k ≡ some (Share v))
behind_opener opener shares zero v e = let same : Opener opener ≡ Share v = some-injective (Opener opener) (Share v) e in cc
behind_opener opener shares (suc k) v e = (k, refl, e)

-- the opener's view stands first
pub opener_first : (opener : OpenerView) (shares : List View) → ((k : ℕ) (o : OpenerView) → get_elem? shares k ≡ some (Opener o) → ⊥)
    → (id : ℕ) (o : OpenerView) → get_elem? (Opener opener ∷ shares) id ≡ some (Opener o) → (id ≡ 0) × (opener ≡ o)
opener_first opener shares lacks zero o e = let same : Opener opener ≡ Opener o = some-injective (Opener opener) (Opener o) e in (refl, cc)
opener_first opener shares lacks (suc k) o e = absurd (lacks k o e)

-- a seat that becomes no opener's leaves no opener's among the shares
pub still_no_opener : (shares : List View) (k : ℕ) (w : View) → ((o : OpenerView) → w ≡ Opener o → ⊥)
    → ((k : ℕ) (o : OpenerView) → get_elem? shares k ≡ some (Opener o) → ⊥)
    → (j : ℕ) (o : OpenerView) → get_elem? (set shares k w) j ≡ some (Opener o) → ⊥
still_no_opener shares k w not lacks j o e =
    ⊎_elim (λ t. not o t.1) (λ t. lacks j o t.1) (at_set shares k j w (Opener o) e)

-- a share at a site counts there
pub counts_at : (v : ShareView) (site : ℕ) → v.site ≡ site → if_at site v ≡ 1
counts_at v site same = ap (λ b. cond {A = ℕ} b 1 0) (eq-eqb v.site site same)

-- 1 at the most
pub cond-le-one : (b : Bool) → cond {A = ℕ} b 1 0 ≤ 1
cond-le-one b = elim b as (λ b. cond {A = ℕ} b 1 0 ≤ 1) [ true ↦ omega arith | false ↦ omega arith ]

module _ (s : State (List SiteRecords) View) (kept : IsKept s) where
  -- how many shares hold the book
  abbrev pub holders : ℕ
  holders = over_shares if_holds kept.opener kept.shares

  -- the turn is that number
  pub turn_is : slice_index s.words 0 ≡ holders
  turn_is = ap (λ (ws : List ℕ). slice_index ws 0) kept.turn

  -- where the view of a share stands
  pub share_place : (id : ℕ) (v : ShareView) → get_elem? s.views id ≡ some (Share v)
      → (k : ℕ) × (id ≡ suc k) × (get_elem? kept.shares k ≡ some (Share v))
  share_place id v there = behind_opener kept.opener kept.shares id v (ap (λ (vs : List View). get_elem? vs id) (sym kept.views) ∙ there)

  -- where the view of the opener stands, and that it is the opener's
  pub opener_place : (id : ℕ) (o : OpenerView) → get_elem? s.views id ≡ some (Opener o) → (id ≡ 0) × (kept.opener ≡ o)
  opener_place id o there =
      opener_first kept.opener kept.shares kept.no_opener id o (ap (λ (vs : List View). get_elem? vs id) (sym kept.views) ∙ there)

  -- a share is one of its site at least
  one_there : (k : ℕ) (v : ShareView) → get_elem? kept.shares k ≡ some (Share v)
      → 1 ≤ cond {A = ℕ} (nat_lt v.site kept.opener.made) 1 0
  one_there k v there =
      omega (arith, kept.once v.site, term-le-sum_by (of_share (if_at v.site)) kept.shares k (Share v) there, counts_at v v.site refl)

  -- the site of a share is one of those that were made
  pub site_made : (k : ℕ) (v : ShareView) → get_elem? kept.shares k ≡ some (Share v) → v.site < kept.opener.made
  site_made k v there =
      dite (dec_le kept.opener.made v.site)
      (λ past. absurd (let no_site = ap (λ b. cond {A = ℕ} b 1 0) (le-ltb v.site kept.opener.made past) in omega (arith, one_there k v there, no_site)))
      (λ inside. omega arith)

  -- there is at most one share of a site
  most_at : (site : ℕ) → over_shares (if_at site) kept.opener kept.shares ≤ 1
  most_at site = omega (arith, kept.once site, cond-le-one (nat_lt site kept.opener.made))

  -- two shares that are out have two sites
  pub two_sites : (j k : ℕ) (v w : ShareView) → get_elem? kept.shares j ≡ some (Share v) → get_elem? kept.shares k ≡ some (Share w)
      → j ≢ k → v.site ≢ w.site
  two_sites j k v w here there apart same =
      omega (
        arith,
        terms-le-sum_by (of_share (if_at w.site)) kept.shares j k (Share v) (Share w) here there apart,
        counts_at v w.site same,
        counts_at w w.site refl,
        most_at w.site,
      )

  -- a share that came back has another site than one that is out
  pub other_site_ended : (k : ℕ) (w : ShareView) → get_elem? kept.shares k ≡ some (Share w)
      → (j : ℕ) (d : ShareView) → j < length kept.opener.ended → (get_or kept.opener.ended j d).site ≢ w.site
  other_site_ended k w there j d here same =
      let v = get_or kept.opener.ended j d in
      omega (
        arith,
        get_or-le-sum_by (if_at w.site) kept.opener.ended j d here,
        term-le-sum_by (of_share (if_at w.site)) kept.shares k (Share w) there,
        counts_at v w.site same,
        counts_at w w.site refl,
        most_at w.site,
      )

  -- where one share's view changes, and the book with it, the rule is kept with the turn and the home that this makes
  pub share_moves : (id : ℕ) (v w : ShareView) (book : List SiteRecords) (words : List ℕ) (homes : Homes) (count : ℕ)
      → get_elem? s.views id ≡ some (Share v) → v.site ≡ w.site
      → count + if_holds v ≡ holders + if_holds w → words ≡ count ∷ [] → count ≤ 1
      → (count ≡ 0 → homes ≡ some book ∷ []) → (count ≡ 1 → homes ≡ none ∷ [])
      → places_in book ≡ kept.opener.places → IsOfBook book w
      → ((j k : ℕ) (u : ShareView) → get_elem? kept.shares k ≡ some (Share v) → j ≢ k → get_elem? kept.shares j ≡ some (Share u) → IsOfBook book u)
      → All (IsOfBook book) kept.opener.ended
      → ((site : ℕ) → kept.opener.made ≤ site → (at_site book site).records ≡ [])
      → IsKept (state words homes (set s.views id (Share w)))
  share_moves id v w book words homes count there same counted turn most home out places of_book others ended beyond =
      let here = share_place id v there in
      let k = here.0 in
      let after = set kept.shares k (Share w) in
      let sum : (f : ShareView → ℕ) → over_shares f kept.opener after + f v ≡ over_shares f kept.opener kept.shares + f w =
      λ f. omega (arith, sum_by-set_there (of_share f) kept.shares k (Share v) (Share w) here.2) in
      let total : count ≡ over_shares if_holds kept.opener after = omega (arith, sum if_holds, counted) in
      record {
        opener = kept.opener;
        shares = after;
        book = book;
        views = ap (λ (i : ℕ). set s.views i (Share w)) here.1 ∙ ap (λ (vs : List View). set vs (suc k) (Share w)) kept.views;
        no_opener = still_no_opener kept.shares k (Share w) (λ o e. cc) kept.no_opener;
        once = λ site.
            let as_before : if_at site v ≡ if_at site w = ap (λ (x : ℕ). cond {A = ℕ} (x == site) 1 0) same in
            omega (arith, sum (if_at site), kept.once site, as_before);
        all = omega (arith, sum one, kept.all);
        turn = turn ∙ ap (λ (n : ℕ). n ∷ []) total;
        most = omega (arith, total, most);
        none_ended = kept.none_ended;
        home = λ e. home (total ∙ e);
        out = λ e. out (total ∙ e);
        places = places;
        each = λ j u e.
            ⊎_elim (λ t. subst (IsOfBook book) (share-injective w u t.1) of_book) (λ t. others j k u here.2 t.0 t.1)
            (at_set kept.shares k j (Share w) (Share u) e);
        each_ended = ended;
        beyond = beyond;
      }
