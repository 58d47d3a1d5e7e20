-- Rows of one site, with another number in its place, say of that site what they said of the one.
use Rattle.std.proofs.Common.{◌≡◌, ℕ, Bool, true, false, ◌&&◌, cond, List, [], ◌∷◌, ◌++◌, map, Option, Some, None, refl, sym, ap, ◌∙◌, subst}
use Rattle.std.specs.Prelude.{filter, ◌==◌}
use Rattle.std.specs.List.{AllByRecursion}
use Rattle.std.specs.Option.{option_map}
use Rattle.std.proofs.lemmas.Bool.{eq-eqb}
use Rattle.std.proofs.lemmas.Option.{none-some, same_Some}
use Rattle.plan_rows.specs.declared.row.Row.{Row}
use Rattle.plan_rows.specs.declared.row.DieRow.{DieRow}
use Rattle.plan_rows.specs.declared.row.FaultRow.{FaultRow}
use Rattle.plan_rows.specs.declared.row.SkewRow.{SkewRow}
use Rattle.plan_rows.specs.declared.row.StopRow.{StopRow}
use Rattle.plan_rows.specs.Rows.{one, each_of, as_lot, as_clock, as_bind, as_bin, as_die, as_fault, as_stop, as_skew, dies_at, faults_at, stops_at, skews_at, is_about}
use Rattle.site_meaning.specs.Part.{rows_for}
use Rattle.plan_parts.specs.Moved.{moved}
use Rattle.plan_parts.proofs.CutLemmas.{by_kind}

-- ---- rows by their kinds

-- what is said of a row that isn't there
none : {A K : Type 0} (Stays : A → Type 0) (k : K) {b : Bool} → b ≡ true → (x : A) → ◌≡◌ {A = Option A} None (Some x) → Stays x
none Stays k is x same = absurd (none-some x same)

-- ---- rows that name no site

-- what moved rows give where each gives the same
each_same : {A : Type 0} (f : Row → Option A) (site : ℕ) → ((r : Row) → f (moved site r) ≡ f r) → (rows : List Row)
    → each_of f (map (moved site) rows) ≡ each_of f rows
each_same f site same [] = refl
each_same {A} f site same (r ∷ rows) =
    ap (λ (o : Option A). one o ++ each_of f (map (moved site) rows)) (same r) ∙ ap (λ (l : List A). one (f r) ++ l) (each_same f site same rows)

pub lots_moved : (site : ℕ) (rows : List Row) → each_of as_lot (map (moved site) rows) ≡ each_of as_lot rows
lots_moved site rows =
    each_same as_lot site
    (by_kind (λ r. as_lot (moved site r) ≡ as_lot r) (λ l. refl) (λ s. refl) (λ b. refl) (λ b. refl) (λ d. refl) (λ f. refl) (λ s. refl) (λ k. refl)) rows

pub clocks_moved : (site : ℕ) (rows : List Row) → each_of as_clock (map (moved site) rows) ≡ each_of as_clock rows
clocks_moved site rows =
    each_same as_clock site
    (by_kind (λ r. as_clock (moved site r) ≡ as_clock r) (λ l. refl) (λ s. refl) (λ b. refl) (λ b. refl) (λ d. refl) (λ f. refl) (λ s. refl) (λ k. refl)) rows

pub binds_moved : (site : ℕ) (rows : List Row) → each_of as_bind (map (moved site) rows) ≡ each_of as_bind rows
binds_moved site rows =
    each_same as_bind site
    (by_kind (λ r. as_bind (moved site r) ≡ as_bind r) (λ l. refl) (λ s. refl) (λ b. refl) (λ b. refl) (λ d. refl) (λ f. refl) (λ s. refl) (λ k. refl)) rows

pub bins_moved : (site : ℕ) (rows : List Row) → each_of as_bin (map (moved site) rows) ≡ each_of as_bin rows
bins_moved site rows =
    each_same as_bin site
    (by_kind (λ r. as_bin (moved site r) ≡ as_bin r) (λ l. refl) (λ s. refl) (λ b. refl) (λ b. refl) (λ d. refl) (λ f. refl) (λ s. refl) (λ k. refl)) rows

-- ---- rows of the site

-- each row is of this site, or of none
abbrev pub AreOf : ℕ → List Row → Type 0
AreOf site rows = AllByRecursion (λ (r : Row). is_about site r ≡ true) rows

-- the rows of a site are
pub rows_of : (site : ℕ) (rows : List Row) → AreOf site (rows_for site rows)
unfolding rows_for
rows_of site [] = tt
rows_of site (r ∷ rows) = by (is_about site r) refl (rows_of site rows)
  where
    by : (b : Bool) → is_about site r ≡ b → AreOf site (filter (is_about site) rows)
        → AreOf site (cond b (r ∷ filter (is_about site) rows) (filter (is_about site) rows))
    by true is later = (is, later)
    by false is later = later

-- A list with a test and a change: where each row gives one item of the site or none, and the moved row gives that item
-- changed, the items of the moved rows that pass at their new place are those that pass at the old one, changed.
module _ {A : Type 0} (f : Row → Option A) (site place : ℕ) (change : A → A) (test test' : A → Bool)
    (gives : (r : Row) → is_about site r ≡ true → f (moved place r) ≡ option_map change (f r))
    (passes : (r : Row) → is_about site r ≡ true → (x : A) → f r ≡ Some x → test' (change x) ≡ test x) where
  moved_items : (rows : List Row) → AreOf site rows
      → filter test' (each_of f (map (moved place) rows)) ≡ map change (filter test (each_of f rows))
  moved_items [] of_site = refl
  moved_items (r ∷ rows) of_site =
      ap (λ (o : Option A). filter test' (one o ++ each_of f (map (moved place) rows))) (gives r of_site.0)
      ∙ by (f r) (passes r of_site.0) (moved_items rows of_site.1)
    where
      there : (x : A) (b : Bool) → cond b (change x ∷ map change (filter test (each_of f rows))) (map change (filter test (each_of f rows)))
          ≡ map change (cond b (x ∷ filter test (each_of f rows)) (filter test (each_of f rows)))
      there x true = refl
      there x false = refl

      by : (o : Option A) → ((x : A) → o ≡ Some x → test' (change x) ≡ test x)
          → filter test' (each_of f (map (moved place) rows)) ≡ map change (filter test (each_of f rows))
          → filter test' (one (option_map change o) ++ each_of f (map (moved place) rows)) ≡ map change (filter test (one o ++ each_of f rows))
      by None same rest = rest
      by (Some x) same rest =
          ap (λ (b : Bool). cond b (change x ∷ filter test' (each_of f (map (moved place) rows))) (filter test' (each_of f (map (moved place) rows))))
          (same x refl)
          ∙ ap (λ (l : List A). cond (test x) (change x ∷ l) l) rest
          ∙ there x (test x)

-- the dies of the site
pub dies_moved : (site place : ℕ) (rows : List Row) → AreOf site rows
    → dies_at place (map (moved place) rows) ≡ map (λ (x : DieRow). record x { site = place }) (dies_at site rows)
dies_moved site place rows of_site =
    moved_items as_die site place (λ (x : DieRow). record x { site = place })
    (λ (x : DieRow). x.site == site) (λ (x : DieRow). x.site == place)
    (by_kind (λ r. is_about site r ≡ true → as_die (moved place r) ≡ option_map (λ (x : DieRow). record x { site = place }) (as_die r))
    (λ l is. refl) (λ s is. refl) (λ b is. refl) (λ b is. refl) (λ d is. refl) (λ f is. refl) (λ s is. refl) (λ k is. refl))
    (by_kind (λ r. is_about site r ≡ true → (x : DieRow) → as_die r ≡ Some x → (place == place) ≡ (x.site == site)) (λ y. none _ y) (λ y. none _ y) (λ y. none _ y) (λ y. none _ y)
    (λ x is y same. subst (λ (x : DieRow). (place == place) ≡ (x.site == site)) (same_Some x y same) (stays x is)) (λ y. none _ y) (λ y. none _ y) (λ y. none _ y)) rows of_site
  where
    stays : (x : DieRow) → x.site == site ≡ true → (place == place) ≡ (x.site == site)
    stays x is = eq-eqb place place refl ∙ sym is

-- the faults of the site
pub faults_moved : (site die place : ℕ) (rows : List Row) → AreOf site rows
    → faults_at place die (map (moved place) rows) ≡ map (λ (x : FaultRow). record x { site = place }) (faults_at site die rows)
faults_moved site die place rows of_site =
    moved_items as_fault site place (λ (x : FaultRow). record x { site = place })
    (λ (x : FaultRow). (x.site == site) && (x.die == die)) (λ (x : FaultRow). (x.site == place) && (x.die == die))
    (by_kind (λ r. is_about site r ≡ true → as_fault (moved place r) ≡ option_map (λ (x : FaultRow). record x { site = place }) (as_fault r))
    (λ l is. refl) (λ s is. refl) (λ b is. refl) (λ b is. refl) (λ d is. refl) (λ f is. refl) (λ s is. refl) (λ k is. refl))
    (by_kind (λ r. is_about site r ≡ true → (x : FaultRow) → as_fault r ≡ Some x → ((place == place) && (x.die == die)) ≡ ((x.site == site) && (x.die == die))) (λ y. none _ y) (λ y. none _ y) (λ y. none _ y) (λ y. none _ y)
    (λ y. none _ y) (λ x is y same. subst (λ (x : FaultRow). ((place == place) && (x.die == die)) ≡ ((x.site == site) && (x.die == die))) (same_Some x y same) (stays x is)) (λ y. none _ y) (λ y. none _ y)) rows of_site
  where
    stays : (x : FaultRow) → x.site == site ≡ true → ((place == place) && (x.die == die)) ≡ ((x.site == site) && (x.die == die))
    stays x is = ap (λ (b : Bool). b && (x.die == die)) (eq-eqb place place refl ∙ sym is)

-- the stops of the site
pub stops_moved : (site die place : ℕ) (rows : List Row) → AreOf site rows
    → stops_at place die (map (moved place) rows) ≡ map (λ (x : StopRow). record x { site = place }) (stops_at site die rows)
stops_moved site die place rows of_site =
    moved_items as_stop site place (λ (x : StopRow). record x { site = place })
    (λ (x : StopRow). (x.site == site) && (x.die == die)) (λ (x : StopRow). (x.site == place) && (x.die == die))
    (by_kind (λ r. is_about site r ≡ true → as_stop (moved place r) ≡ option_map (λ (x : StopRow). record x { site = place }) (as_stop r))
    (λ l is. refl) (λ s is. refl) (λ b is. refl) (λ b is. refl) (λ d is. refl) (λ f is. refl) (λ s is. refl) (λ k is. refl))
    (by_kind (λ r. is_about site r ≡ true → (x : StopRow) → as_stop r ≡ Some x → ((place == place) && (x.die == die)) ≡ ((x.site == site) && (x.die == die))) (λ y. none _ y) (λ y. none _ y) (λ y. none _ y) (λ y. none _ y)
    (λ y. none _ y) (λ y. none _ y) (λ x is y same. subst (λ (x : StopRow). ((place == place) && (x.die == die)) ≡ ((x.site == site) && (x.die == die))) (same_Some x y same) (stays x is)) (λ y. none _ y)) rows of_site
  where
    stays : (x : StopRow) → x.site == site ≡ true → ((place == place) && (x.die == die)) ≡ ((x.site == site) && (x.die == die))
    stays x is = ap (λ (b : Bool). b && (x.die == die)) (eq-eqb place place refl ∙ sym is)

-- the skews of the site
pub skews_moved : (site place : ℕ) (rows : List Row) → AreOf site rows
    → skews_at place (map (moved place) rows) ≡ map (λ (x : SkewRow). record x { site = place }) (skews_at site rows)
skews_moved site place rows of_site =
    moved_items as_skew site place (λ (x : SkewRow). record x { site = place })
    (λ (x : SkewRow). x.site == site) (λ (x : SkewRow). x.site == place)
    (by_kind (λ r. is_about site r ≡ true → as_skew (moved place r) ≡ option_map (λ (x : SkewRow). record x { site = place }) (as_skew r))
    (λ l is. refl) (λ s is. refl) (λ b is. refl) (λ b is. refl) (λ d is. refl) (λ f is. refl) (λ s is. refl) (λ k is. refl))
    (by_kind (λ r. is_about site r ≡ true → (x : SkewRow) → as_skew r ≡ Some x → (place == place) ≡ (x.site == site)) (λ y. none _ y) (λ y. none _ y) (λ y. none _ y) (λ y. none _ y)
    (λ y. none _ y) (λ y. none _ y) (λ y. none _ y) (λ x is y same. subst (λ (x : SkewRow). (place == place) ≡ (x.site == site)) (same_Some x y same) (stays x is))) rows of_site
  where
    stays : (x : SkewRow) → x.site == site ≡ true → (place == place) ≡ (x.site == site)
    stays x is = eq-eqb place place refl ∙ sym is
