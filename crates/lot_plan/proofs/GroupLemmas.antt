-- The rows of a plan, put one by one behind those of their dies, are the rows of each die.
use Rattle.std.proofs.Common.{◌≡◌, ℕ, ◌==◌, ◌+◌, ◌<◌, ◌≤◌, Bool, true, false, ◌&&◌, cond, max, List, [], ◌∷◌, ◌++◌, length, map, get_or, replicate, slice_set, refl, sym, ap, ◌∙◌, subst, arith, inl, inr, append_assoc, length-set}
use Rattle.std.specs.Prelude.{All, fold, filter}
use Rattle.std.proofs.lemmas.Bool.{cases_eq, cases_lt, eq-eqb, ne_eqb}
use Rattle.std.proofs.lemmas.List.{get_or-set_same, get_or-set_other, get_or-map, get_or-replicate, get_or_past, length-map, length-replicate, append-nil}
use Rattle.std.proofs.lemmas.List.Elements.{All-head, All-tail, All-cons}
use Rattle.plan_rows.specs.declared.row.Row.{Row}
use Rattle.plan_rows.specs.declared.row.DieRow.{DieRow}
use Rattle.plan_rows.specs.declared.row.FaultRow.{FaultRow}
use Rattle.plan_rows.specs.declared.row.StopRow.{StopRow}
use Rattle.plan_rows.specs.Rows.{AreKept, each_of, as_fault, as_stop, dies_of, dies_at, faults_at, stops_at, sites_of, files_of}
use Rattle.plan_rows.proofs.RowLemmas.{greatest, greatest-from}
use Rattle.lot_plan.specs.Bound.{die_at, file_of}
use Rattle.lot_plan.specs.Groups.{DieRows, no_rows, group_at, rows_at, with_fault, with_stop, new_die, put_die, put_fault, put_stop, IsThere, HasShape, IsGroup, AreGroups}

-- one die's rows are replaced
abbrev put_at : List (List DieRows) → ℕ → ℕ → DieRows → List (List DieRows)
put_at sites k n x = slice_set sites k (slice_set (group_at sites k) n x)

rows-same : (sites : List (List DieRows)) (k n : ℕ) (x : DieRows) → IsThere sites k n → rows_at (put_at sites k n x) k n ≡ x
rows-same sites k n x there =
    ap (λ g. get_or g n no_rows) (get_or-set_same sites k (slice_set (group_at sites k) n x) [] there.here)
    ∙ get_or-set_same (group_at sites k) n x no_rows there.has

rows-other : (sites : List (List DieRows)) (k n s d : ℕ) (x : DieRows) → IsThere sites k n → (s ≡ k → d ≡ n → ⊥) →
    rows_at (put_at sites k n x) s d ≡ rows_at sites s d
rows-other sites k n s d x there other =
    elim (cases_eq s k) [
      | inl e ↦ subst (λ t. rows_at (put_at sites k n x) t d ≡ rows_at sites t d) (sym e)
          (ap (λ g. get_or g d no_rows) (get_or-set_same sites k (slice_set (group_at sites k) n x) [] there.here)
          ∙ get_or-set_other (group_at sites k) n d x no_rows (other e))
      | inr e ↦ ap (λ g. get_or g d no_rows) (get_or-set_other sites k s (slice_set (group_at sites k) n x) [] e)
    ]

shape-put : (sites : List (List DieRows)) (k n : ℕ) (x : DieRows) → IsThere sites k n → HasShape sites (put_at sites k n x)
shape-put sites k n x there = record {
  count = length-set sites k (slice_set (group_at sites k) n x);
  each = λ s. elim (cases_eq s k) [
    | inl e ↦ subst (λ t. length (group_at (put_at sites k n x) t) ≡ length (group_at sites t)) (sym e)
        (ap length (get_or-set_same sites k (slice_set (group_at sites k) n x) [] there.here)
        ∙ length-set (group_at sites k) n x)
    | inr e ↦ ap length (get_or-set_other sites k s (slice_set (group_at sites k) n x) [] e)
  ];
}

-- a die stays where the shape does
pub there-shape : (sites made : List (List DieRows)) (s d : ℕ) → HasShape sites made → IsThere sites s d → IsThere made s d
there-shape sites made s d shape there = record {
  here = omega (arith, shape.count, there.here);
  has = omega (arith, shape.each s, there.has);
}

pub shape-shape : (a b c : List (List DieRows)) → HasShape a b → HasShape b c → HasShape a c
shape-shape a b c f g = record { count = g.count ∙ f.count; each = λ s. g.each s ∙ f.each s }

-- items of one kind, each put behind those of its die
module _ {X : Type 0} (site number : X → ℕ) (add : DieRows → X → DieRows) where
  abbrev put : List (List DieRows) → X → List (List DieRows)
  put sites x = put_at sites (site x) (number x) (add (rows_at sites (site x) (number x)) x)

  abbrev AreThere : List (List DieRows) → List X → Type 0
  AreThere sites xs = All (λ x. IsThere sites (site x) (number x)) xs

  still_there : (sites made : List (List DieRows)) (xs : List X) → HasShape sites made → AreThere sites xs → AreThere made xs
  still_there sites made xs shape all k d within = there-shape sites made _ _ shape (all k d within)

  head-there : (sites : List (List DieRows)) (x : X) (xs : List X) → AreThere sites (x ∷ xs) → IsThere sites (site x) (number x)
  head-there sites x xs all = All-head (λ y. IsThere sites (site y) (number y)) x xs all

  tail-there : (sites : List (List DieRows)) (x : X) (xs : List X) → AreThere sites (x ∷ xs) → AreThere (put sites x) xs
  tail-there sites x xs all =
      still_there sites (put sites x) xs (shape-put sites (site x) (number x) _ (head-there sites x xs all))
      (All-tail (λ y. IsThere sites (site y) (number y)) x xs all)

  shape-fold : (xs : List X) (sites : List (List DieRows)) → AreThere sites xs → HasShape sites (fold put sites xs)
  shape-fold [] sites all = record { count = refl; each = λ s. refl }
  shape-fold (x ∷ xs) sites all =
      shape-shape sites (put sites x) (fold put (put sites x) xs)
      (shape-put sites (site x) (number x) _ (head-there sites x xs all))
      (shape-fold xs (put sites x) (tail-there sites x xs all))

  abbrev is_of : ℕ → ℕ → X → Bool
  is_of s d x = (site x == s) && (number x == d)

  one_put : (sites : List (List DieRows)) (x : X) (xs : List X) (s d : ℕ) → IsThere sites (site x) (number x) →
      fold add (rows_at (put sites x) s d) (filter (is_of s d) xs) ≡ fold add (rows_at sites s d) (filter (is_of s d) (x ∷ xs))
  one_put sites x xs s d there =
      elim (cases_eq (site x) s) [
        | inl e ↦ elim (cases_eq (number x) d) [
          | inl f ↦
              let test : is_of s d x ≡ true = ap (λ b. b && (number x == d)) (eq-eqb (site x) s e) ∙ eq-eqb (number x) d f in
              ap (λ r. fold add r (filter (is_of s d) xs))
              (ap (λ t. rows_at (put sites x) t d) (sym e) ∙ ap (λ t. rows_at (put sites x) (site x) t) (sym f)
              ∙ rows-same sites (site x) (number x) _ there
              ∙ ap (λ t. add (rows_at sites t (number x)) x) e ∙ ap (λ t. add (rows_at sites s t) x) f)
              ∙ sym (ap (λ b. fold add (rows_at sites s d) (cond b (x ∷ filter (is_of s d) xs) (filter (is_of s d) xs))) test)
          | inr f ↦
              let test : is_of s d x ≡ false = ap (λ b. b && (number x == d)) (eq-eqb (site x) s e) ∙ ne_eqb (number x) d f in
              ap (λ r. fold add r (filter (is_of s d) xs))
              (rows-other sites (site x) (number x) s d _ there (λ p q. f (sym q)))
              ∙ sym (ap (λ b. fold add (rows_at sites s d) (cond b (x ∷ filter (is_of s d) xs) (filter (is_of s d) xs))) test)
        ]
        | inr e ↦
            let test : is_of s d x ≡ false = ap (λ b. b && (number x == d)) (ne_eqb (site x) s e) in
            ap (λ r. fold add r (filter (is_of s d) xs))
            (rows-other sites (site x) (number x) s d _ there (λ p q. e (sym p)))
            ∙ sym (ap (λ b. fold add (rows_at sites s d) (cond b (x ∷ filter (is_of s d) xs) (filter (is_of s d) xs))) test)
      ]

  -- each die has those that are of it
  rows-fold : (xs : List X) (sites : List (List DieRows)) → AreThere sites xs → (s d : ℕ) →
      rows_at (fold put sites xs) s d ≡ fold add (rows_at sites s d) (filter (is_of s d) xs)
  rows-fold [] sites all s d = refl
  rows-fold (x ∷ xs) sites all s d =
      rows-fold xs (put sites x) (tail-there sites x xs all) s d ∙ one_put sites x xs s d (head-there sites x xs all)

pub shape-put_fault : (sites : List (List DieRows)) (f : FaultRow) → IsThere sites f.site f.die →
    HasShape sites (put_fault sites f)
shape-put_fault sites f there = shape-put sites f.site f.die _ there

-- what the folds of one die's faults and stops are
fold-faults : (fs : List FaultRow) (r : DieRows) →
    fold with_fault r fs ≡ record { die = r.die; file = r.file; faults = r.faults ++ fs; stops = r.stops }
fold-faults [] r = ap (λ fs. record { die = r.die; file = r.file; faults = fs; stops = r.stops }) (sym (append-nil r.faults))
fold-faults (f ∷ fs) r =
    fold-faults fs (with_fault r f)
    ∙ ap (λ all. record { die = r.die; file = r.file; faults = all; stops = r.stops }) (append_assoc r.faults (f ∷ []) fs)

fold-stops : (ss : List StopRow) (r : DieRows) →
    fold with_stop r ss ≡ record { die = r.die; file = r.file; faults = r.faults; stops = r.stops ++ ss }
fold-stops [] r = ap (λ ss. record { die = r.die; file = r.file; faults = r.faults; stops = ss }) (sym (append-nil r.stops))
fold-stops (s ∷ ss) r =
    fold-stops ss (with_stop r s)
    ∙ ap (λ all. record { die = r.die; file = r.file; faults = r.faults; stops = all }) (append_assoc r.stops (s ∷ []) ss)

-- a die goes behind those of its site
group-put_die : (files : List (List ℕ)) (sites : List (List DieRows)) (d : DieRow) (ds : List DieRow) (s : ℕ) →
    d.site < length sites →
    group_at (put_die files sites d) s ++ map (new_die files) (filter (λ e. e.site == s) ds)
    ≡ group_at sites s ++ map (new_die files) (filter (λ e. e.site == s) (d ∷ ds))
group-put_die files sites d ds s within =
    elim (cases_eq d.site s) [
      | inl e ↦
          ap (λ g. g ++ map (new_die files) (filter (λ e. e.site == s) ds))
          (ap (λ t. group_at (put_die files sites d) t) (sym e) ∙ get_or-set_same sites d.site _ [] within
          ∙ ap (λ t. group_at sites t ++ new_die files d ∷ []) e)
          ∙ append_assoc (group_at sites s) (new_die files d ∷ []) (map (new_die files) (filter (λ e. e.site == s) ds))
          ∙ sym (ap (λ b. group_at sites s ++ map (new_die files)
          (cond b (d ∷ filter (λ e. e.site == s) ds) (filter (λ e. e.site == s) ds)))
          (eq-eqb d.site s e))
      | inr e ↦
          ap (λ g. g ++ map (new_die files) (filter (λ e. e.site == s) ds))
          (get_or-set_other sites d.site s _ [] (λ q. e (sym q)))
          ∙ sym (ap (λ b. group_at sites s ++ map (new_die files)
          (cond b (d ∷ filter (λ e. e.site == s) ds) (filter (λ e. e.site == s) ds)))
          (ne_eqb d.site s e))
    ]

all-below : (sites : List (List DieRows)) (d : DieRow) (ds : List DieRow) (files : List (List ℕ)) →
    All (λ d. d.site < length sites) (d ∷ ds) →
    All (λ e. e.site < length (put_die files sites d)) ds
all-below sites d ds files all k e within =
    let below = All-tail (λ (x : DieRow). x.site < length sites) d ds all k e within in
    let count : length (put_die files sites d) ≡ length sites = length-set sites d.site
    (group_at sites d.site ++ new_die files d ∷ []) in
    omega (arith, below, count)

-- each site has its dies
dies-fold : (files : List (List ℕ)) (ds : List DieRow) (sites : List (List DieRows)) → All (λ d. d.site < length sites) ds →
    (s : ℕ) →
    group_at (fold (put_die files) sites ds) s ≡ group_at sites s ++ map (new_die files) (filter (λ d. d.site == s) ds)
dies-fold files [] sites all s = sym (append-nil (group_at sites s))
dies-fold files (d ∷ ds) sites all s =
    dies-fold files ds (put_die files sites d) (all-below sites d ds files all) s
    ∙ group-put_die files sites d ds s (All-head (λ (x : DieRow). x.site < length sites) d ds all)

count-fold : (files : List (List ℕ)) (ds : List DieRow) (sites : List (List DieRows)) →
    length (fold (put_die files) sites ds) ≡ length sites
count-fold files [] sites = refl
count-fold files (d ∷ ds) sites =
    count-fold files ds (put_die files sites d) ∙ length-set sites d.site (group_at sites d.site ++ new_die files d ∷ [])

all-greatest : (ds : List DieRow) (most : ℕ) → All (λ d. d.site < greatest most ds) ds
all-greatest [] most = λ k d within. absurd (omega (arith, within))
all-greatest (x ∷ ds) most =
    All-cons (λ d. d.site < greatest most (x ∷ ds)) x ds (omega (arith, greatest-from ds (max most (x.site + 1))))
    (all-greatest ds (max most (x.site + 1)))

-- each die's site is below the number of sites
pub dies-below : (rows : List Row) → All (λ d. d.site < sites_of rows) (dies_of rows)
dies-below rows = all-greatest (dies_of rows) 0

-- past the last site there are no dies
none-past : (ds : List DieRow) (n s : ℕ) → All (λ d. d.site < n) ds → n ≤ s → length (filter (λ d. d.site == s) ds) ≡ 0
none-past [] n s all past = refl
none-past (d ∷ ds) n s all past =
    let here : d.site < n = All-head (λ (x : DieRow). x.site < n) d ds all in
    ap (λ b. length (cond b (d ∷ filter (λ d. d.site == s) ds) (filter (λ d. d.site == s) ds)))
    (ne_eqb d.site s (λ e. absurd (omega (arith, e, here, past))))
    ∙ none-past ds n s (All-tail (λ (x : DieRow). x.site < n) d ds all) past

-- a site that has a die is below the number of sites
pub site-below : (rows : List Row) (s d : ℕ) → d < length (dies_at s rows) → s < sites_of rows
site-below rows s d within =
    elim (cases_lt s (sites_of rows)) [
      | inl h ↦ h
      | inr h ↦ absurd (omega (arith, within, none-past (dies_of rows) (sites_of rows) s (dies-below rows) h))
    ]

-- the sites with their dies
abbrev pub with_dies : List Row → List (List DieRows)
with_dies rows = fold (put_die (files_of rows)) (replicate (sites_of rows) []) (dies_of rows)

nothing-at : (n s : ℕ) → group_at (replicate n []) s ≡ []
nothing-at n s =
    elim (cases_lt s n) [
      | inl h ↦ get_or-replicate n s [] [] h
      | inr h ↦ get_or_past (replicate n []) s [] (omega (arith, h, length-replicate {A = List DieRows} n []))
    ]

all-in : (rows : List Row) → All (λ d. d.site < length (replicate {A = List DieRows} (sites_of rows) [])) (dies_of rows)
all-in rows k d within = omega (arith, dies-below rows k d within, length-replicate {A = List DieRows} (sites_of rows) [])

dies-here : (rows : List Row) (s : ℕ) → group_at (with_dies rows) s ≡ map (new_die (files_of rows)) (dies_at s rows)
dies-here rows s =
    dies-fold (files_of rows) (dies_of rows) (replicate (sites_of rows) []) (all-in rows) s
    ∙ ap (λ g. g ++ map (new_die (files_of rows)) (dies_at s rows)) (nothing-at (sites_of rows) s)

sites-here : (rows : List Row) → length (with_dies rows) ≡ sites_of rows
sites-here rows = count-fold (files_of rows) (dies_of rows) (replicate (sites_of rows) []) ∙ length-replicate (sites_of rows) []

die-there : (rows : List Row) (s d : ℕ) → d < length (dies_at s rows) → IsThere (with_dies rows) s d
die-there rows s d within = record {
  here = omega (arith, sites-here rows, site-below rows s d within);
  has = omega (arith, within, ap length (dies-here rows s) ∙ length-map (dies_at s rows) (new_die (files_of rows)));
}

pub faults-there : (rows : List Row) → AreKept rows → All (λ f. IsThere (with_dies rows) f.site f.die) (each_of as_fault rows)
faults-there rows kept k f within = die-there rows _ _ (kept.faults k f within)

pub stops-there : (rows : List Row) → AreKept rows → All (λ s. IsThere (with_dies rows) s.site s.die) (each_of as_stop rows)
stops-there rows kept k s within = die-there rows _ _ (kept.stops k s within)

-- the dies with their faults, and with their stops too
abbrev pub with_faults : List Row → List (List DieRows)
with_faults rows = fold put_fault (with_dies rows) (each_of as_fault rows)

abbrev pub with_stops : List Row → List (List DieRows)
with_stops rows = fold put_stop (with_faults rows) (each_of as_stop rows)

shape-faults : (rows : List Row) → AreKept rows → HasShape (with_dies rows) (with_faults rows)
shape-faults rows kept = shape-fold (λ (f : FaultRow). f.site) (λ f. f.die) with_fault (each_of as_fault rows)
    (with_dies rows) (faults-there rows kept)

pub stops-there-still : (rows : List Row) → AreKept rows →
    All (λ s. IsThere (with_faults rows) s.site s.die) (each_of as_stop rows)
stops-there-still rows kept =
    still_there (λ (s : StopRow). s.site) (λ s. s.die) with_stop (with_dies rows) (with_faults rows) (each_of as_stop rows)
    (shape-faults rows kept) (stops-there rows kept)

shape-stops : (rows : List Row) → AreKept rows → HasShape (with_dies rows) (with_stops rows)
shape-stops rows kept =
    shape-shape (with_dies rows) (with_faults rows) (with_stops rows) (shape-faults rows kept)
    (shape-fold (λ (s : StopRow). s.site) (λ s. s.die) with_stop (each_of as_stop rows) (with_faults rows)
    (stops-there-still rows kept))

rows-here : (rows : List Row) (s d : ℕ) → AreKept rows → d < length (dies_at s rows) →
    rows_at (with_stops rows) s d
    ≡ record { die = die_at rows s d; file = file_of rows s d; faults = faults_at s d rows; stops = stops_at s d rows }
rows-here rows s d kept within =
    rows-fold (λ (s : StopRow). s.site) (λ s. s.die) with_stop (each_of as_stop rows) (with_faults rows)
    (stops-there-still rows kept) s d
    ∙ ap (λ r. fold with_stop r (stops_at s d rows))
    (rows-fold (λ (f : FaultRow). f.site) (λ f. f.die) with_fault (each_of as_fault rows) (with_dies rows)
    (faults-there rows kept) s d
    ∙ ap (λ r. fold with_fault r (faults_at s d rows))
    (ap (λ g. get_or g d no_rows) (dies-here rows s)
    ∙ get_or-map (new_die (files_of rows)) (dies_at s rows) d (record { site = 0; name = []; file = [] }) no_rows within)
    ∙ fold-faults (faults_at s d rows) (new_die (files_of rows) (die_at rows s d)))
    ∙ fold-stops (stops_at s d rows) _

group-here : (rows : List Row) (s d : ℕ) (r : DieRows) →
    r ≡ record { die = die_at rows s d; file = file_of rows s d; faults = faults_at s d rows; stops = stops_at s d rows } →
    IsGroup rows s d r
group-here rows s d r is = record {
  die = ap (λ (x : DieRows). x.die) is;
  file = ap (λ (x : DieRows). x.file) is;
  faults = ap (λ (x : DieRows). x.faults) is;
  stops = ap (λ (x : DieRows). x.stops) is;
}

pub are-groups : (rows : List Row) → AreKept rows → AreGroups rows (with_stops rows)
are-groups rows kept =
    let shape = shape-stops rows kept in
    let count : (s : ℕ) → length (group_at (with_stops rows) s) ≡ length (dies_at s rows) =
    λ s. shape.each s ∙ ap length (dies-here rows s) ∙ length-map (dies_at s rows) (new_die (files_of rows)) in
    record {
      count = shape.count ∙ sites-here rows;
      dies = λ s within. count s;
      each = λ s d here within. group-here rows s d (rows_at (with_stops rows) s d)
          (rows-here rows s d kept (omega (arith, within, count s)));
    }

-- what the loops made is so
pub is-with_dies : (rows : List Row) (files : List (List ℕ)) (dies : List DieRow) (n : ℕ) (made : List (List DieRows)) →
    files ≡ files_of rows →
    dies ≡ dies_of rows → n ≡ sites_of rows → made ≡ fold (put_die files) (replicate n []) dies → made ≡ with_dies rows
is-with_dies rows files dies n made f d s is =
    is ∙ ap (λ fs. fold (put_die fs) (replicate n []) dies) f ∙ ap (λ k. fold (put_die (files_of rows)) (replicate k []) dies) s
    ∙ ap (fold (put_die (files_of rows)) (replicate (sites_of rows) [])) d

pub faults-there-in : (rows : List Row) (made : List (List DieRows)) (faults : List FaultRow) → AreKept rows →
    made ≡ with_dies rows →
    faults ≡ each_of as_fault rows → All (λ f. IsThere made f.site f.die) faults
faults-there-in rows made faults kept m f =
    subst (λ x. All (λ (f : FaultRow). IsThere x f.site f.die) faults) (sym m)
    (subst (λ x. All (λ (f : FaultRow). IsThere (with_dies rows) f.site f.die) x) (sym f) (faults-there rows kept))

pub stops-there-in : (rows : List Row) (made : List (List DieRows)) (stops : List StopRow) → AreKept rows →
    made ≡ with_faults rows →
    stops ≡ each_of as_stop rows → All (λ s. IsThere made s.site s.die) stops
stops-there-in rows made stops kept m s =
    subst (λ x. All (λ (s : StopRow). IsThere x s.site s.die) stops) (sym m)
    (subst (λ x. All (λ (s : StopRow). IsThere (with_faults rows) s.site s.die) x) (sym s) (stops-there-still rows kept))

-- with the faults and the stops
pub is-with_faults : (rows : List Row) (faults : List FaultRow) (before made : List (List DieRows)) → before ≡ with_dies rows →
    faults ≡ each_of as_fault rows → made ≡ fold put_fault before faults → made ≡ with_faults rows
is-with_faults rows faults before made b f is = is ∙ ap (λ x. fold put_fault x faults) b
    ∙ ap (fold put_fault (with_dies rows)) f

pub are-groups-in : (rows : List Row) (stops : List StopRow) (before made : List (List DieRows)) → AreKept rows →
    before ≡ with_faults rows →
    stops ≡ each_of as_stop rows → made ≡ fold put_stop before stops → AreGroups rows made
are-groups-in rows stops before made kept b s is =
    subst (AreGroups rows) (sym (is ∙ ap (λ x. fold put_stop x stops) b ∙ ap (fold put_stop (with_faults rows)) s))
    (are-groups rows kept)
