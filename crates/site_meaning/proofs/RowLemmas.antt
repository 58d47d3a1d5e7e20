-- The rows of a site and those that name no site say of the site what all rows say.
use Rattle.std.proofs.Common.{◌≡◌, ℕ, Bool, true, false, ◌&&◌, cond, eqb, List, [], ◌∷◌, ◌++◌, Option, None, refl, sym, ap, ◌∙◌}
use Rattle.std.specs.Prelude.{filter}
use Rattle.std.proofs.lemmas.Bool.{and_left, cond-true, cond-false, true≢false}
use Rattle.std.proofs.lemmas.List.Elements.{filter-append}
use Rattle.plan_rows.specs.declared.row.Row.{Row}
use Rattle.plan_rows.specs.declared.row.Row.TheVariants as row
use Rattle.plan_rows.specs.declared.row.DieRow.{DieRow}
use Rattle.plan_rows.specs.declared.row.FaultRow.{FaultRow}
use Rattle.plan_rows.specs.declared.row.StopRow.{StopRow}
use Rattle.plan_rows.specs.declared.row.SkewRow.{SkewRow}
use Rattle.plan_rows.specs.Rows.{one, each_of, as_lot, as_clock, as_bind, as_bin, as_die, as_fault, as_stop, as_skew, dies_at, faults_at, stops_at, skews_at, is_about}
use Rattle.site_meaning.specs.Part.{rows_for}

-- ---- rows of another site

-- a row of another site is a die, a fault, a stop or a skew of it
of_other_site : (site : ℕ) (P : Row → Type 0) → ((d : DieRow) → eqb d.site site ≡ false → P (row.Die d))
    → ((f : FaultRow) → eqb f.site site ≡ false → P (row.Fault f)) → ((s : StopRow) → eqb s.site site ≡ false → P (row.Stop s))
    → ((k : SkewRow) → eqb k.site site ≡ false → P (row.Skew k)) → (r : Row) → is_about site r ≡ false → P r
of_other_site site P die fault stop skew (row.Lot l) h = absurd (true≢false h)
of_other_site site P die fault stop skew (row.Clock s) h = absurd (true≢false h)
of_other_site site P die fault stop skew (row.Bind b) h = absurd (true≢false h)
of_other_site site P die fault stop skew (row.Die d) h = die d h
of_other_site site P die fault stop skew (row.Fault f) h = fault f h
of_other_site site P die fault stop skew (row.Stop s) h = stop s h
of_other_site site P die fault stop skew (row.Bin b) h = absurd (true≢false h)
of_other_site site P die fault stop skew (row.Skew k) h = skew k h

-- ---- what rows give

-- one row more
step-siteless : {A : Type 0} (f : Row → Option A) (here : Bool) (r : Row) (kept rows : List Row) → (here ≡ false → f r ≡ None)
    → each_of f kept ≡ each_of f rows → each_of f (cond here (r ∷ kept) kept) ≡ each_of f (r ∷ rows)
step-siteless {A} f true r kept rows none same = ap (λ (l : List A). one (f r) ++ l) same
step-siteless {A} f false r kept rows none same = same ∙ ap (λ (o : Option A). one o ++ each_of f rows) (sym (none refl))

-- what no row of another site gives
each-siteless : {A : Type 0} (site : ℕ) (f : Row → Option A) → ((r : Row) → is_about site r ≡ false → f r ≡ None)
    → (rows : List Row) → each_of f (rows_for site rows) ≡ each_of f rows
unfolding rows_for
each-siteless site f none [] = refl
each-siteless site f none (r ∷ rows) =
    step-siteless f (is_about site r) r (rows_for site rows) rows (none r) (each-siteless site f none rows)

step-sited : {A : Type 0} (f : Row → Option A) (test : A → Bool) (here : Bool) (r : Row) (kept rows : List Row)
    → (here ≡ false → filter test (one (f r)) ≡ []) → filter test (each_of f kept) ≡ filter test (each_of f rows)
    → filter test (each_of f (cond here (r ∷ kept) kept)) ≡ filter test (each_of f (r ∷ rows))
step-sited {A} f test true r kept rows none same =
    filter-append test (one (f r)) (each_of f kept) ∙ ap (λ (l : List A). filter test (one (f r)) ++ l) same
    ∙ sym (filter-append test (one (f r)) (each_of f rows))
step-sited {A} f test false r kept rows none same =
    same ∙ ap (λ (l : List A). l ++ filter test (each_of f rows)) (sym (none refl))
    ∙ sym (filter-append test (one (f r)) (each_of f rows))

-- what the rows of another site give that doesn't pass
each-sited : {A : Type 0} (site : ℕ) (f : Row → Option A) (test : A → Bool)
    → ((r : Row) → is_about site r ≡ false → filter test (one (f r)) ≡ []) → (rows : List Row)
    → filter test (each_of f (rows_for site rows)) ≡ filter test (each_of f rows)
unfolding rows_for
each-sited site f test none [] = refl
each-sited site f test none (r ∷ rows) =
    step-sited f test (is_about site r) r (rows_for site rows) rows (none r) (each-sited site f test none rows)

-- ---- the rows that name no site

pub lots-same : (site : ℕ) (rows : List Row) → each_of as_lot (rows_for site rows) ≡ each_of as_lot rows
lots-same site rows =
    each-siteless site as_lot
    (λ r h. of_other_site site (λ r. as_lot r ≡ None) (λ d e. refl) (λ f e. refl) (λ s e. refl) (λ k e. refl) r h) rows

pub clocks-same : (site : ℕ) (rows : List Row) → each_of as_clock (rows_for site rows) ≡ each_of as_clock rows
clocks-same site rows =
    each-siteless site as_clock
    (λ r h. of_other_site site (λ r. as_clock r ≡ None) (λ d e. refl) (λ f e. refl) (λ s e. refl) (λ k e. refl) r h) rows

pub binds-same : (site : ℕ) (rows : List Row) → each_of as_bind (rows_for site rows) ≡ each_of as_bind rows
binds-same site rows =
    each-siteless site as_bind
    (λ r h. of_other_site site (λ r. as_bind r ≡ None) (λ d e. refl) (λ f e. refl) (λ s e. refl) (λ k e. refl) r h) rows

pub bins-same : (site : ℕ) (rows : List Row) → each_of as_bin (rows_for site rows) ≡ each_of as_bin rows
bins-same site rows =
    each-siteless site as_bin
    (λ r h. of_other_site site (λ r. as_bin r ≡ None) (λ d e. refl) (λ f e. refl) (λ s e. refl) (λ k e. refl) r h) rows

-- ---- the rows of the site

-- one item that doesn't pass
none_passes : {A : Type 0} (test : A → Bool) (x : A) → test x ≡ false → filter test (x ∷ []) ≡ []
none_passes test x h = cond-false (test x) (x ∷ []) [] h

pub dies-same : (site : ℕ) (rows : List Row) → dies_at site (rows_for site rows) ≡ dies_at site rows
dies-same site rows =
    let test : DieRow → Bool = λ d. eqb d.site site in
    each-sited site as_die test
    (λ r h. of_other_site site (λ r. filter test (one (as_die r)) ≡ []) (λ d e. none_passes test d e) (λ f e. refl) (λ s e. refl)
    (λ k e. refl) r h) rows

pub faults-same : (site die : ℕ) (rows : List Row) → faults_at site die (rows_for site rows) ≡ faults_at site die rows
faults-same site die rows =
    let test : FaultRow → Bool = λ f. eqb f.site site && eqb f.die die in
    each-sited site as_fault test
    (λ r h. of_other_site site (λ r. filter test (one (as_fault r)) ≡ []) (λ d e. refl)
    (λ f e. none_passes test f (and_left (eqb f.site site) (eqb f.die die) e)) (λ s e. refl) (λ k e. refl) r h) rows

pub stops-same : (site die : ℕ) (rows : List Row) → stops_at site die (rows_for site rows) ≡ stops_at site die rows
stops-same site die rows =
    let test : StopRow → Bool = λ s. eqb s.site site && eqb s.die die in
    each-sited site as_stop test
    (λ r h. of_other_site site (λ r. filter test (one (as_stop r)) ≡ []) (λ d e. refl) (λ f e. refl)
    (λ s e. none_passes test s (and_left (eqb s.site site) (eqb s.die die) e)) (λ k e. refl) r h) rows

pub skews-same : (site : ℕ) (rows : List Row) → skews_at site (rows_for site rows) ≡ skews_at site rows
skews-same site rows =
    let test : SkewRow → Bool = λ k. eqb k.site site in
    each-sited site as_skew test
    (λ r h. of_other_site site (λ r. filter test (one (as_skew r)) ≡ []) (λ d e. refl) (λ f e. refl) (λ s e. refl)
    (λ k e. none_passes test k e) r h) rows

-- the rows of a site are taken once
step-once : (site : ℕ) (here : Bool) (r : Row) (kept : List Row) → is_about site r ≡ here → rows_for site kept ≡ kept
    → rows_for site (cond here (r ∷ kept) kept) ≡ cond here (r ∷ kept) kept
unfolding rows_for
step-once site true r kept is same =
    cond-true (is_about site r) (r ∷ rows_for site kept) (rows_for site kept) is ∙ ap (λ (l : List Row). r ∷ l) same
step-once site false r kept is same = same

pub rows_for-rows_for : (site : ℕ) (rows : List Row) → rows_for site (rows_for site rows) ≡ rows_for site rows
unfolding rows_for
rows_for-rows_for site [] = refl
rows_for-rows_for site (r ∷ rows) =
    step-once site (is_about site r) r (rows_for site rows) refl (rows_for-rows_for site rows)
