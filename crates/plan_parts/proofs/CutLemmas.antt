-- Rows of some sites, each under another number: what they say of a number is what the rows said of the site.
use Rattle.std.proofs.Common.{◌≡◌, ℕ, ◌≤◌, Bool, true, cond, ◌==◌, List, [], ◌∷◌, ◌++◌, length, map, filter, Option, Some, None, refl, sym, ap, ◌∙◌, arith, length-append}
use Rattle.std.specs.Option.{option_map}
use Rattle.std.proofs.lemmas.Bool.{eq-eqb, ne_eqb, cases_eq}
use Rattle.std.proofs.Common.{inl, inr}
use Rattle.std.proofs.lemmas.List.{map-append}
use Rattle.std.proofs.lemmas.List.Elements.{filter-append}
use Rattle.plan_rows.specs.declared.row.Row.{Row}
use Rattle.plan_rows.specs.declared.row.Row.TheVariants as row
use Rattle.plan_rows.specs.declared.row.LotRow.{LotRow}
use Rattle.plan_rows.specs.declared.row.BindRow.{BindRow}
use Rattle.plan_rows.specs.declared.row.BinRow.{BinRow}
use Rattle.plan_rows.specs.declared.row.DieRow.{DieRow}
use Rattle.plan_rows.specs.declared.row.FaultRow.{FaultRow}
use Rattle.plan_rows.specs.declared.row.SkewRow.{SkewRow}
use Rattle.plan_rows.specs.declared.row.StopRow.{StopRow}
use Rattle.plan_rows.specs.Rows.{one, each_of, as_lot, as_die, dies_of, dies_at, site_in}
use Rattle.plan_rows.specs.Judging.{names_at}
use Rattle.plan_rows.proofs.RowLemmas.{each_of-append}
use Rattle.plan_parts.specs.Moved.{moved}

-- ---- a cut: each site has a number or none

-- something that is said of a site or of none, under the site's number
abbrev pub said_at : {A : Type 0} → (ℕ → Option ℕ) → A → (ℕ → A) → Option ℕ → Option A
said_at cut same said None = Some same
said_at cut same said (Some site) = option_map said (cut site)

-- what is left of a row
abbrev pub cut_row : (ℕ → Option ℕ) → Row → Option Row
cut_row cut r = said_at cut r (λ number. moved number r) (site_in r)

-- what is left of rows
abbrev pub cut_rows : (ℕ → Option ℕ) → List Row → List Row
cut_rows cut rows = each_of (cut_row cut) rows

-- no two sites that count have one number, and numbers are small
pub record IsCut (cut : ℕ → Option ℕ) (counts : ℕ → Bool) : Type 0 where
  pub single : (s t n : ℕ) → counts s ≡ true → counts t ≡ true → cut s ≡ Some n → cut t ≡ Some n → s ≡ t
  pub small : (s n : ℕ) → counts s ≡ true → cut s ≡ Some n → n ≤ 63

-- a row's site counts
abbrev pub Counts : (ℕ → Bool) → Row → Type 0
Counts counts r = (s : ℕ) → site_in r ≡ Some s → counts s ≡ true

-- each row's does
abbrev pub AllCount : (ℕ → Bool) → List Row → Type 0
AllCount counts [] = Unit {0}
AllCount counts (r ∷ rows) = Counts counts r × AllCount counts rows

-- rows that count, and more
pub AllCount-append : (counts : ℕ → Bool) (xs ys : List Row) → AllCount counts xs → AllCount counts ys → AllCount counts (xs ++ ys)
AllCount-append counts [] ys a b = b
AllCount-append counts (x ∷ xs) ys a b = (a.0, AllCount-append counts xs ys a.1 b)

-- back
pub AllCount-parts : (counts : ℕ → Bool) (xs ys : List Row) → AllCount counts (xs ++ ys) → AllCount counts xs × AllCount counts ys
AllCount-parts counts [] ys all = (tt, all)
AllCount-parts counts (x ∷ xs) ys all = let parts = AllCount-parts counts xs ys all.1 in ((all.0, parts.0), parts.1)

-- what counts for one test counts for a weaker one
pub AllCount-more : (p q : ℕ → Bool) → ((s : ℕ) → p s ≡ true → q s ≡ true) → (rows : List Row) → AllCount p rows → AllCount q rows
AllCount-more p q more [] all = tt
AllCount-more p q more (r ∷ rows) all = ((λ s at. more s (all.0 s at)), AllCount-more p q more rows all.1)

-- ---- rows by their kinds

-- what is so of rows of each kind is so of each row
pub by_kind : (P : Row → Type 0) → ((l : LotRow) → P (row.Lot l)) → ((signal : List ℕ) → P (row.Clock signal))
    → ((b : BindRow) → P (row.Bind b)) → ((b : BinRow) → P (row.Bin b)) → ((d : DieRow) → P (row.Die d))
    → ((f : FaultRow) → P (row.Fault f)) → ((s : StopRow) → P (row.Stop s)) → ((k : SkewRow) → P (row.Skew k))
    → (r : Row) → P r
by_kind P lot clock bind bin die fault stop skew (row.Lot l) = lot l
by_kind P lot clock bind bin die fault stop skew (row.Clock signal) = clock signal
by_kind P lot clock bind bin die fault stop skew (row.Bind b) = bind b
by_kind P lot clock bind bin die fault stop skew (row.Bin b) = bin b
by_kind P lot clock bind bin die fault stop skew (row.Die d) = die d
by_kind P lot clock bind bin die fault stop skew (row.Fault f) = fault f
by_kind P lot clock bind bin die fault stop skew (row.Stop s) = stop s
by_kind P lot clock bind bin die fault stop skew (row.Skew k) = skew k

-- ---- the lots

-- what is left of a row of a site gives no lot
no_lot : (o : Option ℕ) (made : ℕ → Row) → ((n : ℕ) → as_lot (made n) ≡ None) → each_of as_lot (one (option_map made o)) ≡ []
no_lot None made none = refl
no_lot (Some n) made none = ap (λ (l : Option LotRow). one l ++ []) (none n)

-- what is left of a row gives its lot
lot_row : (cut : ℕ → Option ℕ) (r : Row) → each_of as_lot (one (cut_row cut r)) ≡ one (as_lot r)
lot_row cut =
    by_kind (λ r. each_of as_lot (one (cut_row cut r)) ≡ one (as_lot r)) (λ l. refl) (λ s. refl) (λ b. refl) (λ b. refl)
    (λ d. no_lot (cut d.site) (λ n. moved n (row.Die d)) (λ n. refl)) (λ f. no_lot (cut f.site) (λ n. moved n (row.Fault f)) (λ n. refl))
    (λ s. no_lot (cut s.site) (λ n. moved n (row.Stop s)) (λ n. refl)) (λ k. no_lot (cut k.site) (λ n. moved n (row.Skew k)) (λ n. refl))

-- the lots stay
pub lots_cut : (cut : ℕ → Option ℕ) (rows : List Row) → each_of as_lot (cut_rows cut rows) ≡ each_of as_lot rows
lots_cut cut [] = refl
lots_cut cut (r ∷ rows) =
    each_of-append as_lot (one (cut_row cut r)) (cut_rows cut rows)
    ∙ ap (λ (l : List LotRow). l ++ each_of as_lot (cut_rows cut rows)) (lot_row cut r)
    ∙ ap (λ (l : List LotRow). one (as_lot r) ++ l) (lots_cut cut rows)

-- ---- how many dies

-- what is left of a row of a site gives at most as many dies as it did
no_die : (o : Option ℕ) (made : ℕ → Row) (most : ℕ) → ((n : ℕ) → length (one (as_die (made n))) ≤ most)
    → length (each_of as_die (one (option_map made o))) ≤ most
no_die None made most none = omega arith
no_die (Some n) made most none = omega (arith, none n, length-append (one (as_die (made n))) [])

-- what is left of a row gives at most its die
die_row-le : (cut : ℕ → Option ℕ) (r : Row) → length (each_of as_die (one (cut_row cut r))) ≤ length (one (as_die r))
die_row-le cut =
    by_kind (λ r. length (each_of as_die (one (cut_row cut r))) ≤ length (one (as_die r))) (λ l. omega arith) (λ s. omega arith) (λ b. omega arith) (λ b. omega arith)
    (λ d. no_die (cut d.site) (λ n. moved n (row.Die d)) 1 (λ n. omega arith)) (λ f. no_die (cut f.site) (λ n. moved n (row.Fault f)) 0 (λ n. omega arith))
    (λ s. no_die (cut s.site) (λ n. moved n (row.Stop s)) 0 (λ n. omega arith)) (λ k. no_die (cut k.site) (λ n. moved n (row.Skew k)) 0 (λ n. omega arith))

-- there are no more dies
pub dies_cut-le : (cut : ℕ → Option ℕ) (rows : List Row) → length (dies_of (cut_rows cut rows)) ≤ length (dies_of rows)
dies_cut-le cut [] = omega arith
dies_cut-le cut (r ∷ rows) =
    omega (
      arith,
      ap (λ (l : List DieRow). length l) (each_of-append as_die (one (cut_row cut r)) (cut_rows cut rows)),
      length-append (each_of as_die (one (cut_row cut r))) (dies_of (cut_rows cut rows)),
      length-append (one (as_die r)) (dies_of rows),
      die_row-le cut r,
      dies_cut-le cut rows,
    )

-- ---- the dies of a site

-- a die at another site
abbrev pub die_to : ℕ → DieRow → DieRow
die_to number d = record d { site = number }

module _ (cut : ℕ → Option ℕ) (counts : ℕ → Bool) (is_cut : IsCut cut counts) (site number : ℕ) (has : counts site ≡ true) (at : cut site ≡ Some number) where
  -- what is left of a die, at the number
  die_there : (d : DieRow) → counts d.site ≡ true → (o : Option ℕ) → cut d.site ≡ o
      → filter (λ (x : DieRow). x.site == number) (each_of as_die (one (option_map (λ n. moved n (row.Die d)) o)))
      ≡ map (die_to number) (filter (λ (x : DieRow). x.site == site) (d ∷ []))
  die_there d own None none =
      sym (ap (λ b. map (die_to number) (cond b (d ∷ []) [])) (ne_eqb d.site site (λ same. wrong (sym none ∙ ap cut same ∙ at))))
    where
      wrong : ◌≡◌ {A = Option ℕ} None (Some number) → ⊥
      wrong e = cc
  die_there d own (Some m) is = elim (cases_eq d.site site) [
    | inl same ↦
        let to : m ≡ number = found (sym is ∙ ap cut same ∙ at) in
        ap (λ b. cond b (die_to m d ∷ []) []) (eq-eqb m number to) ∙ ap (λ (n : ℕ). die_to n d ∷ []) to
        ∙ sym (ap (λ b. map (die_to number) (cond b (d ∷ []) [])) (eq-eqb d.site site same))
    | inr other ↦
        ap (λ b. cond b (die_to m d ∷ []) []) (ne_eqb m number (λ to. other (is_cut.single d.site site number own has (is ∙ ap Some to) at)))
        ∙ sym (ap (λ b. map (die_to number) (cond b (d ∷ []) [])) (ne_eqb d.site site other))
  ]
    where
      found : Some m ≡ Some number → m ≡ number
      found e = cc

  -- what is left of another row is no die
  no_die_there : (o : Option ℕ) (made : ℕ → Row) → ((n : ℕ) → as_die (made n) ≡ None)
      → filter (λ (x : DieRow). x.site == number) (each_of as_die (one (option_map made o))) ≡ []
  no_die_there None made none = refl
  no_die_there (Some n) made none = ap (λ (d : Option DieRow). filter (λ (x : DieRow). x.site == number) (one d ++ [])) (none n)

  -- what is left of a row, at the number
  die_row : (r : Row) → Counts counts r → filter (λ (x : DieRow). x.site == number) (each_of as_die (one (cut_row cut r)))
      ≡ map (die_to number) (filter (λ (x : DieRow). x.site == site) (one (as_die r)))
  die_row =
      by_kind (λ r. Counts counts r → filter (λ (x : DieRow). x.site == number) (each_of as_die (one (cut_row cut r)))
      ≡ map (die_to number) (filter (λ (x : DieRow). x.site == site) (one (as_die r))))
      (λ l own. refl) (λ s own. refl) (λ b own. refl) (λ b own. refl)
      (λ d own. die_there d (own d.site refl) (cut d.site) refl)
      (λ f own. no_die_there (cut f.site) (λ n. moved n (row.Fault f)) (λ n. refl))
      (λ s own. no_die_there (cut s.site) (λ n. moved n (row.Stop s)) (λ n. refl))
      (λ k own. no_die_there (cut k.site) (λ n. moved n (row.Skew k)) (λ n. refl))

  -- the dies of the number are those of the site
  pub dies_cut : (rows : List Row) → AllCount counts rows → dies_at number (cut_rows cut rows) ≡ map (die_to number) (dies_at site rows)
  dies_cut [] all = refl
  dies_cut (r ∷ rows) all =
      ap (filter (λ (x : DieRow). x.site == number)) (each_of-append as_die (one (cut_row cut r)) (cut_rows cut rows))
      ∙ filter-append (λ (x : DieRow). x.site == number) (each_of as_die (one (cut_row cut r))) (dies_of (cut_rows cut rows))
      ∙ ap (λ (l : List DieRow). l ++ dies_at number (cut_rows cut rows)) (die_row r all.0)
      ∙ ap (λ (l : List DieRow). map (die_to number) (filter (λ (x : DieRow). x.site == site) (one (as_die r))) ++ l) (dies_cut rows all.1)
      ∙ sym (map-append (die_to number) (filter (λ (x : DieRow). x.site == site) (one (as_die r))) (dies_at site rows))
      ∙ ap (map (die_to number)) (sym (filter-append (λ (x : DieRow). x.site == site) (one (as_die r)) (dies_of rows)))

  -- the names of dies at another site
  names_of : (dies : List DieRow) → map (λ (d : DieRow). d.name) (map (die_to number) dies) ≡ map (λ (d : DieRow). d.name) dies
  names_of [] = refl
  names_of (d ∷ dies) = ap (λ (l : List (List ℕ)). d.name ∷ l) (names_of dies)

  -- and so are their names
  pub names_cut : (rows : List Row) → AllCount counts rows → names_at number (cut_rows cut rows) ≡ names_at site rows
  names_cut rows all = ap (map (λ (d : DieRow). d.name)) (dies_cut rows all) ∙ names_of (dies_at site rows)
