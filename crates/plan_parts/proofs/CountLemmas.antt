-- The sites of a part: as many as have numbers there, and each has dies.
use Rattle.std.proofs.Math.Nat.{mod-add-div'}
use Rattle.std.proofs.Common.{◌≡◌, ℕ, zero, suc, ◌+◌, ◌*◌, ◌/◌, ◌%◌, get_or, ◌<◌, ◌≤◌, max, Bool, true, nat_lt, List, [], ◌∷◌, ◌++◌, length, Option, Some, None, refl, sym, ap, ◌∙◌, subst, arith}
use Rattle.std.specs.Option.{option_map}
use Rattle.std.proofs.lemmas.List.{length-map}
use Rattle.plan_rows.specs.Rows.{one, each_of, as_die, dies_of, dies_at, sites_of}
use Rattle.plan_rows.specs.Judging.{names_at}
use Rattle.plan_rows.specs.Plan.{IsPlan}
use Rattle.plan_rows.specs.declared.row.Row.{Row}
use Rattle.plan_rows.specs.declared.row.Row.TheVariants as row
use Rattle.plan_rows.specs.declared.row.DieRow.{DieRow}
use Rattle.plan_rows.proofs.RowLemmas.{each_of-append, greatest}
use Rattle.plan_rows.proofs.KeptLemmas.{kept_where_read}
use Rattle.plan_parts.specs.Moved.{moved}
use Rattle.plan_parts.specs.Cut.{has_dies, sites_with_dies, rank_of, site_at, part_rows, sites_in_part}
use Rattle.plan_parts.proofs.SiteLemmas.{has_dies-below}
use Rattle.plan_parts.proofs.CutLemmas.{Counts, AllCount, by_kind, cut_row, cut_rows, dies_cut, names_cut, die_to}
use Rattle.plan_parts.proofs.RankLemmas.{number_of, part_rows-cut, part_is_cut, site_numbered, rank_of-has, rank_is, number_within}
use Rattle.plan_parts.proofs.PartLemmas.{counts_plan}

-- ---- dies below a number

-- each die's site is below this number
abbrev Below : ℕ → List DieRow → Type 0
Below n [] = Unit {0}
Below n (d ∷ dies) = (d.site < n) × Below n dies

-- dies below it, and more
Below-append : (n : ℕ) (xs ys : List DieRow) → Below n xs → Below n ys → Below n (xs ++ ys)
Below-append n [] ys a b = b
Below-append n (x ∷ xs) ys a b = (a.0, Below-append n xs ys a.1 b)

-- then so is the greatest, plus 1
greatest-le : (n : ℕ) (dies : List DieRow) (most : ℕ) → most ≤ n → Below n dies → greatest most dies ≤ n
greatest-le n [] most h all = h
greatest-le n (d ∷ dies) most h all = let low : d.site < n = all.0 in greatest-le n dies (max most (d.site + 1)) (omega arith) all.1

module _ (cut : ℕ → Option ℕ) (counts : ℕ → Bool) (n : ℕ) (bound : (s m : ℕ) → counts s ≡ true → cut s ≡ Some m → m < n) where
  -- what is left of a die is below it
  die_below : (d : DieRow) (o : Option ℕ) → counts d.site ≡ true → cut d.site ≡ o → Below n (each_of as_die (one (option_map (λ m. moved m (row.Die d)) o)))
  die_below d None has is = tt
  die_below d (Some m) has is = (bound d.site m has is, tt)

  -- what is left of another row is no die
  none_below : (o : Option ℕ) (made : ℕ → Row) → ((m : ℕ) → as_die (made m) ≡ None) → Below n (each_of as_die (one (option_map made o)))
  none_below None made none = tt
  none_below (Some m) made none = subst (λ (d : Option DieRow). Below n (one d ++ [])) (sym (none m)) tt

  -- what is left of a row is below it
  row_below : (r : Row) → Counts counts r → Below n (each_of as_die (one (cut_row cut r)))
  row_below =
      by_kind (λ r. Counts counts r → Below n (each_of as_die (one (cut_row cut r)))) (λ l own. tt) (λ s own. tt) (λ b own. tt) (λ b own. tt)
      (λ d own. die_below d (cut d.site) (own d.site refl) refl)
      (λ f own. none_below (cut f.site) (λ m. moved m (row.Fault f)) (λ m. refl))
      (λ s own. none_below (cut s.site) (λ m. moved m (row.Stop s)) (λ m. refl))
      (λ k own. none_below (cut k.site) (λ m. moved m (row.Skew k)) (λ m. refl))

  -- the dies that are left are below it
  rows_below : (rows : List Row) → AllCount counts rows → Below n (dies_of (cut_rows cut rows))
  rows_below [] all = tt
  rows_below (r ∷ rows) all =
      subst (Below n) (sym (each_of-append as_die (one (cut_row cut r)) (cut_rows cut rows)))
      (Below-append n (each_of as_die (one (cut_row cut r))) (dies_of (cut_rows cut rows)) (row_below r all.0) (rows_below rows all.1))

-- ---- the sites of a part

-- the site of a number has dies in the part, with their names
pub names_of_part : (bytes : List ℕ) (rows : List Row) (parts part number : ℕ) → part < parts → IsPlan bytes rows
    → number < sites_in_part parts part (length (sites_with_dies rows))
    → (has_dies (part_rows parts part rows) number ≡ true) × (names_at number (part_rows parts part rows) ≡ names_at (site_at parts part rows number) rows)
names_of_part bytes rows parts part number less plan low =
    let own = site_numbered parts part number rows less ((number_within parts part (length (sites_with_dies rows)) less number).0 low) in
    let cut = part_is_cut parts part rows (omega (arith, less)) (kept_where_read bytes rows plan) in
    let counted = counts_plan bytes rows plan in
    let site : ℕ = site_at parts part rows number in (
      ap (λ (l : List Row). has_dies l number) (part_rows-cut parts part rows)
          ∙ ap (λ (l : List DieRow). nat_lt 0 (length l)) (dies_cut (number_of parts part rows) (has_dies rows) cut site number own.0 own.1 rows counted)
          ∙ ap (nat_lt 0) (length-map (dies_at site rows) (die_to number)) ∙ own.0,
      ap (names_at number) (part_rows-cut parts part rows) ∙ names_cut (number_of parts part rows) (has_dies rows) cut site number own.0 own.1 rows counted,
    )

-- a part has as many sites as have numbers there
pub sites_of_part : (bytes : List ℕ) (rows : List Row) (parts part : ℕ) → part < parts → IsPlan bytes rows
    → sites_of (part_rows parts part rows) ≡ sites_in_part parts part (length (sites_with_dies rows))
sites_of_part bytes rows parts part less plan =
    both (sites_in_part parts part (length (sites_with_dies rows))) (λ number low. (names_of_part bytes rows parts part number less plan low).0)
    (subst (λ (l : List Row). sites_of l ≤ sites_in_part parts part (length (sites_with_dies rows))) (sym (part_rows-cut parts part rows))
    (greatest-le (sites_in_part parts part (length (sites_with_dies rows))) (dies_of (cut_rows (number_of parts part rows) rows)) 0 (omega arith)
    (rows_below (number_of parts part rows) (has_dies rows) (sites_in_part parts part (length (sites_with_dies rows))) bound rows (counts_plan bytes rows plan))))
  where
    bound : (s m : ℕ) → has_dies rows s ≡ true → number_of parts part rows s ≡ Some m → m < sites_in_part parts part (length (sites_with_dies rows))
    bound s m has is =
        (number_within parts part (length (sites_with_dies rows)) less m).1
        (subst (λ (r : ℕ). r < length (sites_with_dies rows)) (rank_is parts part (rank_of rows s) m is) (rank_of-has rows s has).0)

    both : (n : ℕ) → ((k : ℕ) → k < n → has_dies (part_rows parts part rows) k ≡ true) → sites_of (part_rows parts part rows) ≤ n
        → sites_of (part_rows parts part rows) ≡ n
    both zero each most = omega (arith, most)
    both (suc n) each most =
        let last = has_dies-below (part_rows parts part rows) n (each n (omega arith)) in
        omega (arith, last, most)

-- a site with dies has a number in one part
pub number_of_site : (rows : List Row) (parts site : ℕ) → 0 < parts → has_dies rows site ≡ true
    → (rank_of rows site / parts < sites_in_part parts (rank_of rows site % parts) (length (sites_with_dies rows)))
    × (site_at parts (rank_of rows site % parts) rows (rank_of rows site / parts) ≡ site)
number_of_site rows parts site some has =
    let rank : ℕ = rank_of rows site in
    let own = rank_of-has rows site has in
    let part : ℕ = rank % parts in
    let less : part < parts = omega (arith, some) in
    let is : part + rank / parts * parts ≡ rank = mod-add-div' rank parts in (
      (number_within parts part (length (sites_with_dies rows)) less (rank / parts)).1 (omega (arith, is, own.0)),
      ap (λ (i : ℕ). get_or (sites_with_dies rows) i 0) is ∙ own.1,
    )
