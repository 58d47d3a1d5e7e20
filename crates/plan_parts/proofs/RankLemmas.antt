-- Which number a site has in a part, by its rank among the sites with dies.
use Rattle.std.proofs.Common.{◌≡◌, ℕ, zero, suc, ◌+◌, ◌*◌, ◌/◌, ◌%◌, ◌<◌, ◌≤◌, Bool, true, false, cond, ◌==◌, List, [], ◌∷◌, ◌++◌, length, filter, get_or, Option, Some, None, refl, sym, ap, ◌∙◌, arith, inl, inr}
use Rattle.std.specs.List.{position_or_len, range_with_len}
use Rattle.std.proofs.Math.Nat.{mod-add-div', mul-le-mul_right}
use Rattle.std.proofs.lemmas.Nat.{div-mul-add, mod-mul-add}
use Rattle.std.proofs.lemmas.Bool.{eq-eqb, eqb-true, ne_eqb, cases_lt}
use Rattle.std.proofs.lemmas.List.Elements.{filter_passes}
use Rattle.std.proofs.lemmas.List.FromFn.{length-range_with_len}
use Rattle.std.proofs.lemmas.List.Sums.{position_or_len_is}
use Rattle.text_bytes.specs.Limits.{most_plan_sites}
use Rattle.text_bytes.proofs.ListLemmas.{length-filter-le}
use Rattle.plan_rows.specs.Rows.{AreKept, one, each_of, sites_of, site_in}
use Rattle.plan_rows.specs.declared.row.Row.{Row}
use Rattle.plan_rows.proofs.RowLemmas.{sites_of-within}
use Rattle.plan_parts.specs.Moved.{moved}
use Rattle.plan_parts.specs.Cut.{has_dies, sites_with_dies, rank_of, rank_at, site_at, of_rank, of_site, row_in, part_rows, sites_in_part}
use Rattle.plan_parts.specs.PartText.{with_site, records_in}
use Rattle.plan_parts.proofs.SiteLemmas.{has_dies-below, count_more}
use Rattle.plan_parts.proofs.RecordLemmas.{of_rank-number}
use Rattle.plan_parts.proofs.CutLemmas.{IsCut, said_at, cut_row, cut_rows}
use Rattle.plan_parts.proofs.CutPlan.{cut_record, cut_records}

-- the number of a site in a part
abbrev pub number_of : ℕ → ℕ → List Row → ℕ → Option ℕ
number_of parts part rows site = of_rank parts part (λ number. number) (rank_of rows site)

-- ---- a part by the numbers of its sites

-- something that is said of a site
of_site-said : {A : Type 0} (parts part : ℕ) (rows : List Row) (same : A) (said : ℕ → A) (o : Option ℕ)
    → of_site parts part rows same said o ≡ said_at (number_of parts part rows) same said o
of_site-said parts part rows same said None = refl
of_site-said parts part rows same said (Some site) = of_rank-number parts part said (rank_of rows site)

-- what rows give by two equal functions
each_of-ext : {A : Type 0} (f g : Row → Option A) → ((r : Row) → f r ≡ g r) → (rows : List Row) → each_of f rows ≡ each_of g rows
each_of-ext f g same [] = refl
each_of-ext {A} f g same (r ∷ rows) =
    ap (λ (o : Option A). one o ++ each_of f rows) (same r) ∙ ap (λ (l : List A). one (g r) ++ l) (each_of-ext f g same rows)

-- the rows of a part
pub part_rows-cut : (parts part : ℕ) (rows : List Row) → part_rows parts part rows ≡ cut_rows (number_of parts part rows) rows
unfolding part_rows
part_rows-cut parts part rows =
    each_of-ext (row_in parts part rows) (cut_row (number_of parts part rows))
    (λ r. of_site-said parts part rows r (λ (n : ℕ). moved n r) (site_in r)) rows

-- and its records
pub records_in-cut : (parts part : ℕ) (rows xs : List Row) (ys : List (List (List ℕ)))
    → records_in parts part rows xs ys ≡ cut_records (number_of parts part rows) xs ys
records_in-cut parts part rows [] ys = refl
records_in-cut parts part rows (x ∷ xs) [] = refl
records_in-cut parts part rows (x ∷ xs) (y ∷ ys) =
    ap (λ (o : Option (List (List ℕ))). one o ++ records_in parts part rows xs ys) (of_site-said parts part rows y (with_site y) (site_in x))
    ∙ ap (λ (l : List (List (List ℕ))). one (cut_record (number_of parts part rows) x y) ++ l) (records_in-cut parts part rows xs ys)

-- ---- numbers that pass, in order

-- the numbers from a on that pass
abbrev chosen : (ℕ → Bool) → ℕ → ℕ → List ℕ
chosen p a n = filter p (range_with_len a n)

-- each of them is a or more
above : (p : ℕ → Bool) (a n k : ℕ) → k < length (chosen p a n) → a ≤ get_or (chosen p a n) k 0
above p a zero k low = absurd (omega arith)
above p a (suc n) k low = by (p a) k low (above p (a + 1) n)
  where
    by : (b : Bool) (k : ℕ) → k < length (cond b (a ∷ chosen p (a + 1) n) (chosen p (a + 1) n))
        → ((j : ℕ) → j < length (chosen p (a + 1) n) → a + 1 ≤ get_or (chosen p (a + 1) n) j 0)
        → a ≤ get_or (cond b (a ∷ chosen p (a + 1) n) (chosen p (a + 1) n)) k 0
    by true zero low later = omega arith
    by true (suc k) low later = omega (arith, later k (omega arith))
    by false k low later = omega (arith, later k low)

-- they rise
rising : (p : ℕ → Bool) (a n j k : ℕ) → j < k → k < length (chosen p a n) → get_or (chosen p a n) j 0 < get_or (chosen p a n) k 0
rising p a zero j k less low = absurd (omega arith)
rising p a (suc n) j k less low = by (p a) j k less low (rising p (a + 1) n)
  where
    by : (b : Bool) (j k : ℕ) → j < k → k < length (cond b (a ∷ chosen p (a + 1) n) (chosen p (a + 1) n))
        → ((i l : ℕ) → i < l → l < length (chosen p (a + 1) n) → get_or (chosen p (a + 1) n) i 0 < get_or (chosen p (a + 1) n) l 0)
        → get_or (cond b (a ∷ chosen p (a + 1) n) (chosen p (a + 1) n)) j 0 < get_or (cond b (a ∷ chosen p (a + 1) n) (chosen p (a + 1) n)) k 0
    by true j zero less low later = absurd (omega arith)
    by true zero (suc k) less low later = omega (arith, above p (a + 1) n k (omega arith))
    by true (suc j) (suc k) less low later = later j k (omega arith) (omega arith)
    by false j k less low later = later j k less low

-- the place of the number that stands there
place_of : (p : ℕ → Bool) (a n k : ℕ) → k < length (chosen p a n) → position_or_len (λ s. s == get_or (chosen p a n) k 0) (chosen p a n) ≡ k
place_of p a n k low =
    position_or_len_is (λ (s : ℕ). s == get_or (chosen p a n) k 0) (chosen p a n) k 0 (omega arith)
    (λ j less. ne_eqb _ _ (λ same. absurd (omega (arith, same, rising p a n j k less low))))
    (λ inside. eq-eqb (get_or (chosen p a n) k 0) (get_or (chosen p a n) k 0) refl)

-- a number that passes has a place
place_in : (p : ℕ → Bool) (a n s : ℕ) → a ≤ s → s < a + n → p s ≡ true → (k : ℕ) × (k < length (chosen p a n)) × (get_or (chosen p a n) k 0 ≡ s)
place_in p a zero s low high is = absurd (omega arith)
place_in p a (suc n) s low high is = elim (cases_lt a s) [
  | inl more ↦ behind (p a) (place_in p (a + 1) n s (omega arith) (omega arith) is)
  | inr less ↦ let here : s ≡ a = omega arith in first (p a) (ap p (sym here) ∙ is) (sym here)
]
  where
    first : (b : Bool) → b ≡ true → a ≡ s
        → (k : ℕ) × (k < length (cond b (a ∷ chosen p (a + 1) n) (chosen p (a + 1) n))) × (get_or (cond b (a ∷ chosen p (a + 1) n) (chosen p (a + 1) n)) k 0 ≡ s)
    first true h here = (0, omega arith, here)
    first false h here = cc

    behind : (b : Bool) → (k : ℕ) × (k < length (chosen p (a + 1) n)) × (get_or (chosen p (a + 1) n) k 0 ≡ s)
        → (k : ℕ) × (k < length (cond b (a ∷ chosen p (a + 1) n) (chosen p (a + 1) n))) × (get_or (cond b (a ∷ chosen p (a + 1) n) (chosen p (a + 1) n)) k 0 ≡ s)
    behind true (k, inside, at) = (suc k, omega arith, at)
    behind false (k, inside, at) = (k, inside, at)

-- ---- ranks

-- a site with dies stands at its rank
pub rank_of-has : (rows : List Row) (s : ℕ) → has_dies rows s ≡ true
    → (rank_of rows s < length (sites_with_dies rows)) × (get_or (sites_with_dies rows) (rank_of rows s) 0 ≡ s)
unfolding sites_with_dies
rank_of-has rows s has =
    let (k, inside, at) = place_in (has_dies rows) 0 (sites_of rows) s (omega arith) (omega (arith, has_dies-below rows s has)) has in
    let rank : rank_of rows s ≡ k =
    sym (ap (λ (t : ℕ). position_or_len (λ u. u == t) (chosen (has_dies rows) 0 (sites_of rows))) at)
    ∙ place_of (has_dies rows) 0 (sites_of rows) k inside in
    (omega (arith, rank, inside), ap (λ (i : ℕ). get_or (chosen (has_dies rows) 0 (sites_of rows)) i 0) rank ∙ at)

-- the site of a rank has dies and that rank
pub has_at_rank : (rows : List Row) (k : ℕ) → k < length (sites_with_dies rows)
    → (has_dies rows (get_or (sites_with_dies rows) k 0) ≡ true) × (rank_of rows (get_or (sites_with_dies rows) k 0) ≡ k)
unfolding sites_with_dies
has_at_rank rows k inside =
    (filter_passes (has_dies rows) (range_with_len 0 (sites_of rows)) k 0 inside, place_of (has_dies rows) 0 (sites_of rows) k inside)

-- there are at most 64 of them
pub few_sites : (rows : List Row) → AreKept rows → length (sites_with_dies rows) ≤ most_plan_sites
unfolding sites_with_dies
few_sites rows kept =
    omega (arith, length-filter-le (has_dies rows) (range_with_len 0 (sites_of rows)), length-range_with_len 0 (sites_of rows), sites_of-within rows kept)

-- the rank of a number
pub rank_is : (parts part rank n : ℕ) → of_rank parts part (λ number. number) rank ≡ Some n → rank ≡ part + n * parts
rank_is parts part rank n is = by (rank % parts == part) refl is
  where
    by : (b : Bool) → (rank % parts == part) ≡ b → cond {A = Option ℕ} b (Some (rank / parts)) None ≡ Some n → rank ≡ part + n * parts
    by true e h =
        let at : rank / parts ≡ n = cc in
        sym (mod-add-div' rank parts) ∙ ap (λ (k : ℕ). k + rank / parts * parts) (eqb-true (rank % parts) part e) ∙ ap (λ (k : ℕ). part + k * parts) at
    by false e h = cc

-- the number of a rank
pub number_is : (parts part n : ℕ) → part < parts → of_rank parts part (λ number. number) (part + n * parts) ≡ Some n
number_is parts part n less =
    let turned : part + n * parts ≡ n * parts + part = omega arith in
    ap (λ (r : ℕ). of_rank parts part (λ number. number) r) turned
    ∙ ap (λ b. cond {A = Option ℕ} b (Some ((n * parts + part) / parts)) None) (eq-eqb ((n * parts + part) % parts) part (mod-mul-add n parts part less))
    ∙ ap (λ (k : ℕ). Some k) (div-mul-add n parts part less)

-- a part is a cut
pub part_is_cut : (parts part : ℕ) (rows : List Row) → 0 < parts → AreKept rows → IsCut (number_of parts part rows) (has_dies rows)
part_is_cut parts part rows some kept = record {
  single = λ s t n hs ht is at.
      let same : rank_of rows s ≡ rank_of rows t = rank_is parts part (rank_of rows s) n is ∙ sym (rank_is parts part (rank_of rows t) n at) in
      sym (rank_of-has rows s hs).1 ∙ ap (λ (i : ℕ). get_or (sites_with_dies rows) i 0) same ∙ (rank_of-has rows t ht).1;
  small = λ s n hs at.
      let own = rank_of-has rows s hs in
      let is = rank_is parts part (rank_of rows s) n at in
      let grows : n ≤ n * parts = mul_some n parts some in
      omega (arith, own.0, is, few_sites rows kept, grows);
}
  where
    mul_some : (n parts : ℕ) → 0 < parts → n ≤ n * parts
    mul_some n zero h = absurd (omega arith)
    mul_some n (suc k) h = omega arith

-- the site of a number in a part
pub site_numbered : (parts part number : ℕ) (rows : List Row) → part < parts → rank_at parts part number < length (sites_with_dies rows)
    → (has_dies rows (site_at parts part rows number) ≡ true) × (number_of parts part rows (site_at parts part rows number) ≡ Some number)
site_numbered parts part number rows less inside =
    let both = has_at_rank rows (part + number * parts) inside in
    (both.0, ap (of_rank parts part (λ (n : ℕ). n)) both.1 ∙ number_is parts part number less)

-- ---- how many sites a part has

-- what is no more in so many steps is no more
le_scaled : (a b p : ℕ) → 0 < p → a * p ≤ b * p → a ≤ b
le_scaled a b p some h = elim (cases_lt b a) [
  | inl less ↦
      let scaled = mul-le-mul_right p less in
      let one : suc b * p ≡ b * p + p = omega arith in
      absurd (omega (arith, scaled, one, h, some))
  | inr within ↦ within
]

-- no test both passes and fails
true_false : true ≡ false → ⊥
true_false h = cc

-- one rank more
sites_more : (parts part ranks : ℕ) (b : Bool) → (ranks % parts == part) ≡ b
    → sites_in_part parts part (suc ranks) ≡ sites_in_part parts part ranks + cond b 1 0
sites_more parts part ranks b is =
    let e : suc ranks ≡ ranks + 1 = omega arith in
    ap (sites_in_part parts part) e ∙ sym (count_more (λ (rank : ℕ). rank % parts == part) ranks (sites_in_part parts part ranks) b is refl)

-- the number of a site is one of so many exactly where its rank is
pub number_within : (parts part ranks : ℕ) → part < parts → (number : ℕ)
    → (number < sites_in_part parts part ranks → rank_at parts part number < ranks)
    × (rank_at parts part number < ranks → number < sites_in_part parts part ranks)
number_within parts part zero less number = ((λ h. absurd (omega (arith, h))), (λ h. absurd (omega (arith, h))))
number_within parts part (suc ranks) less number =
    by (ranks % parts == part) refl (sites_in_part parts part ranks) (sites_in_part parts part (suc ranks)) (sites_more parts part ranks) (number_within parts part ranks less)
  where
    by : (b : Bool) → (ranks % parts == part) ≡ b → (s t : ℕ) → ((c : Bool) → (ranks % parts == part) ≡ c → t ≡ s + cond c 1 0)
        → ((n : ℕ) → (n < s → rank_at parts part n < ranks) × (rank_at parts part n < ranks → n < s))
        → (number < t → rank_at parts part number < suc ranks) × (rank_at parts part number < suc ranks → number < t)
    by false e s t size each =
        let same : t ≡ s + 0 = size false e in (
          (λ h. let low : number < s = omega (arith, same, h) in omega (arith, (each number).0 low)),
          (λ h. elim (cases_lt (part + number * parts) ranks) [
            | inl inside ↦ omega (arith, same, (each number).1 inside)
            | inr out ↦
                let here : ranks ≡ number * parts + part = omega (arith, h, out) in
                absurd (true_false (sym (eq-eqb (ranks % parts) part (ap (λ (r : ℕ). r % parts) here ∙ mod-mul-add number parts part less)) ∙ e))
          ]),
        )
    by true e s t size each =
        let q : ℕ = ranks / parts in
        let same : t ≡ s + 1 = size true e in
        let is : ranks ≡ part + q * parts =
        sym (mod-add-div' ranks parts) ∙ ap (λ (k : ℕ). k + q * parts) (eqb-true (ranks % parts) part e) in
        let whole : s ≡ q = whole_is s q is each in (
          (λ h. let low : number ≤ q = omega (arith, same, whole, h) in omega (arith, is, mul-le-mul_right parts low)),
          (λ h. omega (arith, same, whole, le_scaled number q parts (omega (arith, less)) (omega (arith, h, is)))),
        )
      where
        whole_is : (s q : ℕ) → ranks ≡ part + q * parts → ((n : ℕ) → (n < s → rank_at parts part n < ranks) × (rank_at parts part n < ranks → n < s)) → s ≡ q
        whole_is s zero is each = elim (cases_lt 0 s) [
          | inl some ↦ absurd (omega (arith, is, (each 0).0 some))
          | inr none ↦ omega arith
        ]
        whole_is s (suc q) is each =
            let under : q < s = (each q).1 (omega (arith, is, less)) in
            elim (cases_lt (suc q) s) [
              | inl more ↦ absurd (omega (arith, is, (each (suc q)).0 more))
              | inr most ↦ omega arith
            ]
