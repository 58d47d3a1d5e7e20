-- Lists whose ranks rise strictly: what is found in one by the ranks of another that has them all is that list.
use Rattle.std.proofs.Common.{◌≡◌, ℕ, ◌<◌, Bool, true, false, cond, ◌||◌, ◌==◌, List, [], ◌∷◌, find, filter_map, Option, Some, None, refl, sym, ap, subst, ◌∙◌, arith}
use Rattle.std.specs.List.{AllByRecursion, list_any, cons_option}
use Rattle.std.proofs.lemmas.Bool.{eqb-true, eqb-false, ne_eqb}

-- each rank is below all later ones
abbrev pub Rising : {A : Type 0} → (A → ℕ) → List A → Type 0
Rising rank [] = Unit {0}
Rising rank (x ∷ xs) = AllByRecursion (λ y. rank x < rank y) xs × Rising rank xs

-- whether a list has an item of this rank
abbrev pub has_rank : {A : Type 0} → (A → ℕ) → List A → ℕ → Bool
has_rank rank xs n = list_any (λ x. rank x == n) xs

-- the first of this rank
abbrev pub of_rank : {A : Type 0} → (A → ℕ) → List A → ℕ → Option A
of_rank rank xs n = find (λ x. rank x == n) xs

above_by : (same : Bool) (there : Bool) (first m n : ℕ) → (first == n) ≡ same → (same || there) ≡ true → m < first
    → (there ≡ true → m < n) → m < n
above_by true there first m n e h less later = let is = eqb-true first n e in omega (arith, is)
above_by false there first m n e h less later = later h

-- a rank that is there is above what is below all
above_of : {A : Type 0} (rank : A → ℕ) (xs : List A) (m n : ℕ) → has_rank rank xs n ≡ true
    → AllByRecursion (λ x. m < rank x) xs → m < n
above_of rank [] m n h all = absurd cc
above_of rank (x ∷ xs) m n h all =
    above_by (rank x == n) (has_rank rank xs n) (rank x) m n refl h all.0 (λ later. above_of rank xs m n later all.1)

-- no rank is below all
not_found : {A : Type 0} (rank : A → ℕ) (xs : List A) (m : ℕ) → AllByRecursion (λ x. m < rank x) xs → of_rank rank xs m ≡ None
not_found rank [] m all = refl
not_found rank (x ∷ xs) m all =
    ap (λ (b : Bool). cond b (Some x) (of_rank rank xs m)) (ne_eqb (rank x) m (λ is. let less = all.0 in omega (arith, is, less)))
    ∙ not_found rank xs m all.1

-- the same comes of the same
pub mapped_same : {A B : Type 0} (f g : A → Option B) (xs : List A) → AllByRecursion (λ x. f x ≡ g x) xs
    → filter_map f xs ≡ filter_map g xs
mapped_same f g [] all = refl
mapped_same f g (x ∷ xs) all =
    ap (λ (o : Option _). cons_option o (filter_map f xs)) all.0 ∙ ap (cons_option (g x)) (mapped_same f g xs all.1)

module _ {A B : Type 0} (r : A → ℕ) (q : B → ℕ) where
  -- each rank of items is one of keys
  abbrev pub HaveKeys : List A → List B → Type 0
  HaveKeys ks bs = AllByRecursion (λ b. has_rank r ks (q b) ≡ true) bs

  -- a key below all items isn't missed
  without_key : (k : A) (ks : List A) (bs : List B) → AllByRecursion (λ b. r k < q b) bs → HaveKeys (k ∷ ks) bs → HaveKeys ks bs
  without_key k ks [] below have = tt
  without_key k ks (b ∷ bs) below have = (
    ap (λ (v : Bool). v || has_rank r ks (q b)) (sym (ne_eqb (r k) (q b) (λ is. let less = below.0 in omega (arith, is, less)))) ∙ have.0,
    without_key k ks bs below.1 have.1,
  )

  -- an item below all other keys isn't found by them
  without_item : (k : A) (b : B) (ks : List A) (bs : List B) → q b ≡ r k → AllByRecursion (λ x. r k < r x) ks
      → AllByRecursion (λ x. of_rank q (b ∷ bs) (r x) ≡ of_rank q bs (r x)) ks
  without_item k b [] bs e below = tt
  without_item k b (x ∷ ks) bs e below = (
    ap (λ (v : Bool). cond v (Some b) (of_rank q bs (r x))) (ne_eqb (q b) (r x) (λ is. let less = below.0 in omega (arith, e, is, less))),
    without_item k b ks bs e below.1,
  )

  below_all : (m n : ℕ) (bs : List B) → m < n → AllByRecursion (λ b. n < q b) bs → AllByRecursion (λ b. m < q b) bs
  below_all m n [] less all = tt
  below_all m n (b ∷ bs) less all = (let more = all.0 in omega (arith, less, more), below_all m n bs less all.1)

  same_below : (m n : ℕ) (bs : List B) → m ≡ n → AllByRecursion (λ b. n < q b) bs → AllByRecursion (λ b. m < q b) bs
  same_below m n bs e all = subst (λ (k : ℕ). AllByRecursion (λ b. k < q b) bs) (sym e) all

  found_by : (v : Bool) (k : A) (ks : List A) (b : B) (bs : List B) → (q b == r k) ≡ v → Rising r (k ∷ ks) → Rising q (b ∷ bs)
      → HaveKeys (k ∷ ks) (b ∷ bs)
      → ((more : List B) → Rising q more → HaveKeys ks more → filter_map (λ x. of_rank q more (r x)) ks ≡ more)
      → cons_option (cond v (Some b) (of_rank q bs (r k))) (filter_map (λ x. of_rank q (b ∷ bs) (r x)) ks) ≡ b ∷ bs
  found_by true k ks b bs e keys items have so =
      let is : q b ≡ r k = eqb-true (q b) (r k) e in
      ap (λ (l : List B). b ∷ l)
      (mapped_same (λ x. of_rank q (b ∷ bs) (r x)) (λ x. of_rank q bs (r x)) ks (without_item k b ks bs is keys.0)
      ∙ so bs items.1 (without_key k ks bs (same_below (r k) (q b) bs (sym is) items.0) have.1))
  found_by false k ks b bs e keys items have so =
      let other : has_rank r ks (q b) ≡ true =
      ap (λ (v : Bool). v || has_rank r ks (q b)) (sym (ne_eqb (r k) (q b) (λ is. eqb-false (q b) (r k) e (sym is)))) ∙ have.0 in
      let above : r k < q b = above_of r ks (r k) (q b) other keys.0 in
      let all = below_all (r k) (q b) bs above items.0 in
      ap (λ (o : Option B). cons_option o (filter_map (λ x. of_rank q (b ∷ bs) (r x)) ks)) (not_found q bs (r k) all)
      ∙ so (b ∷ bs) items (without_key k ks (b ∷ bs) (above, all) have)

  -- what is found by rising keys is what they were looked for in
  pub found_all : (ks : List A) (bs : List B) → Rising r ks → Rising q bs → HaveKeys ks bs
      → filter_map (λ x. of_rank q bs (r x)) ks ≡ bs
  found_all [] [] keys items have = refl
  found_all [] (b ∷ bs) keys items have = absurd (let no = have.0 in cc)
  found_all (k ∷ ks) [] keys items have = found_all ks [] keys.1 items tt
  found_all (k ∷ ks) (b ∷ bs) keys items have =
      found_by (q b == r k) k ks b bs refl keys items have (λ more rising all. found_all ks more keys.1 rising all)
