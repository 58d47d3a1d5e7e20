-- Signals that are gathered with marks are those of the definition.
use Rattle.std.proofs.Common.{◌≡◌, ℕ, ◌<◌, ◌==◌, ◌||◌, ◌&&◌, Bool, true, false, not, cond, List, [], ◌∷◌, length, get_or, filter, refl, sym, ap, ◌∙◌, arith, inl, inr, true≢false}
use Rattle.std.specs.Prelude.{All, slice_index_or}
use Rattle.std.specs.List.{list_any}
use Rattle.std.proofs.lemmas.Bool.{cases_Bool, cases_lt, eqb-true, eq-eqb, or_left, or_right}
use Rattle.std.proofs.lemmas.List.{get_or_past}
use Rattle.signal_groups.proofs.GraphLemmas.{stands}
use Rattle.stil_ast.specs.Meaning.Members.{removed}
use Rattle.signal_groups.specs.Marks.{AreMarked}

-- what is marked is one of the signals
pub marked-within : (members : List ℕ) (marks : List Bool) (count : ℕ) → AreMarked members marks → length marks ≡ count
    → All (λ s. s < count) members
marked-within members marks count h e k d lt =
    let s = get_or members k d in
    elim (cases_lt s (length marks)) [
      | inl l ↦ omega (arith, l, e)
      | inr l ↦ absurd (true≢false (sym (h.each s ∙ stands members k d lt) ∙ get_or_past marks s false l))
    ]

-- tests that agree on the items of a list keep the same items
filter-same : (p q : ℕ → Bool) (xs : List ℕ) → ((m : ℕ) → list_any (λ x. x == m) xs ≡ true → p m ≡ q m)
    → filter p xs ≡ filter q xs
filter-same p q [] e = refl
filter-same p q (x ∷ xs) e =
    ap (λ b. cond b (x ∷ filter p xs) (filter p xs)) (e x (or_left (x == x) (list_any (λ m. m == x) xs) (eq-eqb x x refl)))
    ∙ ap (λ ys. cond (q x) (x ∷ ys) ys)
    (filter-same p q xs (λ m h. e m (or_right (x == m) (list_any (λ y. y == m) xs) h)))

-- signals without those whose marks were taken away
pub removed-kept : (members gone : List ℕ) (before after : List Bool) → AreMarked members before
    → ((s : ℕ) → slice_index_or after s false ≡ (slice_index_or before s false && not (list_any (λ g. g == s) gone)))
    → filter (λ m. slice_index_or after m false) members ≡ removed members gone
removed-kept members gone before after h e =
    filter-same (λ m. slice_index_or after m false) (λ m. not (list_any (λ s. s == m) gone)) members
    (λ m there. e m ∙ ap (λ b. b && not (list_any (λ g. g == m) gone)) (h.each m ∙ there))

-- what is stands the items that pass is stands the items, and passes
any-kept : (p : ℕ → Bool) (s : ℕ) (xs : List ℕ) → list_any (λ m. m == s) (filter p xs) ≡ (list_any (λ m. m == s) xs && p s)
any-kept p s [] = refl
any-kept p s (x ∷ xs) =
    let rest = any-kept p s xs in
    elim (cases_Bool (x == s)) [
      | inl e ↦ by_test (p x) refl (ap p (eqb-true x s e)) e rest
      | inr e ↦ other (p x) e rest
    ]
  where
    other : (b : Bool) → (x == s) ≡ false → list_any (λ m. m == s) (filter p xs) ≡ (list_any (λ m. m == s) xs && p s)
        → list_any (λ m. m == s) (cond b (x ∷ filter p xs) (filter p xs)) ≡ ((x == s || list_any (λ m. m == s) xs) && p s)
    other true e rest = ap (λ b. b || list_any (λ m. m == s) (filter p xs)) e ∙ rest
        ∙ sym (ap (λ b. (b || list_any (λ m. m == s) xs) && p s) e)
    other false e rest = rest ∙ sym (ap (λ b. (b || list_any (λ m. m == s) xs) && p s) e)

    and_false : (b : Bool) → (b && false) ≡ false
    and_false true = refl
    and_false false = refl

    by_test : (b : Bool) → p x ≡ b → p x ≡ p s → (x == s) ≡ true
        → list_any (λ m. m == s) (filter p xs) ≡ (list_any (λ m. m == s) xs && p s)
        → list_any (λ m. m == s) (cond (p x) (x ∷ filter p xs) (filter p xs)) ≡ ((x == s || list_any (λ m. m == s) xs) && p s)
    by_test true f same e rest =
        ap (λ b. list_any (λ m. m == s) (cond b (x ∷ filter p xs) (filter p xs))) f
        ∙ ap (λ b. b || list_any (λ m. m == s) (filter p xs)) e
        ∙ sym (ap (λ b. (b || list_any (λ m. m == s) xs) && p s) e ∙ sym same ∙ f)
    by_test false f same e rest =
        ap (λ b. list_any (λ m. m == s) (cond b (x ∷ filter p xs) (filter p xs))) f
        ∙ rest ∙ ap (λ b. list_any (λ m. m == s) xs && b) (sym same ∙ f) ∙ and_false (list_any (λ m. m == s) xs)
        ∙ sym (ap (λ b. (b || list_any (λ m. m == s) xs) && p s) e ∙ sym same ∙ f)

and_twice : (a b : Bool) → (a && b) ≡ (a && (a && b))
and_twice true b = refl
and_twice false b = refl

-- they stay marked
pub AreMarked-kept : (members gone : List ℕ) (before after : List Bool) → AreMarked members before
    → ((s : ℕ) → slice_index_or after s false ≡ (slice_index_or before s false && not (list_any (λ g. g == s) gone)))
    → AreMarked (filter (λ m. slice_index_or after m false) members) after
AreMarked-kept members gone before after h e = record {
  each = λ s.
      e s ∙ and_twice (slice_index_or before s false) (not (list_any (λ g. g == s) gone))
      ∙ ap (λ b. slice_index_or before s false && b) (sym (e s))
      ∙ ap (λ b. b && slice_index_or after s false) (h.each s)
      ∙ sym (any-kept (λ m. slice_index_or after m false) s members);
}
