-- The first place of two bytes side by side.
use Rattle.std.proofs.Common.{◌≡◌, ℕ, ◌+◌, ◌<◌, ◌≤◌, true, false, ◌&&◌, List, [], ◌∷◌, ◌++◌, length, drop, refl, sym, ap, ◌∙◌, ◌⊎◌, inl, inr, arith, eq-eqb, eqb, get_or}
use Rattle.std.proofs.lemmas.List.{drop_more}
use Rattle.std.proofs.lemmas.Bool.{and_from, and_parts, or_parts, or_from, eqb-true, cond-true, cond-false, cases_Bool, cond_both, false≢true}
use Rattle.stil_lex.specs.Bytes.{starts_pair, has_pair}
use Rattle.stil_lex.specs.Step.{pair_place}

-- one byte more is no pair
pub pair_place-cons : (a b x : ℕ) (xs : List ℕ) → starts_pair a b (x ∷ xs) ≡ false → pair_place a b (x ∷ xs) ≡ 1 + pair_place a b xs
pair_place-cons a b x xs fails = cond-false (starts_pair a b (x ∷ xs)) _ _ fails

-- one byte further on
pub pair_place_more : (a b : ℕ) (xs : List ℕ) (i : ℕ) → i < length xs → starts_pair a b (drop i xs) ≡ false
    → pair_place a b (drop i xs) ≡ 1 + pair_place a b (drop (i + 1) xs)
pair_place_more a b xs i below fails =
    let e = drop_more xs i 0 below in
    rw e (pair_place-cons a b (get_or xs i 0) (drop (i + 1) xs) (rw e at fails))

-- the text behind the first two bytes of an opening does not matter for the pair that its second byte begins
pub starts_pair-append : (a b x : ℕ) (ys after : List ℕ) → starts_pair a b (x ∷ (ys ++ a ∷ after)) ≡ starts_pair a b (x ∷ (ys ++ a ∷ []))
starts_pair-append a b x [] after = refl
starts_pair-append a b x (y ∷ ys) after = refl

-- the first pair stands behind a body that has none
pub pair_place-closed : (a b : ℕ) (body after : List ℕ) → has_pair a b (body ++ a ∷ []) ≡ false → pair_place a b (body ++ a ∷ b ∷ after) ≡ length body
pair_place-closed a b [] after h =
    cond-true (eqb a a && eqb b b) 0 (1 + pair_place a b (b ∷ after)) (and_from _ _ (eq-eqb a a refl) (eq-eqb b b refl))
pair_place-closed a b (x ∷ body) after h =
    let parts = or_parts (starts_pair a b (x ∷ (body ++ a ∷ []))) (has_pair a b (body ++ a ∷ [])) h in
    let fails : starts_pair a b (x ∷ (body ++ a ∷ b ∷ after)) ≡ false = starts_pair-append a b x body (b ∷ after) ∙ parts.0 in
    let step = pair_place-cons a b x (body ++ a ∷ b ∷ after) fails in
    let more = pair_place-closed a b body after parts.1 in
    omega arith

-- no pair, no place
pub pair_place-none : (a b : ℕ) (xs : List ℕ) → has_pair a b xs ≡ false → pair_place a b xs ≡ length xs
pair_place-none a b [] h = refl
pair_place-none a b (x ∷ xs) h =
    let parts = or_parts (starts_pair a b (x ∷ xs)) (has_pair a b xs) h in
    let step = pair_place-cons a b x xs parts.0 in
    let more = pair_place-none a b xs parts.1 in
    omega arith

-- a text with its first pair
pub record FirstPair (a b : ℕ) (xs : List ℕ) : Type 0 where
  pub body : List ℕ
  pub after : List ℕ
  pub spelled : xs ≡ body ++ a ∷ b ∷ after
  pub no_earlier : has_pair a b (body ++ a ∷ []) ≡ false
  pub place : pair_place a b xs ≡ length body

-- a text that begins with the pair
pub starts_pair_is : (a b : ℕ) (xs : List ℕ) → starts_pair a b xs ≡ true → (after : List ℕ) × (xs ≡ a ∷ b ∷ after)
starts_pair_is a b [] h = absurd (false≢true h)
starts_pair_is a b (x ∷ []) h = absurd (false≢true h)
starts_pair_is a b (x ∷ y ∷ xs) h =
    let parts = and_parts (eqb x a) (eqb y b) h in
    let first = eqb-true x a parts.0 in
    let second = eqb-true y b parts.1 in
    (xs, cc)

-- a text has no pair, or a first one
pub pair_cases : (a b : ℕ) (xs : List ℕ) → FirstPair a b xs ⊎ ((has_pair a b xs ≡ false) × (pair_place a b xs ≡ length xs))
pair_cases a b [] = inr (refl, refl)
pair_cases a b (x ∷ xs) =
    elim (cases_Bool (starts_pair a b (x ∷ xs))) [
      | inl passes ↦
          let found = starts_pair_is a b (x ∷ xs) passes in
          inl record { body = []; after = found.0; spelled = found.1; no_earlier = refl; place = cond-true (starts_pair a b (x ∷ xs)) _ _ passes }
      | inr fails ↦
          let step = pair_place-cons a b x xs fails in
          elim (pair_cases a b xs) [
            | inl f ↦
                inl record {
                  body = x ∷ f.body;
                  after = f.after;
                  spelled = ap (λ ys. x ∷ ys) f.spelled;
                  no_earlier = or_from _ _ (sym (starts_pair-append a b x f.body (b ∷ f.after)) ∙ sym (ap (λ ys. starts_pair a b (x ∷ ys)) f.spelled) ∙ fails) f.no_earlier;
                  place = omega (arith, f.place);
                }
            | inr n ↦ inr (or_from _ _ fails n.0, omega (arith, n.1))
          ]
    ]

-- the place is within the text
pub pair_place-le-length : (a b : ℕ) (xs : List ℕ) → pair_place a b xs ≤ length xs
pair_place-le-length a b [] = omega arith
pair_place-le-length a b (x ∷ xs) =
    cond_both (starts_pair a b (x ∷ xs)) 0 (1 + pair_place a b xs) (λ n. n ≤ length (x ∷ xs)) (λ _. omega arith) (λ _. omega (arith, pair_place-le-length a b xs))
