-- Every width-th entry of a list from a place on: which they are, and how many.
use Rattle.std.proofs.Common.{◌≡◌, ℕ, zero, suc, ◌+◌, ◌-◌, ◌<◌, ◌≤◌, List, [], ◌∷◌, refl, sym, ap, ◌∙◌, inl, inr, arith, length, get_or, drop}
use Rattle.std.specs.Prelude.{min, pred}
use Rattle.std.specs.Int.{div_ceil}
use Rattle.std.proofs.Math.Nat.{add-div_right, add-mod_right, div-eq_of_lt, mod-eq_of_lt, zero-div, zero-mod}
use Rattle.std.proofs.lemmas.Bool.{cases_lt}
use Rattle.stil_ast.specs.Meaning.Arguments.{Entry, every}

-- past the end there is none
pub every-past : (width place : ℕ) (xs : List Entry) → length xs ≤ place → every width place xs ≡ []
every-past width place [] past = refl
every-past width zero (x ∷ xs) past = absurd (omega arith)
every-past width (suc place) (x ∷ xs) past = every-past width place xs (omega arith)

-- a place that is capped behind the end
pub every-capped : (width place top : ℕ) (xs : List Entry) → length xs ≤ top
    → every width (min place top) xs ≡ every width place xs
every-capped width place top xs fits =
    elim (cases_lt place top) [
      | inl below ↦ ap (λ (p : ℕ). every width p xs) (let e : min place top ≡ place = omega arith in e)
      | inr above ↦ every-past width (min place top) xs (omega arith) ∙ sym (every-past width place xs (omega arith))
    ]

-- the entry at the place, and those behind it
pub every-next : (width place : ℕ) (xs : List Entry) (d : Entry) → 0 < width → place < length xs
    → every width place xs ≡ get_or xs place d ∷ every width (place + width) xs
every-next width place [] d wide inside = absurd (omega arith)
every-next zero zero (x ∷ xs) d wide inside = absurd (omega arith)
every-next (suc width) zero (x ∷ xs) d wide inside =
    ap (λ (p : ℕ). x ∷ every (suc width) p (x ∷ xs)) (let e : suc width ≡ 0 + suc width = omega arith in e)
every-next width (suc place) (x ∷ xs) d wide inside =
    every-next width place xs d wide (omega arith)
    ∙ ap (λ (p : ℕ). get_or xs place d ∷ every width p (x ∷ xs))
    (let e : suc (place + width) ≡ suc place + width = omega arith in e)

-- a place behind those that are left out
pub every-drop : (width from place : ℕ) (xs : List Entry)
    → every width (from + place) xs ≡ every width place (drop from xs)
every-drop width zero place xs = ap (λ (p : ℕ). every width p xs) (let e : 0 + place ≡ place = omega arith in e)
every-drop width (suc from) place [] = refl
every-drop width (suc from) place (x ∷ xs) =
    ap (λ (p : ℕ). every width p (x ∷ xs)) (let e : suc from + place ≡ suc (from + place) = omega arith in e)
    ∙ every-drop width from place xs

div_ceil-zero : (width : ℕ) → div_ceil 0 width ≡ 0
div_ceil-zero width = let whole = zero-div width in let rest = zero-mod width in rw (whole, rest) refl

div_ceil-more : (n width : ℕ) → 0 < width → div_ceil (n + width) width ≡ suc (div_ceil n width)
div_ceil-more n width wide =
    let whole = add-div_right n wide in
    let rest = add-mod_right n width in
    rw (whole, rest) (omega arith)

div_ceil-few : (n width : ℕ) → 0 < n → n < width → div_ceil n width ≡ 1
div_ceil-few n width some few =
    let whole = div-eq_of_lt few in
    let rest = mod-eq_of_lt few in
    rw (whole, rest) (omega arith)

-- one entry, and those behind the next ones that are left out
div_ceil-step : (n width : ℕ) → suc (div_ceil (n - width) (suc width)) ≡ div_ceil (suc n) (suc width)
div_ceil-step n width =
    elim (cases_lt n width) [
      | inl few ↦
          ap (λ (m : ℕ). suc (div_ceil m (suc width))) (let e : n - width ≡ 0 = omega arith in e)
          ∙ (ap suc (div_ceil-zero (suc width)) ∙ sym (div_ceil-few (suc n) (suc width) (omega arith) (omega arith)))
      | inr many ↦
          sym (div_ceil-more (n - width) (suc width) (omega arith))
          ∙ ap (λ (m : ℕ). div_ceil m (suc width)) (let e : n - width + suc width ≡ suc n = omega arith in e)
    ]

-- how many they are
pub length-every : (width place : ℕ) (xs : List Entry) → 0 < width
    → length (every width place xs) ≡ div_ceil (length xs - place) width
length-every width place [] wide =
    sym (ap (λ (n : ℕ). div_ceil n width) (let e : 0 - place ≡ 0 = omega arith in e) ∙ div_ceil-zero width)
length-every zero zero (x ∷ xs) wide = absurd (omega arith)
length-every (suc width) zero (x ∷ xs) wide =
    ap suc (length-every (suc width) width xs wide)
    ∙ (div_ceil-step (length xs) width
    ∙ ap (λ (n : ℕ). div_ceil n (suc width)) (let e : suc (length xs) ≡ suc (length xs) - 0 = omega arith in e))
length-every width (suc place) (x ∷ xs) wide =
    length-every width place xs wide
    ∙ ap (λ (n : ℕ). div_ceil n width) (let e : length xs - place ≡ suc (length xs) - suc place = omega arith in e)

-- they are no more than there are
pub every-short : (width place : ℕ) (xs : List Entry) → length (every width place xs) ≤ length xs
every-short width place [] = omega arith
every-short width zero (x ∷ xs) = let rest = every-short width (pred width) xs in omega (arith, rest)
every-short width (suc place) (x ∷ xs) = let rest = every-short width place xs in omega (arith, rest)
