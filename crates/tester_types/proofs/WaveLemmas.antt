-- The last wave of a signal and a character is found.
use Rattle.std.proofs.Common.{◌≡◌, ◌≢◌, ℕ, suc, zero, ◌+◌, ◌-◌, ◌*◌, ◌<◌, ◌≤◌, ◌==◌, Bool, true, false, cond, List, [], ◌∷◌, Option, Some, None, length, get_or, reverse, refl, sym, ap, ◌∙◌, inl, inr, arith, subst, suc-le-suc}
use Rattle.std.specs.List.{find}
use Rattle.std.specs.Option.{option_or}
use Rattle.std.proofs.lemmas.Option.{slice_get-get_or}
use Rattle.std.proofs.lemmas.List.{reverse-append, length-reverse, get_or-reverse, get_or_read}
use Rattle.std.proofs.lemmas.List.Folds.{find-append}
use Rattle.std.proofs.lemmas.Bool.{cases_lt, and_parts, eqb-true, false_from_ne_true}
use Rattle.tester_types.specs.Waves.{is_wave, wave_key, key_in, Rise, AreBelow, AreFrom, IsPlaceOf}
use Rattle.tester_types.specs.declared.wave.Wave.{Wave}

-- the first item that passes
pub find_first : {X : Type 0} (p : X → Bool) (xs : List X) (i : ℕ) (d : X) → i < length xs → p (get_or xs i d) ≡ true
    → ((j : ℕ) → j < i → p (get_or xs j d) ≡ false) → find p xs ≡ Some (get_or xs i d)
find_first p [] i d h is none = absurd (omega arith)
find_first p (x ∷ xs) zero d h is none = ap (λ b. cond b (Some x) (find p xs)) is
find_first p (x ∷ xs) (suc i) d h is none =
    ap (λ b. cond b (Some x) (find p xs)) (none 0 (omega arith))
    ∙ find_first p xs i d (omega arith) is (λ j k. none (suc j) (omega arith))

-- no item passes
pub find_none : {X : Type 0} (p : X → Bool) (xs : List X) (d : X)
    → ((j : ℕ) → j < length xs → p (get_or xs j d) ≡ false)
    → find p xs ≡ None
find_none p [] d none = refl
find_none p (x ∷ xs) d none =
    ap (λ b. cond b (Some x) (find p xs)) (none 0 (omega arith)) ∙ find_none p xs d (λ j k. none (suc j) (omega arith))

-- an item that is counted from the end
turned : {X : Type 0} (xs : List X) (i : ℕ) (d : X) → i < length xs
    → get_or (reverse xs) (length xs - 1 - i) d ≡ get_or xs i d
turned xs i d within =
    let back : length xs - 1 - (length xs - 1 - i) ≡ i = omega (arith, within) in
    get_or-reverse xs (length xs - 1 - i) d (omega (arith, within)) ∙ ap (λ (n : ℕ). get_or xs n d) back

-- the last item that passes
pub find-reverse_last : {X : Type 0} (p : X → Bool) (xs : List X) (i : ℕ) (d : X) → i < length xs
    → p (get_or xs i d) ≡ true
    → ((j : ℕ) → i < j → j < length xs → p (get_or xs j d) ≡ false)
    → find p (reverse xs) ≡ Some (get_or xs i d)
find-reverse_last p xs i d within is none =
    let here = turned xs i d within in
    let before : (j : ℕ) → j < length xs - 1 - i → p (get_or (reverse xs) j d) ≡ false =
    λ j lt. ap p (get_or-reverse xs j d (omega (arith, lt, within)))
    ∙ none (length xs - 1 - j) (omega (arith, lt, within)) (omega (arith, lt, within)) in
    find_first p (reverse xs) (length xs - 1 - i) d (omega (arith, length-reverse xs, within)) (ap p here ∙ is) before
    ∙ ap Some here

-- no item passes, from the end on
pub find-reverse_none : {X : Type 0} (p : X → Bool) (xs : List X) (d : X)
    → ((j : ℕ) → j < length xs → p (get_or xs j d) ≡ false)
    → find p (reverse xs) ≡ None
find-reverse_none p xs d none =
    let each : (j : ℕ) → j < length (reverse xs) → p (get_or (reverse xs) j d) ≡ false =
    λ j lt.
    let within : j < length xs = omega (arith, lt, length-reverse xs) in
    ap p (get_or-reverse xs j d within) ∙ none (length xs - 1 - j) (omega (arith, within)) in
    find_none p (reverse xs) d each

-- a wave of a signal and a character has their number
pub own_key : (w : Wave) (signal character : ℕ) → is_wave signal character w ≡ true → key_in w ≡ wave_key signal character
own_key w signal character is =
    let parts = and_parts (w.signal == signal) (w.character == character) is in
    ap (λ (n : ℕ). n * 256 + w.character) (eqb-true w.signal signal parts.0)
    ∙ ap (λ (n : ℕ). signal * 256 + n) (eqb-true w.character character parts.1)

-- a wave of another number is for another signal or character
pub other_key : (w : Wave) (signal character : ℕ) → key_in w ≢ wave_key signal character → is_wave signal character w ≡ false
other_key w signal character other =
    false_from_ne_true (is_wave signal character w) (λ is. other (own_key w signal character is))

-- a wave without events
abbrev blank : Wave
blank = record { signal = 0; character = 0; events = [] }

-- waves up to a place rise, and so do they with one more
abbrev pub RiseTo : List Wave → ℕ → Type 0
RiseTo waves place = (i j : ℕ) (d : Wave) → i < j → j < place → j < length waves
    → key_in (get_or waves i d) < key_in (get_or waves j d)

pub RiseTo-more : (waves : List Wave) (place : ℕ) (before here : Wave) → place < length waves
    → before ≡ get_or waves (place - 1) before
    → here ≡ get_or waves place here
    → key_in before < key_in here
    → RiseTo waves place
    → RiseTo waves (place + 1)
RiseTo-more waves place before here within was is less rise = λ i j d lt inside all.
    let one : key_in before ≡ key_in (get_or waves (place - 1) d) =
    ap key_in (get_or_read waves (place - 1) before (omega (arith, within)) was d) in
    let two : key_in here ≡ key_in (get_or waves place d) = ap key_in (get_or_read waves place here within is d) in
    elim (cases_lt j place) [
      | inl earlier ↦ rise i j d lt earlier all
      | inr last ↦
          let same : place ≡ j = omega (arith, last, inside) in
          subst (λ (n : ℕ). key_in (get_or waves i d) < key_in (get_or waves n d)) same
          (elim (cases_lt i (place - 1)) [
            | inl far ↦ omega (arith, rise i (place - 1) d far (omega (arith, far)) (omega (arith, within)), one, two, less)
            | inr near ↦
                let next : place - 1 ≡ i = omega (arith, near, lt, same) in
                subst (λ (n : ℕ). key_in (get_or waves n d) < key_in (get_or waves place d)) next (omega (arith, one, two, less))
          ])
    ]

-- the last wave of a signal and a character among any waves
pub last_found : (waves : List Wave) (signal character i : ℕ) (wave : Wave) → i < length waves → wave ≡ get_or waves i wave
    → is_wave signal character wave ≡ true
    → ((j : ℕ) (d : Wave) → i < j → j < length waves → is_wave signal character (get_or waves j d) ≡ false)
    → IsPlaceOf waves signal character i
last_found waves signal character i wave within is own after = record {
  within = within;
  last = slice_get-get_or waves i wave within
      ∙ sym (find-reverse_last (is_wave signal character) waves i wave within (ap (is_wave signal character) (sym is) ∙ own)
      (λ j lt inside. after j wave lt inside));
}

-- no wave is for the signal and the character
pub none_last : (waves : List Wave) (signal character : ℕ)
    → ((j : ℕ) (d : Wave) → j < length waves → is_wave signal character (get_or waves j d) ≡ false)
    → find (is_wave signal character) (reverse waves) ≡ None
none_last waves signal character none =
    find-reverse_none (is_wave signal character) waves blank (λ j inside. none j blank inside)

module _ (waves : List Wave) (rise : Rise waves) where
  -- the waves up to one with a smaller number have smaller ones
  pub below_upto : (key i next : ℕ) (wave : Wave) → i < length waves → wave ≡ get_or waves i wave
      → key_in wave < key → next ≡ i + 1 → AreBelow waves next key
  below_upto key i next wave within is low e = λ j d lt inside.
      let here : key_in wave ≡ key_in (get_or waves i d) = ap key_in (get_or_read waves i wave within is d) in
      elim (cases_lt j i) [
        | inl before ↦ omega (arith, rise j i d before within, here, low)
        | inr after ↦
            let same : i ≡ j = omega (arith, lt, after, e) in
            subst (λ (n : ℕ). key_in (get_or waves n d) < key) same (omega (arith, here, low))
      ]

  -- the waves from one on that has no smaller number have none
  pub above_from : (key i : ℕ) (wave : Wave) → i < length waves → wave ≡ get_or waves i wave
      → key ≤ key_in wave → AreFrom waves i key
  above_from key i wave within is high = λ j d le inside.
      let here : key_in wave ≡ key_in (get_or waves i d) = ap key_in (get_or_read waves i wave within is d) in
      elim (cases_lt i j) [
        | inl behind ↦ omega (arith, rise i j d behind inside, here, high)
        | inr upto ↦
            let same : i ≡ j = omega (arith, le, upto) in
            subst (λ (n : ℕ). key ≤ key_in (get_or waves n d)) same (omega (arith, here, high))
      ]

  -- a wave of the signal and the character is the last of them
  pub found_place : (signal character i : ℕ) (wave : Wave) → i < length waves → wave ≡ get_or waves i wave
      → is_wave signal character wave ≡ true → IsPlaceOf waves signal character i
  found_place signal character i wave within is own =
      let key = own_key wave signal character own in
      last_found waves signal character i wave within is own (λ j d lt inside.
      let here : key_in wave ≡ key_in (get_or waves i d) = ap key_in (get_or_read waves i wave within is d) in
      other_key (get_or waves j d) signal character (λ e. omega (arith, e, key, here, rise i j d lt inside)))

  -- there is none where the waves before a place have smaller numbers, and the one there is another
  pub no_place : (signal character i : ℕ) → AreBelow waves i (wave_key signal character) → AreFrom waves i (wave_key signal character)
      → ((d : Wave) → i < length waves → is_wave signal character (get_or waves i d) ≡ false)
      → find (is_wave signal character) (reverse waves) ≡ None
  no_place signal character i below above other =
      none_last waves signal character (λ j d inside.
      elim (cases_lt j i) [
        | inl before ↦ other_key (get_or waves j d) signal character (λ e. omega (arith, e, below j d before inside))
        | inr from ↦
            elim (cases_lt i j) [
              | inl behind ↦
                  let within : i < length waves = omega (arith, behind, inside) in
                  let least = above i d (omega arith) within in
                  other_key (get_or waves j d) signal character (λ e. omega (arith, e, least, rise i j d behind inside))
              | inr upto ↦
                  let same : i ≡ j = omega (arith, from, upto) in
                  subst (λ (n : ℕ). is_wave signal character (get_or waves n d) ≡ false) same
                  (other d (omega (arith, same, inside)))
            ]
      ])

joined : (b : Bool) (found : Option Wave) (wave : Wave) → (b ≡ true → found ≡ None)
    → option_or found (cond b (Some wave) None) ≡ cond b (Some wave) found
joined true found wave none = ap (λ o. option_or o (Some wave)) (none refl) ∙ refl
joined false None wave none = refl
joined false (Some other) wave none = refl

-- among waves that rise the last is the first
pub find-reverse_rising : (signal character : ℕ) (waves : List Wave) → Rise waves
    → find (is_wave signal character) (reverse waves) ≡ find (is_wave signal character) waves
find-reverse_rising signal character [] rise = refl
find-reverse_rising signal character (w ∷ ws) rise =
    let test = is_wave signal character in
    let rest : Rise ws = λ i j d lt inside. rise (suc i) (suc j) d (suc-le-suc lt) (suc-le-suc inside) in
    let alone : test w ≡ true → find test ws ≡ None = λ own.
    find_none test ws blank (λ j inside.
    other_key (get_or ws j blank) signal character (λ e.
    omega (arith, e, own_key w signal character own, rise zero (suc j) blank (omega arith) (suc-le-suc inside)))) in
    ap (find test) (reverse-append (w ∷ []) ws) ∙ find-append test (reverse ws) (w ∷ [])
    ∙ ap (λ o. option_or o (find test (w ∷ []))) (find-reverse_rising signal character ws rest)
    ∙ joined (test w) (find test ws) w alone
