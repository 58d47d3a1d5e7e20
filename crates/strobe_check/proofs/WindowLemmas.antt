-- The places inside the extent of a window.
use Rattle.std.proofs.Common.{◌≡◌, ℕ, suc, ◌+◌, ◌-◌, ◌<◌, ◌≤◌, true, eqb, ◌||◌, List, [], ◌∷◌, length, get_or, drop, refl, sym, ap, subst, ◌∙◌, arith, inl, inr, length-drop}
use Rattle.std.specs.Prelude.{◌↔◌}
use Rattle.std.specs.List.{enumerate_from}
use Rattle.std.proofs.lemmas.Bool.{cases_eq, eq-eqb, eqb-true, or_cases, or_left, or_right}
use Rattle.std.proofs.lemmas.List.{get_or-drop}
use Rattle.tester_types.specs.declared.wave.Look.{Look}
use Rattle.tester_types.specs.declared.wave.Look.TheVariants.{Low, High, Off, LowWindow, HighWindow, OffWindow, Close}
use Rattle.strobe_check.specs.Look.{is_window}
use Rattle.strobe_check.specs.Entry.{Entry, looks_at}
use Rattle.strobe_check.specs.Extent.{if_none, until_look, inside_last, has_place, behind, HasNoLook}

-- the entries from a number on have no look at the signal, up to a place
abbrev AreQuiet : ℕ → ℕ → List Entry → ℕ → Type 0
AreQuiet signal n later place =
    (m : ℕ) (d : Entry) → n ≤ m → m ≤ place → looks_at signal (get_or later (m - n) d).moment ≡ []

-- an entry in front, and the ones behind it
quiet-cons : (signal n : ℕ) (entry : Entry) (later : List Entry) (place : ℕ) → looks_at signal entry.moment ≡ []
    → AreQuiet signal (n + 1) later place → AreQuiet signal n (entry ∷ later) place
quiet-cons signal n entry later place none rest m d from upto =
    elim (cases_eq m n) [
      | inl e ↦
          let first : m - n ≡ 0 = omega arith in
          ap (λ (i : ℕ). looks_at signal (get_or (entry ∷ later) i d).moment) first ∙ none
      | inr ne ↦
          let next : m - n ≡ suc (m - (n + 1)) = omega arith in
          ap (λ (i : ℕ). looks_at signal (get_or (entry ∷ later) i d).moment) next ∙ rest m d (omega arith) upto
    ]

-- the ones behind it alone
quiet-rest : (signal n : ℕ) (entry : Entry) (later : List Entry) (place : ℕ) → AreQuiet signal n (entry ∷ later) place
    → AreQuiet signal (n + 1) later place
quiet-rest signal n entry later place all m d from upto =
    let next : m - n ≡ suc (m - (n + 1)) = omega arith in
    sym (ap (λ (i : ℕ). looks_at signal (get_or (entry ∷ later) i d).moment) next) ∙ all m d (omega arith) upto

-- the place of an entry, or of one behind it, is in front of the next look exactly where there is no look up to it
until_look-cons : (signal n : ℕ) (entry : Entry) (later : List Entry) (place : ℕ) (looks : List Look)
    → looks_at signal entry.moment ≡ looks
    → (has_place place (until_look signal (enumerate_from (n + 1) later)) ≡ true)
    ↔ ((n + 1 ≤ place) × (place < n + 1 + length later) × AreQuiet signal (n + 1) later place)
    → (has_place place (if_none looks ((n, entry) ∷ until_look signal (enumerate_from (n + 1) later))) ≡ true)
    ↔ ((n ≤ place) × (place < n + length (entry ∷ later)) × AreQuiet signal n (entry ∷ later) place)
until_look-cons signal n entry later place [] none rest = (
  λ h. elim (or_cases (eqb n place) (has_place place (until_look signal (enumerate_from (n + 1) later))) h) [
    | inl a ↦ let e = eqb-true n place a in (omega (arith, e), omega (arith, e), own e)
    | inr b ↦
        let r = rest.0 b in
        (omega (arith, r.0), omega (arith, r.1), quiet-cons signal n entry later place none r.2)
  ],
  λ h. elim (cases_eq n place) [
    | inl e ↦ or_left (eqb n place) _ (eq-eqb n place e)
    | inr ne ↦ or_right (eqb n place) _
        (rest.1 (omega (arith, h.0, ne), omega (arith, h.1), quiet-rest signal n entry later place h.2))
  ],
)
  where
    own : n ≡ place → AreQuiet signal n (entry ∷ later) place
    own e = quiet-cons signal n entry later place none (λ m d from upto. absurd (omega arith))
until_look-cons signal n entry later place (look ∷ looks) some rest = (
  λ h. cc,
  λ h.
      let zero : n - n ≡ 0 = omega arith in
      let none = sym (ap (λ (i : ℕ). looks_at signal (get_or (entry ∷ later) i entry).moment) zero)
      ∙ h.2 n entry (omega arith) h.0 in
      cc (none, some),
)

-- a place is in front of the next look exactly where there is no look up to it
until_look-places : (signal n : ℕ) (later : List Entry) (place : ℕ)
    → (has_place place (until_look signal (enumerate_from n later)) ≡ true)
    ↔ ((n ≤ place) × (place < n + length later) × AreQuiet signal n later place)
until_look-places signal n [] place = (λ h. cc, λ h. absurd (omega (arith, h.0, h.1)))
until_look-places signal n (entry ∷ later) place =
    until_look-cons signal n entry later place (looks_at signal entry.moment) refl
    (until_look-places signal (n + 1) later place)

-- a window has its own entry inside, and those up to the next look
window_inside : (look : Look) (here : ℕ × Entry) (later : List (ℕ × Entry)) → is_window look ≡ true
    → inside_last look here later ≡ here ∷ later
window_inside Low here later h = cc
window_inside High here later h = cc
window_inside Off here later h = cc
window_inside LowWindow here later h = refl
window_inside HighWindow here later h = refl
window_inside OffWindow here later h = refl
window_inside Close here later h = cc

-- an entry is inside a window exactly where no look stands between
pub window_places : (signal : ℕ) (look : Look) (entries : List Entry) (opens place : ℕ) (d : Entry)
    → is_window look ≡ true → opens < length entries
    → (has_place place (inside_last look (opens, d) (until_look signal (behind opens entries))) ≡ true)
    ↔ ((opens ≤ place) × (place < length entries) × HasNoLook signal entries opens place)
window_places signal look entries opens place d window within =
    subst (λ (inside : List (ℕ × Entry)). (has_place place inside ≡ true)
    ↔ ((opens ≤ place) × (place < length entries) × HasNoLook signal entries opens place))
    (sym (window_inside look (opens, d) (until_look signal (behind opens entries)) window))
    (there, back)
  where
    places : (has_place place (until_look signal (behind opens entries)) ≡ true)
        ↔ ((opens + 1 ≤ place) × (place < opens + 1 + length (drop (opens + 1) entries))
        × AreQuiet signal (opens + 1) (drop (opens + 1) entries) place)
    places = until_look-places signal (opens + 1) (drop (opens + 1) entries) place

    same : (m : ℕ) (e : Entry) → opens + 1 ≤ m → get_or (drop (opens + 1) entries) (m - (opens + 1)) e ≡ get_or entries m e
    same m e from =
        get_or-drop (opens + 1) entries (m - (opens + 1)) e ∙ ap (λ (i : ℕ). get_or entries i e) (omega arith)

    long : length (drop (opens + 1) entries) ≡ length entries - (opens + 1)
    long = length-drop (opens + 1) entries

    there : (eqb opens place || has_place place (until_look signal (behind opens entries))) ≡ true
        → (opens ≤ place) × (place < length entries) × HasNoLook signal entries opens place
    there h = elim (or_cases (eqb opens place) (has_place place (until_look signal (behind opens entries))) h) [
      | inl a ↦
          let e = eqb-true opens place a in
          (omega (arith, e), omega (arith, e, within), λ m x from upto. absurd (omega (arith, e)))
      | inr b ↦
          let r = places.0 b in (
            omega (arith, r.0),
            omega (arith, r.1, long),
            λ m x from upto.
                sym (ap (λ (entry : Entry). looks_at signal entry.moment) (same m x (omega arith))) ∙ r.2 m x (omega arith) upto,
          )
    ]

    back : (opens ≤ place) × (place < length entries) × HasNoLook signal entries opens place
        → (eqb opens place || has_place place (until_look signal (behind opens entries))) ≡ true
    back h = elim (cases_eq opens place) [
      | inl e ↦ or_left (eqb opens place) _ (eq-eqb opens place e)
      | inr ne ↦ or_right (eqb opens place) _ (places.1 (
        omega (arith, h.0, ne),
        omega (arith, h.1, long, within),
        λ m x from upto. ap (λ (entry : Entry). looks_at signal entry.moment) (same m x from) ∙ h.2 m x (omega arith) upto,
      ))
    ]
