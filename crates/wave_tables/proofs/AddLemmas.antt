-- A table more is put in.
use Rattle.std.proofs.Common.{◌≡◌, ◌≢◌, ◌⊎◌, ℕ, ◌+◌, ◌<◌, Bool, true, false, ◌||◌, List, [], Option, Some, None, is_some, length, get_or, take, refl, sym, ap, ◌∙◌, subst, inl, inr, arith}
use Rattle.std.proofs.lemmas.List.{get_or-take, get_or_past, get_or_default, length-take}
use Rattle.std.proofs.lemmas.Bool.{cases_lt, cases_eq, cases_Bool, or_parts, true≢false}
use Rattle.std.proofs.Math.Bool.{or-false}
use Rattle.stil_ast.specs.Faults.TableFaults.{Timed}
use Rattle.expr_text.specs.Ratio.{Ratio}
use Rattle.wave_tables.specs.declared.lineage.Whole.{Whole}
use Rattle.wave_tables.specs.Lineage.{is_there, IsMade, AreMadeAt, IsAdded, AddsAt, Adds}

-- nothing is put in yet
pub adds_none : (t : Timed Ratio) (inherits : List (List ℕ)) (wholes : List (Option Whole))
    → Adds t inherits [] wholes wholes false
adds_none t inherits wholes = record {
  size = refl;
  there = λ k h. sym (or_no (is_there wholes k));
  kept = λ e. refl;
  grows = λ k w e. e;
  has = λ k w e. inl e;
}
  where
    or_no : (b : Bool) → (b || false) ≡ b
    or_no true = refl
    or_no false = refl

-- what was there still is
made_still : (t : Timed Ratio) (old new : List (Option Whole)) (ks : List ℕ)
    → ((k : ℕ) (w : Whole) → get_or old k None ≡ Some w → get_or new k None ≡ Some w) → AreMadeAt t old ks
    → AreMadeAt t new ks
made_still t old new ks grows made = λ i h.
    let m : IsMade t old (get_or ks i 0) = made i h in
    record { whole = m.whole; there = grows (get_or ks i 0) m.whole m.there; has = m.has }

-- a place in a longer front
front_other : (ready : List Bool) (i k : ℕ) → i ≢ k → i < length ready
    → get_or (take (i + 1) ready) k false ≡ get_or (take i ready) k false
front_other ready i k other within =
    elim (cases_lt k i) [
      | inl low ↦ get_or-take (i + 1) ready k false (omega arith) ∙ sym (get_or-take i ready k false low)
      | inr high ↦
          get_or_past (take (i + 1) ready) k false (omega (arith, length-take (i + 1) ready))
          ∙ sym (get_or_past (take i ready) k false (omega (arith, length-take i ready)))
    ]

front_last : (ready : List Bool) (i : ℕ) (r : Bool) → i < length ready → r ≡ get_or ready i r
    → get_or (take (i + 1) ready) i false ≡ r
front_last ready i r within is =
    get_or-take (i + 1) ready i false (omega arith) ∙ get_or_default ready i false r within ∙ sym is

front_past : (ready : List Bool) (i : ℕ) → get_or (take i ready) i false ≡ false
front_past ready i = get_or_past (take i ready) i false (omega (arith, length-take i ready))

-- one table more
pub adds_more : (t : Timed Ratio) (inherits : List (List ℕ)) (ready : List Bool) (i : ℕ) (r : Bool)
    (first now new : List (Option Whole)) (added more : Bool)
    → i < length ready → r ≡ get_or ready i r → Adds t inherits (take i ready) first now added
    → AddsAt t inherits r i now new more
    → Adds t inherits (take (i + 1) ready) first new (added || more)
adds_more t inherits ready i r first now new added more within is before at = record {
  size = at.size ∙ before.size;
  there = λ k h.
      elim (cases_eq i k) [
        | inl same ↦
            let here : i < length now = omega (arith, before.size) in
            let low : i < length first = omega arith in
            let step : is_there new i ≡ (is_there first i || get_or (take (i + 1) ready) i false) =
            at.there here ∙ ap (λ (b : Bool). b || r)
            (before.there i low ∙ ap (λ (b : Bool). is_there first i || b) (front_past ready i)
            ∙ or-false (is_there first i))
            ∙ ap (λ (b : Bool). is_there first i || b) (sym (front_last ready i r within is)) in
            subst (λ (j : ℕ). is_there new j ≡ (is_there first j || get_or (take (i + 1) ready) j false)) same step
        | inr other ↦
            ap is_some (at.others k other) ∙ before.there k h
            ∙ ap (λ (b : Bool). is_there first k || b) (sym (front_other ready i k other within))
      ];
  kept = λ e. let parts = or_parts added more e in at.kept parts.1 ∙ before.kept parts.0;
  grows = λ k w e. still k w (before.grows k w e);
  has = λ k w e. where_from k w e;
}
  where
    still : (k : ℕ) (w : Whole) → get_or now k None ≡ Some w → get_or new k None ≡ Some w
    still k w e =
        elim (cases_eq i k) [
          | inl same ↦ ap (λ (l : List (Option Whole)). get_or l k None)
              (at.was (ap (λ (j : ℕ). is_there now j) same ∙ ap is_some e)) ∙ e
          | inr other ↦ at.others k other ∙ e
        ]

    earlier : (k : ℕ) (w : Whole) → get_or now k None ≡ Some w
        → (get_or first k None ≡ Some w) ⊎ ((get_or (take (i + 1) ready) k false ≡ true) × IsAdded t inherits first k w)
    earlier k w e =
        elim (before.has k w e) [
          | inl old ↦ inl old
          | inr p ↦ inr (taken k p.0, p.1)
        ]
      where
        taken : (k : ℕ) → get_or (take i ready) k false ≡ true → get_or (take (i + 1) ready) k false ≡ true
        taken k h =
            elim (cases_eq i k) [
              | inl same ↦ absurd (true≢false
                  (sym h ∙ ap (λ (j : ℕ). get_or (take i ready) j false) (sym same) ∙ front_past ready i))
              | inr other ↦ front_other ready i k other within ∙ h
            ]

    where_from : (k : ℕ) (w : Whole) → get_or new k None ≡ Some w
        → (get_or first k None ≡ Some w) ⊎ ((get_or (take (i + 1) ready) k false ≡ true) × IsAdded t inherits first k w)
    where_from k w e =
        elim (cases_eq i k) [
          | inr other ↦ earlier k w (sym (at.others k other) ∙ e)
          | inl same ↦
              elim (cases_Bool more) [
                | inr no_more ↦ earlier k w (ap (λ (l : List (Option Whole)). get_or l k None) (sym (at.kept no_more))
                    ∙ e)
                | inl one_more ↦
                    let p = at.has one_more w (ap (λ (j : ℕ). get_or new j None) same ∙ e) in
                    let ready_here : get_or (take (i + 1) ready) i false ≡ true = front_last ready i r within is
                    ∙ p.0 in
                    let added_here : IsAdded t inherits first i w =
                    λ made. p.1 (made_still t first now (get_or inherits i []) before.grows made) in
                    inr (subst (λ (j : ℕ). (get_or (take (i + 1) ready) j false ≡ true) × IsAdded t inherits first j w)
                    same (ready_here, added_here))
              ]
        ]
