-- The records of a text: there is one list of them, and it is no longer than the text.
use Rattle.std.proofs.Common.{◌≡◌, ℕ, zero, suc, ◌+◌, ◌≤◌, Bool, true, false, cond, List, [], ◌∷◌, ◌++◌, length, Option, Some, None, refl, sym, ap, ◌∙◌, subst, arith, inl, inr, ◌⊎◌}
use Rattle.csv.specs.Machine.{Read, next_record, step, is_end, ends_at_end, fields_after, field_after}
use Rattle.csv.specs.Reading.{Reached, AreRecords, strip_bom, is_bom}
use Rattle.csv.specs.declared.parser.Config.{Config}
use Rattle.csv.specs.declared.parser.State.{State}
use Rattle.csv.specs.declared.parser.State.TheVariants as st

-- a record takes a byte, or ends the text that has none
pub shrinks : (cfg : Config) (s : State) (fields : List (List ℕ)) (field xs : List ℕ) (p : Read) → next_record cfg s fields field xs ≡ Some p →
    (length p.2 + 1 ≤ length xs) ⊎ ((p.1 ≡ st.StartRecord) × (p.2 ≡ []))
unfolding next_record
shrinks cfg s fields field [] p h = by (ends_at_end s) h
  where
    by : (b : Bool) → cond {A = Option Read} b (Some (fields ++ (field ∷ []), st.StartRecord, [])) None ≡ Some p →
        (length p.2 + 1 ≤ 0) ⊎ ((p.1 ≡ st.StartRecord) × (p.2 ≡ []))
    by true h = let same : (fields ++ (field ∷ []), st.StartRecord, []) ≡ p = cc in
        inr (ap (λ (q : Read). q.1) (sym same), ap (λ (q : Read). q.2) (sym same))
    by false h = cc
shrinks cfg s fields field (c ∷ rest) p h =
    by (is_end (step cfg s c).1) (shrinks cfg (step cfg s c).0 (fields_after (step cfg s c).1 fields field) (field_after (step cfg s c).1 c field) rest p) h
  where
    by : (b : Bool) →
        (next_record cfg (step cfg s c).0 (fields_after (step cfg s c).1 fields field) (field_after (step cfg s c).1 c field) rest ≡ Some p →
        (length p.2 + 1 ≤ length rest) ⊎ ((p.1 ≡ st.StartRecord) × (p.2 ≡ []))) →
        cond b (Some (fields_after (step cfg s c).1 fields field, (step cfg s c).0, rest))
        (next_record cfg (step cfg s c).0 (fields_after (step cfg s c).1 fields field) (field_after (step cfg s c).1 c field) rest) ≡ Some p →
        (length p.2 + 1 ≤ length (c ∷ rest)) ⊎ ((p.1 ≡ st.StartRecord) × (p.2 ≡ []))
    by true later h =
        let same : (fields_after (step cfg s c).1 fields field, (step cfg s c).0, rest) ≡ p = cc in
        let left : length rest ≡ length p.2 = ap (λ (q : Read). length q.2) same in
        inl (omega arith)
    by false later h = elim (later h) [
      | inl fewer ↦ inl (omega arith)
      | inr ended ↦ inr ended
    ]

-- the records behind one
pub cons_records : (cfg : Config) (s : State) (xs : List ℕ) (p : Read) → next_record cfg s [] [] xs ≡ Some p →
    (rows : List (List (List ℕ))) × AreRecords cfg p.1 p.2 rows → (rows : List (List (List ℕ))) × AreRecords cfg s xs rows
unfolding Reached
cons_records cfg s xs p h (rows, (s2, ys, reached, none)) = (p.0 ∷ rows, (s2, ys, (p, h, refl, reached), none))

no_records : (cfg : Config) (s : State) (xs : List ℕ) → next_record cfg s [] [] xs ≡ None → (rows : List (List (List ℕ))) × AreRecords cfg s xs rows
unfolding Reached
no_records cfg s xs h = ([], (s, xs, (refl, refl), h))

nothing_left : (cfg : Config) (s : State) (xs : List ℕ) → s ≡ st.StartRecord → xs ≡ [] → next_record cfg s [] [] xs ≡ None
unfolding next_record
nothing_left cfg s xs e g = ap (λ q. next_record cfg q [] [] xs) e ∙ ap (λ q. next_record cfg st.StartRecord [] [] q) g

-- each text has records, from any state
pub some_records : (n : ℕ) (cfg : Config) (s : State) (xs : List ℕ) → length xs ≤ n → (rows : List (List (List ℕ))) × AreRecords cfg s xs rows
some_records zero cfg s xs few = by (next_record cfg s [] [] xs) refl
  where
    by : (o : Option Read) → next_record cfg s [] [] xs ≡ o → (rows : List (List (List ℕ))) × AreRecords cfg s xs rows
    by None e = no_records cfg s xs e
    by (Some p) e = cons_records cfg s xs p e (elim (shrinks cfg s [] [] xs p e) [
      | inl fewer ↦ absurd (omega arith)
      | inr ended ↦ no_records cfg p.1 p.2 (nothing_left cfg p.1 p.2 ended.0 ended.1)
    ])
some_records (suc n) cfg s xs few = by (next_record cfg s [] [] xs) refl (some_records n cfg)
  where
    by : (o : Option Read) → next_record cfg s [] [] xs ≡ o →
        ((t : State) (ys : List ℕ) → length ys ≤ n → (rows : List (List (List ℕ))) × AreRecords cfg t ys rows) →
        (rows : List (List (List ℕ))) × AreRecords cfg s xs rows
    by None e later = no_records cfg s xs e
    by (Some p) e later = cons_records cfg s xs p e (elim (shrinks cfg s [] [] xs p e) [
      | inl fewer ↦ later p.1 p.2 (omega arith)
      | inr ended ↦ no_records cfg p.1 p.2 (nothing_left cfg p.1 p.2 ended.0 ended.1)
    ])

-- records, and then more
pub Reached-append : (cfg : Config) (s s1 s2 : State) (xs ys zs : List ℕ) (front back : List (List (List ℕ))) →
    Reached cfg s xs front s1 ys → Reached cfg s1 ys back s2 zs → Reached cfg s xs (front ++ back) s2 zs
unfolding Reached
Reached-append cfg s s1 s2 xs ys zs [] back (e, g) h = rw (e, g) h
Reached-append cfg s s1 s2 xs ys zs (r ∷ front) back (p, next, is, reached) h =
    (p, next, is, Reached-append cfg p.1 s1 s2 p.2 ys zs front back reached h)

-- there are no more records than bytes and one
pub few_records : (cfg : Config) (s s2 : State) (xs ys : List ℕ) (rows : List (List (List ℕ))) → Reached cfg s xs rows s2 ys →
    length rows ≤ length xs + 1
unfolding Reached
few_records cfg s s2 xs ys [] h = omega arith
few_records cfg s s2 xs ys (r ∷ []) h = omega arith
few_records cfg s s2 xs ys (r ∷ q ∷ rows) (p, next, is, (o, then, was, reached)) =
    elim (shrinks cfg s [] [] xs p next) [
      | inl fewer ↦ omega (arith, few_records cfg p.1 s2 p.2 ys (q ∷ rows) (o, then, was, reached))
      | inr ended ↦ absurd (none_is_some (nothing_left cfg p.1 p.2 ended.0 ended.1) then)
    ]
  where
    none_is_some : {o : Option Read} {p : Read} → o ≡ None → o ≡ Some p → ⊥
    none_is_some h g = cc

some_is_none : {o : Option Read} {p : Read} → o ≡ Some p → o ≡ None → ⊥
some_is_none h g = cc

-- a text has one list of records
pub one_records : (cfg : Config) (s sa sb : State) (xs ya yb : List ℕ) (a b : List (List (List ℕ))) →
    Reached cfg s xs a sa ya → next_record cfg sa [] [] ya ≡ None → Reached cfg s xs b sb yb → next_record cfg sb [] [] yb ≡ None → a ≡ b
unfolding Reached
one_records cfg s sa sb xs ya yb [] [] h ha g gb = refl
one_records cfg s sa sb xs ya yb [] (r ∷ b) (e, f) ha (p, next, is, reached) gb =
    absurd (some_is_none next (ap (λ t. next_record cfg t [] [] xs) e ∙ ap (λ t. next_record cfg sa [] [] t) f ∙ ha))
one_records cfg s sa sb xs ya yb (r ∷ a) [] (p, next, is, reached) ha (e, f) gb =
    absurd (some_is_none next (ap (λ t. next_record cfg t [] [] xs) e ∙ ap (λ t. next_record cfg sb [] [] t) f ∙ gb))
one_records cfg s sa sb xs ya yb (r ∷ a) (q ∷ b) (p, next, is, reached) ha (o, then, was, arrived) gb =
    let same : p ≡ o = cc in
    let moved : Reached cfg p.1 p.2 b sb yb = subst (λ (z : Read). Reached cfg z.1 z.2 b sb yb) (sym same) arrived in
    ap (λ x. x ∷ a) (is ∙ ap (λ (z : Read). z.0) same ∙ sym was)
    ∙ ap (λ x. q ∷ x) (one_records cfg p.1 sa sb p.2 ya yb a b reached ha moved gb)

-- a text without its byte order mark is no longer
pub strip-le : (xs : List ℕ) → length (strip_bom xs) ≤ length xs
unfolding strip_bom
strip-le [] = omega arith
strip-le (a ∷ []) = omega arith
strip-le (a ∷ b ∷ []) = omega arith
strip-le (a ∷ b ∷ c ∷ rest) = by (is_bom a b c)
  where
    by : (t : Bool) → length (cond t rest (a ∷ b ∷ c ∷ rest)) ≤ length (a ∷ b ∷ c ∷ rest)
    by true = omega arith
    by false = omega arith
