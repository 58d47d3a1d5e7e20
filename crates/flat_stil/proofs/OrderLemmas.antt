-- Numbers in the order in which they first come.
use Rattle.std.proofs.Common.{◌≡◌, ℕ, suc, ◌+◌, ◌<◌, ◌≤◌, Bool, true, false, not, ◌||◌, cond, List, [], ◌∷◌, ◌++◌, length, get_or, set, Option, Some, None, inl, inr, refl, sym, ap, subst, ◌∙◌, arith, append-nil}
use Rattle.std.specs.Prelude.{◌==◌}
use Rattle.std.specs.List.{filter}
use Rattle.std.proofs.lemmas.Bool.{eq-eqb, ne_eqb, cases_eq}
use Rattle.std.proofs.lemmas.List.{get_or-set_same, get_or-set_other, get_or_past}
use Rattle.std.proofs.lemmas.List.Folds.{list_any-append}
use Rattle.std.proofs.lemmas.List.Elements.{filter-append}
use Rattle.flat_parts.specs.Order.{is_in, firsts, number_in}
use Rattle.flat_parts.proofs.OrderLemmas.{swapped, is_in-firsts}
use Rattle.flat_stil.specs.Working.{IsPlace}

-- ---- each number once

-- a number alone, where it isn't taken out, and where it is
alone : (same : Bool) (m n : ℕ) → (n == m) ≡ same → filter (λ k. not (k == m)) (n ∷ []) ≡ cond (not same) (n ∷ []) []
alone same m n e = ap (λ (b : Bool). cond (not b) (n ∷ []) []) e

push_by : (there same : Bool) (m n : ℕ) (first : List ℕ) → (m == n) ≡ same
    → m ∷ filter (λ k. not (k == m)) (cond there first (first ++ n ∷ []))
    ≡ cond (same || there) (m ∷ filter (λ k. not (k == m)) first) (m ∷ filter (λ k. not (k == m)) first ++ n ∷ [])
push_by true true m n first e = refl
push_by true false m n first e = refl
push_by false true m n first e =
    ap (λ (l : List ℕ). m ∷ l)
    (filter-append (λ k. not (k == m)) first (n ∷ [])
    ∙ ap (λ (l : List ℕ). filter (λ k. not (k == m)) first ++ l) (alone true m n (swapped m n true e))
    ∙ append-nil (filter (λ k. not (k == m)) first))
push_by false false m n first e =
    ap (λ (l : List ℕ). m ∷ l)
    (filter-append (λ k. not (k == m)) first (n ∷ [])
    ∙ ap (λ (l : List ℕ). filter (λ k. not (k == m)) first ++ l) (alone false m n (swapped m n false e)))

-- a number behind the others
pushed : (ns : List ℕ) (n : ℕ) → firsts (ns ++ n ∷ []) ≡ cond (is_in ns n) (firsts ns) (firsts ns ++ n ∷ [])
unfolding firsts
pushed [] n = refl
pushed (m ∷ ns) n =
    ap (λ (l : List ℕ). m ∷ filter (λ k. not (k == m)) l) (pushed ns n) ∙ push_by (is_in ns n) (m == n) m n (firsts ns) refl

-- it is new where it isn't among the first ones
pub firsts_push : (ns order new : List ℕ) (n : ℕ) → order ≡ firsts ns → new ≡ cond (is_in order n) order (order ++ n ∷ [])
    → new ≡ firsts (ns ++ n ∷ [])
firsts_push ns order new n is added =
    added ∙ ap (λ (o : List ℕ). cond (is_in o n) o (o ++ n ∷ [])) is
    ∙ ap (λ (b : Bool). cond b (firsts ns) (firsts ns ++ n ∷ [])) (is_in-firsts ns n) ∙ sym (pushed ns n)

-- no number
pub firsts_nothing : firsts [] ≡ []
unfolding firsts
firsts_nothing = refl

-- ---- places

absent_by : (same there : Bool) (x l : ℕ) → (same || there) ≡ false → (there ≡ false → x ≡ l) → cond (not same) (1 + x) 0 ≡ suc l
absent_by true there x l h so = absurd cc
absent_by false there x l h so = let e = so h in omega arith

-- a number that isn't there
pub absent : (ns : List ℕ) (n : ℕ) → is_in ns n ≡ false → number_in ns n ≡ length ns
absent [] n h = refl
absent (k ∷ ns) n h = absent_by (k == n) (is_in ns n) (number_in ns n) (length ns) h (absent ns n)

-- it stands at the end, once it is put there
at_end : (ns : List ℕ) (n : ℕ) → is_in ns n ≡ false → number_in (ns ++ n ∷ []) n ≡ length ns
at_end [] n h = ap (λ (b : Bool). cond (not b) 1 0) (eq-eqb n n refl)
at_end (k ∷ ns) n h = absent_by (k == n) (is_in ns n) (number_in (ns ++ n ∷ []) n) (length ns) h (at_end ns n)

stays_by : (same there : Bool) (x y : ℕ) → (same || there) ≡ true → (there ≡ true → x ≡ y)
    → cond (not same) (1 + x) 0 ≡ cond (not same) (1 + y) 0
stays_by true there x y h so = refl
stays_by false there x y h so = ap (λ (n : ℕ). 1 + n) (so h)

-- one that is there keeps its place
stays : (ns : List ℕ) (m n : ℕ) → is_in ns m ≡ true → number_in (ns ++ n ∷ []) m ≡ number_in ns m
stays [] m n h = absurd cc
stays (k ∷ ns) m n h =
    stays_by (k == m) (is_in ns m) (number_in (ns ++ n ∷ []) m) (number_in ns m) h (stays ns m n)

-- which numbers are there behind one more
is_in-push : (ns : List ℕ) (m n : ℕ) → is_in (ns ++ n ∷ []) m ≡ (is_in ns m || ((n == m) || false))
is_in-push ns m n = list_any-append (λ k. k == m) ns (n ∷ [])

or_true : (b : Bool) → (b || (true || false)) ≡ true
or_true true = refl
or_true false = refl

other_place : (ns : List ℕ) (m n : ℕ) (o : Option ℕ) → (n == m) ≡ false → IsPlace ns m o → IsPlace (ns ++ n ∷ []) m o
other_place ns m n (Some k) e is =
    (is_in-push ns m n ∙ ap (λ (b : Bool). b || ((n == m) || false)) is.0, stays ns m n is.0 ∙ is.1)
other_place ns m n None e is =
    is_in-push ns m n ∙ ap (λ (b : Bool). b || ((n == m) || false)) is ∙ ap (λ (b : Bool). b || false) e

-- the places behind one more number
pub places_more : (order : List ℕ) (places : List (Option ℕ)) (n k : ℕ) → n < length places → is_in order n ≡ false
    → k ≡ length order → ((m : ℕ) → IsPlace order m (get_or places m None))
    → (m : ℕ) → IsPlace (order ++ n ∷ []) m (get_or (set places n (Some k)) m None)
places_more order places n k within new is so m =
    elim (cases_eq m n) [
      | inl same ↦ subst (λ (x : ℕ). IsPlace (order ++ n ∷ []) x (get_or (set places n (Some k)) x None)) (sym same)
          (subst (IsPlace (order ++ n ∷ []) n) (sym (get_or-set_same places n (Some k) None within)) (
            is_in-push order n n ∙ ap (λ (b : Bool). is_in order n || (b || false)) (eq-eqb n n refl) ∙ or_true (is_in order n),
            at_end order n new ∙ sym is,
          ))
      | inr other ↦ subst (IsPlace (order ++ n ∷ []) m) (sym (get_or-set_other places n m (Some k) None other))
          (other_place order m n (get_or places m None) (ne_eqb n m (λ e. other (sym e))) (so m))
    ]

-- a number beyond the places isn't there
pub none_beyond : (order : List ℕ) (places : List (Option ℕ)) (n : ℕ) → length places ≤ n
    → ((m : ℕ) → IsPlace order m (get_or places m None)) → is_in order n ≡ false
none_beyond order places n h so = subst (IsPlace order n) (get_or_past places n None h) (so n)
