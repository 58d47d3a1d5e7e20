-- The names of all nets: each mention is there, and each name has its own number.
use Rattle.std.proofs.Common.{◌≡◌, ℕ, suc, ◌+◌, ◌<◌, Bool, true, false, not, ◌||◌, cond, List, [], ◌∷◌, ◌++◌, length, get_or, refl, sym, ap, ◌∙◌, subst, arith, inl, inr, length-append}
use Rattle.std.specs.Prelude.{All, fold}
use Rattle.std.specs.List.{list_any, flat_map}
use Rattle.std.specs.Str.{bytes_eq}
use Rattle.std.specs.Cmp.Lexicographic.{bytes_decides}
use Rattle.std.proofs.lemmas.List.{get_or_append_left, get_or_at}
use Rattle.std.proofs.lemmas.List.Elements.{All-nil, All-cons, All-head, All-tail}
use Rattle.std.proofs.lemmas.List.Folds.{list_any-append, position_or_len_push}
use Rattle.std.proofs.lemmas.Bool.{cases_Bool, cases_lt, eq-eqb, ne_eqb, or_left}
use Rattle.text_bytes.specs.Texts.{added}
use Rattle.bench_net.specs.Line.{Form}
use Rattle.bench_net.specs.Circuit.{number}
use Rattle.bench_net.specs.Net.{named, names}

pub number_there : (ks : List (List ℕ)) (n : List ℕ) → list_any (bytes_eq n) ks ≡ true
    → number ks n < length ks
number_there [] n e = cc
number_there (k ∷ ks) n e =
    elim (cases_Bool (bytes_eq n k)) [
      | inl b ↦ subst (λ (x : Bool). cond {A = ℕ} (not x) (1 + number ks n) 0 < suc (length ks))
          (sym b) (omega arith)
      | inr b ↦ subst (λ (x : Bool). cond {A = ℕ} (not x) (1 + number ks n) 0 < suc (length ks))
          (sym b)
          (omega (arith, number_there ks n (sym (ap (λ x. x || list_any (bytes_eq n) ks) b) ∙ e)))
    ]

pub number_not : (ks : List (List ℕ)) (n : List ℕ) → list_any (bytes_eq n) ks ≡ false → number ks n
    ≡ length ks
number_not [] n e = refl
number_not (k ∷ ks) n e =
    elim (cases_Bool (bytes_eq n k)) [
      | inl b ↦ absurd (true_false (sym (ap (λ x. x || list_any (bytes_eq n) ks) b) ∙ e))
      | inr b ↦ ap (λ x. cond {A = ℕ} (not x) (1 + number ks n) 0) b
          ∙ omega (arith, number_not ks n (sym (ap (λ x. x || list_any (bytes_eq n) ks) b) ∙ e))
    ]
  where
    true_false : true ≡ false → ⊥
    true_false e = cc

pub same_bytes : (n : List ℕ) → bytes_eq n n ≡ true
same_bytes n = (bytes_decides n n).1 refl

pub added_there : (ks : List (List ℕ)) (n : List ℕ) → list_any (bytes_eq n) (added ks n) ≡ true
added_there ks n =
    elim (cases_Bool (list_any (bytes_eq n) ks)) [
      | inl e ↦ ap (λ b. list_any (bytes_eq n) (cond b ks (ks ++ n ∷ []))) e ∙ e
      | inr e ↦ ap (λ b. list_any (bytes_eq n) (cond b ks (ks ++ n ∷ []))) e
          ∙ list_any-append (bytes_eq n) ks (n ∷ [])
          ∙ ap (λ b. b || (bytes_eq n n || false)) e ∙ ap (λ b. b || false) (same_bytes n)
    ]

added_stays : (ks : List (List ℕ)) (n m : List ℕ) → list_any (bytes_eq m) ks ≡ true
    → list_any (bytes_eq m) (added ks n) ≡ true
added_stays ks n m h =
    elim (cases_Bool (list_any (bytes_eq n) ks)) [
      | inl e ↦ ap (λ b. list_any (bytes_eq m) (cond b ks (ks ++ n ∷ []))) e ∙ h
      | inr e ↦ ap (λ b. list_any (bytes_eq m) (cond b ks (ks ++ n ∷ []))) e
          ∙ list_any-append (bytes_eq m) ks (n ∷ [])
          ∙ or_left (list_any (bytes_eq m) ks) (list_any (bytes_eq m) (n ∷ [])) h
    ]

pub fold_stays : (xs ks : List (List ℕ)) (m : List ℕ) → list_any (bytes_eq m) ks ≡ true
    → list_any (bytes_eq m) (fold added ks xs) ≡ true
fold_stays [] ks m h = h
fold_stays (x ∷ xs) ks m h = fold_stays xs (added ks x) m (added_stays ks x m h)

-- each of the mentions is among the names
pub fold_there : (xs ks : List (List ℕ)) → All (λ m. list_any (bytes_eq m) (fold added ks xs) ≡ true) xs
fold_there [] ks = All-nil (λ m. list_any (bytes_eq m) ks ≡ true)
fold_there (x ∷ xs) ks =
    All-cons (λ m. list_any (bytes_eq m) (fold added (added ks x) xs)
    ≡ true) x xs (fold_stays xs (added ks x) x (added_there ks x)) (fold_there xs (added ks x))

pub All-left : (P : List ℕ → Type 0) (xs ys : List (List ℕ)) → All P (xs ++ ys) → All P xs
All-left P [] ys h = All-nil P
All-left P (x ∷ xs) ys h = All-cons P x xs (All-head P x (xs ++ ys) h)
    (All-left P xs ys (All-tail P x (xs ++ ys) h))

pub All-right : (P : List ℕ → Type 0) (xs ys : List (List ℕ)) → All P (xs ++ ys) → All P ys
All-right P [] ys h = h
All-right P (x ∷ xs) ys h = All-right P xs ys (All-tail P x (xs ++ ys) h)

each_named : (P : List ℕ → Type 0) (forms : List Form) → All P (flat_map named forms)
    → All (λ f. All P (named f)) forms
each_named P [] h = All-nil (λ f. All P (named f))
each_named P (f ∷ fs) h =
    All-cons (λ g. All P (named g)) f fs (All-left P (named f) (flat_map named fs) h)
    (each_named P fs (All-right P (named f) (flat_map named fs) h))

-- each net that a line names has a number below the number of nets
pub numbers_within : (forms : List Form)
    → All (λ f. All (λ m. list_any (bytes_eq m) (names forms) ≡ true) (named f)) forms
numbers_within forms = each_named (λ m. list_any (bytes_eq m) (names forms)
    ≡ true) forms (fold_there (flat_map named forms) [])

pub number-within : (forms : List Form) (m : List ℕ) → list_any (bytes_eq m) (names forms) ≡ true
    → number (names forms) m < length (names forms)
number-within forms m e = number_there (names forms) m e

-- each name has its own number
pub record AreApart (ks : List (List ℕ)) : Type 0 where
  pub each : (i : ℕ) → i < length ks → number ks (get_or ks i []) ≡ i

-- a name that is there keeps its number, and a new one has the next
number-front : (ks : List (List ℕ)) (n m : List ℕ) → number ks m < length ks → number (ks ++ n ∷ []) m ≡ number ks m
number-front ks n m l =
    position_or_len_push (bytes_eq m) ks n
    ∙ ap (λ b. cond {A = ℕ} b (length ks + cond {A = ℕ} (bytes_eq m n) 0 1) (number ks m))
    (ne_eqb (number ks m) (length ks) (λ q. absurd (omega (arith, q, l))))

number-last : (ks : List (List ℕ)) (n : List ℕ) → list_any (bytes_eq n) ks ≡ false → number (ks ++ n ∷ []) n ≡ length ks
number-last ks n e =
    position_or_len_push (bytes_eq n) ks n
    ∙ ap (λ b. cond {A = ℕ} b (length ks + cond {A = ℕ} (bytes_eq n n) 0 1) (number ks n))
    (eq-eqb (number ks n) (length ks) (number_not ks n e))
    ∙ ap (λ b. length ks + cond {A = ℕ} b 0 1) (same_bytes n)
    ∙ omega arith

pub number-added : (ks : List (List ℕ)) (n : List ℕ) → number (added ks n) n ≡ number ks n
number-added ks n =
    elim (cases_Bool (list_any (bytes_eq n) ks)) [
      | inl e ↦ ap (λ b. number (cond b ks (ks ++ n ∷ [])) n) e
      | inr e ↦ ap (λ b. number (cond b ks (ks ++ n ∷ [])) n) e ∙ number-last ks n e ∙ sym (number_not ks n e)
    ]

number-stays : (ks : List (List ℕ)) (n m : List ℕ) → list_any (bytes_eq m) ks ≡ true → number (added ks n) m ≡ number ks m
number-stays ks n m h =
    elim (cases_Bool (list_any (bytes_eq n) ks)) [
      | inl e ↦ ap (λ b. number (cond b ks (ks ++ n ∷ [])) m) e
      | inr e ↦ ap (λ b. number (cond b ks (ks ++ n ∷ [])) m) e ∙ number-front ks n m (number_there ks m h)
    ]

pub number-fold : (xs ks : List (List ℕ)) (m : List ℕ) → list_any (bytes_eq m) ks ≡ true
    → number (fold added ks xs) m ≡ number ks m
number-fold [] ks m h = refl
number-fold (x ∷ xs) ks m h = number-fold xs (added ks x) m (added_stays ks x m h) ∙ number-stays ks x m h

AreApart-added : (ks : List (List ℕ)) (n : List ℕ) → AreApart ks → AreApart (added ks n)
AreApart-added ks n h =
    elim (cases_Bool (list_any (bytes_eq n) ks)) [
      | inl e ↦ subst (λ (b : Bool). AreApart (cond b ks (ks ++ n ∷ []))) (sym e) h
      | inr e ↦ subst (λ (b : Bool). AreApart (cond b ks (ks ++ n ∷ []))) (sym e)
          (record { each = λ i l. pushed e i l })
    ]
  where
    pushed : list_any (bytes_eq n) ks ≡ false → (i : ℕ) → i < length (ks ++ n ∷ [])
        → number (ks ++ n ∷ []) (get_or (ks ++ n ∷ []) i []) ≡ i
    pushed e i l =
        elim (cases_lt i (length ks)) [
          | inl m ↦
              let own : number ks (get_or ks i []) ≡ i = h.each i m in
              ap (number (ks ++ n ∷ [])) (get_or_append_left ks (n ∷ []) [] i m)
              ∙ number-front ks n (get_or ks i []) (omega (arith, own, m))
              ∙ own
          | inr m ↦
              let at : i ≡ length ks = omega (arith, m, l, length-append ks (n ∷ [])) in
              ap (number (ks ++ n ∷ [])) (get_or_at ks n [] [] i (sym at)) ∙ number-last ks n e ∙ sym at
        ]

AreApart-fold : (xs ks : List (List ℕ)) → AreApart ks → AreApart (fold added ks xs)
AreApart-fold [] ks h = h
AreApart-fold (x ∷ xs) ks h = AreApart-fold xs (added ks x) (AreApart-added ks x h)

pub AreApart-names : (forms : List Form) → AreApart (names forms)
AreApart-names forms = AreApart-fold (flat_map named forms) []
    (record { each = λ i l. absurd (omega (arith, l)) })
