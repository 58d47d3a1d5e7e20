-- The longest front of a text whose bytes pass a test.
use Rattle.std.proofs.Common.{◌≡◌, ℕ, ◌+◌, ◌≤◌, Bool, true, false, not, List, [], ◌∷◌, ◌++◌, length, take, drop, refl, sym, ap, ◌∙◌, inl, inr, arith}
use Rattle.std.proofs.lemmas.Bool.{and_from, and_parts, or_parts, or_from, cond-true, cond-false, cases_Bool, not-true, not_from_false}
use Rattle.std.proofs.lemmas.List.{drop_at, take_at}
use Rattle.std.specs.List.{list_all, list_any, prefix_len}
use Rattle.text_bytes.specs.Bytes.{begins_with}

-- a text cut behind its longest front that passes
pub record Span (test : ℕ → Bool) (text : List ℕ) : Type 0 where
  pub front : List ℕ
  pub back : List ℕ
  pub spelled : text ≡ front ++ back
  pub each : list_all test front ≡ true
  pub stops : begins_with test back ≡ false
  pub len : prefix_len test text ≡ length front
  pub front_is : take (prefix_len test text) text ≡ front
  pub back_is : drop (prefix_len test text) text ≡ back

-- from what the front and its end are
made : (test : ℕ → Bool) (text front back : List ℕ) → text ≡ front ++ back → list_all test front ≡ true
    → begins_with test back ≡ false
    → prefix_len test text ≡ length front → Span test text
made test text front back spelled each stops len = record {
  front = front;
  back = back;
  spelled = spelled;
  each = each;
  stops = stops;
  len = len;
  front_is = ap (take (prefix_len test text)) spelled ∙ take_at front back _ (sym len);
  back_is = ap (drop (prefix_len test text)) spelled ∙ drop_at front back _ (sym len);
}

-- the front that passes, up to a byte that fails, is the longest
pub prefix_len-span : (test : ℕ → Bool) (front back : List ℕ) → list_all test front ≡ true → begins_with test back ≡ false
    → prefix_len test (front ++ back) ≡ length front
prefix_len-span test [] [] each stops = refl
prefix_len-span test [] (b ∷ back) each stops = cond-false (test b) _ _ stops
prefix_len-span test (x ∷ front) back each stops =
    let parts = and_parts (test x) (list_all test front) each in
    let more = prefix_len-span test front back parts.1 stops in
    cond-true (test x) (1 + prefix_len test (front ++ back)) 0 parts.0 ∙ omega arith

-- a text that is cut so
pub record IsCut (test : ℕ → Bool) (front back : List ℕ) : Type 0 where
  pub len : prefix_len test (front ++ back) ≡ length front
  pub front_is : take (prefix_len test (front ++ back)) (front ++ back) ≡ front
  pub back_is : drop (prefix_len test (front ++ back)) (front ++ back) ≡ back

-- what passes, up to what doesn't, is where a text is cut
pub cut : (test : ℕ → Bool) (front back : List ℕ) → list_all test front ≡ true → begins_with test back ≡ false
    → IsCut test front back
cut test front back each stops =
    let len = prefix_len-span test front back each stops in
    record { len = len; front_is = take_at front back _ (sym len); back_is = drop_at front back _ (sym len) }

-- every text is cut so
pub span : (test : ℕ → Bool) (text : List ℕ) → Span test text
span test [] = made test [] [] [] refl refl refl refl
span test (x ∷ text) =
    elim (cases_Bool (test x)) [
      | inl passes ↦
          let s = span test text in
          let long = s.len in
          made test (x ∷ text) (x ∷ s.front) s.back (ap (λ ys. x ∷ ys) s.spelled) (and_from _ _ passes s.each) s.stops
          (cond-true (test x) (1 + prefix_len test text) 0 passes ∙ omega arith)
      | inr fails ↦ made test (x ∷ text) [] (x ∷ text) refl refl fails
          (cond-false (test x) (1 + prefix_len test text) 0 fails)
    ]

-- what passes one test and not the other begins otherwise
pub begins_with-weaker : (some all : ℕ → Bool) → ((b : ℕ) → all b ≡ false → some b ≡ false) → (text : List ℕ)
    → begins_with all text ≡ false → begins_with some text ≡ false
begins_with-weaker some all weaker [] h = refl
begins_with-weaker some all weaker (b ∷ text) h = weaker b h

-- no byte passes, or each fails
pub list_all-not : (test : ℕ → Bool) (xs : List ℕ) → list_any test xs ≡ false → list_all (λ b. not (test b)) xs ≡ true
list_all-not test [] h = refl
list_all-not test (x ∷ xs) h =
    let parts = or_parts (test x) (list_any test xs) h in
    and_from _ _ (not_from_false (test x) parts.0) (list_all-not test xs parts.1)

-- the same, back
pub list_any-not : (test : ℕ → Bool) (xs : List ℕ) → list_all (λ b. not (test b)) xs ≡ true → list_any test xs ≡ false
list_any-not test [] h = refl
list_any-not test (x ∷ xs) h =
    let parts = and_parts (not (test x)) (list_all (λ b. not (test b)) xs) h in
    or_from _ _ (not-true (test x) parts.0) (list_any-not test xs parts.1)

-- a front of bytes of which one fails is passed at most up to that byte
pub prefix_len-bad : (test : ℕ → Bool) (front back : List ℕ) (b : ℕ) → test b ≡ false → prefix_len test (front ++ b ∷ back) ≤ length front
prefix_len-bad test [] back b fails = let e = cond-false (test b) (1 + prefix_len test back) 0 fails in omega arith
prefix_len-bad test (x ∷ front) back b fails =
    elim (cases_Bool (test x)) [
      | inl passes ↦
          let e = cond-true (test x) (1 + prefix_len test (front ++ b ∷ back)) 0 passes in
          omega (arith, prefix_len-bad test front back b fails)
      | inr stop ↦
          let e = cond-false (test x) (1 + prefix_len test (front ++ b ∷ back)) 0 stop in
          omega arith
    ]
