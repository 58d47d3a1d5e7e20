-- The digits of any number: each is one of ten bytes, and there is one.
use Rattle.std.proofs.Common.{◌≡◌, ℕ, zero, suc, ◌+◌, ◌/◌, ◌%◌, ◌<◌, Bool, true, false, cond, List, [], ◌∷◌, length, refl, ap, ◌∙◌, arith}
use Rattle.std.specs.Prelude.{◌==◌, decimal}
use Rattle.std.specs.Fmt.{digits, digits_onto, digit_glyph}
use Rattle.std.specs.List.{list_all}
use Rattle.std.proofs.lemmas.Bool.{and_from, lt-ltb}
use Rattle.std.proofs.lemmas.Bool.Decides.{nat_tests}
use Rattle.text_bytes.specs.Bytes.{is_digit}

-- a digit
glyph_is : (d : ℕ) → d < 10 → digit_glyph false d ≡ 48 + d
glyph_is d small = ap (λ (b : Bool). cond b (48 + d) (87 + d)) (lt-ltb d 10 small)

-- it is in the class of digits
pub digit_is : (d : ℕ) → d < 10 → is_digit (48 + d) ≡ true
unfolding is_digit
digit_is d l = grind (arith, nat_tests)

-- what holds of ten digits holds of the last of a number
last_passes : (test : ℕ → Bool) → ((d : ℕ) → d < 10 → test (48 + d) ≡ true) → (n : ℕ) → test (digit_glyph false (n % 10)) ≡ true
last_passes test each n = ap test (glyph_is (n % 10) (omega arith)) ∙ each (n % 10) (omega arith)

by_rest : (test : ℕ → Bool) (done : Bool) (one more : List ℕ) → list_all test one ≡ true → list_all test more ≡ true
    → list_all test (cond done one more) ≡ true
by_rest test true one more a b = a
by_rest test false one more a b = b

-- what holds of ten digits holds of so many at most, in front of others
onto_all : (test : ℕ → Bool) → ((d : ℕ) → d < 10 → test (48 + d) ≡ true) → (k n : ℕ) (acc : List ℕ) → list_all test acc ≡ true
    → list_all test (digits_onto k 10 false n acc) ≡ true
onto_all test each zero n acc h = h
onto_all test each (suc k) n acc h =
    let first = digit_glyph false (n % 10) in
    let more = and_from (test first) (list_all test acc) (last_passes test each n) h in
    by_rest test (n / 10 == 0) (first ∷ acc) (digits_onto k 10 false (n / 10) (first ∷ acc)) more
    (onto_all test each k (n / 10) (first ∷ acc) more)

-- what holds of ten digits holds of each digit of a number
pub decimal_all : (test : ℕ → Bool) → ((d : ℕ) → d < 10 → test (48 + d) ≡ true) → (n : ℕ) → list_all test (decimal n) ≡ true
unfolding digits
decimal_all test each n = onto_all test each 64 n [] refl

some_by : (done : Bool) (one more : List ℕ) → 0 < length one → 0 < length more → 0 < length (cond done one more)
some_by true one more a b = a
some_by false one more a b = b

onto_some : (k n : ℕ) (acc : List ℕ) → 0 < length acc → 0 < length (digits_onto k 10 false n acc)
onto_some zero n acc h = h
onto_some (suc k) n acc h =
    let first = digit_glyph false (n % 10) in
    some_by (n / 10 == 0) (first ∷ acc) (digits_onto k 10 false (n / 10) (first ∷ acc)) (omega arith)
    (onto_some k (n / 10) (first ∷ acc) (omega arith))

first_some : (k n : ℕ) → 0 < length (digits_onto (suc k) 10 false n [])
first_some k n =
    let first = digit_glyph false (n % 10) in
    some_by (n / 10 == 0) (first ∷ []) (digits_onto k 10 false (n / 10) (first ∷ [])) (omega arith)
    (onto_some k (n / 10) (first ∷ []) (omega arith))

-- a number has a digit
pub decimal_some : (n : ℕ) → 0 < length (decimal n)
unfolding digits
decimal_some n = first_some 63 n

-- a digit is one of ten bytes
pub digit_cases : (P : ℕ → Type 0) → P 48 → P 49 → P 50 → P 51 → P 52 → P 53 → P 54 → P 55 → P 56 → P 57 → (d : ℕ)
    → d < 10 → P (48 + d)
digit_cases P a b c d e f g h i j zero l = a
digit_cases P a b c d e f g h i j (suc zero) l = b
digit_cases P a b c d e f g h i j (suc (suc zero)) l = c
digit_cases P a b c d e f g h i j (suc (suc (suc zero))) l = d
digit_cases P a b c d e f g h i j (suc (suc (suc (suc zero)))) l = e
digit_cases P a b c d e f g h i j (suc (suc (suc (suc (suc zero))))) l = f
digit_cases P a b c d e f g h i j (suc (suc (suc (suc (suc (suc zero)))))) l = g
digit_cases P a b c d e f g h i j (suc (suc (suc (suc (suc (suc (suc zero))))))) l = h
digit_cases P a b c d e f g h i j (suc (suc (suc (suc (suc (suc (suc (suc zero)))))))) l = i
digit_cases P a b c d e f g h i j (suc (suc (suc (suc (suc (suc (suc (suc (suc zero))))))))) l = j
digit_cases P a b c d e f g h i j (suc (suc (suc (suc (suc (suc (suc (suc (suc (suc n)))))))))) l = absurd (omega (arith, l))

-- a test that ten bytes pass, passes for each digit of a number
pub decimal_passes : (test : ℕ → Bool) → test 48 ≡ true → test 49 ≡ true → test 50 ≡ true → test 51 ≡ true → test 52 ≡ true
    → test 53 ≡ true → test 54 ≡ true → test 55 ≡ true → test 56 ≡ true → test 57 ≡ true → (n : ℕ) → list_all test (decimal n) ≡ true
decimal_passes test a b c d e f g h i j n = decimal_all test (digit_cases (λ x. test x ≡ true) a b c d e f g h i j) n
