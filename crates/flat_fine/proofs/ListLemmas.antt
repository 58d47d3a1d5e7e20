-- What is first in a list, and lists whose items stand one beside another.
use Rattle.std.proofs.Common.{◌≡◌, ℕ, zero, suc, ◌+◌, ◌<◌, Bool, true, false, not, List, [], ◌∷◌, ◌++◌, length, take, append_assoc, Option, Some, None, refl, sym, ap, subst, ◌∙◌, arith, cond}
use Rattle.std.specs.Prelude.{slice_get, find, position, nat_lt}
use Rattle.std.specs.List.{AllZip, flat_map, list_any, position_or_len, range_with_len}
use Rattle.std.proofs.lemmas.Bool.{lt-ltb, or_left, or_right, false_from_ne_true, false≢true}
use Rattle.std.proofs.lemmas.List.{append-nil}
use Rattle.std.proofs.lemmas.List.FromFn.{length-range_with_len}
use Rattle.packed_code.specs.Conditions.{EachBehind}

-- no item of an empty list
pub no_item : {A : Type 0} (x : A) → ◌≡◌ {A = Option A} None (Some x) → ⊥
no_item x e = cc

-- the same item
pub one_item : {A : Type 0} (x y : A) → ◌≡◌ {A = Option A} (Some x) (Some y) → x ≡ y
one_item x y e = cc

-- the item of this number is the first that passes a test
pub record IsFirst {A : Type 0} (test : A → Bool) (items : List A) (number : ℕ) (item : A) : Type 0 where
  pub is_there : slice_get items number ≡ Some item
  pub passes : test item ≡ true
  pub none_before : (other : ℕ) (x : A) → other < number → slice_get items other ≡ Some x → test x ≡ false

-- the first of a list without its head
first_behind : {A : Type 0} (test : A → Bool) (x : A) (items : List A) (number : ℕ) (item : A)
    → IsFirst test (x ∷ items) (suc number) item → IsFirst test items number item
first_behind test x items number item first = record {
  is_there = first.is_there;
  passes = first.passes;
  none_before = λ other y less at. first.none_before (suc other) y (omega (arith, less)) at;
}

-- its number is found
pub first_number : {A : Type 0} (test : A → Bool) (items : List A) (number : ℕ) (item : A) → IsFirst test items number item
    → position_or_len test items ≡ number
first_number test [] number item first = absurd (no_item item first.is_there)
first_number test (x ∷ items) zero item first =
    let same : x ≡ item = one_item x item first.is_there in
    ap (λ (b : Bool). cond (not b) (1 + position_or_len test items) 0) (ap test same ∙ first.passes)
first_number test (x ∷ items) (suc number) item first =
    ap (λ (b : Bool). cond (not b) (1 + position_or_len test items) 0) (first.none_before 0 x (omega arith) refl)
    ∙ omega (arith, first_number test items number item (first_behind test x items number item first))

-- an item stands within its list
pub within : {A : Type 0} (items : List A) (number : ℕ) (item : A) → slice_get items number ≡ Some item → number < length items
within [] number item at = absurd (no_item item at)
within (x ∷ items) zero item at = omega arith
within (x ∷ items) (suc number) item at = let inside = within items number item at in omega (arith, inside)

pub first_position : {A : Type 0} (test : A → Bool) (items : List A) (number : ℕ) (item : A) → IsFirst test items number item
    → position test items ≡ Some number
first_position test items number item first =
    let is = first_number test items number item first in
    let less : nat_lt number (length items) ≡ true = lt-ltb number (length items) (within items number item first.is_there) in
    ap (λ (n : ℕ). cond (nat_lt n (length items)) (Some n) None) is
    ∙ ap (λ (b : Bool). cond b (Some number) None) less

-- the item itself is found
pub first_found : {A : Type 0} (test : A → Bool) (items : List A) (number : ℕ) (item : A) → IsFirst test items number item
    → find test items ≡ Some item
first_found test [] number item first = absurd (no_item item first.is_there)
first_found test (x ∷ items) zero item first =
    let same : x ≡ item = one_item x item first.is_there in
    ap (λ (b : Bool). cond b (Some x) (find test items)) (ap test same ∙ first.passes) ∙ ap Some same
first_found test (x ∷ items) (suc number) item first =
    ap (λ (b : Bool). cond b (Some x) (find test items)) (first.none_before 0 x (omega arith) refl)
    ∙ first_found test items number item (first_behind test x items number item first)

-- some item passes
pub some_passes : {A : Type 0} (test : A → Bool) (items : List A) (number : ℕ) (item : A) → slice_get items number ≡ Some item
    → test item ≡ true → list_any test items ≡ true
some_passes test [] number item at passes = absurd (no_item item at)
some_passes test (x ∷ items) zero item at passes =
    or_left (test x) (list_any test items) (ap test (one_item x item at) ∙ passes)
some_passes test (x ∷ items) (suc number) item at passes =
    or_right (test x) (list_any test items) (some_passes test items number item at passes)

-- what none has that passes isn't there
none_has : {A B : Type 0} (test : A → Bool) (of : A → List B) (items : List A)
    → ((other : ℕ) (x : A) → slice_get items other ≡ Some x → test x ≡ false)
    → flat_map (λ x. cond (test x) (of x) []) items ≡ []
none_has test of [] none = refl
none_has test of (x ∷ items) none =
    ap (λ (b : Bool). cond b (of x) [] ++ flat_map (λ y. cond (test y) (of y) []) items) (none 0 x refl)
    ∙ none_has test of items (λ other y at. none (suc other) y at)

-- what the only one has that passes is all that is there
pub only_has : {A B : Type 0} (test : A → Bool) (of : A → List B) (items : List A) (number : ℕ) (item : A)
    → slice_get items number ≡ Some item → test item ≡ true
    → ((other : ℕ) (x : A) → (other ≡ number → ⊥) → slice_get items other ≡ Some x → test x ≡ false)
    → flat_map (λ x. cond (test x) (of x) []) items ≡ of item
only_has test of [] number item at passes others = absurd (no_item item at)
only_has {A} {B} test of (x ∷ items) zero item at passes others =
    let same : x ≡ item = one_item x item at in
    ap (λ (b : Bool). cond b (of x) [] ++ flat_map (λ y. cond (test y) (of y) []) items) (ap test same ∙ passes)
    ∙ ap (λ (bs : List B). of x ++ bs)
    (none_has test of items (λ other y there. others (suc other) y (λ e. omega (arith, e)) there))
    ∙ append-nil (of x) ∙ ap of same
only_has test of (x ∷ items) (suc number) item at passes others =
    ap (λ (b : Bool). cond b (of x) [] ++ flat_map (λ y. cond (test y) (of y) []) items) (others 0 x (λ e. omega (arith, e)) refl)
    ∙ only_has test of items number item at passes (λ other y differs there. others (suc other) y (λ e. differs (omega (arith, e))) there)

-- of an item, the one that stands beside it
pub beside : {A B : Type 0} (R : A → B → Type 0) (xs : List A) (ys : List B) (number : ℕ) (y : B) → AllZip R xs ys
    → slice_get ys number ≡ Some y → (x : A) × (slice_get xs number ≡ Some x) × R x y
beside R xs [] number y all at = absurd (no_item y at)
beside R [] (z ∷ ys) number y all at = absurd all
beside R (x ∷ xs) (z ∷ ys) zero y all at = (x, refl, subst (R x) (one_item z y at) all.0)
beside R (x ∷ xs) (z ∷ ys) (suc number) y all at = beside R xs ys number y all.1 at

pub besides : {A B : Type 0} (R : A → B → Type 0) (xs : List A) (ys : List B) (number : ℕ) (x : A) → AllZip R xs ys
    → slice_get xs number ≡ Some x → (y : B) × (slice_get ys number ≡ Some y) × R x y
besides R [] ys number x all at = absurd (no_item x at)
besides R (z ∷ xs) [] number x all at = absurd all
besides R (z ∷ xs) (y ∷ ys) zero x all at = (y, refl, subst (λ a. R a y) (one_item z x at) all.0)
besides R (z ∷ xs) (y ∷ ys) (suc number) x all at = besides R xs ys number x all.1 at

-- they are as many
pub as_many : {A B : Type 0} (R : A → B → Type 0) (xs : List A) (ys : List B) → AllZip R xs ys → length ys ≡ length xs
as_many R [] [] all = refl
as_many R [] (y ∷ ys) all = absurd all
as_many R (x ∷ xs) [] all = absurd all
as_many R (x ∷ xs) (y ∷ ys) all = ap suc (as_many R xs ys all.1)

-- a number in a range
pub in_range : (from count number n : ℕ) → slice_get (range_with_len from count) number ≡ Some n → n ≡ from + number
in_range from zero number n at = absurd (no_item n at)
in_range from (suc count) zero n at = let same : from ≡ n = one_item from n at in omega (arith, same)
in_range from (suc count) (suc number) n at =
    let is : n ≡ from + 1 + number = in_range (from + 1) count number n at in omega (arith, is)

pub range_has : (from count number : ℕ) → number < count → slice_get (range_with_len from count) number ≡ Some (from + number)
range_has from zero number less = absurd (omega (arith, less))
range_has from (suc count) zero less = ap Some (omega arith)
range_has from (suc count) (suc number) less =
    range_has (from + 1) count number (omega (arith, less)) ∙ ap Some (omega arith)

-- an item is as it should be behind those before it
pub fits_behind : {A : Type 0} (Fits : List A → A → Type 0) (before items : List A) (number : ℕ) (item : A)
    → EachBehind Fits before items → slice_get items number ≡ Some item → Fits (before ++ take number items) item
fits_behind Fits before [] number item each at = absurd (no_item item at)
fits_behind {A} Fits before (x ∷ items) zero item each at =
    subst (λ (b : List A). Fits b item) (sym (append-nil before)) (subst (Fits before) (one_item x item at) each.0)
fits_behind {A} Fits before (x ∷ items) (suc number) item each at =
    subst (λ (b : List A). Fits b item) (append_assoc before (x ∷ []) (take number items))
    (fits_behind Fits (before ++ x ∷ []) items number item each.1 at)

-- an item before another
pub taken : {A : Type 0} (items : List A) (number other : ℕ) (x : A) → other < number → slice_get items other ≡ Some x
    → slice_get (take number items) other ≡ Some x
taken [] number other x less at = absurd (no_item x at)
taken (y ∷ items) zero other x less at = absurd (omega (arith, less))
taken (y ∷ items) (suc number) zero x less at = at
taken (y ∷ items) (suc number) (suc other) x less at = taken items number other x (omega (arith, less)) at

-- where none passes, this one doesn't
pub none_passes : {A : Type 0} (test : A → Bool) (items : List A) (number : ℕ) (x : A) → list_any test items ≡ false
    → slice_get items number ≡ Some x → test x ≡ false
none_passes test items number x none at = false_from_ne_true (test x) (λ t. false≢true (sym none ∙ some_passes test items number x at t))

-- the item of this number alone passes a test
pub record IsOnly {A : Type 0} (test : A → Bool) (items : List A) (number : ℕ) (item : A) : Type 0 where
  pub is_there : slice_get items number ≡ Some item
  pub passes : test item ≡ true
  pub others : (other : ℕ) (x : A) → (other ≡ number → ⊥) → slice_get items other ≡ Some x → test x ≡ false

-- so it is the first
pub only_first : {A : Type 0} (test : A → Bool) (items : List A) (number : ℕ) (item : A) → IsOnly test items number item
    → IsFirst test items number item
only_first test items number item only = record {
  is_there = only.is_there;
  passes = only.passes;
  none_before = λ other x before at. only.others other x (λ e. omega (arith, before, e)) at;
}

-- a number of a range from 0 on
pub range_at : (count number : ℕ) → number < count → slice_get (range_with_len 0 count) number ≡ Some number
range_at count number less = range_has 0 count number less ∙ ap Some (omega arith)

pub at_range : (count number n : ℕ) → slice_get (range_with_len 0 count) number ≡ Some n → (n ≡ number) × (number < count)
at_range count number n at =
    let is = in_range 0 count number n at in
    (omega (arith, is), subst (λ (k : ℕ). number < k) (length-range_with_len 0 count) (within (range_with_len 0 count) number n at))

-- another relation of lists beside each other, which their items have at each place
pub zip_at : {A B : Type 0} (R S : A → B → Type 0) (xs : List A) (ys : List B) → AllZip R xs ys
    → ((i : ℕ) (x : A) (y : B) → slice_get xs i ≡ Some x → slice_get ys i ≡ Some y → S x y) → AllZip S xs ys
zip_at R S [] [] all so = tt
zip_at R S [] (y ∷ ys) all so = absurd all
zip_at R S (x ∷ xs) [] all so = absurd all
zip_at R S (x ∷ xs) (y ∷ ys) all so =
    (so 0 x y refl refl, zip_at R S xs ys all.1 (λ i a b there at. so (suc i) a b there at))
