-- Names of a text are names of a code.
use Rattle.std.proofs.Common.{◌≡◌, ℕ, suc, ◌+◌, ◌-◌, ◌%◌, ◌^◌, ◌<◌, ◌≤◌, Bool, true, cond, List, [], ◌∷◌, ◌++◌, length, Option, Some, None, refl, sym, subst, ◌∙◌, arith, inl, inr}
use Rattle.std.specs.Prelude.{nat_le, reverse}
use Rattle.std.specs.Fmt.{decimal}
use Rattle.std.specs.List.{list_all, AllByRecursion}
use Rattle.std.proofs.lemmas.Bool.{and_parts, and_from, leb-true, lt-ltb, cases_Bool}
use Rattle.std.proofs.lemmas.Bool.Decides.{nat_tests}
use Rattle.std.proofs.lemmas.Fmt.{decimal_by_steps}
use Rattle.std.proofs.lemmas.List.{length-append}
use Rattle.std.proofs.lemmas.List.Folds.{list_all-append}
use Rattle.text_bytes.specs.Bytes.{is_printable}
use Rattle.text_bytes.specs.Limits.{longest_name}
use Rattle.text_bytes.proofs.ListLemmas.{all_reverse, all_from}
use Rattle.stil_ast.specs.Data.Forms.{is_optional_name, is_absent_or, is_range}
use Rattle.stil_ast.specs.Data.Texts.{is_name, upwards, indices, indexed, names_with}
use Rattle.stil_ast.specs.declared.name.IndexRange.{IndexRange}
use Rattle.packed_code.specs.Conditions.{IsText, IsName}
use Rattle.cycle_comp.proofs.EachLemmas.{all_map}
use Rattle.cycle_comp.proofs.FoundLemmas.{all_below}

-- a name has a byte at least, not too many, and each can be printed
pub name_is : (name : List ℕ) → is_name name ≡ true → IsName name
name_is [] h = absurd cc
name_is (c ∷ cs) h =
    let p = and_parts (nat_le (length (c ∷ cs)) longest_name) (list_all is_printable (c ∷ cs)) h in
    let some : 0 < length (c ∷ cs) = omega arith in
    record {
      text = record { short = leb-true (length (c ∷ cs)) longest_name p.0; printable = p.1 };
      some = lt-ltb 0 (length (c ∷ cs)) some;
    }

-- the name of a block that may go without one
pub title_is : (name : List ℕ) → is_optional_name name ≡ true → IsText name
title_is [] h = record { short = omega arith; printable = refl }
title_is (c ∷ cs) h = (name_is (c ∷ cs) h).text

-- ---- names with an index

-- the printable bytes of two texts
pub printable_both : (a b : List ℕ) → list_all is_printable a ≡ true → list_all is_printable b ≡ true
    → list_all is_printable (a ++ b) ≡ true
printable_both a b p q = list_all-append is_printable a b ∙ and_from (list_all is_printable a) (list_all is_printable b) p q

digit_printable : (n : ℕ) → n < 10 → list_all is_printable ((48 + n) ∷ []) ≡ true
unfolding is_printable
digit_printable n low = and_from (is_printable (48 + n)) true (one n low) refl
  where
    one : (n : ℕ) → n < 10 → is_printable (48 + n) ≡ true
    one n low = grind (arith, nat_tests)

decimal_printable : (n : ℕ) → n < 2 ^ 64 → list_all is_printable (decimal n) ≡ true
decimal_printable =
    decimal_by_steps (λ n ds. list_all is_printable ds ≡ true) digit_printable
    (λ n ds big front. printable_both ds ((48 + n % 10) ∷ []) front (digit_printable (n % 10) (omega arith)))

-- what is known of each name that stands with indices
pub record IsShown (name : List ℕ) : Type 0 where
  pub printable : list_all is_printable name ≡ true
  pub some : 0 < length name

pub shown_is : (name : List ℕ) → is_name name ≡ true → IsShown name
shown_is [] h = absurd cc
shown_is (c ∷ cs) h = record {
  printable = (and_parts (nat_le (length (c ∷ cs)) longest_name) (list_all is_printable (c ∷ cs)) h).1;
  some = omega arith;
}

-- one with an index
indexed_shown : (name : List ℕ) (index : ℕ) → IsShown name → index < 2 ^ 64 → IsShown (indexed name index)
unfolding is_printable
indexed_shown name index is small = record {
  printable =
      printable_both name (91 ∷ (decimal index ++ (93 ∷ []))) is.printable
      (printable_both (91 ∷ []) (decimal index ++ (93 ∷ [])) bracket
      (printable_both (decimal index) (93 ∷ []) (decimal_printable index small) close));
  some = omega (arith, is.some, length-append name (91 ∷ (decimal index ++ (93 ∷ []))));
}
  where
    bracket : list_all is_printable (91 ∷ []) ≡ true
    bracket = refl

    close : list_all is_printable (93 ∷ []) ≡ true
    close = refl

-- consecutive indices are small
all_small : (from count : ℕ) → from + count ≤ 2 ^ 64 → AllByRecursion (λ (i : ℕ). i < 2 ^ 64) (upwards from count)
all_small from count few =
    all_from (λ (i : ℕ). i < from + count) (λ (i : ℕ). i < 2 ^ 64) (λ i low. omega (arith, few)) (upwards from count)
    (all_below from count)

indices_small : (r : IndexRange) → is_range r ≡ true → AllByRecursion (λ (i : ℕ). i < 2 ^ 64) (indices r)
indices_small r h =
    let p = and_parts (nat_le r.first 4294967295) (nat_le r.last 4294967295) h in
    let first : r.first ≤ 4294967295 = leb-true r.first 4294967295 p.0 in
    let last : r.last ≤ 4294967295 = leb-true r.last 4294967295 p.1 in
    elim (cases_Bool (nat_le r.first r.last)) [
      | inl up ↦
          subst (λ (b : Bool). AllByRecursion (λ (i : ℕ). i < 2 ^ 64) (cond b (upwards r.first (suc (r.last - r.first)))
          (reverse (upwards r.last (suc (r.first - r.last)))))) (sym up)
          (all_small r.first (suc (r.last - r.first)) (omega arith))
      | inr down ↦
          subst (λ (b : Bool). AllByRecursion (λ (i : ℕ). i < 2 ^ 64) (cond b (upwards r.first (suc (r.last - r.first)))
          (reverse (upwards r.last (suc (r.first - r.last)))))) (sym down)
          (all_reverse (λ (i : ℕ). i < 2 ^ 64) (upwards r.last (suc (r.first - r.last)))
          (all_small r.last (suc (r.first - r.last)) (omega arith)))
    ]

-- a name, or one for each index
pub names_shown : (name : List ℕ) (range : Option IndexRange) → IsShown name → is_absent_or is_range range ≡ true
    → AllByRecursion IsShown (names_with name range)
names_shown name None is h = (is, tt)
names_shown name (Some r) is h =
    all_map (indexed name) (λ (i : ℕ). i < 2 ^ 64) IsShown (λ i small. indexed_shown name i is small) (indices r)
    (indices_small r h)

-- a shown name that isn't too long
pub short_name : (name : List ℕ) → IsShown name → length name ≤ 1024 → IsName name
short_name name is short = record {
  text = record { short = short; printable = is.printable };
  some = lt-ltb 0 (length name) is.some;
}
