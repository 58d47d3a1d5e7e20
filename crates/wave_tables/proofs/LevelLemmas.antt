-- Round after round the tables are there that can go on no more often.
use Rattle.std.proofs.Common.{◌≡◌, ℕ, zero, suc, ◌+◌, ◌<◌, Bool, true, false, not, ltb, Option, Some, None, ◌&&◌, ◌||◌, List, [], ◌∷◌, length, refl, sym, ap, ◌∙◌, arith}
use Rattle.std.specs.List.{list_any, list_all, filter_map, position_or_len, cons_option}
use Rattle.std.specs.Prelude.{slice_get}
use Rattle.std.proofs.lemmas.Bool.Decides.{nat_tests}
use Rattle.std.proofs.lemmas.Option.{cond_some}
use borrow.Author.Tests.{ltb-true}
use Rattle.stil_ast.specs.Data.Texts.{same}
use Rattle.stil_ast.specs.declared.name.Named.{Named}
use Rattle.std.proofs.lemmas.Bool.{or_parts, and_parts}
use Rattle.stil_ast.specs.Meaning.Tables.{table_of, inherited_by, inherited, goes_on}
use Rattle.stil_ast.specs.declared.timing.TableDecl.{TableDecl}

-- where a test fails nowhere else, it fails
any_fails : (p q : ℕ → Bool) → ((k : ℕ) → p k ≡ false → q k ≡ false) → (ks : List ℕ) → list_any p ks ≡ false
    → list_any q ks ≡ false
any_fails p q h [] e = refl
any_fails p q h (k ∷ ks) e =
    let parts = or_parts (p k) (list_any p ks) e in
    ap (λ (b : Bool). b || list_any q ks) (h k parts.0) ∙ any_fails p q h ks parts.1

-- one that can't go on so often can't go on more often
pub goes_less : (tables : List TableDecl) (n k : ℕ) → goes_on tables n k ≡ false → goes_on tables (suc n) k ≡ false
goes_less tables zero k e = cc
goes_less tables (suc n) k e =
    any_fails (goes_on tables n) (goes_on tables (suc n)) (goes_less tables n) (inherited tables k) e

-- the same, so much more often
pub goes_less_by : (tables : List TableDecl) (n k m : ℕ) → goes_on tables n k ≡ false → goes_on tables (m + n) k ≡ false
goes_less_by tables n k zero e = ap (λ (i : ℕ). goes_on tables i k) (zero_plus n) ∙ e
  where
    zero_plus : (n : ℕ) → 0 + n ≡ n
    zero_plus n = omega arith
goes_less_by tables n k (suc m) e =
    ap (λ (i : ℕ). goes_on tables i k) (suc_plus m n) ∙ goes_less tables (m + n) k (goes_less_by tables n k m e)
  where
    suc_plus : (m n : ℕ) → suc m + n ≡ suc (m + n)
    suc_plus m n = omega arith

-- all fail to go on where none goes on
pub all_not : (p : ℕ → Bool) (ks : List ℕ) → list_all (λ k. not (p k)) ks ≡ not (list_any p ks)
all_not p [] = refl
all_not p (k ∷ ks) = both (p k) (list_all (λ k. not (p k)) ks) (list_any p ks) (all_not p ks)
  where
    both : (a b c : Bool) → b ≡ not c → (not a && b) ≡ not (a || c)
    both true b c e = refl
    both false b c e = e

-- tests that agree on a list's items
pub all_same : (p q : ℕ → Bool) (n : ℕ) → ((k : ℕ) → k < n → p k ≡ q k) → (ks : List ℕ)
    → list_all (λ k. ltb k n) ks ≡ true
    → list_all p ks ≡ list_all q ks
all_same p q n h [] within = refl
all_same p q n h (k ∷ ks) within =
    let parts = and_parts (ltb k n) (list_all (λ k. ltb k n) ks) within in
    ap (λ (b : Bool). b && list_all p ks) (h k (ltb-true k n parts.0))
    ∙ ap (λ (b : Bool). q k && b) (all_same p q n h ks parts.1)

-- the same of whether one passes
pub any_same : (p q : ℕ → Bool) (n : ℕ) → ((k : ℕ) → k < n → p k ≡ q k) → (ks : List ℕ)
    → list_all (λ k. ltb k n) ks ≡ true
    → list_any p ks ≡ list_any q ks
any_same p q n h [] within = refl
any_same p q n h (k ∷ ks) within =
    let parts = and_parts (ltb k n) (list_all (λ k. ltb k n) ks) within in
    ap (λ (b : Bool). b || list_any p ks) (h k (ltb-true k n parts.0))
    ∙ ap (λ (b : Bool). q k || b) (any_same p q n h ks parts.1)

-- a table's number is one of theirs
number_within : (tables : List TableDecl) (name : List ℕ) (k : ℕ) → table_of tables name ≡ Some k
    → ltb k (length tables) ≡ true
number_within tables name k e =
    grind (
      arith,
      nat_tests,
      cond_some
          (ltb (position_or_len (λ (t : TableDecl). same t.name name) tables) (length tables))
          (position_or_len (λ (t : TableDecl). same t.name name) tables) k e,
    )

-- one found, or none
one_within : (tables : List TableDecl) (name : List ℕ) (o : Option ℕ) → table_of tables name ≡ o → (ks : List ℕ)
    → list_all (λ i. ltb i (length tables)) ks ≡ true → list_all (λ i. ltb i (length tables)) (cons_option o ks) ≡ true
one_within tables name None is ks e = e
one_within tables name (Some k) is ks e =
    ap (λ (b : Bool). b && list_all (λ i. ltb i (length tables)) ks) (number_within tables name k is) ∙ e

found_within : (tables : List TableDecl) (names : List Named)
    → list_all (λ i. ltb i (length tables)) (filter_map (λ (i : Named). table_of tables i.name) names) ≡ true
found_within tables [] = refl
found_within tables (i ∷ names) =
    one_within tables i.name (table_of tables i.name) refl (filter_map (λ (i : Named). table_of tables i.name) names)
    (found_within tables names)

within_by : (tables : List TableDecl) (o : Option TableDecl)
    → list_all (λ i. ltb i (length tables)) (inherited_by tables o) ≡ true
within_by tables None = refl
within_by tables (Some t) = found_within tables t.inherits

-- inherited tables are tables
pub inherited_within : (tables : List TableDecl) (k : ℕ)
    → list_all (λ i. ltb i (length tables)) (inherited tables k) ≡ true
inherited_within tables k = within_by tables (slice_get tables k)

-- once a round adds nothing, no round does
pub stays : (tables : List TableDecl) (n : ℕ)
    → ((k : ℕ) → k < length tables → goes_on tables n k ≡ goes_on tables (suc n) k)
    → (m k : ℕ) → k < length tables → goes_on tables (m + n) k ≡ goes_on tables n k
stays tables n h zero k within = ap (λ (i : ℕ). goes_on tables i k) (zero_plus n)
  where
    zero_plus : (n : ℕ) → 0 + n ≡ n
    zero_plus n = omega arith
stays tables n h (suc m) k within =
    ap (λ (i : ℕ). goes_on tables i k) (suc_plus m n)
    ∙ any_same (goes_on tables (m + n)) (goes_on tables n) (length tables) (stays tables n h m) (inherited tables k)
    (inherited_within tables k)
    ∙ sym (h k within)
  where
    suc_plus : (m n : ℕ) → suc m + n ≡ suc (m + n)
    suc_plus m n = omega arith
