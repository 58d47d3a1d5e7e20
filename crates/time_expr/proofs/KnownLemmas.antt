-- The values known so far, and one more.
use Rattle.std.proofs.Common.{◌≡◌, ℕ, zero, suc, ◌+◌, ◌≤◌, Bool, true, false, cond, ◌||◌, List, [], ◌∷◌, ◌++◌, length, find, Option, Some, None, is_none, Ok, refl, sym, ap, subst, ◌∙◌, inl, inr, arith, count_by, length-append}
use Rattle.std.specs.Option.{option_or}
use Rattle.std.proofs.lemmas.Bool.{cases_Bool}
use Rattle.std.proofs.lemmas.List.Sums.{sum_by-cons, count_by-le-length}
use Rattle.std.proofs.lemmas.Slice.Eq.{bytes_eq-Decides}
use Rattle.stil_ast.proofs.TextLemmas.{same-refl}
use Rattle.text_bytes.proofs.OptionLemmas.{or_none}
use Rattle.stil_ast.specs.Meaning.Variables.{Variable, value_within, value_of_found, value_of}
use Rattle.stil_ast.specs.Data.Texts.{same, has_name}
use Rattle.expr_text.specs.Ratio.{Ratio}
use Rattle.expr_text.specs.Vars.{value_of_name, unless_named, with_value}
use Rattle.time_expr.specs.TimesOf.{times_of}
use Rattle.time_expr.specs.Choosing.{variable_named, IsNext, AreApartFrom, AreKnown, has_no_value}
use Rattle.time_expr.proofs.ReachLemmas.{none-is_none}

-- a count of one item more
count-cons : {X : Type 0} (p : X → Bool) (x : X) (xs : List X)
    → count_by p (x ∷ xs) ≡ cond {A = ℕ} (p x) 1 0 + count_by p xs
count-cons p x xs = sum_by-cons (λ y. cond {A = ℕ} (p y) 1 0) x xs

bit-le : (a b : Bool) → (a ≡ true → b ≡ true) → cond {A = ℕ} a 1 0 ≤ cond {A = ℕ} b 1 0
bit-le true true h = omega arith
bit-le true false h = let clash : false ≡ true = h refl in cc
bit-le false true h = omega arith
bit-le false false h = omega arith

bit-less : (a b : Bool) → a ≡ false → b ≡ true → cond {A = ℕ} a 1 0 + 1 ≤ cond {A = ℕ} b 1 0
bit-less true b e f = cc
bit-less false true e f = omega arith
bit-less false false e f = cc

-- a count is no greater where no item more passes
pub count-le : {X : Type 0} (p q : X → Bool) (xs : List X) → ((y : X) → q y ≡ true → p y ≡ true)
    → count_by q xs ≤ count_by p xs
count-le p q [] sub = omega arith
count-le p q (y ∷ xs) sub =
    omega (arith, count-cons p y xs, count-cons q y xs, count-le p q xs sub, bit-le (q y) (p y) (sub y))

-- and less where an item fewer passes
pub count-less : {X : Type 0} (p q : X → Bool) (xs : List X) (x : X) (test : X → Bool)
    → ((y : X) → q y ≡ true → p y ≡ true) → find test xs ≡ Some x → p x ≡ true → q x ≡ false
    → count_by q xs + 1 ≤ count_by p xs
count-less p q [] x test sub at passes fresh = cc
count-less p q (y ∷ xs) x test sub at passes fresh =
    elim (cases_Bool (test y)) [
      | inl t ↦ let same_one : y ≡ x = some_same y x (sym (ap (λ b. cond b (Some y) (find test xs)) t) ∙ at) in
          omega (
            arith,
            count-cons p y xs,
            count-cons q y xs,
            count-le p q xs sub,
            bit-less (q y) (p y) (ap q same_one ∙ fresh) (ap p same_one ∙ passes),
          )
      | inr f ↦
          let ih = count-less p q xs x test sub (sym (ap (λ b. cond b (Some y) (find test xs)) f) ∙ at) passes fresh in
          omega (arith, count-cons p y xs, count-cons q y xs, ih, bit-le (q y) (p y) (sub y))
    ]
  where
    some_same : {X : Type 0} (a b : X) → Some a ≡ Some b → a ≡ b
    some_same a b h = cc

-- what a name has with one entry more
value_of_name-push : (name key : List ℕ) (r : Ratio) (vars : List (List ℕ × Ratio))
    → value_of_name name (vars ++ (key, r) ∷ []) ≡ option_or (value_of_name name vars) (cond (same key name) (Some r) None)
value_of_name-push name key r [] = refl
value_of_name-push name key r (e ∷ es) =
    elim (cases_Bool (same e.0 name)) [
      | inl t ↦ ap (λ b. cond b (Some e.1) (value_of_name name (es ++ (key, r) ∷ []))) t
          ∙ sym (ap (λ b. option_or (cond b (Some e.1) (value_of_name name es)) (cond (same key name) (Some r) None)) t)
      | inr f ↦ ap (λ b. cond b (Some e.1) (value_of_name name (es ++ (key, r) ∷ []))) f ∙ value_of_name-push name key r es
          ∙ sym (ap (λ b. option_or (cond b (Some e.1) (value_of_name name es)) (cond (same key name) (Some r) None)) f)
    ]

pub none-is : {X : Type 0} (o : Option X) → o ≡ None → is_none o ≡ true
none-is o e = ap is_none e

-- names that are being evaluated, and one more, have no values
pub apart-more : (running : List (List ℕ)) (vars : List (List ℕ × Ratio)) (name : List ℕ) → AreApartFrom running vars
    → value_of_name name vars ≡ None → AreApartFrom (name ∷ running) vars
apart-more running vars name apart none = λ other e.
    elim (cases_Bool (same other name)) [
      | inl t ↦ ap (λ n. value_of_name n vars) ((bytes_eq-Decides other name).0 t) ∙ none
      | inr f ↦ apart other (sym (ap (λ b. b || has_name running other) f) ∙ e)
    ]

-- no values are known at first
pub known-none : (vs : List Variable) → AreKnown vs []
known-none vs = record {
  holds = λ running depth name r apart len at. let clash : ◌≡◌ {A = Option Ratio} None (Some r) = at in cc;
  room = omega (arith, count_by-le-length (has_no_value []) vs);
}

module _ (vs : List Variable) (vars : List (List ℕ × Ratio)) (known : AreKnown vs vars) where
  -- a value that is known is that of the variable
  pub known-value : (name : List ℕ) (r : Ratio) → value_of_name name vars ≡ Some r → value_of times_of vs name ≡ Ok r
  known-value name r at =
      known.holds [] (suc (length vs)) name r (λ n e. let clash : false ≡ true = e in cc) (omega (arith, known.room)) at

  module _ (v : Variable) (r : Ratio) (next : IsNext vs vars v r) where
    abbrev grown : List (List ℕ × Ratio)
    grown = vars ++ (v.name, r) ∷ []

    own_value : value_of_name v.name grown ≡ Some r
    own_value =
        value_of_name-push v.name v.name r vars
        ∙ ap (λ o. option_or o (cond (same v.name v.name) (Some r) None)) next.is_open.no_value
        ∙ ap (λ b. cond b (Some r) None) (same-refl v.name)

    apart-old : (running : List (List ℕ)) → AreApartFrom running grown → AreApartFrom running vars
    apart-old running apart = λ other e.
        or_none (value_of_name other vars) (cond (same v.name other) (Some r) None)
        (sym (value_of_name-push other v.name r vars) ∙ apart other e)

    length-grown : length grown ≡ length vars + 1
    length-grown = length-append vars ((v.name, r) ∷ [])

    -- the variable itself
    holds-own : (running : List (List ℕ)) (depth : ℕ) → AreApartFrom running grown → length vars ≤ depth
        → value_within times_of vs (suc depth) running v.name ≡ Ok r
    holds-own running depth apart len =
        let names = value_within times_of vs depth (v.name ∷ running) in
        let idle : has_name running v.name ≡ false = not_running in
        ap (λ b. value_of_found b (variable_named vs v.name) (times_of.value names)) idle
        ∙ ap (λ o. value_of_found false o (times_of.value names)) next.is_open.first
        ∙ next.value names (λ other s at. known.holds (v.name ∷ running) depth other s
        (apart-more running vars v.name (apart-old running apart) next.is_open.no_value) len at)
      where
        not_running : has_name running v.name ≡ false
        not_running =
            elim (cases_Bool (has_name running v.name)) [
              | inl t ↦ let clash : ◌≡◌ {A = Option Ratio} (Some r) None = sym own_value ∙ apart v.name t in cc
              | inr f ↦ f
            ]

    -- each name that has a value now
    holds-at : (running : List (List ℕ)) (depth : ℕ) (name : List ℕ) (s : Ratio) → AreApartFrom running grown
        → length vars + 1 ≤ depth → (old : Option Ratio) → value_of_name name vars ≡ old
        → option_or old (cond (same v.name name) (Some r) None) ≡ Some s
        → value_within times_of vs depth running name ≡ Ok s
    holds-at running depth name s apart len (Some t) is e =
        let same_one : t ≡ s = cc in
        known.holds running depth name s (apart-old running apart) (omega (arith, len)) (is ∙ ap Some same_one)
    holds-at running zero name s apart len None is e = absurd (omega (arith, len))
    holds-at running (suc depth) name s apart len None is e =
        elim (cases_Bool (same v.name name)) [
          | inl t ↦
              let same_one : r ≡ s = some_ratio r s (sym (ap (λ b. cond b (Some r) None) t) ∙ e) in
              ap (value_within times_of vs (suc depth) running) (sym ((bytes_eq-Decides v.name name).0 t))
              ∙ holds-own running depth apart (omega (arith, len)) ∙ ap Ok same_one
          | inr f ↦ let clash : ◌≡◌ {A = Option Ratio} None (Some s) = sym (ap (λ b. cond b (Some r) None) f) ∙ e in cc
        ]
      where
        some_ratio : (a b : Ratio) → Some a ≡ Some b → a ≡ b
        some_ratio a b h = cc

    -- the values with one more
    pub known-grown : AreKnown vs grown
    known-grown = record {
      holds = λ running depth name s apart len at.
          holds-at running depth name s apart (omega (arith, len, length-grown)) (value_of_name name vars) refl
          (sym (value_of_name-push name v.name r vars) ∙ at);
      room = omega (
        arith,
        known.room,
        length-grown,
        count-less (has_no_value vars) (has_no_value grown) vs v (λ u. same u.name v.name)
            (λ u e. none-is (value_of_name u.name vars)
            (or_none (value_of_name u.name vars) (cond (same v.name u.name) (Some r) None)
            (sym (value_of_name-push u.name v.name r vars) ∙ none-is_none (value_of_name u.name grown) e)))
            next.is_open.first (none-is (value_of_name v.name vars) next.is_open.no_value) (ap is_none own_value),
      );
    }

    pub with_value-grown : with_value v.name r vars ≡ grown
    with_value-grown = ap (unless_named v.name r vars) next.is_open.no_value

    pub known-added : AreKnown vs (with_value v.name r vars)
    known-added = subst (AreKnown vs) (sym with_value-grown) known-grown

    -- the variable has a value now, and the others keep theirs
    pub added-own : value_of_name v.name (with_value v.name r vars) ≡ Some r
    added-own = ap (value_of_name v.name) with_value-grown ∙ own_value

    pub added-keeps : (name : List ℕ) (s : Ratio) → value_of_name name vars ≡ Some s
        → value_of_name name (with_value v.name r vars) ≡ Some s
    added-keeps name s at =
        ap (value_of_name name) with_value-grown ∙ value_of_name-push name v.name r vars
        ∙ ap (λ o. option_or o (cond (same v.name name) (Some r) None)) at

    -- fewer variables have no value
    pub added-fewer : count_by (has_no_value (with_value v.name r vars)) vs + 1 ≤ count_by (has_no_value vars) vs
    added-fewer =
        count-less (has_no_value vars) (has_no_value (with_value v.name r vars)) vs v (λ u. same u.name v.name)
        (λ u e. none-is (value_of_name u.name vars)
        (or_none (value_of_name u.name vars) (cond (same v.name u.name) (Some r) None)
        (sym (ap (value_of_name u.name) with_value-grown ∙ value_of_name-push u.name v.name r vars)
        ∙ none-is_none (value_of_name u.name (with_value v.name r vars)) e)))
        next.is_open.first (none-is (value_of_name v.name vars) next.is_open.no_value) (ap is_none added-own)
