-- Where some names have values, an expression has its value under these, or it is refused for what its first name
-- without a value is refused for.
use Rattle.std.proofs.Common.{◌≡◌, ℕ, ℤ, pos, ◌*ℤ◌, ◌+ℤ◌, ◌-ℤ◌, int_lt, append_assoc, Bool, true, false, cond, unsigned_abs, List, [], ◌∷◌, ◌++◌, map, Option, Some, None, is_none, Result, Ok, Err, refl, sym, ap, subst, ◌∙◌, ◌^◌}
use Rattle.std.specs.Prelude.{nat_lt}
use Rattle.std.specs.Ordering.{int_eq}
use Rattle.std.proofs.lemmas.List.{append-nil}
use Rattle.std.proofs.lemmas.List.Concat.{flat_map-cons}
use Rattle.std.specs.Option.{option_or}
use Rattle.std.proofs.lemmas.List.Folds.{find-append}
use Rattle.stil_ast.specs.Meaning.Times.{Met, in_text}
use Rattle.expr_text.specs.Range.{within}
use Rattle.expr_text.specs.Ratio.{Ratio, whole, given, cross_of, lowest, lowest_signed, sum_of, difference_of, product_of, quotient_of, nonzero_quotient_of, is_above}
use Rattle.expr_text.specs.Unit.{femtoseconds_of}
use Rattle.expr_text.specs.Tree.{Tree, chain, linked, extreme, also, with_links, with_others, part_tree, tree_of}
use Rattle.expr_text.specs.Value.{Outcome, applied_of, best_of, better_of, best_of_all, named_of, value_of}
use Rattle.expr_text.specs.Vars.{value_of_name}
use Rattle.time_expr.specs.NamedValue.{kind_of, met_of, unless_met, Known, plain, several, settled, begun, with_operand, known_by, value_by}
use Rattle.time_expr.specs.Names.{joined, joined_links, part_names, names_of, first_missing}
use Rattle.expr_text.specs.declared.fault.ExprFault.{ExprFault}
use Rattle.expr_text.specs.declared.fault.ExprFault.TheVariants.{OutOfRange, UnknownName, ZeroDivisor}
use Rattle.expr_text.specs.declared.expr.Operator.{Operator}
use Rattle.expr_text.specs.declared.expr.Operator.TheVariants.{Plus, Minus, Times, Over}
use Rattle.expr_text.specs.declared.expr.Bound.{Bound}
use Rattle.expr_text.specs.declared.expr.Bound.TheVariants.{Least, Greatest}
use Rattle.expr_text.specs.declared.expr.Expr.{Expr}
use Rattle.expr_text.specs.declared.expr.Expr.TheOpen.{Expr-F}
use Rattle.expr_text.specs.declared.expr.Expr.TheFolds.{map-Expr, fold-roll-Expr, ind-Expr}
use Rattle.expr_text.proofs.ValueLemmas as plainly
use Rattle.expr_text.proofs.ValueLemmas.{closed, gathered, more, known_of, tree_value, value_is_tree_value}

-- arithmetic meets no name
abbrev pub IsPlain : {A : Type 0} → Result A ExprFault → Type 0
IsPlain (Ok x) = Unit {0}
IsPlain (Err e) = e ≡ UnknownName → ⊥

given_plain : {A B : Type 0} (o : Result A ExprFault) (f : A → Result B ExprFault) → IsPlain o
    → ((x : A) → IsPlain (f x)) → IsPlain (given o f)
given_plain (Ok x) f p all = all x
given_plain (Err e) f p all = p

if_plain : {A : Type 0} (b : Bool) (o p : Result A ExprFault) → IsPlain o → IsPlain p → IsPlain (cond b o p)
if_plain true o p h k = h
if_plain false o p h k = k

out_plain : (A : Type 0) → IsPlain {A = A} (Err OutOfRange)
out_plain A e = cc

zero_plain : (A : Type 0) → IsPlain {A = A} (Err ZeroDivisor)
zero_plain A e = cc

ranged_plain : {A : Type 0} (z : ℤ) (f : ℤ → Result A ExprFault) → ((x : ℤ) → IsPlain (f x)) → IsPlain (given (within z) f)
ranged_plain z f all =
    given_plain (within z) f (if_plain (nat_lt (unsigned_abs z) (2 ^ 127)) (Ok z) (Err OutOfRange) tt (out_plain ℤ)) all

cross_plain : (r s : Ratio) → IsPlain (cross_of r s)
cross_plain r s =
    ranged_plain (r.numerator *ℤ s.denominator) (λ left. given (within (s.numerator *ℤ r.denominator)) (λ right. Ok (left, right)))
    (λ left. ranged_plain (s.numerator *ℤ r.denominator) (λ right. Ok (left, right)) (λ right. tt))

product_plain : (r s : Ratio) → IsPlain (product_of r s)
product_plain r s =
    ranged_plain (r.numerator *ℤ s.numerator)
    (λ above. given (within (r.denominator *ℤ s.denominator)) (λ below. Ok (lowest above below)))
    (λ above. ranged_plain (r.denominator *ℤ s.denominator) (λ below. Ok (lowest above below)) (λ below. tt))

sum_plain : (r s : Ratio) → IsPlain (sum_of r s)
sum_plain r s =
    given_plain (cross_of r s)
    (λ cross. given (within (r.denominator *ℤ s.denominator))
    (λ below. given (within (cross.0 +ℤ cross.1)) (λ above. Ok (lowest above below))))
    (cross_plain r s)
    (λ cross. ranged_plain (r.denominator *ℤ s.denominator)
    (λ below. given (within (cross.0 +ℤ cross.1)) (λ above. Ok (lowest above below)))
    (λ below. ranged_plain (cross.0 +ℤ cross.1) (λ above. Ok (lowest above below)) (λ above. tt)))

difference_plain : (r s : Ratio) → IsPlain (difference_of r s)
difference_plain r s =
    given_plain (cross_of r s)
    (λ cross. given (within (r.denominator *ℤ s.denominator))
    (λ below. given (within (cross.0 -ℤ cross.1)) (λ above. Ok (lowest above below))))
    (cross_plain r s)
    (λ cross. ranged_plain (r.denominator *ℤ s.denominator)
    (λ below. given (within (cross.0 -ℤ cross.1)) (λ above. Ok (lowest above below)))
    (λ below. ranged_plain (cross.0 -ℤ cross.1) (λ above. Ok (lowest above below)) (λ above. tt)))

quotient_plain : (r s : Ratio) → IsPlain (quotient_of r s)
quotient_plain r s =
    if_plain (int_eq s.numerator (pos 0)) (Err ZeroDivisor) (nonzero_quotient_of r s) (zero_plain Ratio)
    (ranged_plain (r.numerator *ℤ s.denominator)
    (λ above. given (within (r.denominator *ℤ s.numerator)) (λ below. Ok (lowest_signed above below)))
    (λ above. ranged_plain (r.denominator *ℤ s.numerator) (λ below. Ok (lowest_signed above below)) (λ below. tt)))

applied_plain : (op : Operator) (r s : Ratio) → IsPlain (applied_of op r s)
applied_plain Plus r s = sum_plain r s
applied_plain Minus r s = difference_plain r s
applied_plain Times r s = product_plain r s
applied_plain Over r s = quotient_plain r s

above_plain : (r s : Ratio) → IsPlain (is_above r s)
above_plain r s = given_plain (cross_of r s) (λ cross. Ok (int_lt cross.1 cross.0)) (cross_plain r s) (λ cross. tt)

better_plain : (bound : Bound) (r s : Ratio) → IsPlain (best_of bound r s)
better_plain Least r s = given_plain (is_above r s) (λ above. Ok (cond above s r)) (above_plain r s) (λ above. tt)
better_plain Greatest r s = given_plain (is_above r s) (λ above. Ok (cond above r s)) (above_plain r s) (λ above. tt)

best_plain : (bound : Bound) (o : Outcome) (rs : List Ratio) → IsPlain o → IsPlain (best_of_all bound o rs)
best_plain bound o [] p = p
best_plain bound o (r ∷ rs) p =
    best_plain bound (better_of bound o r) rs (given_plain o (λ x. best_of bound x r) p (λ x. better_plain bound x r))

-- what the values known so far give is what names give, or both stop at the first name without a value
pub data Alike (names : List ℕ → Result Ratio Met) : Outcome → Result Ratio Met → Option (List ℕ) → Type 0 where
  has_value : (r : Ratio) → Alike names (Ok r) (Ok r) None
  has_fault : (e : ExprFault) (missing : Option (List ℕ)) → (e ≡ UnknownName → ⊥)
      → Alike names (Err e) (Err (in_text (kind_of e))) missing
  stops : (w : List ℕ) (found : Result Ratio Met) → ((met : Met) → names w ≡ Err met → found ≡ Err met)
      → Alike names (Err UnknownName) found (Some w)

-- the same of the operands of a least or greatest
data Gathered (names : List ℕ → Result Ratio Met) : plainly.Known → Known → Option (List ℕ) → Type 0 where
  at_operands : (bound : Bound) (r : Ratio) (rs : List Ratio)
      → Gathered names (plainly.several bound r rs) (several bound r rs) None
  at_fault : (e : ExprFault) (missing : Option (List ℕ)) → (e ≡ UnknownName → ⊥)
      → Gathered names (plainly.plain (Err e)) (plain (Err (in_text (kind_of e)))) missing
  at_stop : (w : List ℕ) (k : Known) → ((met : Met) → names w ≡ Err met → k ≡ plain (Err met))
      → Gathered names (plainly.plain (Err UnknownName)) k (Some w)

module _ (names : List ℕ → Result Ratio Met) where
  exact_alike : (o : Outcome) → IsPlain o → Alike names o (met_of o) None
  exact_alike (Ok r) p = has_value r
  exact_alike (Err e) p = has_fault e None p

  -- the last step, which needs no name
  last_alike : (o : Outcome) (found : Result Ratio Met) (m : Option (List ℕ)) (g : Ratio → Outcome) → Alike names o found m
      → ((r : Ratio) → IsPlain (g r)) → Alike names (given o g) (unless_met found (λ r. met_of (g r))) m
  last_alike _ _ _ g (has_value r) all = exact_alike (g r) (all r)
  last_alike _ _ _ g (has_fault e m p) all = has_fault e m p
  last_alike _ _ _ g (stops w found f) all =
      stops w (unless_met found (λ r. met_of (g r))) (λ met e. ap (λ x. unless_met x (λ r. met_of (g r))) (f met e))

  -- one step and those behind it
  given_alike : (o : Outcome) (found : Result Ratio Met) (m n : Option (List ℕ)) (g : Ratio → Outcome)
      (h : Ratio → Result Ratio Met) → Alike names o found m → ((r : Ratio) → Alike names (g r) (h r) n)
      → Alike names (given o g) (unless_met found h) (option_or m n)
  given_alike _ _ _ n g h (has_value r) all = all r
  given_alike _ _ _ n g h (has_fault e m p) all = has_fault e (option_or m n) p
  given_alike _ _ _ n g h (stops w found f) all = stops w (unless_met found h) (λ met e. ap (λ x. unless_met x h) (f met e))

  -- the first operand, and one more
  gathered_alike : (bound : Bound) (o : Outcome) (found : Result Ratio Met) (m : Option (List ℕ)) → Alike names o found m
      → Gathered names (gathered bound o) (begun bound found) m
  gathered_alike bound _ _ _ (has_value r) = at_operands bound r []
  gathered_alike bound _ _ _ (has_fault e m p) = at_fault e m p
  gathered_alike bound _ _ _ (stops w found f) = at_stop w (begun bound found) (λ met e. ap (begun bound) (f met e))

  more_alike : (k : plainly.Known) (l : Known) (o : Outcome) (found : Result Ratio Met) (m n : Option (List ℕ))
      → Gathered names k l m → Alike names o found n → Gathered names (more k o) (with_operand l found) (option_or m n)
  more_alike _ _ _ _ _ _ (at_operands bound r rs) (has_value s) = at_operands bound r (rs ++ s ∷ [])
  more_alike _ _ _ _ _ _ (at_operands bound r rs) (has_fault e n p) = at_fault e n p
  more_alike _ _ _ _ _ _ (at_operands bound r rs) (stops w found f) =
      at_stop w (with_operand (several bound r rs) found) (λ met e. ap (with_operand (several bound r rs)) (f met e))
  more_alike _ _ o found _ n (at_fault e m p) a = at_fault e (option_or m n) p
  more_alike _ _ o found _ n (at_stop w l f) a =
      at_stop w (with_operand l found) (λ met e. ap (λ (x : Known). with_operand x found) (f met e))

  closed_alike : (k : plainly.Known) (l : Known) (m : Option (List ℕ)) → Gathered names k l m
      → Alike names (closed k) (settled l) m
  closed_alike _ _ _ (at_operands bound r rs) = exact_alike (best_of_all bound (Ok r) rs) (best_plain bound (Ok r) rs tt)
  closed_alike _ _ _ (at_fault e m p) = has_fault e m p
  closed_alike _ _ _ (at_stop w l f) = stops w (settled l) (λ met e. ap settled (f met e))

module _ (names : List ℕ → Result Ratio Met) (vars : List (List ℕ × Ratio))
    (known : (bytes : List ℕ) (r : Ratio) → value_of_name bytes vars ≡ Some r → names bytes ≡ Ok r) where
  abbrev AlikeTree : Tree → List (List ℕ) → Type 0
  AlikeTree t ns = Alike names (tree_value vars t) (value_by names t) (first_missing vars ns)

  abbrev GatheredTree : Tree → List (List ℕ) → Type 0
  GatheredTree t ns = Gathered names (known_of vars t) (known_by names t) (first_missing vars ns)

  abbrev IsAlike : Expr → Type 0
  IsAlike e = AlikeTree (tree_of e) (names_of e)

  abbrev Operand : Type 0
  Operand = (e : Expr) × IsAlike e

  abbrev lacks : List ℕ → Bool
  lacks bytes = is_none (value_of_name bytes vars)

  linked_alike : (t u : Tree) (op : Operator) (ns ms : List (List ℕ)) → AlikeTree t ns → AlikeTree u ms
      → AlikeTree (linked t op u) (ns ++ ms)
  linked_alike t u op ns ms a b =
      subst (Alike names (tree_value vars (linked t op u)) (value_by names (linked t op u))) (sym (find-append lacks ns ms))
      (given_alike names (tree_value vars t) (value_by names t) (first_missing vars ns) (first_missing vars ms)
      (λ r. given (tree_value vars u) (λ s. applied_of op r s))
      (λ r. unless_met (value_by names u) (λ s. met_of (applied_of op r s))) a
      (λ r. last_alike names (tree_value vars u) (value_by names u) (first_missing vars ms) (λ s. applied_of op r s) b
      (applied_plain op r)))

  also_alike : (t u : Tree) (ns ms : List (List ℕ)) → GatheredTree t ns → AlikeTree u ms → GatheredTree (also t u) (ns ++ ms)
  also_alike t u ns ms a b =
      subst (Gathered names (known_of vars (also t u)) (known_by names (also t u))) (sym (find-append lacks ns ms))
      (more_alike names (known_of vars t) (known_by names t) (tree_value vars u) (value_by names u)
      (first_missing vars ns) (first_missing vars ms) a b)

  abbrev bare : Operator × Operand → Operator × Expr
  bare l = (l.0, l.1.0)

  abbrev treed : Operator × Expr → Operator × Tree
  treed l = (l.0, tree_of l.1)

  abbrev named : Operator × Expr → Operator × List (List ℕ)
  named l = (l.0, names_of l.1)

  links_alike : (t : Tree) (ns : List (List ℕ)) → AlikeTree t ns → (ls : List (Operator × Operand))
      → AlikeTree (with_links t (map treed (map bare ls))) (ns ++ joined_links (map named (map bare ls)))
  links_alike t ns a [] = subst (AlikeTree t) (sym (append-nil ns)) a
  links_alike t ns a (l ∷ ls) =
      subst (AlikeTree (with_links t (map treed (map bare (l ∷ ls)))))
      (append_assoc ns (names_of l.1.0) (joined_links (map named (map bare ls)))
      ∙ ap (λ (xs : List (List ℕ)). ns ++ xs)
      (sym (flat_map-cons (λ (x : Operator × List (List ℕ)). x.1) (named (bare l)) (map named (map bare ls)))))
      (links_alike (linked t l.0 (tree_of l.1.0)) (ns ++ names_of l.1.0)
      (linked_alike t (tree_of l.1.0) l.0 ns (names_of l.1.0) a l.1.1) ls)

  others_alike : (t : Tree) (ns : List (List ℕ)) → GatheredTree t ns → (os : List Operand)
      → GatheredTree (with_others t (map tree_of (map (λ o. o.0) os))) (ns ++ joined (map names_of (map (λ o. o.0) os)))
  others_alike t ns a [] = subst (GatheredTree t) (sym (append-nil ns)) a
  others_alike t ns a (o ∷ os) =
      subst (GatheredTree (with_others t (map tree_of (map (λ x. x.0) (o ∷ os)))))
      (append_assoc ns (names_of o.0) (joined (map names_of (map (λ x. x.0) os)))
      ∙ ap (λ (xs : List (List ℕ)). ns ++ xs)
      (sym (flat_map-cons (λ (x : List (List ℕ)). x) (names_of o.0) (map names_of (map (λ x. x.0) os)))))
      (others_alike (also t (tree_of o.0)) (ns ++ names_of o.0) (also_alike t (tree_of o.0) ns (names_of o.0) a o.1) os)

  name_alike : (bytes : List ℕ) (found : Option Ratio) → value_of_name bytes vars ≡ found
      → Alike names (named_of found) (names bytes) (cond (is_none found) (Some bytes) None)
  name_alike bytes None is = stops bytes (names bytes) (λ met e. e)
  name_alike bytes (Some r) is = subst (λ (x : Result Ratio Met). Alike names (Ok r) x None) (sym (known bytes r is)) (has_value r)

  -- one layer
  abbrev IsLayer : Expr-F Expr → Type 0
  IsLayer x =
      AlikeTree (part_tree (map-Expr Expr Tree tree_of x)) (part_names (map-Expr Expr (List (List ℕ)) names_of x))

  layer : (y : Expr-F Operand) → IsLayer (map-Expr Operand Expr (λ e. e.0) y)
  layer (Expr-F.Number v unit) =
      exact_alike names (product_of v (whole (femtoseconds_of unit))) (product_plain v (whole (femtoseconds_of unit)))
  layer (Expr-F.Name bytes) = name_alike bytes (value_of_name bytes vars) refl
  layer (Expr-F.Chain first rest) =
      links_alike (chain (tree_of first.value.0)) (names_of first.value.0) first.value.1 rest.items
  layer (Expr-F.Extreme bound first rest) =
      let t = with_others (extreme bound (tree_of first.value.0)) (map tree_of (map (λ o. o.0) rest.items)) in
      let ns = names_of first.value.0 ++ joined (map names_of (map (λ o. o.0) rest.items)) in
      closed_alike names (known_of vars t) (known_by names t) (first_missing vars ns)
      (others_alike (extreme bound (tree_of first.value.0)) (names_of first.value.0)
      (gathered_alike names bound (tree_value vars (tree_of first.value.0)) (value_by names (tree_of first.value.0))
      (first_missing vars (names_of first.value.0)) first.value.1) rest.items)

  moved : (t u : Tree) (ns ms : List (List ℕ)) → t ≡ u → ns ≡ ms → AlikeTree u ms → AlikeTree t ns
  moved t u ns ms p q a = subst (λ (x : Tree). AlikeTree x ns) (sym p) (subst (AlikeTree u) (sym q) a)

  tree_alike : (e : Expr) → IsAlike e
  tree_alike = ind-Expr IsAlike (λ x y is.
      moved _ _ _ _ (fold-roll-Expr Tree part_tree x) (fold-roll-Expr (List (List ℕ)) part_names x)
      (subst IsLayer is (layer y)))

  -- an expression by the values known so far, and by the names
  pub expr_alike : (e : Expr) → Alike names (value_of vars e) (value_by names (tree_of e)) (first_missing vars (names_of e))
  expr_alike e =
      subst (λ (o : Outcome). Alike names o (value_by names (tree_of e)) (first_missing vars (names_of e)))
      (sym (value_is_tree_value vars e)) (tree_alike e)

  pub at_value : (o : Outcome) (found : Result Ratio Met) (m : Option (List ℕ)) → Alike names o found m → (r : Ratio)
      → o ≡ Ok r → found ≡ Ok r
  at_value _ _ _ (has_value s) r e = let same : s ≡ r = cc in ap Ok same
  at_value _ _ _ (has_fault f m p) r e = cc
  at_value _ _ _ (stops w found f) r e = cc

  pub at_fault_of : (o : Outcome) (found : Result Ratio Met) (m : Option (List ℕ)) → Alike names o found m → (f : ExprFault)
      → o ≡ Err f → (f ≡ UnknownName → ⊥) → found ≡ Err (in_text (kind_of f))
  at_fault_of _ _ _ (has_value s) f e known_f = cc
  at_fault_of _ _ _ (has_fault g m p) f e other = let same : g ≡ f = cc in ap (λ x. Err (in_text (kind_of x))) same
  at_fault_of _ _ _ (stops w found h) f e other = let same : f ≡ UnknownName = cc in absurd (other same)

  pub at_name : (o : Outcome) (found : Result Ratio Met) (m : Option (List ℕ)) → Alike names o found m → (w : List ℕ)
      → o ≡ Err UnknownName → m ≡ Some w → (met : Met) → names w ≡ Err met → found ≡ Err met
  at_name _ _ _ (has_value s) w e is met h = cc
  at_name _ _ _ (has_fault g m p) w e is met h = let same : g ≡ UnknownName = cc in absurd (p same)
  at_name _ _ _ (stops v found f) w e is met h = let same : v ≡ w = cc in f met (ap names same ∙ h)

  pub at_no_name : (o : Outcome) (found : Result Ratio Met) (m : Option (List ℕ)) → Alike names o found m
      → o ≡ Err UnknownName → m ≡ None → ⊥
  at_no_name _ _ _ (has_value s) e is = cc
  at_no_name _ _ _ (has_fault g m p) e is = let same : g ≡ UnknownName = cc in absurd (p same)
  at_no_name _ _ _ (stops v found f) e is = cc
