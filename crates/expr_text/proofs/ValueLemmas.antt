-- The value of an expression is that of its tree.
use Rattle.std.proofs.Common.{◌≡◌, ℕ, suc, ℤ, pos, negsuc, neg_ℤ, ◌*ℤ◌, ◌<◌, ◌^◌, unsigned_abs, List, [], ◌∷◌, ◌++◌, map, Result, Ok, Err, refl, sym, ap, subst, ◌∙◌, append_assoc}
use Rattle.std.specs.Prelude.{int_div, nat_lt}
use Rattle.std.proofs.lemmas.List.{append-nil}
use Rattle.std.proofs.lemmas.Bool.{cond-true, lt-ltb}
use Rattle.std.proofs.Math.Nat.{div-one}
use Rattle.expr_text.specs.Range.{within, divisor_of, remainders}
use Rattle.expr_text.specs.Ratio.{Ratio, whole, lowest, given, product_of}
use Rattle.expr_text.specs.Unit.{femtoseconds_of}
use Rattle.expr_text.specs.Vars.{value_of_name}
use Rattle.expr_text.specs.Value.{Outcome, applied_of, chain_of, all_of, best_of_all, extreme_of, named_of, part_value, value_of}
use Rattle.expr_text.specs.Tree.{Tree, number, name, chain, linked, extreme, also, with_links, with_others, part_tree, tree_of}
use Rattle.expr_text.specs.declared.fault.ExprFault.{ExprFault}
use Rattle.expr_text.specs.declared.fault.ExprFault.TheVariants.{OutOfRange}
use Rattle.expr_text.specs.declared.unit.Unit as units
use Rattle.expr_text.specs.declared.expr.Operator.{Operator}
use Rattle.expr_text.specs.declared.expr.Bound.{Bound}
use Rattle.expr_text.specs.declared.expr.Expr.{Expr}
use Rattle.expr_text.specs.declared.expr.Expr.TheOpen.{Expr-F}
use Rattle.expr_text.specs.declared.expr.Expr.TheFolds.{map-Expr, fold-roll-Expr, ind-Expr}

-- what is known of a tree: its value, or the values of the operands so far of a least or greatest
pub data Known : Type 0 where
  plain : Outcome → Known
  several : Bound → Ratio → List Ratio → Known

abbrev pub closed : Known → Outcome
closed (plain o) = o
closed (several bound r rs) = best_of_all bound (Ok r) rs

abbrev pub gathered : Bound → Outcome → Known
gathered bound (Ok r) = several bound r []
gathered bound (Err e) = plain (Err e)

abbrev pub more : Known → Outcome → Known
more (plain o) v = plain o
more (several bound r rs) (Ok s) = several bound r (rs ++ s ∷ [])
more (several bound r rs) (Err e) = plain (Err e)

abbrev pub known_of : List (List ℕ × Ratio) → Tree → Known
known_of vars (number v unit) = plain (product_of v (whole (femtoseconds_of unit)))
known_of vars (name bytes) = plain (named_of (value_of_name bytes vars))
known_of vars (chain t) = plain (closed (known_of vars t))
known_of vars (linked t op u) =
    plain (given (closed (known_of vars t)) (λ r. given (closed (known_of vars u)) (λ s. applied_of op r s)))
known_of vars (extreme bound t) = gathered bound (closed (known_of vars t))
known_of vars (also t u) = more (known_of vars t) (closed (known_of vars u))

-- the value of a tree
abbrev pub tree_value : List (List ℕ × Ratio) → Tree → Outcome
tree_value vars t = closed (known_of vars t)

-- the value of an operand of a chain
abbrev judged : List (List ℕ × Ratio) → Operator × Tree → Operator × Outcome
judged vars l = (l.0, tree_value vars l.1)

given_itself : (o : Outcome) → given o (λ r. Ok r) ≡ o
given_itself (Ok r) = refl
given_itself (Err e) = refl

given_twice : (o : Outcome) (f g : Ratio → Outcome) → given (given o f) g ≡ given o (λ r. given (f r) g)
given_twice (Ok r) f g = refl
given_twice (Err e) f g = refl

-- a chain that goes on
step_on : (o v : Outcome) (op : Operator) (links : List (Operator × Outcome))
    → given (given o (λ r. given v (λ s. applied_of op r s))) (λ r. chain_of r links) ≡ given o
    (λ r. given v (λ s. given (applied_of op r s) (λ t. chain_of t links)))
step_on (Ok r) v op links = given_twice v (applied_of op r) (λ t. chain_of t links)
step_on (Err e) v op links = refl

links_value : (vars : List (List ℕ × Ratio)) (t : Tree) (links : List (Operator × Tree))
    → tree_value vars (with_links t links) ≡ given (tree_value vars t) (λ r. chain_of r (map (judged vars) links))
links_value vars t [] = sym (given_itself (tree_value vars t))
links_value vars t (l ∷ links) =
    links_value vars (linked t l.0 l.1) links
    ∙ step_on (tree_value vars t) (tree_value vars l.1) l.0 (map (judged vars) links)

-- a least or greatest that goes on
abbrev rest_of : Known → List Outcome → Outcome
rest_of (plain o) vs = o
rest_of (several bound r rs) vs = given (all_of vs) (λ ss. best_of_all bound (Ok r) (rs ++ ss))

more_rest : (k : Known) (v : Outcome) (vs : List Outcome) → rest_of (more k v) vs ≡ rest_of k (v ∷ vs)
more_rest (plain o) v vs = refl
more_rest (several bound r rs) (Err e) vs = refl
more_rest (several bound r rs) (Ok s) vs = by_rest (all_of vs)
  where
    by_rest : (all : Result (List Ratio) ExprFault)
        → given all (λ ss. best_of_all bound (Ok r) ((rs ++ s ∷ []) ++ ss)) ≡ given (given all (λ ss. Ok (s ∷ ss)))
        (λ ss. best_of_all bound (Ok r) (rs ++ ss))
    by_rest (Ok ss) = ap (best_of_all bound (Ok r)) (append_assoc rs (s ∷ []) ss)
    by_rest (Err e) = refl

closed_rest : (k : Known) → closed k ≡ rest_of k []
closed_rest (plain o) = refl
closed_rest (several bound r rs) = ap (best_of_all bound (Ok r)) (sym (append-nil rs))

others_value : (vars : List (List ℕ × Ratio)) (t : Tree) (others : List Tree)
    → tree_value vars (with_others t others) ≡ rest_of (known_of vars t) (map (tree_value vars) others)
others_value vars t [] = closed_rest (known_of vars t)
others_value vars t (u ∷ others) =
    others_value vars (also t u) others ∙ more_rest (known_of vars t) (tree_value vars u) (map (tree_value vars) others)

gathered_rest : (bound : Bound) (o : Outcome) (vs : List Outcome)
    → rest_of (gathered bound o) vs ≡ given o (λ r. given (all_of vs) (λ ss. best_of_all bound (Ok r) ss))
gathered_rest bound (Ok r) vs = refl
gathered_rest bound (Err e) vs = refl

-- the value of an expression is that of its tree
abbrev pub IsTreeValue : List (List ℕ × Ratio) → Expr → Type 0
IsTreeValue vars e = value_of vars e ≡ tree_value vars (tree_of e)

-- operands with what is known of them
abbrev Operand : List (List ℕ × Ratio) → Type 0
Operand vars = (e : Expr) × IsTreeValue vars e

abbrev bare : (vars : List (List ℕ × Ratio)) → Operator × Operand vars → Operator × Expr
bare vars l = (l.0, l.1.0)

abbrev treed : Operator × Expr → Operator × Tree
treed l = (l.0, tree_of l.1)

abbrev valued : List (List ℕ × Ratio) → Operator × Expr → Operator × Outcome
valued vars l = (l.0, value_of vars l.1)

same_links : (vars : List (List ℕ × Ratio)) (ls : List (Operator × Operand vars))
    → map (valued vars) (map (bare vars) ls) ≡ map (judged vars) (map treed (map (bare vars) ls))
same_links vars [] = refl
same_links vars (l ∷ ls) =
    ap (λ (v : Outcome). (l.0, v) ∷ map (valued vars) (map (bare vars) ls)) l.1.1
    ∙ ap (λ (vs : List (Operator × Outcome)). (l.0, tree_value vars (tree_of l.1.0)) ∷ vs) (same_links vars ls)

same_others : (vars : List (List ℕ × Ratio)) (os : List (Operand vars))
    → map (value_of vars) (map (λ o. o.0) os) ≡ map (tree_value vars) (map tree_of (map (λ o. o.0) os))
same_others vars [] = refl
same_others vars (o ∷ os) =
    ap (λ (v : Outcome). v ∷ map (value_of vars) (map (λ o. o.0) os)) o.1
    ∙ ap (λ (vs : List Outcome). tree_value vars (tree_of o.0) ∷ vs) (same_others vars os)

-- one layer
abbrev IsLayer : List (List ℕ × Ratio) → Expr-F Expr → Type 0
IsLayer vars x =
    part_value vars (map-Expr Expr Outcome (value_of vars) x) ≡ tree_value vars (part_tree (map-Expr Expr Tree tree_of x))

layer : (vars : List (List ℕ × Ratio)) (y : Expr-F (Operand vars)) → IsLayer vars (map-Expr (Operand vars) Expr (λ e. e.0) y)
layer vars (Expr-F.Number v unit) = refl
layer vars (Expr-F.Name bytes) = refl
layer vars (Expr-F.Chain first rest) =
    let links = map treed (map (bare vars) rest.items) in
    ap (λ (vs : List (Operator
    × Outcome)). given (value_of vars first.value.0) (λ r. chain_of r vs)) (same_links vars rest.items)
    ∙ ap (λ (o : Outcome). given o (λ r. chain_of r (map (judged vars) links))) first.value.1
    ∙ sym (links_value vars (chain (tree_of first.value.0)) links)
layer vars (Expr-F.Extreme bound first rest) =
    let others = map tree_of (map (λ o. o.0) rest.items) in
    ap (λ (vs : List Outcome). given (value_of vars first.value.0) (λ r. extreme_of bound r vs)) (same_others vars rest.items)
    ∙ ap (λ (o : Outcome). given o (λ r. extreme_of bound r (map (tree_value vars) others))) first.value.1
    ∙ sym (gathered_rest bound (tree_value vars (tree_of first.value.0)) (map (tree_value vars) others))
    ∙ sym (others_value vars (extreme bound (tree_of first.value.0)) others)

pub value_is_tree_value : (vars : List (List ℕ × Ratio)) (e : Expr) → IsTreeValue vars e
value_is_tree_value vars = ind-Expr (IsTreeValue vars) (λ x y is.
    fold-roll-Expr Outcome (part_value vars) x ∙ subst (IsLayer vars) is (layer vars y)
    ∙ ap (tree_value vars) (sym (fold-roll-Expr Tree part_tree x)))

-- expressions with one tree have one value
pub same_value : (vars : List (List ℕ × Ratio)) (e f : Expr) → tree_of e ≡ tree_of f → value_of vars e ≡ value_of vars f
same_value vars e f same = value_is_tree_value vars e ∙ ap (tree_value vars) same ∙ sym (value_is_tree_value vars f)

-- a number divided by 1
int_div-one : (z : ℤ) → int_div z (pos 1) ≡ z
int_div-one (pos n) = ap pos (div-one n)
int_div-one (negsuc n) = ap (λ m. neg_ℤ (pos m)) (div-one (suc n))

-- a whole number in lowest terms
lowest-whole : (z : ℤ) → lowest z (pos 1) ≡ whole z
unfolding lowest divisor_of remainders
lowest-whole z = ap (λ (n : ℤ). record { numerator = n; denominator = pos 1 }) (int_div-one z)

-- a whole number in a unit
pub unit_value : (n : ℤ) (unit : units.Unit) → unsigned_abs (n *ℤ femtoseconds_of unit) < 2 ^ 127
    → product_of (whole n) (whole (femtoseconds_of unit)) ≡ Ok (whole (n *ℤ femtoseconds_of unit))
unit_value n unit h =
    let z = n *ℤ femtoseconds_of unit in
    let is : within z ≡ Ok z =
    cond-true (nat_lt (unsigned_abs z) (2 ^ 127)) (Ok z) (Err OutOfRange) (lt-ltb (unsigned_abs z) (2 ^ 127) h) in
    ap (λ (r : Result ℤ ExprFault). given r (λ above. given (within (pos 1 *ℤ pos 1)) (λ below. Ok (lowest above below)))) is
    ∙ ap (λ (r : Ratio). Ok r) (lowest-whole z)

pub number_value : (vars : List (List ℕ × Ratio)) (e : Expr) (n : ℤ) (unit : units.Unit) → tree_of e ≡ number (whole n) unit
    → unsigned_abs (n *ℤ femtoseconds_of unit) < 2 ^ 127 → value_of vars e ≡ Ok (whole (n *ℤ femtoseconds_of unit))
number_value vars e n unit same h = value_is_tree_value vars e ∙ ap (tree_value vars) same ∙ unit_value n unit h
