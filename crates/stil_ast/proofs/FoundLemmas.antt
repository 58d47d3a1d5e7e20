-- The first fault of two, and of lists one behind the other; there is one at most.
use Rattle.std.proofs.Common.{◌≡◌, Bool, true, false, List, [], ◌∷◌, ◌++◌, Option, Some, None, refl, ap, ◌∙◌}
use Rattle.stil_ast.specs.Faults.Found.{refuse_if, or_else, first_in}
use Rattle.stil_ast.specs.declared.fault.StilFault.{StilFault}

-- where there is none there is not one
pub not_both : (o : Option StilFault) (f : StilFault) → o ≡ None → o ≡ Some f → ⊥
not_both o f none some = cc

-- there is one at most
pub one_fault : (f g : StilFault) → ◌≡◌ {A = Option StilFault} (Some f) (Some g) → f ≡ g
one_fault f g same = cc

-- where the first of two is none, neither is one
pub or_else-none : (a b : Option StilFault) → or_else a b ≡ None → (a ≡ None) × (b ≡ None)
or_else-none None b e = (refl, e)
or_else-none (Some fault) b e = cc

-- where both are none, there is none
pub none_both : (a b : Option StilFault) → a ≡ None → b ≡ None → or_else a b ≡ None
none_both a b first second = ap (λ (o : Option StilFault). or_else o b) first ∙ second

pub or_else-both : (a b c : Option StilFault) → or_else a (or_else b c) ≡ or_else (or_else a b) c
or_else-both None b c = refl
or_else-both (Some f) b c = refl

-- the first in two lists, one behind the other
pub first_in-append : {X : Type 0} (rule : X → Option StilFault) (xs ys : List X)
    → first_in rule (xs ++ ys) ≡ or_else (first_in rule xs) (first_in rule ys)
first_in-append rule [] ys = refl
first_in-append rule (x ∷ xs) ys =
    ap (or_else (rule x)) (first_in-append rule xs ys) ∙ or_else-both (rule x) (first_in rule xs) (first_in rule ys)

-- what isn't refused isn't so
pub not_refused : (b : Bool) (f : StilFault) → refuse_if b f None ≡ None → b ≡ false
not_refused true f e = cc
not_refused false f e = refl
