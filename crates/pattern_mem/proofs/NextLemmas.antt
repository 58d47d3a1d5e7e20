-- Cycles that are given one by one are given in one way.
use Rattle.std.proofs.Common.{◌≡◌, List, [], ◌∷◌, length, Option, Some, None, refl, sym, subst, ◌∙◌, arith}
use Rattle.tester_types.specs.declared.cycle.Cycle.{Cycle}
use Rattle.pattern_mem.specs.Nexts.{IsNext, AreNexts}

-- what comes next is one, and so is what comes behind it
pub one_next : (before : List Cycle) (answer other : Option Cycle) (after later : List Cycle)
    → IsNext before answer after → IsNext before other later → (answer ≡ other) × (after ≡ later)
one_next before None None after later a b = (refl, a.none ∙ sym b.none)
one_next before None (Some y) after later a b =
    let never : [] ≡ y ∷ later = sym a.none ∙ sym a.given ∙ b.given in cc
one_next before (Some x) None after later a b =
    let never : [] ≡ x ∷ after = sym b.none ∙ sym b.given ∙ a.given in cc
one_next before (Some x) (Some y) after later a b =
    let both : x ∷ after ≡ y ∷ later = sym a.given ∙ b.given in (cc, cc)

-- as many answers, one after another, are the same
pub one_whole : (before : List Cycle) (answers others : List (Option Cycle)) (after later : List Cycle)
    → AreNexts before answers after → AreNexts before others later → length answers ≡ length others
    → (answers ≡ others) × (after ≡ later)
one_whole before [] [] after later a b same = (refl, a ∙ sym b)
one_whole before [] (y ∷ ys) after later a b same = absurd (omega arith)
one_whole before (x ∷ xs) [] after later a b same = absurd (omega arith)
one_whole before (x ∷ xs) (y ∷ ys) after later a b same =
    let next = one_next before x y a.0 b.0 a.1 b.1 in
    let rest = one_whole a.0 xs ys after later a.2 (subst (λ (between : List Cycle). AreNexts between ys later) (sym next.1) b.2) (omega arith) in
    ((λ i. next.0 i ∷ rest.0 i), rest.1)
