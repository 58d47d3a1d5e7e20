-- A fault is that of the first refused record.
use Rattle.std.proofs.Common.{◌≡◌, ℕ, List, [], ◌∷◌, ◌++◌, Err, refl, sym, ap, ◌∙◌, inl, inr}
use Rattle.answers.specs.Reading.{reading}
use Rattle.answers.proofs.ReadingLemmas.{first_is, is_first}
use Rattle.plan_rows.specs.Judging.{judge, plan_of}
use Rattle.plan_rows.specs.Plan.{IsFaultOf}
use Rattle.plan_rows.specs.declared.fault.PlanFault.{PlanFault}
use Rattle.plan_rows.specs.declared.fault.PlanFault.TheVariants.{Shape}

-- a fault of records is that of a first refused one, or that there is none
pub fault_is : (records : List (List (List ℕ))) (fault : PlanFault) → plan_of records ≡ Err fault → IsFaultOf records fault
fault_is [] fault is = let same : Shape 1 ≡ fault = cc in inl (refl, sym same)
fault_is (r ∷ rs) fault is = inr (first_is judge [] (r ∷ rs) fault is)

-- with one record, a plan is what its records are read as
pub plan_of-some : (front : List (List (List ℕ))) (here : List (List ℕ)) (back : List (List (List ℕ)))
    → plan_of (front ++ here ∷ back) ≡ reading judge [] (front ++ here ∷ back)
plan_of-some [] here back = refl
plan_of-some (r ∷ front) here back = refl

-- back
pub is_fault : (records : List (List (List ℕ))) (fault : PlanFault) → IsFaultOf records fault → plan_of records ≡ Err fault
is_fault records fault (inl none) = ap plan_of none.0 ∙ ap Err (sym none.1)
is_fault records fault (inr first) =
    ap plan_of first.split ∙ plan_of-some first.front first.here first.back ∙ sym (ap (reading judge []) first.split)
    ∙ is_first judge [] records fault first
