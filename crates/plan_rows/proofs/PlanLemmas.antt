-- A text has a plan or a fault, and only one.
use Rattle.std.proofs.Common.{◌≡◌, ℕ, List, [], ◌∷◌, ◌++◌, length, Result, Ok, Err, refl, sym, ap, ◌∙◌, arith, append_assoc}
use Rattle.csv.specs.Reading.{Reached, default_config, strip_bom}
use Rattle.csv.specs.declared.parser.State.{State}
use Rattle.csv.specs.declared.parser.State.TheVariants as st
use Rattle.answers.specs.Reading.{and_then, reading}
use Rattle.answers.proofs.ReadingLemmas.{reading-append, length-reading}
use Rattle.plan_rows.specs.Judging.{judge, plan_of}
use Rattle.plan_rows.specs.Plan.{HasRecords, IsPlan, IsFault}
use Rattle.plan_rows.specs.declared.row.Row.{Row}
use Rattle.plan_rows.specs.declared.fault.PlanFault.{PlanFault}
use Rattle.plan_rows.specs.declared.fault.PlanFault.TheVariants.{Shape}
use Rattle.plan_rows.proofs.RecordLemmas.{one_records, some_records, Reached-append}
use Rattle.plan_rows.proofs.FirstLemmas.{plan_of-some}

-- a text's records are one list
pub one_list : (bytes : List ℕ) (a b : List (List (List ℕ))) → HasRecords bytes a → HasRecords bytes b → a ≡ b
one_list bytes a b (sa, ya, ra, na) (sb, yb, rb, nb) = one_records default_config st.StartRecord sa sb (strip_bom bytes) ya yb a b ra na rb nb

-- what plans and faults of one text are
one_answer : (bytes : List ℕ) (a b : List (List (List ℕ))) (r s : Result (List Row) PlanFault) → HasRecords bytes a → plan_of a ≡ r →
    HasRecords bytes b → plan_of b ≡ s → r ≡ s
one_answer bytes a b r s ha ra hb rb = sym ra ∙ ap plan_of (one_list bytes a b ha hb) ∙ rb

pub one_plan : (bytes : List ℕ) (a b : List Row) → IsPlan bytes a → IsPlan bytes b → a ≡ b
one_plan bytes a b p q = let same : Ok a ≡ Ok b = one_answer bytes p.records q.records (Ok a) (Ok b) p.are p.read q.are q.read in cc

pub one_fault : (bytes : List ℕ) (f g : PlanFault) → IsFault bytes f → IsFault bytes g → f ≡ g
one_fault bytes f g p q = let same : Err f ≡ Err g = one_answer bytes p.records q.records (Err f) (Err g) p.are p.read q.are q.read in cc

pub no_fault_where_read : (bytes : List ℕ) (rows : List Row) (f : PlanFault) → IsPlan bytes rows → IsFault bytes f → ⊥
no_fault_where_read bytes rows f p q =
    let same : Ok rows ≡ Err f = one_answer bytes p.records q.records (Ok rows) (Err f) p.are p.read q.are q.read in cc

-- a record that is refused, and whatever stands behind it
pub fault_found : (bytes : List ℕ) (records : List (List (List ℕ))) (rows : List Row) (fields : List (List ℕ)) (e : PlanFault) (s : State) (ys : List ℕ) →
    Reached default_config st.StartRecord (strip_bom bytes) (records ++ fields ∷ []) s ys → reading judge [] records ≡ Ok rows →
    judge rows fields ≡ Err e → IsFault bytes e
fault_found bytes records rows fields e s ys reached is judged =
    let (rest, (s2, zs, more, none)) = some_records (length ys) default_config s ys (omega arith) in
    let all : Reached default_config st.StartRecord (strip_bom bytes) ((records ++ fields ∷ []) ++ rest) s2 zs =
    Reached-append default_config st.StartRecord s s2 (strip_bom bytes) ys zs (records ++ fields ∷ []) rest reached more in
    record {
      records = (records ++ fields ∷ []) ++ rest;
      are = (s2, zs, all, none);
      read = ap plan_of (append_assoc records (fields ∷ []) rest) ∙ plan_of-some records fields rest
          ∙ reading-append judge [] rows records (fields ∷ rest) is
          ∙ ap (λ (r : Result Row PlanFault). and_then r (λ y. reading judge (rows ++ y ∷ []) rest)) judged;
    }

pub empty_found : (bytes : List ℕ) (records : List (List (List ℕ))) (rows : List Row) → HasRecords bytes records → reading judge [] records ≡ Ok rows →
    length rows ≡ 0 → IsFault bytes (Shape 1)
empty_found bytes [] rows are is none = record { records = []; are = are; read = refl }
empty_found bytes (r ∷ records) rows are is none = absurd (omega (arith, length-reading judge [] rows (r ∷ records) is))
