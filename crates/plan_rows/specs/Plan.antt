-- The plan that a text is, and the fault of a text that is none.
use Rattle.std.specs.Prelude.{◌≡◌, ◌⊎◌, ℕ, List, [], Result, Ok, Err}
use Rattle.csv.specs.Reading.{AreRecords, default_config, strip_bom}
use Rattle.csv.specs.declared.parser.State.TheVariants as st
use Rattle.answers.specs.Reading.{IsFirst}
use Rattle.plan_rows.specs.Judging.{judge, plan_of}
use Rattle.plan_rows.specs.declared.row.Row.{Row}
use Rattle.plan_rows.specs.declared.fault.PlanFault.{PlanFault}
use Rattle.plan_rows.specs.declared.fault.PlanFault.TheVariants.{NoMemory, Shape}

-- the records of a text, as comma-separated values without a heading are read
abbrev pub HasRecords : List ℕ → List (List (List ℕ)) → Type 0
HasRecords bytes records = AreRecords default_config st.StartRecord (strip_bom bytes) records

-- the text is a plan of these rows
pub record IsPlan (bytes : List ℕ) (rows : List Row) : Type 0 where
  pub records : List (List (List ℕ))
  pub are : HasRecords bytes records
  pub read : plan_of records ≡ Ok rows

-- the text is no plan, and this is the first fault of its records
pub record IsFault (bytes : List ℕ) (fault : PlanFault) : Type 0 where
  pub records : List (List (List ℕ))
  pub are : HasRecords bytes records
  pub read : plan_of records ≡ Err fault

-- the fault of records: that of the first that is refused, behind the rows of those before it, or that there is none
abbrev pub IsFaultOf : List (List (List ℕ)) → PlanFault → Type 0
IsFaultOf records fault = ((records ≡ []) × (fault ≡ Shape 1)) ⊎ IsFirst judge [] records fault

-- what a pass answers: a value that is wanted, or else a fault that is told so, or want of memory
abbrev pub Answers : {A : Type 0} → (A → Type 0) → (PlanFault → Type 0) → Result A PlanFault → Type 0
Answers Wanted Told (Ok x) = Wanted x
Answers Wanted Told (Err fault) = (fault ≡ NoMemory) ⊎ Told fault
