-- How the code finds the values of variables. No public clause cites this file.
use Rattle.std.specs.Prelude.{◌≡◌, ℕ, suc, ◌+◌, ◌≤◌, Bool, true, false, not, ◌&&◌, List, Option, Some, None, option_map, is_none, is_some, IsSome, Result, Ok, Err, length, find, count_by, nat_lt}
use Rattle.std.specs.Borrow.{Bor}
use Rattle.std.specs.Option.{option_copied}
use Rattle.std.specs.Str.{bytes_eq}
use Rattle.indexmap.specs.IndexMap.{IndexMap, get_by}
use Rattle.stil_ast.specs.Data.Places.{Place}
use Rattle.stil_ast.specs.Meaning.Times.{Met, in_text}
use Rattle.stil_ast.specs.Meaning.Variables.{Variable, value_of_found, value_within, value_of, value_fault, variables_fault}
use Rattle.stil_ast.specs.Faults.Found.{fault_at, unless, first_in, refuse_if}
use Rattle.text_bytes.specs.Limits.{most_variables}
use Rattle.stil_ast.specs.Data.Texts.{same, has_name}
use Rattle.stil_ast.specs.declared.fault.StilFault.{StilFault}
use Rattle.stil_ast.specs.declared.fault.StilKind.TheVariants.{UnknownName, OutOfRange, Twice}
use Rattle.stil_ast.specs.Data.Refusal.{StilRefusal}
use Rattle.answers.specs.Answers.{Blames, Finds}
use Rattle.expr_text.specs.Ratio.{Ratio}
use Rattle.expr_text.specs.Vars.{value_of_name}
use Rattle.time_expr.specs.TimesOf.{times_of}
use Rattle.time_expr.specs.NamedValue.{kind_of}
use Rattle.expr_text.specs.declared.fault.ExprFault.{ExprFault}
use Rattle.expr_text.specs.declared.fault.ExprFault.TheVariants as fault
use Rattle.time_expr.specs.TimeIn.{AreNames}
use Rattle.time_expr.specs.Picked.{variable_of, place_of}
use Rattle.time_expr.specs.declared.picked.Picked.{Picked}
use Rattle.time_expr.specs.declared.stop.Stop.{Stop}
use Rattle.time_expr.specs.declared.stop.Stop.TheVariants as stop
use Rattle.time_expr.specs.declared.walk.Step.{Step}
use Rattle.time_expr.specs.declared.walk.Step.TheVariants as step

-- the first variable of a name
abbrev pub variable_named : List Variable → List ℕ → Option Variable
variable_named vs name = find (λ v. same v.name name) vs

-- a variable without where it lies in memory
abbrev pub variable_at : Option (Bor Picked) → Option Variable
variable_at found = option_map variable_of (option_copied found)

-- what is kept for a name
abbrev pub variable_in : {S : Type 0} → IndexMap (Bor (List ℕ)) (Bor Picked) S → List ℕ → Option Variable
variable_in index name = variable_at (get_by (λ k. bytes_eq name k.now) index)

-- a variable may stand behind so many others, where that of its name is this
abbrev pub next_fault : ℕ → Option Variable → Place → Option StilFault → Option StilFault
next_fault place found p rest =
    unless (nat_lt place most_variables) (fault_at p OutOfRange) (refuse_if (is_some found) (fault_at p Twice) rest)

-- the variable may stand there, or this is its fault, whatever comes behind
abbrev pub Follows : {A : Type 0} → ℕ → Option Variable → Place → Result A StilRefusal → Type 0
Follows place found p (Ok done) =
    (found ≡ None) × ((rest : Option StilFault) → next_fault place found p rest ≡ rest)
Follows place found p (Err e) = (rest : Option StilFault) → Blames (next_fault place found p rest) e

-- an index keeps these variables
abbrev pub Keeps : {S : Type 0} → List Variable → IndexMap (Bor (List ℕ)) (Bor Picked) S → Type 0
Keeps vs index = (name : List ℕ) → variable_in index name ≡ variable_named vs name

-- a variable that is the first of its name and has no value so far
pub record IsOpen (vs : List Variable) (vars : List (List ℕ × Ratio)) (v : Variable) : Type 0 where
  pub first : variable_named vs v.name ≡ Some v
  pub no_value : value_of_name v.name vars ≡ None

-- what stands in the way of a text that is refused
abbrev pub IsStopBy : ExprFault → Stop → Type 0
IsStopBy fault.NoMemory s = s ≡ stop.NoMemory
IsStopBy fault.BadExpr s = s ≡ stop.Fault (kind_of fault.BadExpr)
IsStopBy fault.OutOfRange s = s ≡ stop.Fault (kind_of fault.OutOfRange)
IsStopBy fault.UnknownName s = s ≡ stop.Fault (kind_of fault.UnknownName)
IsStopBy fault.ZeroDivisor s = s ≡ stop.Fault (kind_of fault.ZeroDivisor)

-- names that have the values known so far
abbrev pub HasValues : List (List ℕ × Ratio) → (List ℕ → Result Ratio Met) → Type 0
HasValues vars names = (name : List ℕ) (r : Ratio) → value_of_name name vars ≡ Some r → names name ≡ Ok r

-- names by which an evaluation goes on: they have the values known so far, and what is no variable is unknown
pub record GoesBy (vs : List Variable) (vars : List (List ℕ × Ratio)) (names : List ℕ → Result Ratio Met) : Type 0 where
  pub known : HasValues vars names
  pub unknown : (name : List ℕ) → variable_named vs name ≡ None → names name ≡ Err (in_text UnknownName)

-- what stands in the way of an evaluation that meets the first of its names without a value
abbrev pub StopsAt : List Variable → Option (List ℕ) → Stop → Type 0
StopsAt vs missing stop.NoMemory = Unit {0}
StopsAt vs None (stop.Fault kind) = Unit {0}
StopsAt vs None (stop.Needs next) = Unit {0}
StopsAt vs (Some name) (stop.Fault kind) = (kind ≡ UnknownName) × (variable_named vs name ≡ None)
StopsAt vs (Some name) (stop.Needs next) = variable_named vs name ≡ Some (variable_of next.now)

-- what the values known so far say of a value that names give
abbrev pub Reaches : List Variable → List (List ℕ × Ratio) → ((List ℕ → Result Ratio Met) → Result Ratio Met)
    → Result Ratio Stop → Type 0
Reaches vs vars value (Ok r) = (names : List ℕ → Result Ratio Met) → HasValues vars names → value names ≡ Ok r
Reaches vs vars value (Err stop.NoMemory) = Unit {0}
Reaches vs vars value (Err (stop.Fault kind)) =
    (names : List ℕ → Result Ratio Met) → GoesBy vs vars names → value names ≡ Err (in_text kind)
Reaches vs vars value (Err (stop.Needs next)) =
    IsOpen vs vars (variable_of next.now)
    × ((names : List ℕ → Result Ratio Met) → GoesBy vs vars names → (met : Met)
    → names next.now.name.now ≡ Err met → value names ≡ Err met)

-- the same of a value that is met at a place, by names that fit; the next name is met at a spot
abbrev pub Steps : List Variable → List (List ℕ × Ratio) → ((List ℕ → Result Ratio Met) → Type 0)
    → ((List ℕ → Result Ratio Met) → Result Ratio Met) → Place → Result Ratio Step → Type 0
Steps vs vars Fits value p (Ok r) = (names : List ℕ → Result Ratio Met) → HasValues vars names → value names ≡ Ok r
Steps vs vars Fits value p (Err (step.Ends e)) =
    (names : List ℕ → Result Ratio Met) → Fits names → Blames (value_fault p (value names)) e
Steps vs vars Fits value p (Err (step.Down next spot)) =
    IsOpen vs vars (variable_of next.now)
    × ((names : List ℕ → Result Ratio Met) → Fits names → (told : StilFault)
    → value_fault (place_of spot) (names next.now.name.now) ≡ Some told
    → value_fault p (value names) ≡ Some told)

-- names by which a variable is evaluated, unless it is being evaluated already
abbrev pub GoesUnless : Bool → List Variable → List (List ℕ × Ratio) → (List ℕ → Result Ratio Met) → Type 0
GoesUnless running vs vars names = running ≡ false → GoesBy vs vars names

-- a step that goes on is from a variable that isn't being evaluated already
abbrev pub IsFresh : Bool → Result Ratio Step → Type 0
IsFresh running (Ok r) = running ≡ false
IsFresh running (Err (step.Ends e)) = Unit {0}
IsFresh running (Err (step.Down next spot)) = running ≡ false

-- the value of a variable that is being evaluated already, or is not
abbrev pub evaluated : Bool → Variable → (List ℕ → Result Ratio Met) → Result Ratio Met
evaluated running v names = value_of_found running (Some v) (times_of.value names)

-- this is the value of a variable by all names that have the values known so far
abbrev pub HasOwnValue : List (List ℕ × Ratio) → Variable → Ratio → Type 0
HasOwnValue vars v r = (names : List ℕ → Result Ratio Met) → HasValues vars names → evaluated false v names ≡ Ok r

-- the next variable that gets a value, and its value
pub record IsNext (vs : List Variable) (vars : List (List ℕ × Ratio)) (v : Variable) (r : Ratio) : Type 0 where
  pub is_open : IsOpen vs vars v
  pub value : HasOwnValue vars v r

-- names that are being evaluated have no values
abbrev pub AreApartFrom : List (List ℕ) → List (List ℕ × Ratio) → Type 0
AreApartFrom running vars = (name : List ℕ) → has_name running name ≡ true → value_of_name name vars ≡ None

-- the name of a variable has no value so far
abbrev pub has_no_value : List (List ℕ × Ratio) → Variable → Bool
has_no_value vars v = is_none (value_of_name v.name vars)

-- the values known so far are those of variables, whatever else is being evaluated, and leave room for the depth of
-- a chain
pub record AreKnown (vs : List Variable) (vars : List (List ℕ × Ratio)) : Type 0 where
  pub holds : (running : List (List ℕ)) (depth : ℕ) (name : List ℕ) (r : Ratio) → AreApartFrom running vars
      → length vars ≤ depth → value_of_name name vars ≡ Some r → value_within times_of vs depth running name ≡ Ok r
  pub room : length vars + count_by (has_no_value vars) vs ≤ length vs

-- a variable that has no value so far and isn't being evaluated
abbrev pub is_free : List (List ℕ × Ratio) → (List ℕ → Bool) → Variable → Bool
is_free vars is_running v = has_no_value vars v && not (is_running v.name)

-- how far the evaluation of a name that is met at a place has come: a variable is evaluated that is met at another
-- place
pub record IsWalk (vs : List Variable) (vars : List (List ℕ × Ratio)) (p : Place) (name : List ℕ)
    (is_running : List ℕ → Bool) (v : Variable) (q : Place) : Type 0 where
  pub running : List (List ℕ)
  pub depth : ℕ
  pub runs : (other : List ℕ) → is_running other ≡ has_name running other
  pub apart : AreApartFrom running vars
  pub is_open : IsOpen vs vars v
  pub deep : depth + length running ≡ length vs
  pub room : length vars + (length running + count_by (is_free vars is_running) vs) ≤ length vs
  pub leads : (told : StilFault) → value_fault q (value_within times_of vs (suc depth) running v.name) ≡ Some told
      → value_fault p (value_of times_of vs name) ≡ Some told

-- the next variable that gets a value, or the fault of a name that is met at a place
abbrev pub IsWalked : List Variable → List (List ℕ × Ratio) → Place → List ℕ
    → Result (Bor Picked × Ratio) StilRefusal → Type 0
IsWalked vs vars p name (Ok found) = IsNext vs vars (variable_of found.0.now) found.1
IsWalked vs vars p name (Err e) = Blames (value_fault p (value_of times_of vs name)) e

-- the values are those of the variables, which have no fault, or this is the fault
abbrev pub Chooses : List Variable → Result (List (List ℕ × Ratio)) StilRefusal → Type 0
Chooses vs result = Finds (variables_fault times_of vs) (AreNames (value_of times_of vs)) result

-- values that are known stay
abbrev pub KeepsValues : List (List ℕ × Ratio) → List (List ℕ × Ratio) → Type 0
KeepsValues before now =
    (name : List ℕ) (r : Ratio) → value_of_name name before ≡ Some r → value_of_name name now ≡ Some r

-- a name has a value among those known now, and what was known before stays
pub record IsSettled (vs : List Variable) (before now : List (List ℕ × Ratio)) (name : List ℕ) : Type 0 where
  pub known : AreKnown vs now
  pub kept : KeepsValues before now
  pub value : IsSome (value_of_name name now)

-- a name that is met at a place is settled, or the value of the variable of that name has a fault, which this is
abbrev pub Settles : List Variable → List (List ℕ × Ratio) → List (List ℕ × Ratio) → Place → List ℕ
    → Result Unit StilRefusal → Type 0
Settles vs before now p name (Ok done) = IsSettled vs before now name
Settles vs before now p name (Err e) = Blames (value_fault p (value_of times_of vs name)) e

-- the fault of a variable's value
abbrev pub own_fault : List Variable → Variable → Option StilFault
own_fault vs v = value_fault v.place (value_of times_of vs v.name)

-- the values are those of the variables, each of which has one, or this is the fault of the first that has none
abbrev pub AreValues : List Variable → Result (List (List ℕ × Ratio)) StilRefusal → Type 0
AreValues vs result = Finds (first_in (own_fault vs) vs) (AreNames (value_of times_of vs)) result
