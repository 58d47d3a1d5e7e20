-- What one answer of a walk or a cursor says of the cycles before it and behind it.
use Rattle.std.specs.Prelude.{◌≡◌, List, [], ◌∷◌, ◌++◌, Option, IfNone, option_to_list}
use Rattle.tester_types.specs.declared.cycle.Cycle.{Cycle}

-- the first of these cycles, or none where there are none, and the cycles behind it
pub record IsNext (before : List Cycle) (answer : Option Cycle) (after : List Cycle) : Type 0 where
  pub given : before ≡ option_to_list answer ++ after
  pub none : IfNone answer (after ≡ [])

-- the answers of calls one after another
abbrev pub AreNexts : List Cycle → List (Option Cycle) → List Cycle → Type 0
AreNexts before [] after = after ≡ before
AreNexts before (answer ∷ answers) after =
    (between : List Cycle) × IsNext before answer between × AreNexts between answers after
