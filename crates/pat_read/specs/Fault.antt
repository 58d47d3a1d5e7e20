-- What readers of data and of statements answer.
use Rattle.std.specs.Prelude.{◌≡◌, ℕ, Result, Ok, Err}
use Rattle.stil_form.specs.declared.fault.FormKind.{FormKind}
use Rattle.stil_form.specs.declared.fault.FormKind.TheVariants as kind
use Rattle.stil_form.specs.declared.fault.FormFault.{FormFault}
use Rattle.stil_form.specs.declared.fault.FormFault.TheVariants as form
use Rattle.pat_read.specs.declared.fault.DataFault.{DataFault}
use Rattle.pat_read.specs.declared.fault.DataFault.TheVariants.{NoMemory, Shape, LeftOut, OutOfRange}

-- what a reader of data answers, where it is to answer this: the same, or want of memory
abbrev pub DataAnswers : {X Y : Type 0} → (X → Y) → Result X DataFault → Result Y FormKind → Type 0
DataAnswers view (Ok x) wanted = wanted ≡ Ok (view x)
DataAnswers view (Err NoMemory) wanted = Unit {0}
DataAnswers view (Err Shape) wanted = wanted ≡ Err kind.Shape
DataAnswers view (Err LeftOut) wanted = wanted ≡ Err kind.LeftOut
DataAnswers view (Err OutOfRange) wanted = wanted ≡ Err kind.OutOfRange

-- the same fault, of the statement with this first token
abbrev pub fault_at : DataFault → ℕ → FormFault
fault_at NoMemory first = form.NoMemory
fault_at Shape first = form.Refused kind.Shape first
fault_at LeftOut first = form.Refused kind.LeftOut first
fault_at OutOfRange first = form.Refused kind.OutOfRange first
