-- The first refusal of a bench text, in the order Line, OutOfRange, Arity, Twice, Missing, Loop.
use Rattle.std.specs.Prelude.{◌≡◌, ◌⊎◌, ℕ, ◌<◌, ◌≤◌, ◌+◌, List, [], length, Some, None, Result, Ok, Err, slice_index_or}
use Rattle.std.specs.Str.Lines.{lines}
use Rattle.text_bytes.specs.Limits.{most_nets}
use Rattle.bench_net.specs.declared.fault.NetFault.{NetFault}
use Rattle.bench_net.specs.declared.fault.NetFault.TheVariants.{NoMemory, Line, OutOfRange, Arity, Twice, Missing, Loop}
use Rattle.bench_net.specs.Wiring.{IsReached, IsUnreached}
use Rattle.bench_net.specs.Circuit.{number}
use Rattle.bench_net.specs.Line.{Form, nothing, input, output, gate, Says}
use Rattle.bench_net.specs.Net.{Reads, names, net_of, arity_fault, twice_fault, missing_fault, IsDriven}

-- what a pass answers: a value that is wanted, or else a fault that is told so, or want of memory
abbrev pub Answers : {A : Type 0} → (A → Type 0) → (NetFault → Type 0) → Result A NetFault → Type 0
Answers Wanted Told (Ok x) = Wanted x
Answers Wanted Told (Err fault) = (fault ≡ NoMemory) ⊎ Told fault

-- the line of this number, counted from 1, says nothing that a line can say, and each line before
-- it does
pub record IsFirstBadLine (bytes : List ℕ) (n : ℕ) : Type 0 where
  pub place : ℕ
  pub number_is : n ≡ place + 1
  pub within : place < length (lines bytes)
  pub bad : (form : Form) → Says (slice_index_or (lines bytes) place []) form → ⊥
  pub before : (k : ℕ) → k < place → (form : Form) × Says (slice_index_or (lines bytes) k []) form

-- the line's net, where a function drives it, is reached from inputs and flip-flops
abbrev pub IsReachedLine : List Form → Form → Type 0
IsReachedLine forms nothing = Unit {0}
IsReachedLine forms (input n) = Unit {0}
IsReachedLine forms (output n) = Unit {0}
IsReachedLine forms (gate n f pins) = IsReached (net_of forms).drivers (number (names forms) n)

-- the line's net, which a function drives, is not, and has this name
abbrev pub IsLoopLine : List Form → Form → List ℕ → Type 0
IsLoopLine forms nothing name = ⊥
IsLoopLine forms (input n) name = ⊥
IsLoopLine forms (output n) name = ⊥
IsLoopLine forms (gate n f pins) name = (name ≡ n)
    × IsUnreached (net_of forms).drivers (number (names forms) n)

-- the first line whose net is not reached has this net
pub record IsFirstLoop (forms : List Form) (name : List ℕ) : Type 0 where
  pub place : ℕ
  pub within : place < length forms
  pub loop : IsLoopLine forms (slice_index_or forms place nothing) name
  pub before : (k : ℕ) → k < place → IsReachedLine forms (slice_index_or forms k nothing)

-- the first refusal of lines that all have a form
abbrev pub IsRefusal : List Form → NetFault → Type 0
IsRefusal forms NoMemory = ⊥
IsRefusal forms (Line n) = ⊥
IsRefusal forms OutOfRange = most_nets < length (names forms)
IsRefusal forms (Arity name) = (length (names forms) ≤ most_nets) × (arity_fault forms ≡ Some name)
IsRefusal forms (Twice name) = (length (names forms) ≤ most_nets) × (arity_fault forms ≡ None)
    × (twice_fault forms ≡ Some name)
IsRefusal forms (Missing name) = (length (names forms) ≤ most_nets) × (arity_fault forms ≡ None)
    × (twice_fault forms ≡ None) × (missing_fault forms ≡ Some name)
IsRefusal forms (Loop name) = IsDriven forms × IsFirstLoop forms name

-- the text is refused by this
abbrev pub IsFault : List ℕ → NetFault → Type 0
IsFault bytes NoMemory = ⊥
IsFault bytes (Line n) = IsFirstBadLine bytes n
IsFault bytes OutOfRange = (forms : List Form) × Reads bytes forms × IsRefusal forms OutOfRange
IsFault bytes (Arity name) = (forms : List Form) × Reads bytes forms × IsRefusal forms (Arity name)
IsFault bytes (Twice name) = (forms : List Form) × Reads bytes forms × IsRefusal forms (Twice name)
IsFault bytes (Missing name) = (forms : List Form) × Reads bytes forms
    × IsRefusal forms (Missing name)
IsFault bytes (Loop name) = (forms : List Form) × Reads bytes forms × IsRefusal forms (Loop name)
