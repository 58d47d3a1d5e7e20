-- The statements of a pattern, with tables, signals and bodies by their numbers (IEEE 1450-1999, clauses 22 to 24).
use Rattle.std.specs.Prelude.{ℕ, List}
use Rattle.stil_ast.specs.Data.Places.{Origin}

-- an item of data: a waveform character, `#` or `%`
pub data Item : Type 0 where
  a_character : ℕ → Item
  hash : Item
  percent : Item

-- an assignment: the signals that its reference stands for, in order, and its data
pub record Assign : Type 0 where
  pub signals : List ℕ
  pub items : List Item

-- statements in order; each holds those behind it
pub data Statements : Type 0 where
  finish : Statements
  -- where the next statement stands
  place : Origin → Statements → Statements
  -- W: a table
  wave : ℕ → Statements → Statements
  -- V and C
  vector : List Assign → Statements → Statements
  condition : List Assign → Statements → Statements
  -- Loop: how often, and its body
  loop : ℕ → Statements → Statements → Statements
  -- Macro and Call: the number of the body, and its arguments
  expand : ℕ → List Assign → Statements → Statements
  call : ℕ → List Assign → Statements → Statements
  -- Shift: its body
  shift : Statements → Statements → Statements
  stop : Statements → Statements
