-- What is left of the arguments of a macro or a procedure (IEEE 1450-1999, clauses 21 and 24: `#` and `%`).
use Rattle.std.specs.Prelude.{ℕ, zero, suc, pred, List, [], ◌∷◌, Option, Some, None, length, replicate, slice_index_or, slice_set}
use Rattle.stil_ast.specs.Meaning.Statements.{Item, a_character, hash, percent, Assign}

-- a character of an argument: one that was given, or what the signal had before a Shift, where its data were too short
pub data Entry : Type 0 where
  given : ℕ → Entry
  padding : Entry

-- an entry as the code names it: none is padding
abbrev pub entry_of : Option ℕ → Entry
entry_of None = padding
entry_of (Some character) = given character

-- the argument of one signal: what is left, and how many were taken
pub record Argument : Type 0 where
  pub left : List Entry
  pub taken : ℕ

-- a signal without an argument
abbrev pub no_argument : Argument
no_argument = record { left = []; taken = 0 }

-- the argument of a signal
abbrev pub argument_of : List Argument → ℕ → Argument
argument_of args signal = slice_index_or args signal no_argument

-- what stands first in what is left
abbrev pub first_of : List Entry → Option Entry
first_of [] = None
first_of (entry ∷ left) = Some entry

-- the next character of a signal's argument
abbrev pub next_entry : List Argument → ℕ → Option Entry
next_entry args signal = first_of (argument_of args signal).left

-- an argument once its first entry is taken
abbrev pub one_taken : Argument → List Entry → Argument
one_taken a [] = a
one_taken a (entry ∷ left) = record { left = left; taken = suc a.taken }

-- the arguments once it is taken
abbrev pub next_taken : List Argument → ℕ → List Argument
next_taken args signal =
    slice_set args signal (one_taken (argument_of args signal) (argument_of args signal).left)

-- every item that is a character
abbrev pub entries_of : List Item → List Entry
entries_of [] = []
entries_of (a_character c ∷ items) = given c ∷ entries_of items
entries_of (hash ∷ items) = entries_of items
entries_of (percent ∷ items) = entries_of items

-- the entry at the place, and then every width-th one
abbrev pub every : ℕ → ℕ → List Entry → List Entry
every width place [] = []
every width zero (entry ∷ entries) = entry ∷ every width (pred width) entries
every width (suc place) (entry ∷ entries) = every width place entries

-- Character number j of an argument goes to signal j modulo the number of signals. A later argument replaces.
abbrev pub dealt_out : List Entry → ℕ → ℕ → List ℕ → List Argument → List Argument
dealt_out entries width place [] args = args
dealt_out entries width place (signal ∷ signals) args =
    dealt_out entries width (suc place) signals
    (slice_set args signal (record { left = every width place entries; taken = 0 }))

-- the arguments that assignments give, over those that are there
abbrev pub with_arguments : List Assign → List Argument → List Argument
with_arguments [] args = args
with_arguments (a ∷ rest) args =
    with_arguments rest (dealt_out (entries_of a.items) (length a.signals) 0 a.signals args)

-- the arguments of a body, for as many signals as there are
abbrev pub arguments : ℕ → List Assign → List Argument
arguments signals assigns = with_arguments assigns (replicate signals no_argument)
