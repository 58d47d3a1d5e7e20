-- Which character each signal gets from assignments (IEEE 1450-1999, clauses 21 and 22).
use Rattle.std.specs.Prelude.{ℕ, Bool, true, false, List, [], ◌∷◌, ◌++◌, ◌==◌, Option, Some, None, map, slice_index_or, slice_set, if◌then◌else◌}
use Rattle.std.specs.List.{list_any}
use Rattle.stil_ast.specs.Meaning.State.{State}
use Rattle.stil_ast.specs.Meaning.Statements.{Item, a_character, hash, percent, Assign}
use Rattle.stil_ast.specs.Meaning.Arguments.{Entry, given, padding, Argument, argument_of, next_entry, next_taken}

-- a signal gets a character
pub record Gift : Type 0 where
  pub signal : ℕ
  pub entry : Entry

-- what assignments give, in order, and the arguments that they leave
pub record Dealt : Type 0 where
  pub gifts : List Gift
  pub args : List Argument

-- what is given behind other gifts
abbrev pub behind_gifts : List Gift → Dealt → Dealt
behind_gifts gifts d = record { gifts = gifts ++ d.gifts; args = d.args }

-- one thing is given after another
abbrev pub then_deal : Dealt → (List Argument → Dealt) → Dealt
then_deal first next = behind_gifts first.gifts (next first.args)

-- a signal gets the entry, where there is one
abbrev pub gift_of : ℕ → Option Entry → List Gift
gift_of signal None = []
gift_of signal (Some entry) = record { signal = signal; entry = entry } ∷ []

-- a character stands for itself; `#` takes the signal's next one; `%` looks at it
abbrev pub deal_item : Item → ℕ → List Argument → Dealt
deal_item (a_character c) signal args = record { gifts = gift_of signal (Some (given c)); args = args }
deal_item hash signal args =
    record { gifts = gift_of signal (next_entry args signal); args = next_taken args signal }
deal_item percent signal args = record { gifts = gift_of signal (next_entry args signal); args = args }

-- data of one `#` or `%` alone stand for every signal of the reference
abbrev pub spread : List ℕ → List Item → List Item
spread signals [] = []
spread signals (a_character c ∷ items) = a_character c ∷ items
spread signals (hash ∷ []) = map (λ _. hash) signals
spread signals (hash ∷ item ∷ items) = hash ∷ item ∷ items
spread signals (percent ∷ []) = map (λ _. percent) signals
spread signals (percent ∷ item ∷ items) = percent ∷ item ∷ items

-- each signal takes its item
abbrev pub deal_pairs : List ℕ → List Item → List Argument → Dealt
deal_pairs [] items args = record { gifts = []; args = args }
deal_pairs (signal ∷ signals) [] args = record { gifts = []; args = args }
deal_pairs (signal ∷ signals) (item ∷ items) args =
    then_deal (deal_item item signal args) (deal_pairs signals items)

-- assignments in text order
abbrev pub deal : List Assign → List Argument → Dealt
deal [] args = record { gifts = []; args = args }
deal (a ∷ rest) args = then_deal (deal_pairs a.signals (spread a.signals a.items) args) (deal rest)

-- the character for which an entry stands
abbrev pub character_of : State → ℕ → Entry → Option ℕ
character_of held signal (given c) = Some c
character_of held signal padding = slice_index_or held.characters signal None

-- a state in which a signal has this character
abbrev pub with_character : ℕ → Option ℕ → State → State
with_character signal c s = record { table = s.table; characters = slice_set s.characters signal c }

-- the state once the signals have what they were given; a later gift to the same signal wins
abbrev pub received : State → List Gift → State → State
received held [] s = s
received held (g ∷ gifts) s = received held gifts (with_character g.signal (character_of held g.signal g.entry) s)

-- the signals that get a `#`
abbrev pub hashed : List ℕ → List Item → List ℕ
hashed [] items = []
hashed (signal ∷ signals) [] = []
hashed (signal ∷ signals) (a_character c ∷ items) = hashed signals items
hashed (signal ∷ signals) (hash ∷ items) = signal ∷ hashed signals items
hashed (signal ∷ signals) (percent ∷ items) = hashed signals items

-- the signals that get a `#` in assignments
abbrev pub takers : List Assign → List ℕ
takers [] = []
takers (a ∷ rest) = hashed a.signals (spread a.signals a.items) ++ takers rest

-- whether a list of signals has this one
abbrev pub has_signal : List ℕ → ℕ → Bool
has_signal signals signal = list_any (λ s. s == signal) signals

-- The mark of a vector: how many characters the first scan-out signal that takes one in it has then taken.
abbrev pub mark_of : List ℕ → List ℕ → List Argument → ℕ
mark_of [] taking args = 0
mark_of (out ∷ outs) taking args =
    if has_signal taking out then (argument_of args out).taken else mark_of outs taking args

-- whether an item is `#`
abbrev pub is_hash : Item → Bool
is_hash (a_character c) = false
is_hash hash = true
is_hash percent = false

-- whether an item is a character
abbrev pub is_character : Item → Bool
is_character (a_character c) = true
is_character hash = false
is_character percent = false
