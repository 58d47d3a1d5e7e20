-- What a test engineer expects of statements: laws of the definitions.
use Rattle.std.specs.Prelude.{◌≡◌, ℕ, zero, suc, ◌+◌, ◌<◌, ◌&&◌, not, Bool, true, false, List, [], ◌∷◌, ◌++◌, Option, Some, None, length, flat_map, map, slice_get, slice_index_or}
use Rattle.std.specs.List.{list_all}
use Rattle.text_bytes.specs.Limits.{deepest_calls}
use Rattle.stil_ast.specs.Meaning.State.{State, Vector}
use Rattle.stil_ast.specs.Meaning.Statements.{Item, hash, Assign, Statements, finish, place, wave, vector, condition, loop, expand, call, shift, stop}
use Rattle.stil_ast.specs.Meaning.Arguments.{given, argument_of}
use Rattle.stil_ast.specs.Meaning.Dealing.{has_signal, is_hash, is_character}
use Rattle.stil_ast.specs.Meaning.Shift.{taking}
use Rattle.stil_ast.specs.Meaning.Running.{Setting, Made, Here, Ran, run, outside}
use Rattle.stil_ast.specs.Meaning.Cycles.{Dated, dated}
use Rattle.stil_ast.specs.Meaning.Tables.{inherited, leads_into_cycle, lineage}
use Rattle.stil_ast.specs.Meaning.Flat.{flat_run}
use Rattle.stil_ast.specs.Meaning.Flattening.{flat_of}
use Rattle.stil_ast.specs.declared.timing.TableDecl.{TableDecl}

-- a Loop of m + n is a Loop of m and then one of n
abbrev pub LoopSplits : Type 0
LoopSplits = (t : Setting) (m n : ℕ) (body rest : Statements) (h : Here) →
    run t (loop (m + n) body rest) h ≡ run t (loop m body (loop n body rest)) h

-- statements, and then others
abbrev pub followed_by : Statements → Statements → Statements
followed_by finish after = after
followed_by (place p rest) after = place p (followed_by rest after)
followed_by (wave table rest) after = wave table (followed_by rest after)
followed_by (vector assigns rest) after = vector assigns (followed_by rest after)
followed_by (condition assigns rest) after = condition assigns (followed_by rest after)
followed_by (loop count body rest) after = loop count body (followed_by rest after)
followed_by (expand body assigns rest) after = expand body assigns (followed_by rest after)
followed_by (call body assigns rest) after = call body assigns (followed_by rest after)
followed_by (shift body rest) after = shift body (followed_by rest after)
followed_by (stop rest) after = stop rest

-- data without `#` and `%`
abbrev pub all_characters : List Assign → Bool
all_characters [] = true
all_characters (a ∷ assigns) = list_all is_character a.items && all_characters assigns

-- statements without `#`, `%`, Shift and Stop
abbrev pub takes_nothing : Statements → Bool
takes_nothing finish = true
takes_nothing (place p rest) = takes_nothing rest
takes_nothing (wave table rest) = takes_nothing rest
takes_nothing (vector assigns rest) = all_characters assigns && takes_nothing rest
takes_nothing (condition assigns rest) = all_characters assigns && takes_nothing rest
takes_nothing (loop count body rest) = takes_nothing body && takes_nothing rest
takes_nothing (expand body assigns rest) = takes_nothing rest
takes_nothing (call body assigns rest) = takes_nothing rest
takes_nothing (shift body rest) = false
takes_nothing (stop rest) = false

-- whether each body that statements name passes a test
abbrev pub bodies_pass : Setting → (Option Statements → Bool) → Statements → Bool
bodies_pass t test finish = true
bodies_pass t test (place p rest) = bodies_pass t test rest
bodies_pass t test (wave table rest) = bodies_pass t test rest
bodies_pass t test (vector assigns rest) = bodies_pass t test rest
bodies_pass t test (condition assigns rest) = bodies_pass t test rest
bodies_pass t test (loop count body rest) = bodies_pass t test body && bodies_pass t test rest
bodies_pass t test (expand body assigns rest) = test (slice_get t.macros body) && bodies_pass t test rest
bodies_pass t test (call body assigns rest) = test (slice_get t.procedures body) && bodies_pass t test rest
bodies_pass t test (shift body rest) = bodies_pass t test body && bodies_pass t test rest
bodies_pass t test (stop rest) = true

-- whether the calls of a body go at most so deep
unfoldable pub calls_within : Setting → ℕ → Option Statements → Bool
calls_within t zero body = false
calls_within t (suc depth) None = true
calls_within t (suc depth) (Some body) = bodies_pass t (calls_within t depth) body

-- a Macro without arguments is its body
abbrev pub MacroIsItsBody : Type 0
MacroIsItsBody = (t : Setting) (m : ℕ) (body rest : Statements) (h : Here) →
    slice_get t.macros m ≡ Some body → takes_nothing body ≡ true → bodies_pass t (calls_within t 63) body ≡ true →
    run t (expand m [] rest) h ≡ run t (followed_by body rest) h

-- after a Call all is as it was for the caller
abbrev pub CallGivesBack : Type 0
CallGivesBack =
    (t : Setting) (p : ℕ) (assigns : List Assign) (h : Here) → (run t (call p assigns finish) h).here ≡ h

-- the Shift of a signal: `Shift { V { signal=#; } }`
abbrev pub shift_of : ℕ → Statements
shift_of signal = shift (vector (record { signals = signal ∷ []; items = hash ∷ [] } ∷ []) finish) finish

-- the characters that a signal has in vectors
abbrev pub shown_at : ℕ → List Made → List (Option ℕ)
shown_at signal made = map (λ (m : Made). slice_index_or m.vector.characters signal None) made

-- a Shift shifts each character of its data once, in order
abbrev pub ShiftIsInOrder : Type 0
ShiftIsInOrder = (t : Setting) (signal : ℕ) (characters : List ℕ) (h : Here) →
    signal < length h.state.characters → signal < length h.args →
    (argument_of h.args signal).left ≡ map given characters →
    shown_at signal (run t (shift_of signal) h).made ≡ map (λ c. Some c) characters

-- a body of W, V and C alone, as a Shift may hold it
abbrev pub is_plain : Statements → Bool
is_plain finish = true
is_plain (place p rest) = is_plain rest
is_plain (wave table rest) = is_plain rest
is_plain (vector assigns rest) = is_plain rest
is_plain (condition assigns rest) = is_plain rest
is_plain (loop count body rest) = false
is_plain (expand body assigns rest) = false
is_plain (call body assigns rest) = false
is_plain (shift body rest) = false
is_plain (stop rest) = false

-- behind a Shift nothing is left of a signal's data that takes in it
abbrev pub ShiftUsesUp : Type 0
ShiftUsesUp = (t : Setting) (body : Statements) (signal : ℕ) (h : Here) →
    is_plain body ≡ true → has_signal (taking body) signal ≡ true →
    (argument_of (run t (shift body finish) h).here.args signal).left ≡ []

-- whether statements assign nothing to a signal, and run no other bodies
abbrev pub all_leave : ℕ → List Assign → Bool
all_leave signal [] = true
all_leave signal (a ∷ assigns) = not (has_signal a.signals signal) && all_leave signal assigns

-- whether statements leave a signal as it is
abbrev pub leaves : ℕ → Statements → Bool
leaves signal finish = true
leaves signal (place p rest) = leaves signal rest
leaves signal (wave table rest) = leaves signal rest
leaves signal (vector assigns rest) = all_leave signal assigns && leaves signal rest
leaves signal (condition assigns rest) = all_leave signal assigns && leaves signal rest
leaves signal (loop count body rest) = leaves signal body && leaves signal rest
leaves signal (expand body assigns rest) = false
leaves signal (call body assigns rest) = false
leaves signal (shift body rest) = leaves signal body && leaves signal rest
leaves signal (stop rest) = true

-- each vector shows this character
abbrev pub EachShows : ℕ → Option ℕ → List Made → Type 0
EachShows signal c [] = Unit {0}
EachShows signal c (m ∷ made) = (slice_index_or m.vector.characters signal None ≡ c) × EachShows signal c made

-- a run in which a signal keeps its character, in each vector and behind it
pub record Keeps (signal : ℕ) (c : Option ℕ) (r : Ran Here) : Type 0 where
  pub vectors : EachShows signal c r.made
  pub state : slice_index_or r.here.state.characters signal None ≡ c

-- a signal that nothing assigns keeps its character
abbrev pub SignalKeepsCharacter : Type 0
SignalKeepsCharacter =
    (t : Setting) (signal : ℕ) (statements : Statements) (h : Here) → leaves signal statements ≡ true →
    Keeps signal (slice_index_or h.state.characters signal None) (run t statements h)

-- cycle k + 1 starts where cycle k ends
abbrev pub CyclesFollow : Type 0
CyclesFollow = (period : Vector → ℕ) (vectors : List Vector) (k : ℕ) (d : Dated) → k + 1 < length vectors →
    (slice_index_or (dated period vectors) (k + 1) d).start
    ≡ (slice_index_or (dated period vectors) k d).start + period (slice_index_or (dated period vectors) k d).vector

-- an item other than `#`
abbrev pub is_not_hash : Item → Bool
is_not_hash item = not (is_hash item)

-- data without `#`
abbrev pub no_hashes : List Assign → Bool
no_hashes [] = true
no_hashes (a ∷ assigns) = list_all is_not_hash a.items && no_hashes assigns

-- statements without `#` and Shift, which leave the arguments as they are
abbrev pub is_steady : Statements → Bool
is_steady finish = true
is_steady (place p rest) = is_steady rest
is_steady (wave table rest) = is_steady rest
is_steady (vector assigns rest) = no_hashes assigns && is_steady rest
is_steady (condition assigns rest) = no_hashes assigns && is_steady rest
is_steady (loop count body rest) = is_steady body && is_steady rest
is_steady (expand body assigns rest) = is_steady rest
is_steady (call body assigns rest) = is_steady rest
is_steady (shift body rest) = false
is_steady (stop rest) = true

-- whether no `#` and no Shift stands in a Loop, as the rules on patterns ask
abbrev pub steady_loops : Statements → Bool
steady_loops finish = true
steady_loops (place p rest) = steady_loops rest
steady_loops (wave table rest) = steady_loops rest
steady_loops (vector assigns rest) = steady_loops rest
steady_loops (condition assigns rest) = steady_loops rest
steady_loops (loop count body rest) = is_steady body && steady_loops body && steady_loops rest
steady_loops (expand body assigns rest) = steady_loops rest
steady_loops (call body assigns rest) = steady_loops rest
steady_loops (shift body rest) = steady_loops body && steady_loops rest
steady_loops (stop rest) = true

-- a run without what is held, the arguments and the last place
abbrev pub with_state : Ran Here → Ran State
with_state r = record { made = r.made; here = r.here.state }

-- whether no `#` and no Shift stands in a Loop of statements, and each body that they name passes a test
abbrev pub runs_steady : Setting → (Option Statements → Bool) → Statements → Bool
runs_steady t test statements = steady_loops statements && bodies_pass t test statements

-- the same of a body that runs, and of those that run in it, so deep
unfoldable pub steady_within : Setting → ℕ → Option Statements → Bool
steady_within t zero body = true
steady_within t (suc depth) None = true
steady_within t (suc depth) (Some body) = runs_steady t (steady_within t depth) body

-- the same of a pattern's own statements and of all bodies that run in it
abbrev pub is_steady_pattern : Setting → Statements → Bool
is_steady_pattern t statements = runs_steady t (steady_within t deepest_calls) statements

-- the flat tree of a pattern has the pattern's run: its vectors with their places, and the state that it leaves
abbrev pub FlatTreeAgrees : Type 0
FlatTreeAgrees = (t : Setting) (statements : Statements) (s : State) → is_steady_pattern t statements ≡ true →
    flat_run (flat_of t statements) (outside s).held s ≡ with_state (run t statements (outside s))

-- A table that leads into no cycle is made of the tables that it inherits, each behind its own, and then of itself.
abbrev pub LineageFollows : Type 0
LineageFollows = (tables : List TableDecl) (table : ℕ) → leads_into_cycle tables table ≡ false →
    lineage tables table ≡ flat_map (lineage tables) (inherited tables table) ++ (table ∷ [])
