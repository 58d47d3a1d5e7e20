-- How few instructions keep the loops of a flat tree, where a Loop whose passes make equal vectors stands once.
use Rattle.std.specs.Prelude.{ℕ, zero, suc, ◌+◌, ◌==◌, ◌&&◌, Bool, true, false, List, [], ◌∷◌, Option, Some, None, map, slice_index_or, if◌then◌else◌}
use Rattle.std.specs.Cmp.Lexicographic.{pointwise}
use Rattle.stil_ast.specs.Meaning.State.{State, Vector}
use Rattle.stil_ast.specs.Meaning.Dealing.{with_character}
use Rattle.stil_ast.specs.Meaning.Running.{Made, Ran, times}
use Rattle.stil_ast.specs.Meaning.Flat.{Flat, done, table, character, back, cycle, repeat, save, saved, flat_run}

-- the vectors of a run, without their places
abbrev pub vectors_in : Ran State → List Vector
vectors_in r = map (λ (m : Made). m.vector) r.made

-- whether two tables, or two characters, are the same, or neither is there
abbrev pub same_option : Option ℕ → Option ℕ → Bool
same_option None None = true
same_option (Some a) (Some b) = a == b
same_option _ _ = false

-- whether two vectors are equal: their tables, the characters of each signal, their marks
abbrev pub same_vector : Vector → Vector → Bool
same_vector v w = same_option v.table w.table && pointwise same_option v.characters w.characters && (v.mark == w.mark)

-- a Loop of several passes, of which the first two make these vectors and take so many instructions: none where none is
-- made; its Loop, its End and one pass where they are equal; else the first pass apart, which stands before the others
abbrev pub least_passes : List Vector → List Vector → ℕ → ℕ → ℕ
least_passes [] later first second = 0
least_passes (v ∷ made) later first second =
    if pointwise same_vector (v ∷ made) later then first + 2 else first + second + 2

-- a Loop of so many passes, where a pass from a state takes so many instructions and runs so; a single one takes its
-- own
abbrev pub least_loop : ℕ → (State → ℕ) → (State → Ran State) → State → ℕ
least_loop zero least run s = 0
least_loop (suc zero) least run s = least s
least_loop (suc (suc n)) least run s =
    least_passes (vectors_in (run s)) (vectors_in (run (run s).here)) (least s) (least (run s).here)

-- How few instructions take a flat tree that begins in the state `s`, where the innermost save round it began with the
-- state `base`: one for each vector that stands in it, and those of its loops. Each part begins in the state that the
-- parts before it leave. What sets the table or a character takes none.
abbrev pub least_written : Flat → State → State → ℕ
least_written done base s = 0
least_written (table t rest) base s = least_written rest base (record { table = Some t; characters = s.characters })
least_written (character signal c rest) base s = least_written rest base (with_character signal (Some c) s)
least_written (back signal rest) base s =
    least_written rest base (with_character signal (slice_index_or base.characters signal None) s)
least_written (cycle mark spot rest) base s = 1 + least_written rest base s
least_written (repeat count body rest) base s =
    least_loop count (least_written body base) (flat_run body base) s
    + least_written rest base (times count (flat_run body base) s).here
least_written (save putting body rest) base s =
    least_written body s s + least_written rest base (saved putting s (flat_run body s s)).here
