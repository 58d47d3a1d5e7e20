-- Flat trees: what a pattern is once names, calls, arguments and shifts are resolved.
use Rattle.std.specs.Prelude.{ℕ, ◌+◌, ◌*◌, Bool, true, false, [], ◌∷◌, Some, None, slice_index_or}
use Rattle.stil_ast.specs.Meaning.State.{State}
use Rattle.stil_ast.specs.Data.Places.{Origin}
use Rattle.stil_ast.specs.Meaning.Dealing.{with_character}
use Rattle.stil_ast.specs.Meaning.Running.{Ran, still, behind, then_run, times}

-- steps in order, each with those behind it
pub data Flat : Type 0 where
  done : Flat
  -- the table from here on
  table : ℕ → Flat → Flat
  -- a signal's character
  character : ℕ → ℕ → Flat → Flat
  -- a signal has again what it had when the innermost save round it began
  back : ℕ → Flat → Flat
  -- a vector with its mark, and where its V stands
  cycle : ℕ → Origin → Flat → Flat
  repeat : ℕ → Flat → Flat → Flat
  -- a procedure's body, after which the state is put back; or the passes of a Shift, after which it isn't
  save : Bool → Flat → Flat → Flat

-- the state behind a save
abbrev pub saved : Bool → State → Ran State → Ran State
saved true s r = record { made = r.made; here = s }
saved false s r = r

-- what a flat tree does, where the innermost save round it began with the state `base`
abbrev pub flat_run : Flat → State → State → Ran State
flat_run done base s = still s
flat_run (table t rest) base s = flat_run rest base (record { table = Some t; characters = s.characters })
flat_run (character signal c rest) base s = flat_run rest base (with_character signal (Some c) s)
flat_run (back signal rest) base s =
    flat_run rest base (with_character signal (slice_index_or base.characters signal None) s)
flat_run (cycle mark spot rest) base s =
    behind (record { vector = record { table = s.table; characters = s.characters; mark = mark }; place = spot } ∷ [])
    (flat_run rest base s)
flat_run (repeat count body rest) base s =
    then_run (times count (flat_run body base) s) (flat_run rest base)
flat_run (save putting body rest) base s =
    then_run (saved putting s (flat_run body s s)) (flat_run rest base)

-- The measure M, which bounds the code of a source whatever its loop counts are.
abbrev pub measure : Flat → ℕ
measure done = 0
measure (table t rest) = measure rest
measure (character signal c rest) = measure rest
measure (back signal rest) = measure rest
measure (cycle mark spot rest) = 1 + measure rest
measure (repeat count body rest) = 2 * measure body + 2 + measure rest
measure (save putting body rest) = measure body + measure rest
