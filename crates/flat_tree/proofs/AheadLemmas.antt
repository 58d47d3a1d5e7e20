-- What is assigned again before it is used makes no difference, to the run and to how few instructions take it.
use Rattle.std.proofs.Common.{◌≡◌, ◌≢◌, ℕ, ◌==◌, ◌||◌, Bool, true, false, List, Option, Some, None, refl, ap, sym, ◌∙◌, subst, eq-eqb, eqb-true, slice_index_or}
use Rattle.std.proofs.lemmas.List.{set-set, set_comm}
use Rattle.stil_ast.specs.Meaning.State.{State}
use Rattle.stil_ast.specs.Meaning.Dealing.{with_character}
use Rattle.stil_ast.specs.Meaning.Flat.{Flat, done, table, character, back, cycle, repeat, save, flat_run}
use Rattle.stil_ast.specs.Meaning.Least.{least_written}
use Rattle.stil_ast.specs.Meaning.Running.{Ran}
use Rattle.flat_tree.specs.Lean.{sets_table, sets_signal}

-- what a tree does, and how few instructions take it
abbrev pub run_and_least : Flat → State → State → Ran State × ℕ
run_and_least f base s = (flat_run f base s, least_written f base s)

-- a state with other characters
abbrev with_characters : State → List (Option ℕ) → State
with_characters s characters = record { table = s.table; characters = characters }

-- a second character of a signal takes the place of the first
set_again : (signal other : ℕ) (x y : Option ℕ) (s : State) → other ≡ signal
    → with_character other y (with_character signal x s) ≡ with_character other y s
set_again signal other x y s e =
    subst (λ (n : ℕ). with_character other y (with_character n x s) ≡ with_character other y s) e
    (ap (with_characters s) (set-set s.characters other x y))

-- two signals may get theirs in any order
set_apart : (signal other : ℕ) (x y : Option ℕ) (s : State) → signal ≢ other
    → with_character other y (with_character signal x s) ≡ with_character signal x (with_character other y s)
set_apart signal other x y s ne = ap (with_characters s) (set_comm s.characters signal other x y ne)

-- a character makes no difference in front of an assignment, where it is this signal's or makes none behind it
set_ahead : (b : Bool) (signal other : ℕ) (x y : Option ℕ) (rest : Flat) (base s : State) → (other == signal) ≡ b
    → (b || sets_signal signal rest) ≡ true
    → (sets_signal signal rest ≡ true →
    run_and_least rest base (with_character signal x (with_character other y s)) ≡ run_and_least rest base (with_character other y s))
    → run_and_least rest base (with_character other y (with_character signal x s)) ≡ run_and_least rest base (with_character other y s)
set_ahead true signal other x y rest base s e h later =
    ap (run_and_least rest base) (set_again signal other x y s (eqb-true other signal e))
set_ahead false signal other x y rest base s e h later =
    let ne : signal ≢ other = λ same. let h : (other == signal) ≡ true = eq-eqb other signal (sym same) in cc in
    ap (run_and_least rest base) (set_apart signal other x y s ne) ∙ later h

pub overwritten : (signal : ℕ) (x : Option ℕ) (f : Flat) (base s : State) → sets_signal signal f ≡ true
    → run_and_least f base (with_character signal x s) ≡ run_and_least f base s
overwritten signal x done base s e = cc
overwritten signal x (table t rest) base s e =
    overwritten signal x rest base (record { table = Some t; characters = s.characters }) e
overwritten signal x (character other c rest) base s e =
    set_ahead (other == signal) signal other x (Some c) rest base s refl e
    (overwritten signal x rest base (with_character other (Some c) s))
overwritten signal x (back other rest) base s e =
    let c = slice_index_or base.characters other None in
    set_ahead (other == signal) signal other x c rest base s refl e
    (overwritten signal x rest base (with_character other c s))
overwritten signal x (cycle mark spot rest) base s e = cc
overwritten signal x (repeat count body rest) base s e = cc
overwritten signal x (save putting body rest) base s e = cc

pub overwritten_table : (t : Option ℕ) (f : Flat) (base s : State) → sets_table f ≡ true
    → run_and_least f base (record { table = t; characters = s.characters }) ≡ run_and_least f base s
overwritten_table t done base s e = cc
overwritten_table t (table u rest) base s e = refl
overwritten_table t (character signal c rest) base s e = overwritten_table t rest base (with_character signal (Some c) s) e
overwritten_table t (back signal rest) base s e =
    overwritten_table t rest base (with_character signal (slice_index_or base.characters signal None) s) e
overwritten_table t (cycle mark spot rest) base s e = cc
overwritten_table t (repeat count body rest) base s e = cc
overwritten_table t (save putting body rest) base s e = cc
