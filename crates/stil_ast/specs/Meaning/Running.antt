-- What statements do, by one equation a kind (IEEE 1450-1999, clauses 22 to 24). It unrolls each pass and call.
use Rattle.std.specs.Prelude.{ℕ, zero, suc, Bool, true, false, List, [], ◌∷◌, ◌++◌, Option, Some, None, length, slice_get}
use Rattle.text_bytes.specs.Limits.{deepest_calls}
use Rattle.stil_ast.specs.Meaning.State.{State, Vector}
use Rattle.stil_ast.specs.Data.Places.{of_pattern, Origin}
use Rattle.stil_ast.specs.Meaning.Statements.{Assign, Statements, finish, place, wave, vector, condition, loop, expand, call, shift, stop}
use Rattle.stil_ast.specs.Meaning.Arguments.{Argument, arguments}
use Rattle.stil_ast.specs.Meaning.Dealing.{Dealt, deal, received, takers, mark_of}
use Rattle.stil_ast.specs.Meaning.Shift.{taking, passes, columns}

-- what statements stand on: for each signal whether it is Out, the signals at which scan chains end in declared
-- order, and the bodies of macros and procedures
pub record Setting : Type 0 where
  pub outs : List Bool
  pub scan_outs : List ℕ
  pub macros : List Statements
  pub procedures : List Statements

-- a vector, and where the V stands that made it
pub record Made : Type 0 where
  pub vector : Vector
  pub place : Origin

-- the vectors that were made in order, and where this leads
pub record Ran (P : Type 0) : Type 0 where
  pub made : List Made
  pub here : P

-- nothing is made
abbrev pub still : {P : Type 0} → P → Ran P
still here = record { made = []; here = here }

-- a run behind these vectors
abbrev pub behind : {P : Type 0} → List Made → Ran P → Ran P
behind made r = record { made = made ++ r.made; here = r.here }

-- one thing after another
abbrev pub then_run : {P : Type 0} → Ran P → (P → Ran P) → Ran P
then_run r next = behind r.made (next r.here)

-- the same thing, so often one after another
abbrev pub times : {P : Type 0} → ℕ → (P → Ran P) → P → Ran P
times zero f here = still here
times (suc n) f here = then_run (f here) (times n f)

-- a place in a run: the state, the state when the innermost Shift or procedure began, what is left of the
-- arguments, and where the statement stands
pub record Here : Type 0 where
  pub state : State
  pub held : State
  pub args : List Argument
  pub place : Origin

-- the same with another place in the text
abbrev pub at_place : Origin → Here → Here
at_place p h = record { state = h.state; held = h.held; args = h.args; place = p }

-- behind a run this place holds again
abbrev pub back_at : Origin → Ran Here → Ran Here
back_at p r = record { made = r.made; here = at_place p r.here }

-- one pass of a body, behind which the place is again that of its Loop or Shift
abbrev pub pass_at : Origin → (Here → Ran Here) → Here → Ran Here
pass_at p f h = back_at p (f h)

-- W: the table from here on
abbrev pub at_table : ℕ → Here → Here
at_table table h =
    record {
      state = record { table = Some table; characters = h.state.characters };
      held = h.held;
      args = h.args;
      place = h.place;
    }

-- the place once what is dealt is received
abbrev pub after_deal : Dealt → Here → Here
after_deal d h =
    record { state = received h.held d.gifts h.state; held = h.held; args = d.args; place = h.place }

-- C: the state and the arguments after assignments in text order
abbrev pub after : List Assign → Here → Here
after assigns h = after_deal (deal assigns h.args) h

-- V: a vector of the state
abbrev pub make : Setting → List Assign → Here → Ran Here
make t assigns h = record {
  made = record {
    vector = record {
      table = h.state.table;
      characters = h.state.characters;
      mark = mark_of t.scan_outs (takers assigns) h.args;
    };
    place = h.place;
  } ∷ [];
  here = h;
}

-- a macro's body: with its own arguments in the caller's state, which it may change
abbrev pub in_macro : Setting → List Assign → Here → Here
in_macro t assigns h =
    record { state = h.state; held = h.held; args = arguments (length t.outs) assigns; place = h.place }

-- behind a macro's body the caller has its arguments again
abbrev pub from_macro : Here → Ran Here → Ran Here
from_macro h r =
    record { made = r.made; here = record { state = r.here.state; held = h.held; args = h.args; place = r.here.place } }

-- a procedure's body: the same, and at its end the caller's state comes back
abbrev pub in_call : Setting → List Assign → Here → Here
in_call t assigns h =
    record { state = h.state; held = h.state; args = arguments (length t.outs) assigns; place = h.place }

-- behind a procedure's body all is as it was for the caller
abbrev pub from_call : Here → Ran Here → Ran Here
from_call h r = record { made = r.made; here = h }

-- the passes of a Shift: with the columns of the signals that take in it
abbrev pub in_shift : Setting → Statements → Here → Here
in_shift t body h =
    record { state = h.state; held = h.state; args = columns t.outs (taking body) h.args; place = h.place }

-- behind a Shift the state and what is left of the arguments stay
abbrev pub from_shift : Here → Ran Here → Ran Here
from_shift h r =
    record { made = r.made; here = record { state = r.here.state; held = h.held; args = r.here.args; place = h.place } }

-- statements in order, where `inner` runs the body that a Macro or Call names
abbrev pub run_list : Setting → (Option Statements → Here → Ran Here) → Statements → Here → Ran Here
run_list t inner finish h = still h
run_list t inner (place p rest) h = run_list t inner rest (at_place p h)
run_list t inner (wave table rest) h = run_list t inner rest (at_table table h)
run_list t inner (vector assigns rest) h =
    then_run (make t assigns (after assigns h)) (run_list t inner rest)
run_list t inner (condition assigns rest) h = run_list t inner rest (after assigns h)
run_list t inner (loop count body rest) h =
    then_run (times count (pass_at h.place (run_list t inner body)) h) (run_list t inner rest)
run_list t inner (expand body assigns rest) h =
    then_run (from_macro h (inner (slice_get t.macros body) (in_macro t assigns h))) (run_list t inner rest)
run_list t inner (call body assigns rest) h =
    then_run (from_call h (inner (slice_get t.procedures body) (in_call t assigns h))) (run_list t inner rest)
run_list t inner (shift body rest) h =
    then_run
    (from_shift h (times (passes (taking body) h.args) (pass_at h.place (run_list t inner body)) (in_shift t body h)))
    (run_list t inner rest)
run_list t inner (stop rest) h = still h

-- bodies that name bodies, so deep; one that isn't there does nothing
unfoldable pub calls : Setting → ℕ → Option Statements → Here → Ran Here
calls t zero body h = still h
calls t (suc depth) None h = still h
calls t (suc depth) (Some body) h = run_list t (calls t depth) body h

-- a run: calls go only so deep
abbrev pub run : Setting → Statements → Here → Ran Here
run t statements h = run_list t (calls t deepest_calls) statements h

-- outside of macros and procedures nothing is held and there are no arguments
abbrev pub outside : State → Here
outside s = record {
  state = s;
  held = record { table = None; characters = [] };
  args = [];
  place = record { body = of_pattern; line = 0 };
}

-- whether an executive ends in these statements
abbrev pub stops : Statements → Bool
stops finish = false
stops (place p rest) = stops rest
stops (wave table rest) = stops rest
stops (vector assigns rest) = stops rest
stops (condition assigns rest) = stops rest
stops (loop count body rest) = stops rest
stops (expand body assigns rest) = stops rest
stops (call body assigns rest) = stops rest
stops (shift body rest) = stops rest
stops (stop rest) = true
