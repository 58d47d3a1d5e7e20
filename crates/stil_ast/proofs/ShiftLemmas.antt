-- A Shift shifts each character of its data once, in order.
use Rattle.std.proofs.Common.{◌≡◌, ℕ, ◌-◌, ◌<◌, Bool, true, false, List, [], ◌∷◌, ◌++◌, Option, Some, None, refl, ap, ◌∙◌, arith, append-nil, length, map, max, replicate, get_or, set, get_or-set_same, length-set, slice_index_or}
use Rattle.std.proofs.lemmas.List.{length-map}
use Rattle.stil_ast.specs.Data.Places.{Origin}
use Rattle.stil_ast.specs.Meaning.Statements.{Assign, hash, Statements, finish, vector}
use Rattle.stil_ast.specs.Meaning.Arguments.{Entry, given, padding, Argument, argument_of, no_argument, first_of, one_taken}
use Rattle.stil_ast.specs.Meaning.Dealing.{gift_of, received}
use Rattle.stil_ast.specs.Meaning.Shift.{column}
use Rattle.stil_ast.specs.Meaning.Running.{Setting, Ran, Here, times, pass_at, run_list, run, calls}
use Rattle.stil_ast.specs.Meaning.Laws.{shift_of, shown_at}

none_missing : (n : ℕ) → n - n ≡ 0
none_missing n = omega arith

-- a column of full data is the data
column-full : (out : Bool) (left : List Entry) → column out (length left) left ≡ left
column-full true left =
    ap (λ (n : ℕ). left ++ replicate n padding) (none_missing (length left)) ∙ append-nil left
column-full false left = ap (λ (n : ℕ). replicate n padding ++ left) (none_missing (length left))

abbrev takes_one : ℕ → List Assign
takes_one signal = record { signals = signal ∷ []; items = hash ∷ [] } ∷ []

-- the place behind the V of such a Shift, where this is left of the signal's argument
abbrev taken_from : Origin → ℕ → Here → List Entry → Here
taken_from p signal h left = record {
  state = received h.held (gift_of signal (first_of left) ++ [] ++ []) h.state;
  held = h.held;
  args = set h.args signal (one_taken (argument_of h.args signal) left);
  place = p;
}

-- one pass after another
passes-in_order : (t : Setting) (f : Option Statements → Here → Ran Here) (p : Origin) (signal : ℕ) (characters : List ℕ) (h : Here)
    → signal < length h.state.characters → signal < length h.args
    → (argument_of h.args signal).left ≡ map given characters
    → shown_at signal (times (length characters) (pass_at p (run_list t f (vector (takes_one signal) finish))) h).made
    ≡ map (λ c. Some c) characters
passes-in_order t f p signal [] h wide enough e = refl
passes-in_order t f p signal (c ∷ characters) h wide enough e =
    let body = pass_at p (run_list t f (vector (takes_one signal) finish)) in
    let shown = λ (now : Here). get_or now.state.characters signal None ∷ shown_at signal (times (length characters) body now).made in
    let now = taken_from p signal h (given c ∷ map given characters) in
    let still_wide : signal < length now.state.characters = rw length-set wide in
    let still_enough : signal < length now.args = rw length-set enough in
    let left : (argument_of now.args signal).left ≡ map given characters = ap (λ (a : Argument). a.left) (get_or-set_same h.args signal (one_taken (argument_of h.args signal) (given c ∷ map given characters)) no_argument enough) in
    ap (λ (left : List Entry). shown (taken_from p signal h left)) e
    ∙ (ap (λ (x : Option ℕ). x ∷ shown_at signal (times (length characters) body now).made) (get_or-set_same h.state.characters signal (Some c) None wide)
    ∙ ap (λ (xs : List (Option ℕ)). Some c ∷ xs) (passes-in_order t f p signal characters now still_wide still_enough left))

-- the place where the passes begin, with so many of them and this left
abbrev shifted_from : Setting → ℕ → Here → ℕ → List Entry → Here
shifted_from t signal h count left = record {
  state = h.state;
  held = h.state;
  args = set h.args signal (record { left = column (slice_index_or t.outs signal false) count left; taken = (argument_of h.args signal).taken });
  place = h.place;
}

at_most_zero : (n : ℕ) → max n 0 ≡ n
at_most_zero n = omega arith

pub shift_is_in_order : (t : Setting) (signal : ℕ) (characters : List ℕ) (h : Here)
    → signal < length h.state.characters → signal < length h.args
    → (argument_of h.args signal).left ≡ map given characters
    → shown_at signal (run t (shift_of signal) h).made ≡ map (λ c. Some c) characters
shift_is_in_order t signal characters h wide enough e =
    let left = (argument_of h.args signal).left in
    let body = pass_at h.place (run_list t (calls t 64) (vector (takes_one signal) finish)) in
    let run = λ (count passes : ℕ). shown_at signal (times passes body (shifted_from t signal h count left)).made in
    let begin = shifted_from t signal h (length left) left in
    let full : (argument_of begin.args signal).left ≡ map given characters = ap (λ (a : Argument). a.left) (get_or-set_same h.args signal _ no_argument enough) ∙ (column-full (slice_index_or t.outs signal false) left ∙ e) in
    let still_enough : signal < length begin.args = rw length-set enough in
    ap (shown_at signal) (append-nil (times (max (length left) 0) body (shifted_from t signal h (max (length left) 0) left)).made)
    ∙ (ap (λ (n : ℕ). run n n) (at_most_zero (length left))
    ∙ (ap (λ (n : ℕ). run (length left) n) (ap length e ∙ length-map characters given)
    ∙ passes-in_order t (calls t 64) h.place signal characters begin wide still_enough full))
