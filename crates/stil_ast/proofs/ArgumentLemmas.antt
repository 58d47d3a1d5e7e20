-- What is left of the arguments and what was taken of them: behind the passes of a Shift nothing is left of its signals.
use Rattle.std.proofs.Common.{◌≡◌, ◌≢◌, ℕ, zero, suc, ◌+◌, ◌-◌, ◌≤◌, ◌==◌, ◌||◌, Bool, true, false, List, [], ◌∷◌, ◌++◌, Option, refl, ap, sym, subst, ◌∙◌, inl, inr, arith, length, replicate, slice_set, slice_index_or, get_or-set_other, length-append}
use Rattle.std.proofs.lemmas.Bool.{eqb-true, or_cases}
use Rattle.std.proofs.lemmas.List.{length-replicate, nil_from_length}
use Rattle.std.proofs.lemmas.List.Folds.{list_any-append}
use Rattle.stil_ast.specs.Data.Places.{Origin}
use Rattle.stil_ast.specs.Meaning.Statements.{Item, a_character, hash, percent, Assign, Statements, finish, place, wave, vector, condition, loop, expand, call, shift, stop}
use Rattle.stil_ast.specs.Meaning.Arguments.{Entry, padding, Argument, no_argument, argument_of, one_taken, next_taken}
use Rattle.stil_ast.specs.Meaning.Dealing.{deal_item, deal_pairs, spread, deal, hashed, takers, has_signal}
use Rattle.stil_ast.specs.Meaning.Shift.{taking, passes, column, with_column, with_columns}
use Rattle.stil_ast.specs.Meaning.Running.{Setting, Ran, Here, times, pass_at, at_place, at_table, after, in_shift, run_list, run, calls}
use Rattle.stil_ast.specs.Meaning.Laws.{is_plain}
use Rattle.stil_ast.proofs.KeepLemmas.{other_signal}

-- how much is left of a signal's argument
abbrev pub left_at : List Argument → ℕ → ℕ
left_at args signal = length (argument_of args signal).left

-- how much was taken of it
abbrev pub taken_at : List Argument → ℕ → ℕ
taken_at args signal = (argument_of args signal).taken

-- an argument that is written counts for what was written at most; past the end nothing is written
pub set-le : (m : Argument → ℕ) → m no_argument ≡ 0 → (args : List Argument) (signal : ℕ) (a : Argument)
    → m (argument_of (slice_set args signal a) signal) ≤ m a
set-le m none [] signal a = omega (arith, none)
set-le m none (x ∷ args) zero a = omega arith
set-le m none (x ∷ args) (suc signal) a = set-le m none args signal a

-- what is written elsewhere changes nothing
pub set-other : (m : Argument → ℕ) (args : List Argument) (s signal : ℕ) (a : Argument) → signal ≢ s
    → m (argument_of (slice_set args s a) signal) ≡ m (argument_of args signal)
set-other m args s signal a ne = ap m (get_or-set_other args s signal a no_argument ne)

-- a bound on what is written and on what was there holds behind it
pub set-within : (m : Argument → ℕ) → m no_argument ≡ 0 → (args : List Argument) (s signal : ℕ) (a : Argument) (n : ℕ)
    → (s ≡ signal → m a ≤ n) → m (argument_of args signal) ≤ n
    → m (argument_of (slice_set args s a) signal) ≤ n
set-within m none args s signal a n written before = by_case (s == signal) refl where
  by_case : (b : Bool) → (s == signal) ≡ b → m (argument_of (slice_set args s a) signal) ≤ n
  by_case true e =
      let same = eqb-true s signal e in
      subst (λ (k : ℕ). m (argument_of (slice_set args s a) k) ≤ n) same
      (let here = set-le m none args s a in let fits = written same in omega (arith, here, fits))
  by_case false e = let other = set-other m args s signal a (other_signal s signal e) in omega (arith, other, before)

one_taken-left : (a : Argument) (left : List Entry) → a.left ≡ left
    → length (one_taken a left).left ≡ length left - 1
one_taken-left a [] e = ap length e
one_taken-left a (entry ∷ left) e = omega arith

pub one_taken-taken : (a : Argument) (left : List Entry) → (one_taken a left).taken ≤ a.taken + 1
one_taken-taken a [] = omega arith
one_taken-taken a (entry ∷ left) = omega arith

-- taking one leaves one less
take-one : (args : List Argument) (signal : ℕ) → left_at (next_taken args signal) signal ≤ left_at args signal - 1
take-one args signal =
    let a = argument_of args signal in
    let here = set-le (λ (a : Argument). length a.left) refl args signal (one_taken a a.left) in
    let less = one_taken-left a a.left refl in
    omega (arith, here, less)

-- and no more than that of any
take-left : (args : List Argument) (s signal : ℕ) → left_at (next_taken args s) signal ≤ left_at args signal
take-left args s signal =
    let a = argument_of args s in
    set-within (λ (a : Argument). length a.left) refl args s signal (one_taken a a.left) (left_at args signal)
    (λ same. let less = one_taken-left a a.left refl in let there : left_at args s ≡ left_at args signal = ap (left_at args) same in omega (arith, less, there))
    (omega arith)

deal_item-left : (item : Item) (s : ℕ) (args : List Argument) (signal : ℕ)
    → left_at (deal_item item s args).args signal ≤ left_at args signal
deal_item-left (a_character c) s args signal = omega arith
deal_item-left hash s args signal = take-left args s signal
deal_item-left percent s args signal = omega arith

deal_pairs-left : (signals : List ℕ) (items : List Item) (args : List Argument) (signal : ℕ)
    → left_at (deal_pairs signals items args).args signal ≤ left_at args signal
deal_pairs-left [] items args signal = omega arith
deal_pairs-left (s ∷ signals) [] args signal = omega arith
deal_pairs-left (s ∷ signals) (item ∷ items) args signal =
    let first = deal_item-left item s args signal in
    let later = deal_pairs-left signals items (deal_item item s args).args signal in
    omega (arith, first, later)

deal-left : (assigns : List Assign) (args : List Argument) (signal : ℕ)
    → left_at (deal assigns args).args signal ≤ left_at args signal
deal-left [] args signal = omega arith
deal-left (a ∷ assigns) args signal =
    let items = spread a.signals a.items in
    let first = deal_pairs-left a.signals items args signal in
    let later = deal-left assigns (deal_pairs a.signals items args).args signal in
    omega (arith, first, later)

-- a signal that gets a `#` has one less
deal_pairs-takes : (signals : List ℕ) (items : List Item) (args : List Argument) (signal : ℕ)
    → has_signal (hashed signals items) signal ≡ true
    → left_at (deal_pairs signals items args).args signal ≤ left_at args signal - 1
deal_pairs-takes [] items args signal e = cc
deal_pairs-takes (s ∷ signals) [] args signal e = cc
deal_pairs-takes (s ∷ signals) (a_character c ∷ items) args signal e =
    deal_pairs-takes signals items args signal e
deal_pairs-takes (s ∷ signals) (hash ∷ items) args signal e =
    let now = next_taken args s in
    let later = deal_pairs-left signals items now signal in
    elim (or_cases (s == signal) (has_signal (hashed signals items) signal) e) [
      | inl here ↦
          let first = subst (λ (k : ℕ). left_at now k ≤ left_at args k - 1) (eqb-true s signal here) (take-one args s) in
          omega (arith, first, later)
      | inr there ↦
          let first = take-left args s signal in
          let less = deal_pairs-takes signals items now signal there in
          omega (arith, first, less)
    ]
deal_pairs-takes (s ∷ signals) (percent ∷ items) args signal e =
    deal_pairs-takes signals items args signal e

-- which of two lists has a signal
either_has : (xs ys : List ℕ) (signal : ℕ) → has_signal (xs ++ ys) signal ≡ true
    → (has_signal xs signal || has_signal ys signal) ≡ true
either_has xs ys signal e = sym (list_any-append (λ (s : ℕ). s == signal) xs ys) ∙ e

deal-takes : (assigns : List Assign) (args : List Argument) (signal : ℕ)
    → has_signal (takers assigns) signal ≡ true
    → left_at (deal assigns args).args signal ≤ left_at args signal - 1
deal-takes [] args signal e = cc
deal-takes (a ∷ assigns) args signal e =
    let items = spread a.signals a.items in
    let now = (deal_pairs a.signals items args).args in
    let first = deal_pairs-left a.signals items args signal in
    let later = deal-left assigns now signal in
    elim (or_cases (has_signal (hashed a.signals items) signal) (has_signal (takers assigns) signal) (either_has (hashed a.signals items) (takers assigns) signal e)) [
      | inl here ↦ let less = deal_pairs-takes a.signals items args signal here in omega (arith, less, later)
      | inr there ↦ let less = deal-takes assigns now signal there in omega (arith, first, less)
    ]

-- a body as a Shift holds it leaves at most what was there
plain-left : (t : Setting) (f : Option Statements → Here → Ran Here) (x : Statements) (h : Here) (signal : ℕ)
    → is_plain x ≡ true → left_at (run_list t f x h).here.args signal ≤ left_at h.args signal
plain-left t f finish h signal e = omega arith
plain-left t f (place p rest) h signal e = plain-left t f rest (at_place p h) signal e
plain-left t f (wave table rest) h signal e = plain-left t f rest (at_table table h) signal e
plain-left t f (vector assigns rest) h signal e =
    let first = deal-left assigns h.args signal in
    let later = plain-left t f rest (after assigns h) signal e in
    omega (arith, first, later)
plain-left t f (condition assigns rest) h signal e =
    let first = deal-left assigns h.args signal in
    let later = plain-left t f rest (after assigns h) signal e in
    omega (arith, first, later)
plain-left t f (loop count body rest) h signal e = cc
plain-left t f (expand body assigns rest) h signal e = cc
plain-left t f (call body assigns rest) h signal e = cc
plain-left t f (shift body rest) h signal e = cc
plain-left t f (stop rest) h signal e = cc

-- and of a signal that takes in it one less
plain-takes : (t : Setting) (f : Option Statements → Here → Ran Here) (x : Statements) (h : Here) (signal : ℕ)
    → is_plain x ≡ true → has_signal (taking x) signal ≡ true
    → left_at (run_list t f x h).here.args signal ≤ left_at h.args signal - 1
plain-takes t f finish h signal e has = cc
plain-takes t f (place p rest) h signal e has = plain-takes t f rest (at_place p h) signal e has
plain-takes t f (wave table rest) h signal e has = plain-takes t f rest (at_table table h) signal e has
plain-takes t f (vector assigns rest) h signal e has =
    let first = deal-left assigns h.args signal in
    let later = plain-left t f rest (after assigns h) signal e in
    elim (or_cases (has_signal (takers assigns) signal) (has_signal (taking rest) signal) (either_has (takers assigns) (taking rest) signal has)) [
      | inl here ↦ let less = deal-takes assigns h.args signal here in omega (arith, less, later)
      | inr there ↦ let less = plain-takes t f rest (after assigns h) signal e there in omega (arith, first, less)
    ]
plain-takes t f (condition assigns rest) h signal e has =
    let first = deal-left assigns h.args signal in
    let later = plain-left t f rest (after assigns h) signal e in
    elim (or_cases (has_signal (takers assigns) signal) (has_signal (taking rest) signal) (either_has (takers assigns) (taking rest) signal has)) [
      | inl here ↦ let less = deal-takes assigns h.args signal here in omega (arith, less, later)
      | inr there ↦ let less = plain-takes t f rest (after assigns h) signal e there in omega (arith, first, less)
    ]
plain-takes t f (loop count body rest) h signal e has = cc
plain-takes t f (expand body assigns rest) h signal e has = cc
plain-takes t f (call body assigns rest) h signal e has = cc
plain-takes t f (shift body rest) h signal e has = cc
plain-takes t f (stop rest) h signal e has = cc

passes-take : (t : Setting) (f : Option Statements → Here → Ran Here) (p : Origin) (x : Statements) (n : ℕ) (h : Here) (signal : ℕ)
    → is_plain x ≡ true → has_signal (taking x) signal ≡ true
    → left_at (times n (pass_at p (run_list t f x)) h).here.args signal ≤ left_at h.args signal - n
passes-take t f p x zero h signal e has = omega arith
passes-take t f p x (suc n) h signal e has =
    let first = plain-takes t f x h signal e has in
    let later = passes-take t f p x n (pass_at p (run_list t f x) h).here signal e has in
    omega (arith, first, later)

length-column : (out : Bool) (count : ℕ) (left : List Entry) → length left ≤ count
    → length (column out count left) ≡ count
length-column true count left fits =
    let pads = length-replicate (count - length left) padding in
    let all = length-append left (replicate (count - length left) padding) in
    omega (arith, pads, all, fits)
length-column false count left fits =
    let pads = length-replicate (count - length left) padding in
    let all = length-append (replicate (count - length left) padding) left in
    omega (arith, pads, all, fits)

-- a column has one entry a pass
with_columns-left : (outs : List Bool) (count : ℕ) (signals : List ℕ) (args : List Argument) (signal : ℕ)
    → left_at args signal ≤ count → left_at (with_columns outs count signals args) signal ≤ count
with_columns-left outs count [] args signal fits = fits
with_columns-left outs count (s ∷ signals) args signal fits =
    let left = (argument_of args s).left in
    let col = column (slice_index_or outs s false) count left in
    with_columns-left outs count signals (with_column outs count s args) signal
    (set-within (λ (a : Argument). length a.left) refl args s signal (record { left = col; taken = (argument_of args s).taken }) count
    (λ same. let there : left_at args s ≡ left_at args signal = ap (left_at args) same in
    let size = length-column (slice_index_or outs s false) count left (omega (arith, there, fits)) in omega (arith, size))
    fits)

passes-cover : (signals : List ℕ) (args : List Argument) (signal : ℕ) → has_signal signals signal ≡ true
    → left_at args signal ≤ passes signals args
passes-cover [] args signal e = cc
passes-cover (s ∷ signals) args signal e =
    elim (or_cases (s == signal) (has_signal signals signal) e) [
      | inl here ↦ let same : left_at args s ≡ left_at args signal = ap (left_at args) (eqb-true s signal here) in omega (arith, same)
      | inr there ↦ let later = passes-cover signals args signal there in omega (arith, later)
    ]

pub shift_uses_up : (t : Setting) (body : Statements) (signal : ℕ) (h : Here) → is_plain body ≡ true
    → has_signal (taking body) signal ≡ true
    → (argument_of (run t (shift body finish) h).here.args signal).left ≡ []
shift_uses_up t body signal h plain has =
    let count = passes (taking body) h.args in
    let begun = with_columns-left t.outs count (taking body) h.args signal (passes-cover (taking body) h.args signal has) in
    let gone = passes-take t (calls t 64) h.place body count (in_shift t body h) signal plain has in
    nil_from_length (argument_of (run t (shift body finish) h).here.args signal).left (omega (arith, begun, gone))
