-- A signal that statements don't assign keeps its character.
use Rattle.std.proofs.Common.{◌≡◌, ◌≢◌, ℕ, zero, suc, ◌==◌, ◌||◌, Bool, true, false, not, List, [], ◌∷◌, ◌++◌, Option, Some, None, refl, sym, ◌∙◌, get_or, get_or-set_other, eq-eqb}
use Rattle.std.proofs.lemmas.Bool.{and_parts}
use Rattle.stil_ast.specs.Meaning.State.{State}
use Rattle.stil_ast.specs.Data.Places.{Origin}
use Rattle.stil_ast.specs.Meaning.Statements.{Item, a_character, hash, percent, Assign, Statements, finish, place, wave, vector, condition, loop, expand, call, shift, stop}
use Rattle.stil_ast.specs.Meaning.Arguments.{Entry, Argument, next_entry}
use Rattle.stil_ast.specs.Meaning.Dealing.{Gift, gift_of, deal_item, deal_pairs, spread, deal, character_of, with_character, received, has_signal}
use Rattle.stil_ast.specs.Meaning.Shift.{taking, passes}
use Rattle.stil_ast.specs.Meaning.Running.{Setting, Made, Ran, Here, then_run, times, pass_at, at_place, at_table, after, make, in_shift, from_shift, run_list, run, calls}
use Rattle.stil_ast.specs.Meaning.Laws.{all_leave, leaves, EachShows, Keeps}

-- no gift goes to a signal
abbrev NoneTo : ℕ → List Gift → Type 0
NoneTo signal [] = Unit {0}
NoneTo signal (g ∷ gifts) = (signal ≢ g.signal) × NoneTo signal gifts

NoneTo-append : (signal : ℕ) (a b : List Gift) → NoneTo signal a → NoneTo signal b → NoneTo signal (a ++ b)
NoneTo-append signal [] b p q = q
NoneTo-append signal (g ∷ a) b p q = (p.0, NoneTo-append signal a b p.1 q)

-- what both parts of a test that fails say
neither : (x y : Bool) → not (x || y) ≡ true → (x ≡ false) × (not y ≡ true)
neither true y e = cc
neither false y e = (refl, e)

pub other_signal : (a b : ℕ) → (a == b) ≡ false → b ≢ a
other_signal a b e same = let h : (a == b) ≡ true = eq-eqb a b (sym same) in cc

gift_of-NoneTo : (signal other : ℕ) (entry : Option Entry) → signal ≢ other
    → NoneTo signal (gift_of other entry)
gift_of-NoneTo signal other None ne = tt
gift_of-NoneTo signal other (Some entry) ne = (ne, tt)

deal_item-NoneTo : (signal other : ℕ) (item : Item) (args : List Argument) → signal ≢ other
    → NoneTo signal (deal_item item other args).gifts
deal_item-NoneTo signal other (a_character c) args ne = (ne, tt)
deal_item-NoneTo signal other hash args ne = gift_of-NoneTo signal other (next_entry args other) ne
deal_item-NoneTo signal other percent args ne = gift_of-NoneTo signal other (next_entry args other) ne

deal_pairs-NoneTo : (signal : ℕ) (signals : List ℕ) (items : List Item) (args : List Argument)
    → not (has_signal signals signal) ≡ true → NoneTo signal (deal_pairs signals items args).gifts
deal_pairs-NoneTo signal [] items args e = tt
deal_pairs-NoneTo signal (s ∷ signals) [] args e = tt
deal_pairs-NoneTo signal (s ∷ signals) (item ∷ items) args e =
    let parts = neither (s == signal) (has_signal signals signal) e in
    NoneTo-append signal (deal_item item s args).gifts (deal_pairs signals items (deal_item item s args).args).gifts
    (deal_item-NoneTo signal s item args (other_signal s signal parts.0))
    (deal_pairs-NoneTo signal signals items (deal_item item s args).args parts.1)

deal-NoneTo : (signal : ℕ) (assigns : List Assign) (args : List Argument)
    → all_leave signal assigns ≡ true → NoneTo signal (deal assigns args).gifts
deal-NoneTo signal [] args e = tt
deal-NoneTo signal (a ∷ assigns) args e =
    let parts = and_parts (not (has_signal a.signals signal)) (all_leave signal assigns) e in
    let first = deal_pairs a.signals (spread a.signals a.items) args in
    NoneTo-append signal first.gifts (deal assigns first.args).gifts
    (deal_pairs-NoneTo signal a.signals (spread a.signals a.items) args parts.0)
    (deal-NoneTo signal assigns first.args parts.1)

received-keeps : (signal : ℕ) (held : State) (gifts : List Gift) (s : State) → NoneTo signal gifts
    → get_or (received held gifts s).characters signal None ≡ get_or s.characters signal None
received-keeps signal held [] s none = refl
received-keeps signal held (g ∷ gifts) s none =
    received-keeps signal held gifts (with_character g.signal (character_of held g.signal g.entry) s) none.1
    ∙ get_or-set_other s.characters g.signal signal (character_of held g.signal g.entry) None none.0

-- a V or C that doesn't name a signal
pub after-keeps : (signal : ℕ) (assigns : List Assign) (h : Here) → all_leave signal assigns ≡ true
    → get_or (after assigns h).state.characters signal None ≡ get_or h.state.characters signal None
after-keeps signal assigns h e =
    received-keeps signal h.held (deal assigns h.args).gifts h.state (deal-NoneTo signal assigns h.args e)

EachShows-append : (signal : ℕ) (c : Option ℕ) (a b : List Made) → EachShows signal c a
    → EachShows signal c b → EachShows signal c (a ++ b)
EachShows-append signal c [] b p q = q
EachShows-append signal c (m ∷ a) b p q = (p.0, EachShows-append signal c a b p.1 q)

-- a run that keeps the character wherever it begins with it
abbrev KeepsIt : ℕ → Option ℕ → (Here → Ran Here) → Type 0
KeepsIt signal c f = (h : Here) → get_or h.state.characters signal None ≡ c → Keeps signal c (f h)

then_run-keeps : (signal : ℕ) (c : Option ℕ) (r : Ran Here) (f : Here → Ran Here) → Keeps signal c r
    → KeepsIt signal c f → Keeps signal c (then_run r f)
then_run-keeps signal c r f first next = record {
  vectors = EachShows-append signal c r.made (f r.here).made first.vectors (next r.here first.state).vectors;
  state = (next r.here first.state).state;
}

times-keeps : (signal : ℕ) (c : Option ℕ) (f : Here → Ran Here) → KeepsIt signal c f → (n : ℕ)
    → KeepsIt signal c (times n f)
times-keeps signal c f keep zero h e = record { vectors = tt; state = e }
times-keeps signal c f keep (suc n) h e =
    then_run-keeps signal c (f h) (times n f) (keep h e) (times-keeps signal c f keep n)

pass_at-keeps : (signal : ℕ) (c : Option ℕ) (p : Origin) (f : Here → Ran Here) → KeepsIt signal c f
    → KeepsIt signal c (pass_at p f)
pass_at-keeps signal c p f keep h e = record { vectors = (keep h e).vectors; state = (keep h e).state }

run_list-keeps : (t : Setting) (f : Option Statements → Here → Ran Here) (signal : ℕ) (c : Option ℕ) (s : Statements)
    → leaves signal s ≡ true → KeepsIt signal c (run_list t f s)
run_list-keeps t f signal c finish e h same = record { vectors = tt; state = same }
run_list-keeps t f signal c (place p rest) e h same = run_list-keeps t f signal c rest e (at_place p h) same
run_list-keeps t f signal c (wave table rest) e h same =
    run_list-keeps t f signal c rest e (at_table table h) same
run_list-keeps t f signal c (vector assigns rest) e h same =
    let parts = and_parts (all_leave signal assigns) (leaves signal rest) e in
    let kept = after-keeps signal assigns h parts.0 ∙ same in
    then_run-keeps signal c (make t assigns (after assigns h)) (run_list t f rest) (record { vectors = (kept, tt); state = kept }) (run_list-keeps t f signal c rest parts.1)
run_list-keeps t f signal c (condition assigns rest) e h same =
    let parts = and_parts (all_leave signal assigns) (leaves signal rest) e in
    run_list-keeps t f signal c rest parts.1 (after assigns h) (after-keeps signal assigns h parts.0 ∙ same)
run_list-keeps t f signal c (loop count body rest) e h same =
    let parts = and_parts (leaves signal body) (leaves signal rest) e in
    then_run-keeps signal c (times count (pass_at h.place (run_list t f body)) h) (run_list t f rest)
    (times-keeps signal c (pass_at h.place (run_list t f body)) (pass_at-keeps signal c h.place (run_list t f body) (run_list-keeps t f signal c body parts.0)) count h same)
    (run_list-keeps t f signal c rest parts.1)
run_list-keeps t f signal c (expand body assigns rest) e h same = cc
run_list-keeps t f signal c (call body assigns rest) e h same = cc
run_list-keeps t f signal c (shift body rest) e h same =
    let parts = and_parts (leaves signal body) (leaves signal rest) e in
    let inside = times-keeps signal c (pass_at h.place (run_list t f body)) (pass_at-keeps signal c h.place (run_list t f body) (run_list-keeps t f signal c body parts.0)) (passes (taking body) h.args) (in_shift t body h) same in
    then_run-keeps signal c (from_shift h (times (passes (taking body) h.args) (pass_at h.place (run_list t f body)) (in_shift t body h))) (run_list t f rest)
    (record { vectors = inside.vectors; state = inside.state })
    (run_list-keeps t f signal c rest parts.1)
run_list-keeps t f signal c (stop rest) e h same = record { vectors = tt; state = same }

pub signal_keeps : (t : Setting) (signal : ℕ) (statements : Statements) (h : Here)
    → leaves signal statements ≡ true
    → Keeps signal (get_or h.state.characters signal None) (run t statements h)
signal_keeps t signal statements h e =
    run_list-keeps t (calls t 64) signal (get_or h.state.characters signal None) statements e h refl
