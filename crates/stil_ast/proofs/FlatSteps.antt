-- How flat trees join, and which statements leave the arguments as they are.
use Rattle.std.proofs.Common.{◌≡◌, ℕ, true, List, [], ◌∷◌, Option, Some, refl, ap, sym, ◌∙◌, append-nil, length, map, slice_get}
use Rattle.std.specs.List.{list_all}
use Rattle.std.proofs.lemmas.Bool.{and_parts}
use Rattle.stil_ast.specs.Meaning.State.{State}
use Rattle.stil_ast.specs.Meaning.Statements.{Item, a_character, hash, percent, Assign, Statements, finish, place, wave, vector, condition, loop, expand, call, shift, stop}
use Rattle.stil_ast.specs.Meaning.Arguments.{Entry, given, padding, Argument, arguments}
use Rattle.stil_ast.specs.Meaning.Dealing.{Gift, deal_item, deal_pairs, spread, deal, received}
use Rattle.stil_ast.specs.Meaning.Running.{Setting, Made, Ran, still, behind, then_run, times}
use Rattle.stil_ast.specs.Meaning.Flat.{Flat, done, table, character, back, cycle, repeat, save, saved, flat_run}
use Rattle.stil_ast.specs.Meaning.Flattening.{joined, entry_front, gifts_front, Spot, Piece, with_args, macro_piece, flat_list}
use Rattle.stil_ast.specs.Meaning.Laws.{is_not_hash, no_hashes, is_steady}
use Rattle.stil_ast.proofs.RunLemmas.{then_run-assoc}

-- one flat tree after another runs one after another
pub flat_run-joined : (a b : Flat) (base s : State)
    → flat_run (joined a b) base s ≡ then_run (flat_run a base s) (flat_run b base)
flat_run-joined done b base s = refl
flat_run-joined (table t rest) b base s =
    flat_run-joined rest b base (record { table = Some t; characters = s.characters })
flat_run-joined (character signal c rest) b base s = flat_run-joined rest b base _
flat_run-joined (back signal rest) b base s = flat_run-joined rest b base _
flat_run-joined (cycle mark spot rest) b base s =
    ap (behind (record { vector = record { table = s.table; characters = s.characters; mark = mark }; place = spot } ∷ [])) (flat_run-joined rest b base s)
flat_run-joined (repeat count body rest) b base s =
    let first = times count (flat_run body base) s in
    ap (behind first.made) (flat_run-joined rest b base first.here) ∙ sym (then_run-assoc first (flat_run rest base) (flat_run b base))
flat_run-joined (save putting body rest) b base s =
    let first = saved putting s (flat_run body s s) in
    ap (behind first.made) (flat_run-joined rest b base first.here) ∙ sym (then_run-assoc first (flat_run rest base) (flat_run b base))

-- an entry in a flat tree gives a signal its character
entry_front-run : (entry : Entry) (signal : ℕ) (rest : Flat) (base s : State)
    → flat_run (entry_front entry signal rest) base s
    ≡ flat_run rest base (received base (record { signal = signal; entry = entry } ∷ []) s)
entry_front-run (given c) signal rest base s = refl
entry_front-run padding signal rest base s = refl

pub gifts_front-run : (gifts : List Gift) (rest : Flat) (base s : State)
    → flat_run (gifts_front gifts rest) base s ≡ flat_run rest base (received base gifts s)
gifts_front-run [] rest base s = refl
gifts_front-run (g ∷ gifts) rest base s =
    entry_front-run g.entry g.signal (gifts_front gifts rest) base s
    ∙ gifts_front-run gifts rest base (received base (g ∷ []) s)

pub then_run-still : (r : Ran State) → then_run r still ≡ r
then_run-still r = ap (λ (made : List Made). record { made = made; here = r.here }) (append-nil r.made)

-- without `#` the arguments stay
deal_item-same : (item : Item) (signal : ℕ) (args : List Argument) → is_not_hash item ≡ true
    → (deal_item item signal args).args ≡ args
deal_item-same (a_character c) signal args e = refl
deal_item-same hash signal args e = cc
deal_item-same percent signal args e = refl

deal_pairs-same : (signals : List ℕ) (items : List Item) (args : List Argument)
    → list_all is_not_hash items ≡ true → (deal_pairs signals items args).args ≡ args
deal_pairs-same [] items args e = refl
deal_pairs-same (signal ∷ signals) [] args e = refl
deal_pairs-same (signal ∷ signals) (item ∷ items) args e =
    let parts = and_parts (is_not_hash item) (list_all is_not_hash items) e in
    ap (λ (now : List Argument). (deal_pairs signals items now).args) (deal_item-same item signal args parts.0) ∙ deal_pairs-same signals items args parts.1

percents : (signals : List ℕ) → list_all is_not_hash (map (λ _. percent) signals) ≡ true
percents [] = refl
percents (signal ∷ signals) = percents signals

spread-same : (signals : List ℕ) (items : List Item) → list_all is_not_hash items ≡ true
    → list_all is_not_hash (spread signals items) ≡ true
spread-same signals [] e = refl
spread-same signals (a_character c ∷ items) e = e
spread-same signals (hash ∷ items) e = cc
spread-same signals (percent ∷ []) e = percents signals
spread-same signals (percent ∷ item ∷ items) e = e

deal-same : (assigns : List Assign) (args : List Argument) → no_hashes assigns ≡ true
    → (deal assigns args).args ≡ args
deal-same [] args e = refl
deal-same (a ∷ assigns) args e =
    let parts = and_parts (list_all is_not_hash a.items) (no_hashes assigns) e in
    ap (λ (now : List Argument). (deal assigns now).args) (deal_pairs-same a.signals (spread a.signals a.items) args (spread-same a.signals a.items parts.0)) ∙ deal-same assigns args parts.1

-- steady statements leave the arguments as they are
pub steady-same : (t : Setting) (f : Option Statements → Spot → Piece) (s : Statements)
    → is_steady s ≡ true → (spot : Spot) → (flat_list t f s spot).spot.args ≡ spot.args
steady-same t f finish e spot = refl
steady-same t f (place p rest) e spot = steady-same t f rest e (record { args = spot.args; place = p })
steady-same t f (wave tab rest) e spot = steady-same t f rest e spot
steady-same t f (vector assigns rest) e spot =
    let parts = and_parts (no_hashes assigns) (is_steady rest) e in
    steady-same t f rest parts.1 (with_args spot (deal assigns spot.args).args) ∙ deal-same assigns spot.args parts.0
steady-same t f (condition assigns rest) e spot =
    let parts = and_parts (no_hashes assigns) (is_steady rest) e in
    steady-same t f rest parts.1 (with_args spot (deal assigns spot.args).args) ∙ deal-same assigns spot.args parts.0
steady-same t f (loop count body rest) e spot =
    steady-same t f rest (and_parts (is_steady body) (is_steady rest) e).1 spot
steady-same t f (expand body assigns rest) e spot =
    steady-same t f rest e (macro_piece spot (f (slice_get t.macros body) (with_args spot (arguments (length t.outs) assigns)))).spot
steady-same t f (call body assigns rest) e spot = steady-same t f rest e spot
steady-same t f (shift body rest) e spot = cc
steady-same t f (stop rest) e spot = refl
