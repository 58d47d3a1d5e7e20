-- The flat tree of statements.
use Rattle.std.specs.Prelude.{ℕ, zero, suc, List, [], ◌∷◌, true, false, Option, Some, None, length, slice_get}
use Rattle.text_bytes.specs.Limits.{deepest_calls}
use Rattle.stil_ast.specs.Data.Places.{of_pattern, Origin}
use Rattle.stil_ast.specs.Meaning.Statements.{Assign, Statements, finish, place, wave, vector, condition, loop, expand, call, shift, stop}
use Rattle.stil_ast.specs.Meaning.Arguments.{Entry, given, padding, Argument, arguments}
use Rattle.stil_ast.specs.Meaning.Dealing.{Gift, Dealt, deal, takers, mark_of}
use Rattle.stil_ast.specs.Meaning.Shift.{taking, passes, columns}
use Rattle.stil_ast.specs.Meaning.Running.{Setting}
use Rattle.stil_ast.specs.Meaning.Flat.{Flat, done, table, character, back, cycle, repeat, save}

-- one flat tree after another
abbrev pub joined : Flat → Flat → Flat
joined done after = after
joined (table t rest) after = table t (joined rest after)
joined (character signal c rest) after = character signal c (joined rest after)
joined (back signal rest) after = back signal (joined rest after)
joined (cycle mark spot rest) after = cycle mark spot (joined rest after)
joined (repeat count body rest) after = repeat count body (joined rest after)
joined (save putting body rest) after = save putting body (joined rest after)

-- what a gift is in a flat tree
abbrev pub entry_front : Entry → ℕ → Flat → Flat
entry_front (given c) signal rest = character signal c rest
entry_front padding signal rest = back signal rest

-- what gifts are in a flat tree
abbrev pub gifts_front : List Gift → Flat → Flat
gifts_front [] rest = rest
gifts_front (g ∷ gifts) rest = entry_front g.entry g.signal (gifts_front gifts rest)

-- a place in the text: what is left of the arguments, and where the statement stands
pub record Spot : Type 0 where
  pub args : List Argument
  pub place : Origin

-- a tree, and the place behind what it stands for
pub record Piece : Type 0 where
  pub flat : Flat
  pub spot : Spot

-- a piece behind another tree
abbrev pub behind_flat : Flat → Piece → Piece
behind_flat flat piece = record { flat = joined flat piece.flat; spot = piece.spot }

-- one piece after another
abbrev pub then_piece : Piece → (Spot → Piece) → Piece
then_piece piece next = behind_flat piece.flat (next piece.spot)

-- nothing
abbrev pub no_piece : Spot → Piece
no_piece spot = record { flat = done; spot = spot }

-- the same piece, so often one after another
abbrev pub pieces : ℕ → (Spot → Piece) → Spot → Piece
pieces zero f spot = no_piece spot
pieces (suc n) f spot = then_piece (f spot) (pieces n f)

-- a place with other arguments left
abbrev pub with_args : Spot → List Argument → Spot
with_args spot args = record { args = args; place = spot.place }

-- a piece, behind which this place holds
abbrev pub placed_at : Origin → Piece → Piece
placed_at p piece = record { flat = piece.flat; spot = record { args = piece.spot.args; place = p } }

-- assignments
abbrev pub gifts_piece : Dealt → Spot → Piece
gifts_piece d spot = record { flat = gifts_front d.gifts done; spot = with_args spot d.args }

-- assignments and a vector
abbrev pub cycle_piece : Setting → List Assign → Dealt → Spot → Piece
cycle_piece t assigns d spot = record {
  flat = gifts_front d.gifts (cycle (mark_of t.scan_outs (takers assigns) d.args) spot.place done);
  spot = with_args spot d.args;
}

-- a Loop stands in place; it leaves the arguments as they are, since no `#` stands in it
abbrev pub repeat_piece : ℕ → Spot → Piece → Piece
repeat_piece count spot body = record { flat = repeat count body.flat done; spot = spot }

-- one pass of a Shift, behind which the place is again that of the Shift
abbrev pub pass_piece : Origin → (Spot → Piece) → Spot → Piece
pass_piece p f spot = placed_at p (f spot)

-- a macro's body stands in place; a procedure's body and the passes of a Shift stand in a save
abbrev pub macro_piece : Spot → Piece → Piece
macro_piece spot body = record { flat = body.flat; spot = with_args body.spot spot.args }

-- a procedure's body stands in a save that puts the state back
abbrev pub call_piece : Spot → Piece → Piece
call_piece spot body = record { flat = save true body.flat done; spot = spot }

-- the passes of a Shift stand in a save that puts nothing back
abbrev pub shift_piece : Spot → Piece → Piece
shift_piece spot body = record { flat = save false body.flat done; spot = with_args spot body.spot.args }

-- the flat tree of statements, where `inner` gives that of the body that a Macro or Call names
abbrev pub flat_list : Setting → (Option Statements → Spot → Piece) → Statements → Spot → Piece
flat_list t inner finish spot = no_piece spot
flat_list t inner (place p rest) spot = flat_list t inner rest (record { args = spot.args; place = p })
flat_list t inner (wave tab rest) spot = behind_flat (table tab done) (flat_list t inner rest spot)
flat_list t inner (vector assigns rest) spot =
    then_piece (cycle_piece t assigns (deal assigns spot.args) spot) (flat_list t inner rest)
flat_list t inner (condition assigns rest) spot =
    then_piece (gifts_piece (deal assigns spot.args) spot) (flat_list t inner rest)
flat_list t inner (loop count body rest) spot =
    then_piece (repeat_piece count spot (flat_list t inner body spot)) (flat_list t inner rest)
flat_list t inner (expand body assigns rest) spot =
    then_piece
    (macro_piece spot (inner (slice_get t.macros body) (with_args spot (arguments (length t.outs) assigns))))
    (flat_list t inner rest)
flat_list t inner (call body assigns rest) spot =
    then_piece
    (call_piece spot (inner (slice_get t.procedures body) (with_args spot (arguments (length t.outs) assigns))))
    (flat_list t inner rest)
flat_list t inner (shift body rest) spot =
    then_piece
    (shift_piece spot (pieces (passes (taking body) spot.args) (pass_piece spot.place (flat_list t inner body))
    (with_args spot (columns t.outs (taking body) spot.args))))
    (flat_list t inner rest)
flat_list t inner (stop rest) spot = no_piece spot

-- bodies that name bodies, so deep
unfoldable pub flat_calls : Setting → ℕ → Option Statements → Spot → Piece
flat_calls t zero body spot = no_piece spot
flat_calls t (suc depth) None spot = no_piece spot
flat_calls t (suc depth) (Some body) spot = flat_list t (flat_calls t depth) body spot

-- the flat tree of a pattern's own statements
abbrev pub flat_of : Setting → Statements → Flat
flat_of t statements =
    (flat_list t (flat_calls t deepest_calls) statements
    (record { args = []; place = record { body = of_pattern; line = 0 } })).flat
