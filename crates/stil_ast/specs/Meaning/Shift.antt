-- How often a Shift runs its body, and with which data (IEEE 1450-1999, clauses 21 and 24: scan data and Shift).
use Rattle.std.specs.Prelude.{ℕ, ◌-◌, Bool, true, false, List, [], ◌∷◌, ◌++◌, length, max, replicate, slice_index_or, slice_set}
use Rattle.stil_ast.specs.Meaning.Statements.{Statements, finish, place, wave, vector, condition, loop, expand, call, shift, stop}
use Rattle.stil_ast.specs.Meaning.Arguments.{Entry, padding, Argument, argument_of}
use Rattle.stil_ast.specs.Meaning.Dealing.{takers}

-- the signals that have a `#` in the body of a Shift
abbrev pub taking : Statements → List ℕ
taking finish = []
taking (place p rest) = taking rest
taking (wave table rest) = taking rest
taking (vector assigns rest) = takers assigns ++ taking rest
taking (condition assigns rest) = takers assigns ++ taking rest
taking (loop times body rest) = taking rest
taking (expand body assigns rest) = taking rest
taking (call body assigns rest) = taking rest
taking (shift body rest) = taking rest
taking (stop rest) = taking rest

-- the number of passes: the longest argument that is left among these signals
abbrev pub passes : List ℕ → List Argument → ℕ
passes [] args = 0
passes (signal ∷ signals) args = max (length (argument_of args signal).left) (passes signals args)

-- What is left becomes a column of one entry a pass. What is too short is padded, at the end for an Out signal
-- and else in front.
abbrev pub column : Bool → ℕ → List Entry → List Entry
column true count left = left ++ replicate (count - length left) padding
column false count left = replicate (count - length left) padding ++ left

-- the arguments with the column of one signal
abbrev pub with_column : List Bool → ℕ → ℕ → List Argument → List Argument
with_column outs count signal args =
    slice_set args signal (record {
      left = column (slice_index_or outs signal false) count (argument_of args signal).left;
      taken = (argument_of args signal).taken;
    })

-- the arguments with the columns of these signals
abbrev pub with_columns : List Bool → ℕ → List ℕ → List Argument → List Argument
with_columns outs count [] args = args
with_columns outs count (signal ∷ signals) args =
    with_columns outs count signals (with_column outs count signal args)

-- the arguments with which the passes of a body begin
abbrev pub columns : List Bool → List ℕ → List Argument → List Argument
columns outs signals args = with_columns outs (passes signals args) signals args
