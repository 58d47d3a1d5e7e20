-- Whether a Macro or Call may run the body that it names, and what that body begins with.
use Rattle.std.specs.Prelude.{◌≡◌, ℕ, true, false, List, [], Option, Some, Result, Ok, Err, option_map, replicate, nat_lt}
use Rattle.std.specs.Borrow.{Bor}
use Rattle.std.specs.List.{list_any}
use Rattle.text_bytes.specs.Limits.{deepest_calls}
use Rattle.stil_ast.specs.Data.Places.{Titles}
use Rattle.stil_ast.specs.Data.Texts.{has_name}
use Rattle.stil_ast.specs.Data.Written.{Written}
use Rattle.stil_ast.specs.Meaning.Arguments.{Argument, no_argument}
use Rattle.stil_ast.specs.Meaning.Flat.{Flat, done, table}
use Rattle.stil_ast.specs.Meaning.Flattening.{joined, Spot, Piece}
use Rattle.stil_ast.specs.Meaning.Resolved.{Scope, table_number, resolved}
use Rattle.stil_ast.specs.Meaning.Statements.{Assign, Statements}
use Rattle.stil_ast.specs.Faults.AssignmentFaults.{Walked, Checked, fine, rule, Callee, Standing, fault_on}
use Rattle.stil_ast.specs.Faults.PatternFaults.{same_callee, check_call}
use Rattle.stil_ast.specs.declared.body.Assignment.{Assignment}
use Rattle.stil_ast.specs.declared.blocks.BodyDef.{BodyDef}
use Rattle.stil_ast.specs.declared.fault.StilKind.TheVariants.{UnknownName}
use Rattle.macro_expand.specs.Giving.{at_count, Gives}
use Rattle.macro_expand.specs.Refusing.{IsAt, Trouble}
use Rattle.macro_expand.specs.Walks.{Puts}
use Rattle.macro_expand.specs.declared.walk.Walk.{Walk}

-- a table must be known
abbrev pub wave_check : Scope → Standing → ℕ → List ℕ → Walked → Checked
wave_check sc s line name = rule (has_name sc.tables name) (fault_on sc s line UnknownName) fine

-- and holds from there on
abbrev pub wave_piece : Scope → List ℕ → Spot → Piece
wave_piece sc name here = record { flat = table (table_number sc name) done; spot = here }

-- a body may run where calls go deep enough, outside of a Shift; it is there, and doesn't run already
pub record MayCall (s : Standing) (c : Callee) (d : BodyDef) : Type 0 where
  pub deep : nat_lt s.calls deepest_calls ≡ true
  pub form : s.in_shift ≡ false
  pub found : c.found ≡ Some d
  pub free : list_any (same_callee c) s.running ≡ false

-- a body may run, or the statement that names it is refused, whatever its arguments are
abbrev pub CallsOr : Scope → Standing → ℕ → Callee → Result (Bor BodyDef) Trouble → Type 0
CallsOr sc s line c (Ok d) = MayCall s c d.now
CallsOr sc s line c (Err trouble) =
    (check : Standing → Written → Walked → Checked) (assigns : List Assignment) (w : Walked)
    → IsAt sc.titles (check_call sc check s line c assigns w) trouble

-- a body begins with its own arguments, no signal noted, and a tree behind which it is written
pub record Begins (check : Walked → Checked) (assigns : List Assign) (signals : ℕ) (args : List Argument)
    (hashes : List ℕ) (count : ℕ) (out : Flat) (own : Walk) : Type 0 where
  pub gives : Gives check assigns args hashes count own.count (replicate signals no_argument) own.args
  pub hashes_none : own.hashes ≡ []
  pub out_same : own.out ≡ out

-- a body begins, or its arguments are refused
abbrev pub BeginsOr : Titles → (Walked → Checked) → List Assign → ℕ → List Argument → List ℕ → ℕ → Flat
    → Result Walk Trouble → Type 0
BeginsOr titles check assigns signals args hashes count out (Ok own) =
    Begins check assigns signals args hashes count out own
BeginsOr titles check assigns signals args hashes count out (Err trouble) =
    IsAt titles (check (at_count args hashes count)) trouble

-- the statements of a body
abbrev pub statements_of : Scope → Callee → Option Statements
statements_of sc c = option_map (λ (d : BodyDef). resolved sc c.kind d.body) c.found

-- a body was run behind a tree; the caller has its arguments again
pub record Runs (check : Walked → Checked) (piece : Piece) (args : List Argument) (hashes : List ℕ) (count : ℕ)
    (out : Flat) (own : Walk) : Type 0 where
  pub checked : check (at_count args hashes count) ≡ fine (at_count args hashes own.count)
  pub written : Puts out (joined piece.flat) own.out

-- a body was run, or something in it is refused
abbrev pub RunsOr : Titles → (Walked → Checked) → Piece → List Argument → List ℕ → ℕ → Flat → Result Walk Trouble
    → Type 0
RunsOr titles check piece args hashes count out (Ok own) = Runs check piece args hashes count out own
RunsOr titles check piece args hashes count out (Err trouble) = IsAt titles (check (at_count args hashes count)) trouble
