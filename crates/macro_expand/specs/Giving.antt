-- What is given to a body as its arguments.
use Rattle.std.specs.Prelude.{◌≡◌, ℕ, ◌==◌, ◌||◌, Bool, List, Result, Ok, Err}
use Rattle.stil_ast.specs.Data.Items.{item_of}
use Rattle.stil_ast.specs.Data.Places.{Titles}
use Rattle.stil_ast.specs.Meaning.Arguments.{Argument, with_arguments}
use Rattle.stil_ast.specs.Meaning.Dealing.{is_character}
use Rattle.stil_ast.specs.Meaning.Resolved.{Scope, resolved_assigns}
use Rattle.stil_ast.specs.Meaning.Statements.{Assign}
use Rattle.stil_ast.specs.Faults.AssignmentFaults.{Walked, Checked, fine, Standing, check_arguments}
use Rattle.stil_ast.specs.declared.body.Assignment.{Assignment}
use Rattle.stil_ast.specs.declared.data.ItemRun.{ItemRun}
use Rattle.macro_expand.specs.Refusing.{IsAt, Trouble}

-- whether a run has characters alone
abbrev pub has_characters : ItemRun → Bool
has_characters run = (run.times == 0) || is_character (item_of run.item)

-- how far a check has come with these arguments left to the caller
abbrev pub at_count : List Argument → List ℕ → ℕ → Walked
at_count args hashes count = record { args = args; hashes = hashes; count = count }

-- arguments were checked without a fault, and were given
pub record Gives (check : Walked → Checked) (assigns : List Assign) (args : List Argument) (hashes : List ℕ)
    (before after : ℕ) (given new_given : List Argument) : Type 0 where
  pub checked : check (at_count args hashes before) ≡ fine (at_count args hashes after)
  pub given_now : new_given ≡ with_arguments assigns given

-- arguments are given, or refused
abbrev pub GivesOr : {A : Type 0} → Titles → (Walked → Checked) → List Assign → List Argument → List ℕ → ℕ → ℕ
    → List Argument → List Argument → Result A Trouble → Type 0
GivesOr titles check assigns args hashes before after given new_given (Ok done) =
    Gives check assigns args hashes before after given new_given
GivesOr titles check assigns args hashes before after given new_given (Err trouble) =
    IsAt titles (check (at_count args hashes before)) trouble

-- so many of the arguments are still to be given; what is left, and what was given, are the whole
pub record IsGiving (sc : Scope) (s : Standing) (args : List Argument) (hashes : List ℕ) (all : List Assignment)
    (start : ℕ) (given : List Argument) (left : List Assignment) (now : ℕ) (given_now : List Argument) : Type 0 where
  pub checked : check_arguments sc s left (at_count args hashes now)
      ≡ check_arguments sc s all (at_count args hashes start)
  pub gives : with_arguments (resolved_assigns sc.names left) given_now
      ≡ with_arguments (resolved_assigns sc.names all) given
