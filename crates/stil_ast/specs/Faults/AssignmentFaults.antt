-- How far the statements of an executive are checked, and the rules on assignments (IEEE 1450-1999, clauses 21 to 24).
use Rattle.std.specs.Prelude.{ℕ, ◌+◌, ◌%◌, ◌==◌, ◌&&◌, ◌||◌, Bool, true, false, List, [], ◌∷◌, ◌++◌, Option, Some, None, length, is_some, nat_le, if◌then◌else◌}
use Rattle.std.specs.List.{list_all, list_any}
use Rattle.text_bytes.specs.Limits.{most_walked}
use Rattle.stil_ast.specs.Data.Places.{Body}
use Rattle.stil_ast.specs.Meaning.Statements.{Item, Assign}
use Rattle.stil_ast.specs.Meaning.Arguments.{Argument, next_entry}
use Rattle.stil_ast.specs.Meaning.Dealing.{deal, spread, takers, has_signal, is_hash, is_character}
use Rattle.stil_ast.specs.Faults.Found.{fault_in}
use Rattle.stil_ast.specs.Meaning.Members.{reference_kind}
use Rattle.stil_ast.specs.Meaning.Resolved.{Scope, origin, resolved_assign}
use Rattle.stil_ast.specs.declared.body.Assignment.{Assignment}
use Rattle.stil_ast.specs.declared.blocks.BodyDef.{BodyDef}
use Rattle.stil_ast.specs.declared.fault.StilFault.{StilFault}
use Rattle.stil_ast.specs.declared.fault.StilKind.{StilKind}
use Rattle.stil_ast.specs.declared.fault.StilKind.TheVariants.{TooLarge, ShiftForm, Width, NoData}

-- how far a check has come: what is left of the arguments, the signals that got a `#` in this pass of a Shift, and how
-- many statements were walked and signals assigned
pub record Walked : Type 0 where
  pub args : List Argument
  pub hashes : List ℕ
  pub count : ℕ

-- a check that has come so far, or its fault
pub data Checked : Type 0 where
  fine : Walked → Checked
  refused : StilFault → Checked

-- what follows, where nothing is at fault yet
abbrev pub then_check : Checked → (Walked → Checked) → Checked
then_check (fine w) next = next w
then_check (refused fault) next = refused fault

-- one rule: a fault where the test fails, else what follows
abbrev pub rule : Bool → StilFault → (Walked → Checked) → Walked → Checked
rule true fault next w = next w
rule false fault next w = refused fault

-- the same where a test must fail
abbrev pub bar_if : Bool → StilFault → (Walked → Checked) → Walked → Checked
bar_if true fault next w = refused fault
bar_if false fault next w = next w

-- the same for a fault that may be there
abbrev pub rule_kind : Option StilKind → (StilKind → StilFault) → (Walked → Checked) → Walked → Checked
rule_kind None fault next w = next w
rule_kind (Some kind) fault next w = refused (fault kind)

-- what a Macro or Call names: a macro or a procedure, its number, and its body where there is one
pub record Callee : Type 0 where
  pub kind : Body
  pub number : ℕ
  pub found : Option BodyDef

-- where a statement stands: in a body of which kind; whether in a Loop of this body, in a Shift, and there without a
-- pass; how many loops and calls are round it, and the bodies inside which it runs
pub record Standing : Type 0 where
  pub body : Body
  pub in_loop : Bool
  pub in_shift : Bool
  pub without_pass : Bool
  pub loops : ℕ
  pub calls : ℕ
  pub running : List Callee

-- a fault on a line of the body
abbrev pub fault_on : Scope → Standing → ℕ → StilKind → StilFault
fault_on scope s line kind = fault_in scope.titles (origin s.body line) kind

-- a `#` in a Loop of the same body, or one for a signal that has one in this Shift
abbrev pub hash_misplaced : Standing → Assign → List ℕ → Bool
hash_misplaced s a before =
    (s.in_loop && list_any is_hash a.items) || (s.in_shift && list_any (has_signal before) (takers (a ∷ [])))

-- as many items as signals, or one `#` or `%` for all
abbrev pub width_fits : Assign → Bool
width_fits a = length (spread a.signals a.items) == length a.signals

-- whether each `#` and `%` finds a character
abbrev pub all_there : List ℕ → List Item → List Argument → Bool
all_there [] items args = true
all_there (signal ∷ signals) [] args = true
all_there (signal ∷ signals) (item ∷ items) args =
    (is_character item || is_some (next_entry args signal)) && all_there signals items args

-- whether an assignment finds its characters; without a pass it needs none
abbrev pub data_there : Standing → Assign → List Argument → Bool
data_there s a args = s.without_pass || all_there a.signals (spread a.signals a.items) args

-- the limit on statements walked and signals assigned
abbrev pub may_walk : ℕ → Bool
may_walk count = nat_le count most_walked

-- the signals that got a `#` are kept inside a Shift alone
abbrev pub hashes_after : Standing → Assign → List ℕ → List ℕ
hashes_after s a before = if s.in_shift then before ++ takers (a ∷ []) else before

-- how far an assignment brings the check
abbrev pub walked_assign : Standing → Assign → Walked → Walked
walked_assign s a w = record {
  args = (deal (a ∷ []) w.args).args;
  hashes = hashes_after s a w.hashes;
  count = w.count + length a.signals;
}

-- an assignment of V or C: its reference, the limit, the form of `#`, the width, the data
abbrev pub check_assign : Scope → Standing → Assignment → Walked → Checked
check_assign scope s d w =
    rule_kind (reference_kind scope.names d.reference) (fault_on scope s d.line)
    (rule (may_walk (w.count + length (resolved_assign scope.names d).signals)) (fault_on scope s d.line TooLarge)
    (bar_if (hash_misplaced s (resolved_assign scope.names d) w.hashes) (fault_on scope s d.line ShiftForm)
    (rule (width_fits (resolved_assign scope.names d)) (fault_on scope s d.line Width)
    (rule (data_there s (resolved_assign scope.names d) w.args) (fault_on scope s d.line NoData)
    (λ w. fine (walked_assign s (resolved_assign scope.names d) w)))))) w

-- assignments in text order
abbrev pub check_assigns : Scope → Standing → List Assignment → Walked → Checked
check_assigns scope s [] w = fine w
check_assigns scope s (d ∷ assigns) w =
    then_check (check_assign scope s d w) (check_assigns scope s assigns)

-- an argument has a whole number of characters for each signal
abbrev pub argument_fits : Assign → Bool
argument_fits a =
    if length a.signals == 0 then length a.items == 0 else length a.items % length a.signals == 0

-- how far an argument brings the check
abbrev pub walked_argument : Assign → Walked → Walked
walked_argument a w = record { args = w.args; hashes = w.hashes; count = w.count + length a.signals }

-- an argument: its reference, the limit, that it has neither `#` nor `%`, the width
abbrev pub check_argument : Scope → Standing → Assignment → Walked → Checked
check_argument scope s d w =
    rule_kind (reference_kind scope.names d.reference) (fault_on scope s d.line)
    (rule (may_walk (w.count + length (resolved_assign scope.names d).signals)) (fault_on scope s d.line TooLarge)
    (rule (list_all is_character d.items) (fault_on scope s d.line ShiftForm)
    (rule (argument_fits (resolved_assign scope.names d)) (fault_on scope s d.line Width)
    (λ w. fine (walked_argument (resolved_assign scope.names d) w))))) w

-- arguments in text order
abbrev pub check_arguments : Scope → Standing → List Assignment → Walked → Checked
check_arguments scope s [] w = fine w
check_arguments scope s (d ∷ assigns) w =
    then_check (check_argument scope s d w) (check_arguments scope s assigns)
