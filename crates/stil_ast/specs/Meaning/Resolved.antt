-- Statements with their names looked up (IEEE 1450-1999, clause 6, name resolution, and clauses 22 to 24).
use Rattle.std.specs.Prelude.{ℕ, Bool, true, false, List, [], map, flat_map, if◌then◌else◌}
use Rattle.std.specs.List.{position_or_len}
use Rattle.stil_ast.specs.Data.Places.{Body, of_macro, of_procedure, Origin, Titles}
use Rattle.stil_ast.specs.Meaning.Statements.{Assign, Statements, finish, place, wave, vector, condition, loop, expand, call, shift, stop}
use Rattle.stil_ast.specs.Data.Written.{Written, no_more, single, looped, shifted}
use Rattle.stil_ast.specs.Data.Texts.{same}
use Rattle.stil_ast.specs.Meaning.Signals.{Names, Signal}
use Rattle.stil_ast.specs.Meaning.Members.{members}
use Rattle.stil_ast.specs.Meaning.Running.{Setting}
use Rattle.tester_types.specs.declared.signal.Direction.{Direction}
use Rattle.tester_types.specs.declared.signal.Direction.TheVariants.{Out}
use Rattle.stil_ast.specs.declared.body.Assignment.{Assignment}
use Rattle.stil_ast.specs.declared.body.Step.{Step}
use Rattle.stil_ast.specs.declared.body.Step.TheVariants.{Wave, Vector, Condition, Macro, Call, BreakPoint, IddqTestPoint, Stop}
use Rattle.stil_ast.specs.declared.blocks.BodyDef.{BodyDef}
use Rattle.stil_ast.specs.declared.blocks.DefBlock.{DefBlock}

-- what the names in a pattern are looked up in: signals and groups, the names of tables, the bodies of macros and of
-- procedures; and the names of the blocks in which all this stands
pub record Scope : Type 0 where
  pub names : Names
  pub tables : List (List ℕ)
  pub macros : List BodyDef
  pub procedures : List BodyDef
  pub titles : Titles

-- the bodies of all MacroDefs or Procedures blocks of one name, in text order
abbrev pub bodies_named : List DefBlock → List ℕ → List BodyDef
bodies_named blocks name = flat_map (λ (d : DefBlock). if same d.name name then d.bodies else []) blocks

-- the number of a name, or one past the last where it is unknown
abbrev pub table_number : Scope → List ℕ → ℕ
table_number scope name = position_or_len (same name) scope.tables

-- the number of a body, or one past the last
abbrev pub body_number : List BodyDef → List ℕ → ℕ
body_number bodies name = position_or_len (λ (d : BodyDef). same d.name name) bodies

-- an assignment with its signals
abbrev pub resolved_assign : Names → Assignment → Assign
resolved_assign names a = record { signals = members names a.reference; items = a.items }

-- assignments in text order
abbrev pub resolved_assigns : Names → List Assignment → List Assign
resolved_assigns names assigns = map (resolved_assign names) assigns

-- a statement, and those behind it; break points and test points do nothing
abbrev pub resolved_step : Scope → Step → Statements → Statements
resolved_step scope (Wave name) rest = wave (table_number scope name) rest
resolved_step scope (Vector assigns) rest = vector (resolved_assigns scope.names assigns) rest
resolved_step scope (Condition assigns) rest = condition (resolved_assigns scope.names assigns) rest
resolved_step scope (Macro name assigns) rest =
    expand (body_number scope.macros name) (resolved_assigns scope.names assigns) rest
resolved_step scope (Call name assigns) rest =
    call (body_number scope.procedures name) (resolved_assigns scope.names assigns) rest
resolved_step scope BreakPoint rest = rest
resolved_step scope IddqTestPoint rest = rest
resolved_step scope Stop rest = stop rest

-- where a statement stands
abbrev pub origin : Body → ℕ → Origin
origin b line = record { body = b; line = line }

-- the statements of a body of this kind
abbrev pub resolved : Scope → Body → Written → Statements
resolved scope b no_more = finish
resolved scope b (single line plain rest) =
    place (origin b line) (resolved_step scope plain (resolved scope b rest))
resolved scope b (looped line times body rest) =
    place (origin b line) (loop times (resolved scope b body) (resolved scope b rest))
resolved scope b (shifted line body rest) =
    place (origin b line) (shift (resolved scope b body) (resolved scope b rest))

-- whether a direction is Out
abbrev pub is_out : Direction → Bool
is_out Out = true
is_out _ = false

-- for each signal, whether it is Out
abbrev pub outs_of : Names → List Bool
outs_of names = map (λ (s : Signal). is_out s.direction) names.signals

-- what the statements of a pattern stand on, with the signals at which chains end
abbrev pub setting_of : Scope → List ℕ → Setting
setting_of scope scan_outs = record {
  outs = outs_of scope.names;
  scan_outs = scan_outs;
  macros = map (λ (d : BodyDef). resolved scope of_macro d.body) scope.macros;
  procedures = map (λ (d : BodyDef). resolved scope of_procedure d.body) scope.procedures;
}
