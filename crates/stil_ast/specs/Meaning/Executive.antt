-- The cycles of an executive (IEEE 1450-1999, clauses 16 to 18 and 23).
use Rattle.std.specs.Prelude.{ℕ, Bool, true, false, List, [], ◌∷◌, Result, map, length, codes}
use Rattle.stil_ast.specs.Meaning.State.{Vector, start_of}
use Rattle.stil_ast.specs.Data.Places.{Place, of_pattern, Titles}
use Rattle.stil_ast.specs.Meaning.Statements.{Statements}
use Rattle.stil_ast.specs.Meaning.Cycles.{Dated, dated}
use Rattle.stil_ast.specs.Meaning.Running.{Setting, Ran, Here, Made, still, then_run, run, outside, stops}
use Rattle.stil_ast.specs.Meaning.ExecutiveData.{vector_period, Tree, Executive}
use Rattle.stil_ast.specs.Meaning.Flattening.{flat_of}
use Rattle.stil_ast.specs.Data.Texts.{name_or_none}
use Rattle.stil_ast.specs.Meaning.Signals.{names_of}
use Rattle.stil_ast.specs.Meaning.Times.{Met, Times}
use Rattle.stil_ast.specs.Meaning.Variables.{picked, value_of}
use Rattle.stil_ast.specs.Meaning.Tables.{tables_named, made_tables}
use Rattle.stil_ast.specs.Meaning.Chains.{Chain, chains_named, chains_of, scan_outs}
use Rattle.stil_ast.specs.Meaning.Bursts.{Played, played, exec_scans}
use Rattle.stil_ast.specs.Meaning.Resolved.{Scope, bodies_named, resolved, setting_of}
use Rattle.stil_ast.specs.declared.timing.TableDecl.{TableDecl}
use Rattle.stil_ast.specs.declared.executive.ExecDecl.{ExecDecl}
use Rattle.stil_ast.specs.declared.blocks.Blocks.{Blocks}
use Rattle.tester_types.specs.declared.wave.Table.{Table}

-- the tables of an executive, in text order
abbrev pub exec_tables : Blocks → ExecDecl → List TableDecl
exec_tables blocks e = tables_named blocks.timings (name_or_none e.timing)

-- where they stand
abbrev pub timing_place : ExecDecl → Place
timing_place e = record { block = codes "Timing"; name = name_or_none e.timing; line = 0 }

-- the value of a variable of an executive
abbrev pub exec_value : {V : Type 0} → Times V → Blocks → ExecDecl → List ℕ → Result V Met
exec_value times blocks e name = value_of times (picked blocks e) name

-- its tables, with their periods and waves
abbrev pub table_list : {V : Type 0} → Times V → Blocks → ExecDecl → List Table
table_list times blocks e =
    made_tables times (exec_value times blocks e) (names_of blocks) (timing_place e) (exec_tables blocks e)

-- its chains
abbrev pub chain_list : Blocks → ExecDecl → List Chain
chain_list blocks e = chains_of (names_of blocks) (chains_named blocks.scans (exec_scans blocks e))

-- the names of the blocks in which the bodies of a pattern stand as it is run
abbrev pub titles_of : Played → Titles
titles_of p = record { pattern = p.pattern.name; macros = p.macros; procedures = p.procedures }

-- what the names in a pattern mean as it is run
abbrev pub scope_of : Blocks → ExecDecl → Played → Scope
scope_of blocks e p = record {
  names = names_of blocks;
  tables = map (λ (t : TableDecl). t.name) (exec_tables blocks e);
  macros = bodies_named blocks.macros p.macros;
  procedures = bodies_named blocks.procedures p.procedures;
  titles = titles_of p;
}

-- a pattern's statements, what they stand on, and the names of the blocks in which they stand
pub record Part : Type 0 where
  pub setting : Setting
  pub statements : Statements
  pub titles : Titles

-- a pattern as it is run
abbrev pub part_of : Blocks → ExecDecl → Played → Part
part_of blocks e p = record {
  setting = setting_of (scope_of blocks e p) (scan_outs (names_of blocks) (chain_list blocks e));
  statements = resolved (scope_of blocks e p) of_pattern p.pattern.body;
  titles = titles_of p;
}

-- nothing runs behind a pattern with a Stop
abbrev pub cut_behind : Bool → Part → List Part → List Part
cut_behind true p rest = p ∷ []
cut_behind false p rest = p ∷ rest

-- the patterns up to the first with a Stop
abbrev pub up_to_stop : List Part → List Part
up_to_stop [] = []
up_to_stop (p ∷ parts) = cut_behind (stops p.statements) p (up_to_stop parts)

-- the patterns that an executive runs, in order
abbrev pub parts : Blocks → ExecDecl → List Part
parts blocks e = up_to_stop (map (part_of blocks e) (played blocks e))

-- a pattern begins with the state that the one before it left
abbrev pub run_parts : List Part → Here → Ran Here
run_parts [] h = still h
run_parts (p ∷ parts) h = then_run (run p.setting p.statements (outside h.state)) (run_parts parts)

-- the run of an executive, from the start
abbrev pub exec_run : Blocks → ExecDecl → Ran Here
exec_run blocks e = run_parts (parts blocks e) (outside (start_of (length (names_of blocks).signals)))

-- the vectors of an executive, in order
abbrev pub exec_vectors : Blocks → ExecDecl → List Vector
exec_vectors blocks e = map (λ (m : Made). m.vector) (exec_run blocks e).made

-- The cycles of an executive: each starts at the sum of the periods of those before it.
abbrev pub cycles : {V : Type 0} → Times V → Blocks → ExecDecl → List Dated
cycles times blocks e = dated (vector_period (table_list times blocks e)) (exec_vectors blocks e)

-- a pattern's flat tree, with the names of its blocks
abbrev pub tree_of : Part → Tree
tree_of p = record { titles = p.titles; flat = flat_of p.setting p.statements }

-- an executive as plain data
abbrev pub executive_of : {V : Type 0} → Times V → Blocks → ExecDecl → Executive
executive_of times blocks e = record {
  name = e.name;
  line = e.line;
  tables = table_list times blocks e;
  chains = chain_list blocks e;
  trees = map tree_of (parts blocks e);
}

-- the executives of a text, in text order
abbrev pub executives_of : {V : Type 0} → Times V → Blocks → List Executive
executives_of times blocks = map (executive_of times blocks) blocks.executives
