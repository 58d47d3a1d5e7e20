-- The executives of a text, with all that the compiler needs of them (IEEE 1450-1999, clauses 16 to 18 and 23).
use Rattle.std.specs.Prelude.{◌≡◌, List, [], ◌∷◌, Some, length, map}
use Rattle.stil_ast.specs.Meaning.Executive.{table_list, chain_list, tree_of, parts, exec_vectors, cycles}
use Rattle.stil_ast.specs.Meaning.ExecutiveData.{Executive, AreSameTrees, vectors_of, cycles_of}
use Rattle.stil_ast.specs.Meaning.Signals.{names_of}
use Rattle.stil_ast.specs.Faults.ExecutiveFaults.{fifth_fault}
use Rattle.stil_ast.specs.declared.blocks.Blocks.{Blocks}
use Rattle.stil_ast.specs.declared.executive.ExecDecl.{ExecDecl}
use Rattle.stil_ast.specs.declared.fault.StilFault.{StilFault}
use Rattle.stil_ast.specs.Data.Refusal.{StilRefusal}
use Rattle.answers.specs.declared.short.Short.TheVariants as refusal
use Rattle.time_expr.specs.TimesOf.{times_of}

-- Plain data are those of an executive of a text: its tables, its chains, and for each of its patterns, in running
-- order up to the first with a Stop, a tree that is as good as the one that the language defines. So the trees run one
-- after another make the executive's vectors, and its cycles.
pub record IsExecutive (blocks : Blocks) (e : ExecDecl) (x : Executive) : Type 0 where
  pub name_is : x.name ≡ e.name
  pub line_is : x.line ≡ e.line
  pub tables_are : x.tables ≡ table_list times_of blocks e
  pub chains_are : x.chains ≡ chain_list blocks e
  pub trees_are : AreSameTrees x.trees (map tree_of (parts blocks e))
  pub vectors_are : vectors_of (length (names_of blocks).signals) x ≡ exec_vectors blocks e
  pub cycles_are : cycles_of (length (names_of blocks).signals) x ≡ cycles times_of blocks e

-- the same of several, one by one
abbrev pub AreExecutives : Blocks → List ExecDecl → List Executive → Type 0
AreExecutives blocks [] [] = Unit {0}
AreExecutives blocks (e ∷ execs) (x ∷ found) = IsExecutive blocks e x × AreExecutives blocks execs found
AreExecutives blocks _ _ = ⊥

-- these are all the executives of a text
abbrev pub AreAllOf : Blocks → List Executive → Type 0
AreAllOf blocks found = AreExecutives blocks blocks.executives found

-- the fault by which the executives of a text are refused
pub record IsExecFault (blocks : Blocks) (r : StilRefusal) : Type 0 where
  pub fault : StilFault
  pub is : r ≡ refusal.Fault fault
  pub first : fifth_fault times_of blocks ≡ Some fault
