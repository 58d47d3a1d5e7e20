-- PatternExec blocks (IEEE 1450-1999, clause 16).
use Rattle.std.specs.Prelude.{ℕ, Bool, false, List, [], ◌∷◌, codes, filter_map, slice_get, Option, Some, None, is_some, not, if◌then◌else◌, Result, Ok, Err}
use Rattle.stil_tree.specs.Trees.{Entry}
use Rattle.stil_form.specs.declared.fault.FormFault.{FormFault}
use Rattle.stil_form.specs.declared.fault.FormKind.{FormKind}
use Rattle.stil_form.specs.declared.fault.FormKind.TheVariants.{Shape, LeftOut, Twice}
use Rattle.stil_form.specs.Lexeme.{Lexeme}
use Rattle.answers.specs.Reading.{and_then, reading}
use Rattle.stil_form.specs.Setting.{Setting, lexemes_at, at_statement, line_at, inner_of, unskipped}
use Rattle.stil_ast.specs.declared.name.Named.{Named}
use Rattle.stil_ast.specs.declared.executive.ExecDecl.{ExecDecl}
use Rattle.pattern_blocks.specs.declared.executive.ExecWord.{ExecWord}
use Rattle.pattern_blocks.specs.declared.executive.ExecWord.TheVariants as word
use Rattle.pat_read.specs.Statements.{only_name}
use Rattle.block_forms.specs.Heads.{where_so, name_or_empty, titled_block}
use Rattle.block_forms.specs.Keywords.{meaning}
use Rattle.block_forms.specs.Named.{named_on}

-- the keywords of an executive's statements
abbrev pub exec_words : List (List ℕ × ExecWord)
exec_words =
    (codes "Category", word.Category) ∷ (codes "Selector", word.Selector) ∷ (codes "Timing", word.Timing)
    ∷ (codes "PatternBurst", word.Burst) ∷ []

-- the name behind a keyword; a Timing may be the unnamed one
abbrev pub name_behind : ExecWord → List Lexeme → Result (List ℕ) FormKind
name_behind word.Timing rest = name_or_empty rest
name_behind word.Category rest = only_name rest
name_behind word.Selector rest = only_name rest
name_behind word.Burst rest = only_name rest

-- a keyword with the name behind it
abbrev pub with_name : ExecWord → Result (List ℕ) FormKind → Result (ExecWord × List ℕ) FormKind
with_name found (Ok called) = Ok (found, called)
with_name found (Err kind) = Err kind

-- a statement by its keyword; one without is left out
abbrev pub by_word : Option ExecWord → Bool → List Lexeme → Result (ExecWord × List ℕ) FormKind
by_word None has_block rest = Err LeftOut
by_word (Some found) has_block rest = where_so (not has_block) (with_name found (name_behind found rest))

-- what a statement with this head says, with a block or without
abbrev pub exec_said : Bool → List Lexeme → Result (ExecWord × List ℕ) FormKind
exec_said has_block [] = Err LeftOut
exec_said has_block (one ∷ rest) = by_word (meaning exec_words one) has_block rest

-- what a statement says: its keyword, and the name behind it
abbrev pub Said : Type 0
Said = ExecWord × Named

-- the name that a statement says, if its keyword is this one
abbrev pub name_by : ExecWord → Said → Option Named
name_by word.Category (word.Category, named) = Some named
name_by word.Selector (word.Selector, named) = Some named
name_by word.Timing (word.Timing, named) = Some named
name_by word.Burst (word.Burst, named) = Some named
name_by _ _ = None

-- the names behind a keyword, in text order
abbrev pub names_by : ExecWord → List Said → List Named
names_by word said = filter_map (name_by word) said

-- the first of them
abbrev pub first_by : ExecWord → List Said → Option Named
first_by word said = slice_get (names_by word said) 0

-- a keyword that may stand once stands already; a Category may stand again
abbrev pub stands_already : ExecWord → List Said → Bool
stands_already word.Category before = false
stands_already word.Selector before = is_some (first_by word.Selector before)
stands_already word.Timing before = is_some (first_by word.Timing before)
stands_already word.Burst before = is_some (first_by word.Burst before)

-- a keyword and a name, behind those before it
abbrev pub new_said : List Said → Said → Result Said FormKind
new_said before said = if stands_already said.0 before then Err Twice else Ok said

-- a statement behind those before it
abbrev pub judge_exec : Setting → List Said → Entry → Result Said FormFault
judge_exec s before e =
    and_then (at_statement e.first (exec_said (is_some e.body) (lexemes_at s e))) (λ told.
    at_statement e.first (new_said before (told.0, named_on s e told.1)))

-- an executive of what its statements say, and of its PatternBurst, which must be there
abbrev pub exec_by : ℕ → List ℕ → List Said → Option Named → Result ExecDecl FormKind
exec_by line title said None = Err Shape
exec_by line title said (Some burst) = Ok (record {
  name = title;
  categories = names_by word.Category said;
  selector = first_by word.Selector said;
  timing = first_by word.Timing said;
  burst = burst;
  line = line;
})

-- the same of the first PatternBurst
abbrev pub exec_called : ℕ → List ℕ → List Said → Result ExecDecl FormKind
exec_called line title said = exec_by line title said (first_by word.Burst said)

-- an executive of this title by its statements
abbrev pub exec_in : Setting → Entry → List ℕ → Result ExecDecl FormFault
exec_in s e title =
    and_then (reading (judge_exec s) [] (unskipped s (inner_of e.body))) (λ said.
    at_statement e.first (exec_called (line_at s.tokens e.first) title said))

-- `PatternExec [name] { .. }`
abbrev pub exec_block : Setting → Entry → Result ExecDecl FormFault
exec_block s e = and_then (titled_block s e) (λ title. exec_in s e title)
