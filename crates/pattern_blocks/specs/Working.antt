-- What the code keeps from statement to statement: the names so far; no public clause cites it.
use Rattle.std.specs.Prelude.{ℕ, List, [], ◌∷◌, ◌++◌, Option, Some, None, is_some, if◌then◌else◌, Result, Ok, Err}
use Rattle.stil_tree.specs.Trees.{Entry}
use Rattle.stil_form.specs.declared.fault.FormFault.{FormFault}
use Rattle.stil_form.specs.declared.fault.FormFault.TheVariants.{Refused}
use Rattle.stil_form.specs.declared.fault.FormKind.{FormKind}
use Rattle.stil_form.specs.declared.fault.FormKind.TheVariants.{Shape, LeftOut, Twice}
use Rattle.stil_form.specs.Setting.{Setting, lexemes_at, line_at, at_statement, inner_of, unskipped}
use Rattle.answers.specs.Reading.{and_then, stepping}
use Rattle.stil_ast.specs.declared.name.Named.{Named}
use Rattle.stil_ast.specs.declared.executive.ExecDecl.{ExecDecl}
use Rattle.stil_ast.specs.declared.executive.BurstItem.{BurstItem}
use Rattle.stil_ast.specs.declared.executive.BurstWord.{BurstWord}
use Rattle.stil_ast.specs.declared.executive.BurstWord.TheVariants as names
use Rattle.pat_read.specs.Statements.{only_name}
use Rattle.block_forms.specs.Heads.{bare_block}
use Rattle.block_forms.specs.Keywords.{first_meaning}
use Rattle.block_forms.specs.Named.{named_on}
use Rattle.pattern_blocks.specs.declared.executive.ExecWord.{ExecWord}
use Rattle.pattern_blocks.specs.declared.executive.ExecWord.TheVariants as word
use Rattle.pattern_blocks.specs.declared.executive.ExecParts.{ExecParts}
use Rattle.pattern_blocks.specs.Executives.{exec_said}
use Rattle.pattern_blocks.specs.Bursts.{burst_words, item_on, stands_already, burst_name}

-- ---- executives

-- a name for what has none yet
abbrev pub first_named : Option Named → Named → Result (Option Named) FormKind
first_named None named = Ok (Some named)
first_named (Some before) named = Err Twice

-- one more Category
abbrev pub with_category : ExecParts → Named → ExecParts
with_category before named = record {
  categories = before.categories ++ named ∷ [];
  selector = before.selector;
  timing = before.timing;
  burst = before.burst;
}

-- the Selector
abbrev pub with_selector : ExecParts → Result (Option Named) FormKind → Result ExecParts FormKind
with_selector before (Err kind) = Err kind
with_selector before (Ok named) = Ok (record {
  categories = before.categories;
  selector = named;
  timing = before.timing;
  burst = before.burst;
})

-- the Timing
abbrev pub with_timing : ExecParts → Result (Option Named) FormKind → Result ExecParts FormKind
with_timing before (Err kind) = Err kind
with_timing before (Ok named) = Ok (record {
  categories = before.categories;
  selector = before.selector;
  timing = named;
  burst = before.burst;
})

-- the PatternBurst
abbrev pub with_burst : ExecParts → Result (Option Named) FormKind → Result ExecParts FormKind
with_burst before (Err kind) = Err kind
with_burst before (Ok named) = Ok (record {
  categories = before.categories;
  selector = before.selector;
  timing = before.timing;
  burst = named;
})

-- any number of Categories, the others at most once
abbrev pub with_named : ExecParts → ExecWord → Named → Result ExecParts FormKind
with_named before word.Category named = Ok (with_category before named)
with_named before word.Selector named = with_selector before (first_named before.selector named)
with_named before word.Timing named = with_timing before (first_named before.timing named)
with_named before word.Burst named = with_burst before (first_named before.burst named)

-- a statement behind those before it
abbrev pub exec_step : Setting → ExecParts → Entry → Result ExecParts FormFault
exec_step s before e =
    and_then (at_statement e.first (exec_said (is_some e.body) (lexemes_at s e))) (λ said.
    at_statement e.first (with_named before said.0 (named_on s e said.1)))

-- before the first statement
abbrev pub no_parts : ExecParts
no_parts = record { categories = []; selector = None; timing = None; burst = None }

-- an executive of these names
abbrev pub exec_with : ℕ → List ℕ → ExecParts → Option Named → Result ExecDecl FormKind
exec_with line title parts None = Err Shape
exec_with line title parts (Some burst) = Ok (record {
  name = title;
  categories = parts.categories;
  selector = parts.selector;
  timing = parts.timing;
  burst = burst;
  line = line;
})

-- an executive of this title by its statements
abbrev pub executive_of : Setting → Entry → List ℕ → Result ExecDecl FormFault
executive_of s e title =
    and_then (stepping (exec_step s) no_parts (unskipped s (inner_of e.body))) (λ parts.
    at_statement e.first (exec_with (line_at s.tokens e.first) title parts parts.burst))

-- ---- bursts

-- one more name behind those before it
abbrev pub with_item : List BurstItem → BurstItem → Result (List BurstItem) FormKind
with_item before item = if stands_already item.word before then Err Twice else Ok (before ++ item ∷ [])

-- a statement of these
abbrev pub named_step : Setting → List BurstItem → Entry → BurstWord → Result (List BurstItem) FormFault
named_step s before e word =
    and_then (at_statement e.first (burst_name s e)) (λ called.
    at_statement e.first (with_item before (item_on s e word called)))

-- a statement in the block of an entry is left out
abbrev pub left_out : List BurstItem → Entry → Result (List BurstItem) FormFault
left_out before e = Err (Refused LeftOut e.first)

-- an entry of a PatList: `name;` or `name { }`
abbrev pub entry_step : Setting → List BurstItem → Entry → Result (List BurstItem) FormFault
entry_step s before e =
    and_then (at_statement e.first (only_name (lexemes_at s e))) (λ called.
    stepping left_out (before ++ item_on s e names.Entry called ∷ []) (unskipped s (inner_of e.body)))

-- `PatList { .. }`, whose entries stand behind those before it
abbrev pub list_step : Setting → List BurstItem → Entry → Result (List BurstItem) FormFault
list_step s before e =
    and_then (bare_block s e) (λ _. stepping (entry_step s) before (unskipped s (inner_of e.body)))

-- a statement by its keyword; one without is left out
abbrev pub word_step : Setting → List BurstItem → Entry → Option BurstWord → Result (List BurstItem) FormFault
word_step s before e None = Err (Refused LeftOut e.first)
word_step s before e (Some names.Entry) = list_step s before e
word_step s before e (Some names.SignalGroups) = named_step s before e names.SignalGroups
word_step s before e (Some names.MacroDefs) = named_step s before e names.MacroDefs
word_step s before e (Some names.Procedures) = named_step s before e names.Procedures
word_step s before e (Some names.ScanStructures) = named_step s before e names.ScanStructures

-- a statement behind those before it
abbrev pub burst_step : Setting → List BurstItem → Entry → Result (List BurstItem) FormFault
burst_step s before e = word_step s before e (first_meaning burst_words (lexemes_at s e))
