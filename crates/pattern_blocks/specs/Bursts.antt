-- PatternBurst blocks and their PatLists (IEEE 1450-1999, clause 17).
use Rattle.std.specs.Prelude.{ℕ, Bool, false, List, [], ◌∷◌, codes, Option, Some, None, is_some, not, if◌then◌else◌, flat_map, Result, Ok, Err}
use Rattle.std.specs.List.{list_any}
use Rattle.stil_tree.specs.Trees.{Entry}
use Rattle.stil_form.specs.declared.fault.FormFault.{FormFault}
use Rattle.stil_form.specs.declared.fault.FormFault.TheVariants.{Refused}
use Rattle.stil_form.specs.declared.fault.FormKind.{FormKind}
use Rattle.stil_form.specs.declared.fault.FormKind.TheVariants.{LeftOut, Twice}
use Rattle.answers.specs.Reading.{and_then, reading}
use Rattle.stil_form.specs.Setting.{Setting, lexemes_at, line_at, at_statement, inner_of, unskipped}
use Rattle.stil_ast.specs.Data.BlockForms.{is_macros_word, is_procedures_word, is_scans_word}
use Rattle.stil_ast.specs.declared.executive.Burst.{Burst}
use Rattle.stil_ast.specs.declared.executive.BurstItem.{BurstItem}
use Rattle.stil_ast.specs.declared.executive.BurstWord.{BurstWord}
use Rattle.stil_ast.specs.declared.executive.BurstWord.TheVariants as word
use Rattle.pat_read.specs.Statements.{only_name}
use Rattle.block_forms.specs.Heads.{where_so, name_or_empty, bare_block, named_block, rest_at}
use Rattle.block_forms.specs.Keywords.{first_meaning}

-- what the names behind a keyword are the names of; those of a PatList are its entries
abbrev pub burst_words : List (List ℕ × BurstWord)
burst_words =
    (codes "SignalGroups", word.SignalGroups) ∷ (codes "MacroDefs", word.MacroDefs)
    ∷ (codes "Procedures", word.Procedures) ∷ (codes "ScanStructures", word.ScanStructures)
    ∷ (codes "PatList", word.Entry) ∷ []

-- a name on the line of its statement
abbrev pub item_on : Setting → Entry → BurstWord → List ℕ → BurstItem
item_on s e word called = record { word = word; name = called; line = line_at s.tokens e.first }

-- a word that may stand once stands already
abbrev pub stands_already : BurstWord → List BurstItem → Bool
stands_already word.SignalGroups before = false
stands_already word.MacroDefs before = list_any (λ (i : BurstItem). is_macros_word i.word) before
stands_already word.Procedures before = list_any (λ (i : BurstItem). is_procedures_word i.word) before
stands_already word.ScanStructures before = list_any (λ (i : BurstItem). is_scans_word i.word) before
stands_already word.Entry before = false

-- one more name behind those before it
abbrev pub new_item : List BurstItem → BurstItem → Result BurstItem FormKind
new_item before item = if stands_already item.word before then Err Twice else Ok item

-- `keyword name;`, or `""` for the unnamed block
abbrev pub burst_name : Setting → Entry → Result (List ℕ) FormKind
burst_name s e = where_so (not (is_some e.body)) (name_or_empty (rest_at s e))

-- what a statement of these says: its one name
abbrev pub named_item : Setting → List BurstItem → Entry → BurstWord → Result (List BurstItem) FormFault
named_item s before e word =
    and_then (at_statement e.first (burst_name s e)) (λ called.
    and_then (at_statement e.first (new_item before (item_on s e word called))) (λ item. Ok (item ∷ [])))

-- no statement may stand in the block of an entry: the first one is left out
abbrev pub where_empty : List Entry → BurstItem → Result BurstItem FormFault
where_empty [] item = Ok item
where_empty (e ∷ es) item = Err (Refused LeftOut e.first)

-- an entry of a PatList: `name;` or `name { }`
abbrev pub entry_item : Setting → Entry → Result BurstItem FormFault
entry_item s e =
    and_then (at_statement e.first (only_name (lexemes_at s e))) (λ called.
    where_empty (unskipped s (inner_of e.body)) (item_on s e word.Entry called))

-- `PatList { .. }` says its entries
abbrev pub entries_in : Setting → Entry → Result (List BurstItem) FormFault
entries_in s e =
    and_then (bare_block s e) (λ _. reading (λ _ inner. entry_item s inner) [] (unskipped s (inner_of e.body)))

-- a statement by its keyword, behind these names; one without is left out
abbrev pub by_word : Setting → List BurstItem → Entry → Option BurstWord → Result (List BurstItem) FormFault
by_word s before e None = Err (Refused LeftOut e.first)
by_word s before e (Some word.Entry) = entries_in s e
by_word s before e (Some word.SignalGroups) = named_item s before e word.SignalGroups
by_word s before e (Some word.MacroDefs) = named_item s before e word.MacroDefs
by_word s before e (Some word.Procedures) = named_item s before e word.Procedures
by_word s before e (Some word.ScanStructures) = named_item s before e word.ScanStructures

-- the names that statements say, one behind the other
abbrev pub names_in : List (List BurstItem) → List BurstItem
names_in said = flat_map (λ (items : List BurstItem). items) said

-- what a statement says behind those before it
abbrev pub judge_burst : Setting → List (List BurstItem) → Entry → Result (List BurstItem) FormFault
judge_burst s before e = by_word s (names_in before) e (first_meaning burst_words (lexemes_at s e))

-- the names of a burst by its statements
abbrev pub items_in : Setting → List Entry → Result (List BurstItem) FormFault
items_in s es = and_then (reading (judge_burst s) [] (unskipped s es)) (λ said. Ok (names_in said))

-- a burst of this name
abbrev pub burst_called : List ℕ → List BurstItem → Burst
burst_called called items = record { name = called; items = items }

-- `PatternBurst name { .. }`
abbrev pub burst_block : Setting → Entry → Result Burst FormFault
burst_block s e =
    and_then (named_block s e) (λ called.
    and_then (items_in s (inner_of e.body)) (λ items. Ok (burst_called called items)))
