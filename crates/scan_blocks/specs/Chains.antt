-- ScanStructures blocks (IEEE 1450-1999, clause 20).
use Rattle.std.specs.Prelude.{ℕ, nat_le, nat_lt, nat_eq, Bool, true, false, List, [], ◌∷◌, ◌++◌, map, codes, Option, Some, None, is_some, option_map, if◌then◌else◌, Result, Ok, Err}
use Rattle.std.specs.List.{filter_map, list_any}
use Rattle.stil_tree.specs.Trees.{Entry}
use Rattle.stil_form.specs.declared.fault.FormFault.{FormFault}
use Rattle.stil_form.specs.declared.fault.FormFault.TheVariants.{Refused}
use Rattle.stil_form.specs.declared.fault.FormKind.{FormKind}
use Rattle.stil_form.specs.declared.fault.FormKind.TheVariants.{Shape, LeftOut, OutOfRange, Twice}
use Rattle.stil_form.specs.Lexeme.{Lexeme}
use Rattle.stil_form.specs.Fronts.{index_by}
use Rattle.answers.specs.Reading.{and_then, reading}
use Rattle.stil_form.specs.Setting.{Setting, lexemes_at, line_at, at_statement, inner_of, unskipped}
use Rattle.text_bytes.specs.Limits.{most_chains, most_cells}
use Rattle.stil_ast.specs.declared.scan.ChainDecl.{ChainDecl}
use Rattle.stil_ast.specs.declared.scan.ChainStmt.{ChainStmt}
use Rattle.stil_ast.specs.declared.scan.ChainStmt.TheVariants.{Length, In, Out, Cells}
use Rattle.stil_ast.specs.declared.scan.ScanBlock.{ScanBlock}
use Rattle.stil_ast.specs.declared.name.NameRef.{NameRef}
use Rattle.scan_blocks.specs.declared.chain.ChainWord.{ChainWord}
use Rattle.scan_blocks.specs.declared.chain.ChainWord.TheVariants as word
use Rattle.scan_blocks.specs.declared.chain.ChainSaid.{ChainSaid}
use Rattle.pat_read.specs.Statements.{is_there, only_name}
use Rattle.block_forms.specs.Heads.{is_first, named_block, titled_block, rest_at, count_under, under}
use Rattle.block_forms.specs.Keywords.{first_meaning}
use Rattle.block_forms.specs.Named.{Names, named_on}
use Rattle.scan_blocks.specs.Cells.{cells_said}

-- the keywords of a chain's statements
abbrev pub chain_words : List (List ℕ × ChainWord)
chain_words =
    (codes "ScanLength", word.Length) ∷ (codes "ScanIn", word.In) ∷ (codes "ScanOut", word.Out)
    ∷ (codes "ScanCells", word.Cells) ∷ (codes "ScanInversion", word.Inversion) ∷ []

-- the number of a word, in the order of the table of forms
abbrev pub word_number : ChainWord → ℕ
word_number word.Length = 0
word_number word.In = 1
word_number word.Out = 2
word_number word.Cells = 3
word_number word.Inversion = 4

-- one word
abbrev pub same_word : ChainWord → ChainWord → Bool
same_word a b = nat_eq (word_number a) (word_number b)

-- one number, and nothing behind it
abbrev pub only_number : List Lexeme → Result ℕ FormKind
only_number (one ∷ []) = is_there (index_by one)
only_number _ = Err Shape

-- a length in cells, within its limit
abbrev pub length_by : Result ℕ FormKind → Result (Option ChainStmt) FormKind
length_by (Err kind) = Err kind
length_by (Ok number) = if nat_le number most_cells then Ok (Some (Length number)) else Err OutOfRange

-- the signal at an end of the chain
abbrev pub end_by : (List ℕ → ChainStmt) → Result (List ℕ) FormKind → Result (Option ChainStmt) FormKind
end_by said (Err kind) = Err kind
end_by said (Ok called) = Ok (Some (said called))

-- an inversion, which has no effect
abbrev pub inversion_by : Result ℕ FormKind → Result (Option ChainStmt) FormKind
inversion_by (Err kind) = Err kind
inversion_by (Ok number) = Ok None

-- cells on the line of their statement
abbrev pub cells_on : Setting → Entry → List NameRef → ChainStmt
cells_on s e cells = Cells (record { cells = cells; line = line_at s.tokens e.first })

-- what a statement of this keyword says; an inversion has no effect
abbrev pub stmt_said : Setting → Entry → ChainWord → Result (Option ChainStmt) FormFault
stmt_said s e word.Length = at_statement e.first (length_by (only_number (rest_at s e)))
stmt_said s e word.In = at_statement e.first (end_by (λ called. In (named_on s e called)) (only_name (rest_at s e)))
stmt_said s e word.Out = at_statement e.first (end_by (λ called. Out (named_on s e called)) (only_name (rest_at s e)))
stmt_said s e word.Cells = and_then (cells_said e.first (rest_at s e)) (λ cells. Ok (Some (cells_on s e cells)))
stmt_said s e word.Inversion = at_statement e.first (inversion_by (only_number (rest_at s e)))

-- what a statement with such a keyword says, where it has no block
abbrev pub plain_said : Setting → Entry → ChainWord → Bool → Result (Option ChainStmt) FormFault
plain_said s e word true = Err (Refused Shape e.first)
plain_said s e word false = stmt_said s e word

-- one of these statements has the keyword
abbrev pub has_word : List ChainSaid → ChainWord → Bool
has_word before word = list_any (λ (said : ChainSaid). same_word word said.word) before

-- a statement of each keyword may stand once
abbrev pub new_said : List ChainSaid → ChainWord → Option ChainStmt → Result ChainSaid FormKind
new_said before word effect =
    if has_word before word then Err Twice else Ok (record { word = word; effect = effect })

-- what a statement with this keyword says, behind those before it
abbrev pub judge_stmt : Setting → List ChainSaid → ChainWord × Entry → Result ChainSaid FormFault
judge_stmt s before (word, e) =
    and_then (plain_said s e word (is_some e.body)) (λ effect. at_statement e.first (new_said before word effect))

-- the statements that have a keyword, each with it; one without is skipped
abbrev pub with_words : Setting → List Entry → List (ChainWord × Entry)
with_words s es =
    filter_map (λ (e : Entry). option_map (λ word. (word, e)) (first_meaning chain_words (lexemes_at s e))) es

-- a statement that begins a chain
abbrev pub is_chain : List Lexeme → Bool
is_chain head = is_first (codes "ScanChain") head

-- `ScanChain name { .. }`: its name; a statement of another keyword is left out
abbrev pub chain_name : Setting → Entry → Bool → Result (List ℕ) FormFault
chain_name s e false = Err (Refused LeftOut e.first)
chain_name s e true = named_block s e

-- one more chain under a title, where these are declared
abbrev pub one_more : Names → List ℕ → List ℕ → Result (List ℕ) FormKind
one_more declared title called = if nat_lt (count_under declared title) most_chains then Ok called else Err OutOfRange

-- the name of one more chain, where these are declared
abbrev pub new_chain : Setting → List ℕ → Names → Entry → Result (List ℕ) FormFault
new_chain s title declared e =
    and_then (chain_name s e (is_chain (lexemes_at s e))) (λ called.
    at_statement e.first (one_more declared title called))

-- what the statements of a chain say
abbrev pub stmts_in : Setting → List Entry → Result (List ChainSaid) FormFault
stmts_in s es = reading (judge_stmt s) [] (with_words s (unskipped s es))

-- those of them that have an effect
abbrev pub effects_of : List ChainSaid → List ChainStmt
effects_of said = filter_map (λ (stmt : ChainSaid). stmt.effect) said

-- a chain of this name and these statements, on the line of its own
abbrev pub chain_on : Setting → Entry → List ℕ → List ChainSaid → ChainDecl
chain_on s e called said = record { name = called; stmts = effects_of said; line = line_at s.tokens e.first }

-- a chain under a title, where these are declared
abbrev pub chain_said : Setting → List ℕ → Names → Entry → Result ChainDecl FormFault
chain_said s title declared e =
    and_then (new_chain s title declared e) (λ called.
    and_then (stmts_in s (inner_of e.body)) (λ said. Ok (chain_on s e called said)))

-- the names of chains
abbrev pub names_of : List ChainDecl → List (List ℕ)
names_of chains = map (λ (d : ChainDecl). d.name) chains

-- the same behind others of its block
abbrev pub judge_chain : Setting → List ℕ → Names → List ChainDecl → Entry
    → Result ChainDecl FormFault
judge_chain s title declared before e = chain_said s title (declared ++ under title (names_of before)) e

-- the chains of a block, where these are declared
abbrev pub chains_in : Setting → List ℕ → Names → List Entry → Result (List ChainDecl) FormFault
chains_in s title declared es = reading (judge_chain s title declared) [] (unskipped s es)

-- a block of this title
abbrev pub scans_called : List ℕ → List ChainDecl → ScanBlock
scans_called title chains = record { name = title; chains = chains }

-- `ScanStructures [name] { .. }`, where these chains are declared, each under the title of its block
abbrev pub scan_block : Setting → Names → Entry → Result ScanBlock FormFault
scan_block s declared e =
    and_then (titled_block s e) (λ title.
    and_then (chains_in s title declared (inner_of e.body)) (λ chains. Ok (scans_called title chains)))
