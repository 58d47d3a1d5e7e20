-- Pattern, MacroDefs and Procedures blocks (IEEE 1450-1999, clauses 22 to 24).
use Rattle.std.specs.Prelude.{ℕ, List, [], ◌++◌, map, is_some, if◌then◌else◌, Result, Ok, Err}
use Rattle.stil_tree.specs.Trees.{Entry}
use Rattle.stil_form.specs.declared.fault.FormFault.{FormFault}
use Rattle.stil_form.specs.declared.fault.FormKind.{FormKind}
use Rattle.stil_form.specs.declared.fault.FormKind.TheVariants.{Twice}
use Rattle.answers.specs.Reading.{and_then, reading}
use Rattle.stil_form.specs.Setting.{Setting, lexemes_at, at_statement, inner_of, unskipped}
use Rattle.stil_ast.specs.Data.Written.{Written}
use Rattle.stil_ast.specs.declared.blocks.BodyDef.{BodyDef}
use Rattle.stil_ast.specs.declared.blocks.DefBlock.{DefBlock}
use Rattle.stil_ast.specs.declared.blocks.Pattern.{Pattern}
use Rattle.pat_read.specs.declared.reader.BodyPlace.{BodyPlace}
use Rattle.pat_read.specs.declared.reader.BodyPlace.TheVariants as place
use Rattle.pat_read.specs.Body.{body_of}
use Rattle.block_forms.specs.Named.{Names}
use Rattle.pat_read.specs.Statements.{only_name}
use Rattle.block_forms.specs.Heads.{trees_in, where_so, named_block, titled_block, is_declared, under}

-- the body that stands in a statement's block
abbrev pub body_in : Setting → BodyPlace → Entry → Result Written FormFault
body_in s here e = body_of s here (trees_in e.body)

-- a pattern of this name
abbrev pub pattern_called : List ℕ → Written → Pattern
pattern_called called body = record { name = called; body = body }

-- `Pattern name { .. }`
abbrev pub pattern_block : Setting → Entry → Result Pattern FormFault
pattern_block s e =
    and_then (named_block s e) (λ called.
    and_then (body_in s place.Pattern e) (λ body. Ok (pattern_called called body)))

-- a macro or a procedure of this name
abbrev pub def_called : List ℕ → Written → BodyDef
def_called called body = record { name = called; body = body }

-- the names of bodies
abbrev pub names_of : List BodyDef → List (List ℕ)
names_of bodies = map (λ (d : BodyDef). d.name) bodies

-- a name with a block
abbrev pub def_name : Setting → Entry → Result (List ℕ) FormKind
def_name s e = where_so (is_some e.body) (only_name (lexemes_at s e))

-- a name that is not declared under the title
abbrev pub new_name : Names → List ℕ → List ℕ → Result (List ℕ) FormKind
new_name declared title called = if is_declared declared title called then Err Twice else Ok called

-- the name of a body, where these names are declared
abbrev pub new_def : Setting → List ℕ → Names → Entry → Result (List ℕ) FormFault
new_def s title declared e =
    and_then (at_statement e.first (def_name s e)) (λ called.
    at_statement e.first (new_name declared title called))

-- `name { .. }`, where these names are declared
abbrev pub def_said : Setting → BodyPlace → List ℕ → Names → Entry → Result BodyDef FormFault
def_said s here title declared e =
    and_then (new_def s title declared e) (λ called.
    and_then (body_in s here e) (λ body. Ok (def_called called body)))

-- the same behind others of its block
abbrev pub judge_def : Setting → BodyPlace → List ℕ → Names → List BodyDef → Entry
    → Result BodyDef FormFault
judge_def s here title declared before e = def_said s here title (declared ++ under title (names_of before)) e

-- the bodies of a block, where these names are declared
abbrev pub defs_in : Setting → BodyPlace → List ℕ → Names → List Entry
    → Result (List BodyDef) FormFault
defs_in s here title declared es = reading (judge_def s here title declared) [] (unskipped s es)

-- a block of this title
abbrev pub defs_called : List ℕ → List BodyDef → DefBlock
defs_called title bodies = record { name = title; bodies = bodies }

-- `MacroDefs [name] { .. }` or `Procedures [name] { .. }`, where these names are declared, each under a block's title
abbrev pub defs_block : Setting → BodyPlace → Names → Entry → Result DefBlock FormFault
defs_block s here declared e =
    and_then (titled_block s e) (λ title.
    and_then (defs_in s here title declared (inner_of e.body)) (λ bodies. Ok (defs_called title bodies)))
