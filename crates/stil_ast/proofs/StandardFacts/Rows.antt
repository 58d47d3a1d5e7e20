-- Whole texts of one pattern, and their cycles.
use Rattle.std.proofs.Common.{◌≡◌, List, [], ◌∷◌, None, refl, codes}
use Rattle.text_bytes.specs.Bytes.{begins_name, is_blank, is_digit, is_printable, is_word}
use Rattle.stil_ast.specs.Meaning.Statements.{hash}
use Rattle.stil_ast.specs.Data.Items.{items_of}
use Rattle.stil_ast.specs.Data.Written.{Written, no_more, single, looped, shifted}
use Rattle.stil_ast.specs.Faults.PatternFaults.{check_calls}
use Rattle.stil_ast.specs.Meaning.Running.{calls}
use Rattle.stil_ast.specs.Meaning.Flattening.{flat_calls}
use Rattle.stil_ast.proofs.StandardFacts.Texts.{signal, group, by_name, by_text, driven, looked_at, table, assign, text_of}
use Rattle.stil_ast.proofs.StandardFacts.Lines.{lines, fault, cycle, items, use_table, first_text, three_vectors}
use Rattle.tester_types.specs.declared.signal.Direction.TheVariants.{In, Out}
use Rattle.stil_ast.specs.declared.body.Step.TheVariants.{Vector, Condition, Macro, Call, Stop, Wave}
use Rattle.stil_ast.specs.declared.data.VecItem.TheVariants.{Character}
use Rattle.stil_ast.specs.declared.blocks.Blocks.{Blocks}
use Rattle.stil_ast.specs.declared.blocks.BodyDef.{BodyDef}

-- three vectors of two signals
pub three_cycles : lines (first_text (use_table (codes "w") three_vectors))
    ≡ cycle 0 0 0 (codes "0H") ∷ cycle 1 100 0 (codes "1L") ∷ cycle 2 200 0 (codes "1X") ∷ []
unfolding is_digit
three_cycles = refl

pub no_fault : fault (first_text (use_table (codes "w") three_vectors)) ≡ None
unfolding is_digit
no_fault = refl

-- `\r3 X 1` is `XXX1`
pub three_times : items_of (record { item = Character 88; times = 3 } ∷ record { item = Character 49; times = 1 } ∷ [])
    ≡ items (codes "XXX1")
three_times = refl

-- signals a and b with table w for both, and a group whose text removes b again
abbrev grouped : Written → Blocks
grouped body =
    text_of (signal (codes "a") In ∷ signal (codes "b") In ∷ []) (group 3 (codes "g") (codes "a + b + a - b") ∷ [])
    (table (codes "w") (codes "100ns") (driven (by_text 6 (codes "a + b")) ∷ []) ∷ []) [] [] body

pub one_member_left : lines (grouped (use_table (codes "w") (single 11 (Vector (assign 11 (codes "g") (items (codes "1")) ∷ [])) no_more)))
    ≡ cycle 0 0 0 (codes "1-") ∷ []
unfolding begins_name is_blank is_printable is_word
one_member_left = refl

-- tables t1 of 100ns and t2 of 50ns: `W t1; Loop 3 { V { a=1; } W t2; }`
abbrev two_tables : Blocks
two_tables = text_of (signal (codes "a") In ∷ []) []
    (table (codes "t1") (codes "100ns") (driven (by_name (codes "a")) ∷ []) ∷ table (codes "t2") (codes "50ns") (driven (by_name (codes "a")) ∷ []) ∷ []) [] []
    (use_table (codes "t1") (looped 10 3 (single 11 (Vector (assign 11 (codes "a") (items (codes "1")) ∷ [])) (single 12 (Wave (codes "t2")) no_more)) no_more))

pub later_passes_differ : lines two_tables
    ≡ cycle 0 0 0 (codes "1") ∷ cycle 1 100 1 (codes "1") ∷ cycle 2 150 1 (codes "1") ∷ []
unfolding is_digit
later_passes_differ = refl

-- signals a and b In, y Out
abbrev three_signals : List BodyDef → List BodyDef → Written → Blocks
three_signals macros procedures body =
    text_of (signal (codes "a") In ∷ signal (codes "b") In ∷ signal (codes "y") Out ∷ []) []
    (table (codes "w") (codes "100ns") (driven (by_text 6 (codes "a+b")) ∷ looked_at (by_name (codes "y")) ∷ []) ∷ []) macros procedures body

-- q is `V { a=1; b=1; y=H; }`
abbrev q : List BodyDef
q =
    record { name = codes "q"; body = single 20 (Vector (assign 20 (codes "a") (items (codes "1")) ∷ assign 20 (codes "b") (items (codes "1")) ∷ assign 20 (codes "y") (items (codes "H")) ∷ [])) no_more } ∷ []

abbrev begins : Written → Written
begins rest = use_table (codes "w")
    (single 11 (Vector (assign 11 (codes "a") (items (codes "0")) ∷ assign 11 (codes "b") (items (codes "0")) ∷ assign 11 (codes "y") (items (codes "X")) ∷ [])) rest)

abbrev ends : Written
ends = single 13 (Vector (assign 13 (codes "a") (items (codes "1")) ∷ [])) no_more

-- a procedure gives the caller's characters back
pub after_call : lines (three_signals [] q (begins (single 12 (Call (codes "q") []) ends)))
    ≡ cycle 0 0 0 (codes "00X") ∷ cycle 1 100 0 (codes "11H") ∷ cycle 2 200 0 (codes "10X") ∷ []
unfolding calls is_digit
after_call = refl

-- and a macro leaves its own
pub after_macro : lines (three_signals q [] (begins (single 12 (Macro (codes "q") []) ends)))
    ≡ cycle 0 0 0 (codes "00X") ∷ cycle 1 100 0 (codes "11H") ∷ cycle 2 200 0 (codes "11H") ∷ []
unfolding calls is_digit
after_macro = refl

-- signals si1 and si2 In, so1 and so2 Out
abbrev scanned : List BodyDef → Written → Blocks
scanned procedures body =
    text_of (signal (codes "si1") In ∷ signal (codes "si2") In ∷ signal (codes "so1") Out ∷ signal (codes "so2") Out ∷ []) []
    (table (codes "w") (codes "100ns") (driven (by_text 6 (codes "si1+si2")) ∷ looked_at (by_text 7 (codes "so1+so2")) ∷ []) ∷ []) [] procedures body

-- lu is `Shift { V { si1=#; si2=#; so1=#; so2=#; } }`
abbrev lu : List BodyDef
lu =
    record { name = codes "lu"; body = shifted 20 (single 21 (Vector (assign 21 (codes "si1") (hash ∷ []) ∷ assign 21 (codes "si2") (hash ∷ []) ∷ assign 21 (codes "so1") (hash ∷ []) ∷ assign 21 (codes "so2") (hash ∷ []) ∷ [])) no_more) no_more } ∷ []

abbrev held : Written → Written
held rest = use_table (codes "w")
    (single 11 (Condition (assign 11 (codes "si1") (items (codes "0")) ∷ assign 11 (codes "si2") (items (codes "0")) ∷ assign 11 (codes "so1") (items (codes "X")) ∷ assign 11 (codes "so2") (items (codes "X")) ∷ [])) rest)

abbrev two_unloads : Blocks
two_unloads = scanned lu (held
    (single 12 (Call (codes "lu") (assign 12 (codes "si1") (items (codes "101")) ∷ assign 12 (codes "si2") (items (codes "11001")) ∷ assign 12 (codes "so1") (items (codes "LHL")) ∷ assign 12 (codes "so2") (items (codes "HHLLH")) ∷ []))
    (single 13 (Call (codes "lu") (assign 13 (codes "si1") (items (codes "101")) ∷ assign 13 (codes "si2") (items (codes "11001")) ∷ [])) no_more)))

-- short scan data are padded with what was held, in front for In and at the end for Out; data left out are padded whole
pub padded : lines two_unloads
    ≡ cycle 0 0 0 (codes "01LH") ∷ cycle 1 100 0 (codes "01HH") ∷ cycle 2 200 0 (codes "10LL") ∷ cycle 3 300 0 (codes "00XL") ∷ cycle 4 400 0 (codes "11XH")
    ∷ cycle 5 500 0 (codes "01XX") ∷ cycle 6 600 0 (codes "01XX") ∷ cycle 7 700 0 (codes "10XX") ∷ cycle 8 800 0 (codes "00XX")
    ∷ cycle 9 900 0 (codes "11XX") ∷ []
unfolding calls is_digit
padded = refl

pub padded_without_fault : fault two_unloads ≡ None
unfolding calls flat_calls check_calls begins_name is_blank is_digit is_printable is_word
padded_without_fault = refl

-- a Stop ends the executive
pub stopped : lines (first_text (use_table (codes "w") (single 11 (Vector (assign 11 (codes "a") (items (codes "1")) ∷ [])) (single 12 Stop three_vectors))))
    ≡ cycle 0 0 0 (codes "1-") ∷ []
stopped = refl
