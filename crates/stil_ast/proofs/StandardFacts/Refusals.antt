-- Whole texts of one pattern, and their first faults.
use Rattle.std.proofs.Common.{◌≡◌, ℕ, List, [], ◌∷◌, refl, codes}
use Rattle.text_bytes.specs.Bytes.{begins_name, is_blank, is_digit, is_printable, is_word}
use Rattle.stil_ast.specs.Meaning.Statements.{Item, hash}
use Rattle.stil_ast.specs.Data.Written.{Written, no_more, single, looped, shifted}
use Rattle.stil_ast.specs.Faults.PatternFaults.{check_calls}
use Rattle.stil_ast.proofs.StandardFacts.Texts.{signal, group, by_name, by_text, driven, looked_at, table, assign, text_of}
use Rattle.stil_ast.proofs.StandardFacts.Lines.{fault, refused, items, use_table, first_text, three_vectors}
use Rattle.tester_types.specs.declared.signal.Direction.TheVariants.{In, Out}
use Rattle.stil_ast.specs.declared.signal.GroupDecl.{GroupDecl}
use Rattle.stil_ast.specs.declared.body.Step.TheVariants.{Vector, Macro, Wave}
use Rattle.stil_ast.specs.declared.blocks.Blocks.{Blocks}
use Rattle.stil_ast.specs.declared.blocks.BodyDef.{BodyDef}
use Rattle.stil_ast.specs.declared.fault.StilKind.TheVariants.{Shape, Twice, UnknownName, Cyclic, Width, NoData, ShiftForm, NoTable, NoWave, EventOutside}

-- a vector of one assignment
abbrev one_vector : ℕ → List ℕ → List Item → Written
one_vector line name given = single line (Vector (assign line name given ∷ [])) no_more

-- without W the first V has no table
pub missing_table : fault (first_text three_vectors) ≡ refused NoTable (codes "Pattern") (codes "p") 11
unfolding is_digit
missing_table = refl

-- a table that isn't there
pub missing_name : fault (first_text (use_table (codes "v") three_vectors))
    ≡ refused UnknownName (codes "Pattern") (codes "p") 9
unfolding is_digit
missing_name = refl

-- signals a and b, and groups
abbrev with_groups : List GroupDecl → Written → Blocks
with_groups groups body = text_of (signal (codes "a") In ∷ signal (codes "b") In ∷ []) groups
    (table (codes "w") (codes "100ns") (driven (by_text 6 (codes "a + b")) ∷ []) ∷ []) [] [] body

-- two characters for a group with one member
pub too_wide : fault (with_groups (group 3 (codes "g") (codes "a + b + a - b") ∷ []) (use_table (codes "w") (one_vector 11 (codes "g") (items (codes "10")))))
    ≡ refused Width (codes "Pattern") (codes "p") 11
unfolding begins_name is_blank is_digit is_printable is_word
too_wide = refl

-- a group that needs itself, and one that only leads there
pub in_itself : fault (with_groups (group 3 (codes "g") (codes "a+h") ∷ group 4 (codes "h") (codes "b-h") ∷ []) (use_table (codes "w") no_more))
    ≡ refused Cyclic (codes "SignalGroups") [] 4
unfolding begins_name is_blank is_printable is_word
in_itself = refl

-- a text that is no group expression
pub two_signs : fault (with_groups (group 3 (codes "g") (codes "a + + b") ∷ []) (use_table (codes "w") no_more))
    ≡ refused Shape (codes "SignalGroups") [] 3
unfolding begins_name is_blank is_printable is_word
two_signs = refl

pub unknown_member : fault (with_groups (group 3 (codes "g") (codes "a + c") ∷ []) (use_table (codes "w") no_more))
    ≡ refused UnknownName (codes "SignalGroups") [] 3
unfolding begins_name is_blank is_printable is_word
unknown_member = refl

-- a second pass runs in a table that has no character 1
pub no_wave_in_second_pass : fault (text_of (signal (codes "a") In ∷ []) []
    (table (codes "t1") (codes "100ns") (driven (by_name (codes "a")) ∷ []) ∷ table (codes "t2") (codes "50ns") [] ∷ []) [] []
    (use_table (codes "t1") (looped 10 3 (single 11 (Vector (assign 11 (codes "a") (items (codes "1")) ∷ [])) (single 12 (Wave (codes "t2")) no_more))
    no_more)))
    ≡ refused NoWave (codes "Pattern") (codes "p") 11
unfolding is_digit
no_wave_in_second_pass = refl

-- an event that isn't below its period
pub late_event : fault (text_of (signal (codes "y") Out ∷ []) [] (table (codes "w") (codes "40ns") (looked_at (by_name (codes "y")) ∷ []) ∷ []) [] [] no_more)
    ≡ refused EventOutside (codes "Timing") (codes "t") 7
unfolding is_digit
late_event = refl

-- a signal twice
pub twice : fault (text_of (signal (codes "a") In ∷ signal (codes "a") Out ∷ []) [] [] [] [] no_more)
    ≡ refused Twice (codes "Signals") [] 2
twice = refl

-- one signal, one table, and macros
abbrev with_macros : List BodyDef → Written → Blocks
with_macros macros body =
    text_of (signal (codes "a") In ∷ []) [] (table (codes "w") (codes "100ns") (driven (by_name (codes "a")) ∷ []) ∷ []) macros [] body

abbrev macro : List ℕ → Written → List BodyDef
macro name body = record { name = name; body = body } ∷ []

-- `#` in a pattern's own statements, and in a Loop of them
pub no_argument : fault (with_macros [] (use_table (codes "w") (one_vector 11 (codes "a") (hash ∷ []))))
    ≡ refused NoData (codes "Pattern") (codes "p") 11
unfolding is_digit
no_argument = refl

pub hash_in_loop : fault (with_macros [] (use_table (codes "w") (looped 10 2 (one_vector 11 (codes "a") (hash ∷ [])) no_more)))
    ≡ refused ShiftForm (codes "Pattern") (codes "p") 11
unfolding is_digit
hash_in_loop = refl

-- data that are used up
pub used_up : fault (with_macros (macro (codes "m") (single 20 (Vector (assign 20 (codes "a") (hash ∷ []) ∷ [])) (one_vector 21 (codes "a") (hash ∷ []))))
    (use_table (codes "w") (single 11 (Macro (codes "m") (assign 11 (codes "a") (items (codes "1")) ∷ [])) no_more)))
    ≡ refused NoData (codes "MacroDefs") [] 21
unfolding check_calls is_digit
used_up = refl

-- a Shift in a pattern, and two `#` of a signal in a pass
pub shift_in_pattern : fault (with_macros [] (shifted 10 no_more no_more))
    ≡ refused ShiftForm (codes "Pattern") (codes "p") 10
unfolding is_digit
shift_in_pattern = refl

pub two_hashes : fault (with_macros (macro (codes "m")
    (shifted 20 (single 21 (Vector (assign 21 (codes "a") (hash ∷ []) ∷ assign 22 (codes "a") (hash ∷ []) ∷ [])) no_more) no_more))
    (single 11 (Macro (codes "m") (assign 11 (codes "a") (items (codes "10")) ∷ [])) no_more))
    ≡ refused ShiftForm (codes "MacroDefs") [] 22
unfolding check_calls is_digit
two_hashes = refl

-- a macro that runs itself, and one that isn't there
pub macro_in_itself : fault (with_macros (macro (codes "m") (single 20 (Macro (codes "m") []) no_more)) (single 11 (Macro (codes "m") []) no_more))
    ≡ refused Cyclic (codes "MacroDefs") [] 20
unfolding check_calls is_digit
macro_in_itself = refl

pub no_macro : fault (with_macros [] (single 11 (Macro (codes "m") []) no_more))
    ≡ refused UnknownName (codes "Pattern") (codes "p") 11
unfolding is_digit
no_macro = refl
