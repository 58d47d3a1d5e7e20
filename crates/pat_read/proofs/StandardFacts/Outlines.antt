-- What known statements say by their own tokens.
use Rattle.std.proofs.Common.{◌≡◌, [], ◌∷◌, Ok, Err, true, false, refl}
use Rattle.std.specs.Prelude.{codes}
use Rattle.text_bytes.specs.Bytes.{is_digit, begins_name, is_printable}
use Rattle.stil_form.specs.declared.fault.FormKind.TheVariants.{Shape, LeftOut, OutOfRange}
use Rattle.stil_form.specs.declared.part.SignKind.TheVariants.{Colon}
use Rattle.stil_form.specs.Lexeme.{word, name, sign}
use Rattle.pat_read.specs.declared.outline.Plain.TheVariants as plain
use Rattle.pat_read.specs.declared.outline.Outline.TheVariants.{Step, Loop, Shift}
use Rattle.pat_read.specs.Statements.{statement_said}

-- `W t;`, `WaveformTable "t";`, and `W "";`, which names no table
pub table : statement_said false false (word (codes "W") ∷ word (codes "t") ∷ []) ≡ Ok (Step (plain.Wave (codes "t")))
unfolding is_digit begins_name is_printable
table = refl

pub table_long : statement_said false false (word (codes "WaveformTable") ∷ name (codes "t") ∷ []) ≡ Ok (Step (plain.Wave (codes "t")))
unfolding is_digit begins_name is_printable
table_long = refl

pub no_table : statement_said false false (word (codes "W") ∷ name [] ∷ []) ≡ Err Shape
no_table = refl

-- `V { }`, `Vector { }`, `Condition { }`, and `V;`
pub vector : statement_said false true (word (codes "V") ∷ []) ≡ Ok (Step plain.Vector)
vector = refl

pub vector_long : statement_said false true (word (codes "Vector") ∷ []) ≡ Ok (Step plain.Vector)
vector_long = refl

pub condition_long : statement_said false true (word (codes "Condition") ∷ []) ≡ Ok (Step plain.Condition)
condition_long = refl

pub vector_ended : statement_said false false (word (codes "V") ∷ []) ≡ Err Shape
vector_ended = refl

-- `Call p;` and `Call p { }`
pub call_ended : statement_said false false (word (codes "Call") ∷ word (codes "p") ∷ []) ≡ Ok (Step (plain.Call (codes "p")))
unfolding is_digit begins_name is_printable
call_ended = refl

pub call_with : statement_said false true (word (codes "Call") ∷ word (codes "p") ∷ []) ≡ Ok (Step (plain.Call (codes "p")))
unfolding is_digit begins_name is_printable
call_with = refl

-- a Loop runs 1 to 2^48 times; its form comes before its number
pub loop_once : statement_said false true (word (codes "Loop") ∷ word (codes "1") ∷ []) ≡ Ok (Loop 1)
unfolding is_digit begins_name is_printable
loop_once = refl

pub loop_most : statement_said false true (word (codes "Loop") ∷ word (codes "281474976710656") ∷ []) ≡ Ok (Loop 281474976710656)
unfolding is_digit begins_name is_printable
loop_most = refl

pub loop_more : statement_said false true (word (codes "Loop") ∷ word (codes "281474976710657") ∷ []) ≡ Err OutOfRange
unfolding is_digit begins_name is_printable
loop_more = refl

pub loop_never : statement_said false true (word (codes "Loop") ∷ word (codes "0") ∷ []) ≡ Err OutOfRange
unfolding is_digit begins_name is_printable
loop_never = refl

pub loop_form_first : statement_said false true (word (codes "Loop") ∷ word (codes "0") ∷ word (codes "x") ∷ []) ≡ Err Shape
loop_form_first = refl

-- `Stop;` stands at a Pattern's top level; elsewhere it is left out, whatever stands behind it
pub stop_at_top : statement_said true false (word (codes "Stop") ∷ []) ≡ Ok (Step plain.Stop)
stop_at_top = refl

pub stop_inside : statement_said false false (word (codes "Stop") ∷ word (codes "x") ∷ []) ≡ Err LeftOut
stop_inside = refl

pub stop_with : statement_said true true (word (codes "Stop") ∷ []) ≡ Err Shape
stop_with = refl

-- `BreakPoint { }` is left out; `BreakPoint x { }` and `IddqTestPoint { }` have no form
pub break_with : statement_said true true (word (codes "BreakPoint") ∷ []) ≡ Err LeftOut
break_with = refl

pub break_form_first : statement_said true true (word (codes "BreakPoint") ∷ word (codes "x") ∷ []) ≡ Err Shape
break_form_first = refl

pub test_point_with : statement_said true true (word (codes "IddqTestPoint") ∷ []) ≡ Err Shape
test_point_with = refl

-- `Goto x;`, a keyword in double quotes, and no head at all
pub no_keyword : statement_said true false (word (codes "Goto") ∷ word (codes "x") ∷ []) ≡ Err LeftOut
no_keyword = refl

pub keyword_in_quotes : statement_said true true (name (codes "V") ∷ []) ≡ Err LeftOut
keyword_in_quotes = refl

pub no_head : statement_said true true [] ≡ Err LeftOut
no_head = refl

-- one label at most, which is a name
pub label : statement_said true true (word (codes "here") ∷ sign Colon ∷ word (codes "Shift") ∷ []) ≡ Ok Shift
unfolding is_digit begins_name is_printable
label = refl

pub label_in_quotes : statement_said true true (name (codes "here now") ∷ sign Colon ∷ word (codes "Shift") ∷ []) ≡ Ok Shift
unfolding is_digit begins_name is_printable
label_in_quotes = refl

pub two_labels : statement_said true true (word (codes "a") ∷ sign Colon ∷ word (codes "b") ∷ sign Colon ∷ word (codes "V") ∷ []) ≡ Err LeftOut
unfolding is_digit begins_name is_printable
two_labels = refl

pub no_label : statement_said true true (word (codes "1a") ∷ sign Colon ∷ word (codes "V") ∷ []) ≡ Err LeftOut
unfolding is_digit begins_name is_printable
no_label = refl

pub label_alone : statement_said true false (word (codes "a") ∷ sign Colon ∷ []) ≡ Err LeftOut
unfolding is_digit begins_name is_printable
label_alone = refl
