-- What known data spell.
use Rattle.std.proofs.Common.{◌≡◌, [], ◌∷◌, Ok, Err, refl}
use Rattle.std.specs.Prelude.{codes}
use Rattle.text_bytes.specs.Bytes.{is_digit, begins_name, is_printable}
use Rattle.stil_form.specs.declared.fault.FormKind.TheVariants.{Shape, LeftOut, OutOfRange}
use Rattle.stil_ast.specs.Meaning.Statements.{a_character, hash, percent}
use Rattle.pat_read.specs.Data.{data_of}
use Rattle.pat_read.proofs.StandardFacts.Spelled.{word, mark, backslash}

-- `\r3 X 1`: three times X, and 1
pub three_and_one : data_of (codes "/r3 X 1") (backslash 0 ∷ word 1 3 ∷ word 4 5 ∷ word 6 7 ∷ [])
    ≡ Ok (a_character 88 ∷ a_character 88 ∷ a_character 88 ∷ a_character 49 ∷ [])
unfolding is_digit begins_name is_printable
three_and_one = refl

-- `\r3 X1`: the unit has two characters
pub unit_of_two : data_of (codes "/r3 X1") (backslash 0 ∷ word 1 3 ∷ word 4 6 ∷ []) ≡ Err Shape
unfolding is_digit begins_name is_printable
unit_of_two = refl

-- `\ r3 X`: the word does not stand directly behind the `\`
pub word_apart : data_of (codes "/ r3 X") (backslash 0 ∷ word 2 4 ∷ word 5 6 ∷ []) ≡ Err Shape
word_apart = refl

-- nothing, and `01#%` with `\r2#` behind
pub no_data : data_of [] [] ≡ Ok []
no_data = refl

pub all_items : data_of (codes "01#%/r2#") (word 0 2 ∷ mark 35 2 ∷ mark 37 3 ∷ backslash 4 ∷ word 5 7 ∷ mark 35 7 ∷ [])
    ≡ Ok (a_character 48 ∷ a_character 49 ∷ hash ∷ percent ∷ hash ∷ hash ∷ [])
unfolding is_digit begins_name is_printable
all_items = refl

-- `\r0 X` stands for nothing
pub no_times : data_of (codes "/r0 X") (backslash 0 ∷ word 1 3 ∷ word 4 5 ∷ []) ≡ Ok []
unfolding is_digit begins_name is_printable
no_times = refl

-- the earlier token decides: `\h0 x_y`, and `x_y \h0`
pub left_out_first : data_of (codes "/h0 x_y") (backslash 0 ∷ word 1 3 ∷ word 4 7 ∷ []) ≡ Err LeftOut
left_out_first = refl

pub shape_first : data_of (codes "x_y /h0") (word 0 3 ∷ backslash 4 ∷ word 5 7 ∷ []) ≡ Err Shape
shape_first = refl

-- an item's form comes before its number: `\r1048577` without a unit, and with one
pub no_unit : data_of (codes "/r1048577") (backslash 0 ∷ word 1 9 ∷ []) ≡ Err Shape
unfolding is_digit begins_name is_printable
no_unit = refl

pub too_often : data_of (codes "/r1048577 X x_y") (backslash 0 ∷ word 1 9 ∷ word 10 11 ∷ word 12 15 ∷ []) ≡ Err OutOfRange
unfolding is_digit begins_name is_printable
too_often = refl

-- `\x0`, `\` alone, and `_` as a unit have no form
pub other_form : data_of (codes "/x0") (backslash 0 ∷ word 1 3 ∷ []) ≡ Err Shape
other_form = refl

pub nothing_behind : data_of (codes "/") (backslash 0 ∷ []) ≡ Err Shape
nothing_behind = refl

pub no_character : data_of (codes "/r2 _") (backslash 0 ∷ word 1 3 ∷ word 4 5 ∷ []) ≡ Err Shape
unfolding is_digit begins_name is_printable
no_character = refl
