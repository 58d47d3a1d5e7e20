-- Known cells.
use Rattle.std.proofs.Common.{◌≡◌, [], ◌∷◌, Some, None, refl}
use Rattle.std.specs.Prelude.{codes}
use Rattle.text_bytes.specs.Bytes.{is_digit, begins_name, is_printable}
use Rattle.stil_form.specs.Lexeme.{word, name, sign}
use Rattle.stil_form.specs.declared.part.SignKind.TheVariants.{Open, Close, Dot, Bang}
use Rattle.scan_blocks.specs.Cells.{cells_spelled}

-- `a ! "b"[2..1]`: a `!` is skipped, and the indices are those of the name in front of them
pub cells_are : cells_spelled (word (codes "a") ∷ sign Bang ∷ name (codes "b") ∷ sign Open ∷ word (codes "2") ∷
    sign Dot ∷ sign Dot ∷ word (codes "1") ∷ sign Close ∷ [])
    ≡ Some (record { name = codes "a"; range = None } ∷
    record { name = codes "b"; range = Some (record { first = 2; last = 1 }) } ∷ [])
unfolding is_digit begins_name is_printable
cells_are = refl

-- `!` alone: no cell
pub no_cell : cells_spelled (sign Bang ∷ []) ≡ Some []
unfolding is_digit begins_name is_printable
no_cell = refl

-- `a![0]`: no name stands in front of the indices
pub bang_has_no_indices : cells_spelled (word (codes "a") ∷ sign Bang ∷ sign Open ∷ word (codes "0") ∷ sign Close ∷ []) ≡ None
unfolding is_digit begins_name is_printable
bang_has_no_indices = refl

-- `a[0`: no `]` behind the index
pub open_index : cells_spelled (word (codes "a") ∷ sign Open ∷ word (codes "0") ∷ []) ≡ None
unfolding is_digit begins_name is_printable
open_index = refl
