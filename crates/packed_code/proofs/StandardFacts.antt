-- Known parts and their bytes, which the definitions must give.
use Rattle.std.proofs.Common.{◌≡◌, [], ◌∷◌, Some, None, refl}
use Rattle.packed_code.specs.declared.instr.Instr.TheVariants.{Run}
use Rattle.packed_code.specs.Packed.{number, instr, instr_of}

-- runs table 0, row 1 three times without a mark
pub example_instr : instr (Run 0 1 0 3) ≡ 1 ∷ 0 ∷ 0 ∷ 0 ∷ 1 ∷ 0 ∷ 0 ∷ 0 ∷ 0 ∷ 0 ∷ 0 ∷ 0 ∷ 3 ∷ 0 ∷ 0 ∷ 0 ∷ []
unfolding number
example_instr = refl

pub example_again : instr_of (1 ∷ 0 ∷ 0 ∷ 0 ∷ 1 ∷ 0 ∷ 0 ∷ 0 ∷ 0 ∷ 0 ∷ 0 ∷ 0 ∷ 3 ∷ 0 ∷ 0 ∷ 0 ∷ []) ≡ Some (Run 0 1 0 3)
unfolding instr_of
example_again = refl

-- an End has zero bytes behind its number
pub odd_end : instr_of (3 ∷ 0 ∷ 0 ∷ 0 ∷ 1 ∷ 0 ∷ 0 ∷ 0 ∷ 0 ∷ 0 ∷ 0 ∷ 0 ∷ 0 ∷ 0 ∷ 0 ∷ 0 ∷ []) ≡ None
unfolding instr_of
odd_end = refl
