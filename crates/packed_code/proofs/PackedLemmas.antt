-- The 16 bytes of an instruction stand for it.
use Rattle.std.proofs.Common.{◌≡◌, ℕ, length, Some, refl, ap, ◌∙◌}
use Rattle.std.specs.Int.{w32, from_le_bytes}
use Rattle.std.proofs.lemmas.Nat.{from_le_bytes-to_le_bytes_2, from_le_bytes-to_le_bytes_4, from_le_bytes-to_le_bytes_8}
use Rattle.packed_code.specs.declared.instr.Instr.{Instr}
use Rattle.packed_code.specs.declared.instr.Instr.TheVariants.{Run, Loop, End, Done}
use Rattle.packed_code.specs.Conditions.{IsNarrow}
use Rattle.packed_code.specs.Packed.{number, instr}
use Rattle.packed_code.specs.Packed.{instr_of}

-- what an instruction is spelled as stands for it
pub instr_again : (i : Instr) → IsNarrow i → instr_of (instr i) ≡ Some i
unfolding instr_of number
instr_again (Run t r m n) narrow =
    (let r' : ℕ = from_le_bytes w32 (number w32 r) in
    let m' : ℕ = from_le_bytes w32 (number w32 m) in
    let n' : ℕ = from_le_bytes w32 (number w32 n) in
    ap (λ (x : ℕ). Some (Run x r' m' n')) (from_le_bytes-to_le_bytes_2 t narrow.0)
    ∙ ap (λ (x : ℕ). Some (Run t x m' n')) (from_le_bytes-to_le_bytes_4 r narrow.1)
    ∙ ap (λ (x : ℕ). Some (Run t r x n')) (from_le_bytes-to_le_bytes_4 m narrow.2)
    ∙ ap (λ (x : ℕ). Some (Run t r m x)) (from_le_bytes-to_le_bytes_4 n narrow.3))
instr_again (Loop n) narrow = ap (λ (x : ℕ). Some (Loop x)) (from_le_bytes-to_le_bytes_8 n narrow)
instr_again End narrow = refl
instr_again Done narrow = refl

pub instr_size : (i : Instr) → length (instr i) ≡ 16
unfolding number
instr_size (Run t r m n) = refl
instr_size (Loop n) = refl
instr_size End = refl
instr_size Done = refl
