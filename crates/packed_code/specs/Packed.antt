-- The 16 bytes of an instruction, and what they stand for. Numbers are little-endian.
use Rattle.std.specs.Prelude.{ℕ, Bool, List, ◌∷◌, ◌++◌, ◌==◌, ◌&&◌, take, drop, replicate, slice_index, Option, Some, None, if◌then◌else◌}
use Rattle.std.specs.List.{list_all}
use Rattle.std.specs.Int.{Width, w16, w32, w64, to_le_bytes, from_le_bytes}
use Rattle.packed_code.specs.declared.instr.Instr.{Instr}
use Rattle.packed_code.specs.declared.instr.Instr.TheVariants.{Run, Loop, End, Done}

-- a number in its bytes, the lowest first
unfoldable pub number : Width → ℕ → List ℕ
number width n = to_le_bytes width n

-- 16 bytes. Run: 1, a zero byte, the table in 16 bits, the row, the mark and the times in 32 bits. Loop: 2, seven
-- zero bytes, the times in 64 bits. End and Done: 3 and 4, and zero bytes.
abbrev pub instr : Instr → List ℕ
instr (Run table row mark times) =
    1 ∷ 0 ∷ (number w16 table ++ (number w32 row ++ (number w32 mark ++ number w32 times)))
instr (Loop times) = 2 ∷ 0 ∷ 0 ∷ 0 ∷ 0 ∷ 0 ∷ 0 ∷ 0 ∷ number w64 times
instr End = 3 ∷ replicate 15 0
instr Done = 4 ∷ replicate 15 0

-- whether bytes are zero
abbrev pub are_zero : List ℕ → Bool
are_zero bytes = list_all (λ byte. byte == 0) bytes

-- so many of the bytes from a place on
abbrev pub part : ℕ → ℕ → List ℕ → List ℕ
part place size bytes = take size (drop place bytes)

-- the instruction that 16 bytes stand for
unfoldable pub instr_of : List ℕ → Option Instr
instr_of bytes =
    if slice_index bytes 0 == 1 && slice_index bytes 1 == 0 then
    Some (Run (from_le_bytes w16 (part 2 2 bytes)) (from_le_bytes w32 (part 4 4 bytes))
    (from_le_bytes w32 (part 8 4 bytes)) (from_le_bytes w32 (part 12 4 bytes)))
    else (if slice_index bytes 0 == 2 && are_zero (part 1 7 bytes) then Some (Loop (from_le_bytes w64 (part 8 8 bytes)))
    else (if slice_index bytes 0 == 3 && are_zero (part 1 15 bytes) then Some End
    else (if slice_index bytes 0 == 4 && are_zero (part 1 15 bytes) then Some Done
    else None)))

-- an instruction that is there, and Done where none is
abbrev pub or_done : Option Instr → Instr
or_done None = Done
or_done (Some instr) = instr

-- the instruction as which 16 bytes are saved
abbrev pub unpacked : List ℕ → Instr
unpacked bytes = or_done (instr_of bytes)
