-- The bytes of a row.
use Rattle.std.specs.Prelude.{ℕ, Bool, ◌==◌, ◌||◌}
use Rattle.text_bytes.specs.Bytes.{is_character}

-- what a row has for a signal: a character, or 0 where it has none
abbrev pub is_place : ℕ → Bool
is_place byte = byte == 0 || is_character byte
