-- The bytes of a text by what they may be part of, in ASCII.
use Rattle.std.specs.Prelude.{ℕ, Bool, false, ◌==◌, nat_le, ◌&&◌, ◌||◌, List, [], ◌∷◌}

-- space, tab, line feed, form feed and carriage return
unfoldable pub is_blank : ℕ → Bool
is_blank b = b == 0x20 || b == 0x09 || b == 0x0A || b == 0x0C || b == 0x0D

-- `0` to `9`
unfoldable pub is_digit : ℕ → Bool
is_digit b = nat_le 0x30 b && nat_le b 0x39

-- a letter or the low line, with which a name may begin
unfoldable pub begins_name : ℕ → Bool
begins_name b = (nat_le 0x61 b && nat_le b 0x7A) || (nat_le 0x41 b && nat_le b 0x5A) || b == 0x5F

-- a letter, a digit or the low line
unfoldable pub is_word : ℕ → Bool
is_word b =
    (nat_le 0x61 b && nat_le b 0x7A) || (nat_le 0x41 b && nat_le b 0x5A) || (nat_le 0x30 b && nat_le b 0x39)
    || b == 0x5F

-- a waveform character: a letter or a digit
unfoldable pub is_character : ℕ → Bool
is_character b =
    (nat_le 0x61 b && nat_le b 0x7A) || (nat_le 0x41 b && nat_le b 0x5A) || (nat_le 0x30 b && nat_le b 0x39)

-- a byte that shows in print: 0x21 to 0x7E
unfoldable pub is_printing : ℕ → Bool
is_printing b = nat_le 0x21 b && nat_le b 0x7E

-- a byte that a name may hold: 0x20 to 0x7E
unfoldable pub is_printable : ℕ → Bool
is_printable b = nat_le 0x20 b && nat_le b 0x7E

-- the text begins with a byte that passes
abbrev pub begins_with : (ℕ → Bool) → List ℕ → Bool
begins_with test [] = false
begins_with test (b ∷ text) = test b
