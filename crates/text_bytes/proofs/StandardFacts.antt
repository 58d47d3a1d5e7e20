-- Known bytes and numbers.
use Rattle.std.proofs.Common.{◌≡◌, ◌-◌, ◌^◌, true, false, Some, None, refl, [], ◌∷◌}
use Rattle.std.specs.Prelude.{codes}
use Rattle.std.specs.List.{list_all}
use Rattle.text_bytes.specs.Bytes.{is_blank, is_word, is_character, is_printing, is_printable}
use Rattle.text_bytes.specs.Numbers.{number_by}

-- the five blanks, and none of the others
blanks : list_all is_blank (32 ∷ 9 ∷ 10 ∷ 12 ∷ 13 ∷ []) ≡ true
unfolding is_blank
blanks = refl

-- a vertical tab is no blank
no_blank : is_blank 11 ≡ false
unfolding is_blank
no_blank = refl

-- the low line is part of a word, and no waveform character
low_line : is_word 95 ≡ true
unfolding is_word
low_line = refl

-- the low line is no waveform character
no_character : is_character 95 ≡ false
unfolding is_character
no_character = refl

-- a space may stand in a name, but doesn't show in print
space : is_printable 32 ≡ true
unfolding is_printable
space = refl

-- a space doesn't show in print
no_print : is_printing 32 ≡ false
unfolding is_printing
no_print = refl

-- zeros in front are free
seven : number_by (codes "007") ≡ Some 7
unfolding Rattle.text_bytes.specs.Bytes.is_digit
seven = refl

-- 2^64 is read as 2^64 - 1
capped : number_by (codes "18446744073709551616") ≡ Some (2 ^ 64 - 1)
unfolding Rattle.text_bytes.specs.Bytes.is_digit
capped = refl

-- no digits are no number
none : number_by [] ≡ None
none = refl
