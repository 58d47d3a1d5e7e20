-- Known parts and their bytes, which the definitions must give.
use Rattle.std.proofs.Common.{◌≡◌, ℕ, List, [], ◌∷◌, Ok, Err, refl}
use Rattle.page_code.specs.declared.fault.Refusal.TheVariants.{BadMagic, BadVersion, Torn, BadCode}
use Rattle.text_bytes.specs.Bytes.{is_character}
use Rattle.tester_types.specs.declared.wave.Act.TheVariants.{Look}
use Rattle.tester_types.specs.declared.wave.Look.TheVariants as look
use Rattle.packed_code.specs.Packed.{number}
use Rattle.page_code.specs.declared.version.Version.TheVariants.{Two}
use Rattle.page_code.specs.Spelling.{text, wave, row}
use Rattle.page_code.specs.Fields.{number_at, items_at}
use Rattle.page_code.specs.Reading.{head_at, characters_at, change_from, difference_at, whole_row_at, formed_row_at, row_at}

-- ---- what is written

pub example_text : text (97 ∷ 98 ∷ []) ≡ 2 ∷ 0 ∷ 97 ∷ 98 ∷ []
unfolding number
example_text = refl

-- signal 258, the character H, and the act H at 2 ^ 16 femtoseconds
pub example_wave : wave (record { signal = 258; character = 72; events = record { time = 65536; act = Look look.High } ∷ [] })
    ≡ 2 ∷ 1 ∷ 72 ∷ 1 ∷ 0 ∷ 0 ∷ 1 ∷ 0 ∷ 0 ∷ 0 ∷ 0 ∷ 0 ∷ 7 ∷ []
unfolding number
example_wave = refl

-- ---- rows of version 2

-- P110000XX
abbrev pub first_row : List ℕ
first_row = 80 ∷ 49 ∷ 49 ∷ 48 ∷ 48 ∷ 48 ∷ 48 ∷ 88 ∷ 88 ∷ []

-- P100000XX
abbrev pub second_row : List ℕ
second_row = 80 ∷ 49 ∷ 48 ∷ 48 ∷ 48 ∷ 48 ∷ 48 ∷ 88 ∷ 88 ∷ []

-- one character of nine changes: 5 is below 9
pub one_change : row Two (first_row ∷ []) second_row ≡ 1 ∷ 1 ∷ 0 ∷ 2 ∷ 0 ∷ 0x30 ∷ []
unfolding number
one_change = refl

-- one of two changes: 5 is not below 2
pub narrow_row : row Two ((48 ∷ 48 ∷ []) ∷ []) (49 ∷ 48 ∷ []) ≡ 0 ∷ 49 ∷ 48 ∷ []
narrow_row = refl

-- ---- what is read

-- a byte that is there and differs comes before one that is missing
pub wrong_magic : head_at (0xD7 ∷ 0 ∷ []) ≡ Err BadMagic
unfolding head_at
wrong_magic = refl

pub short_magic : head_at (0xD7 ∷ 0x53 ∷ []) ≡ Err Torn
unfolding head_at
short_magic = refl

pub second_version : head_at (0xD7 ∷ 0x53 ∷ 0x54 ∷ 0x50 ∷ 2 ∷ 0 ∷ 0 ∷ 0 ∷ []) ≡ Ok (Two, [])
unfolding head_at number_at
second_version = refl

pub other_version : head_at (0xD7 ∷ 0x53 ∷ 0x54 ∷ 0x50 ∷ 3 ∷ 0 ∷ []) ≡ Err BadVersion
unfolding head_at number_at
other_version = refl

-- a character that is no letter or digit is refused at its own place, before those that are missing
pub wrong_character : characters_at 4 (48 ∷ 33 ∷ []) ≡ Err (BadCode 1)
unfolding characters_at is_character
wrong_character = refl

pub short_row : characters_at 4 (48 ∷ 49 ∷ []) ≡ Err Torn
unfolding characters_at is_character
short_row = refl

-- ---- rows of version 2

pub one_change_again : formed_row_at 9 (first_row ∷ []) (1 ∷ 1 ∷ 0 ∷ 2 ∷ 0 ∷ 0x30 ∷ 7 ∷ []) ≡ Ok (second_row, 7 ∷ [])
unfolding formed_row_at difference_at change_from items_at number_at is_character
one_change_again = refl

-- the same spelled whole is refused at its form
pub whole_refused : formed_row_at 9 (first_row ∷ []) (0 ∷ second_row) ≡ Err (BadCode 10)
unfolding formed_row_at whole_row_at characters_at is_character
whole_refused = refl

-- the first row is spelled whole
pub first_refused : formed_row_at 9 [] (1 ∷ 1 ∷ 0 ∷ 2 ∷ 0 ∷ 0x30 ∷ []) ≡ Err (BadCode 6)
unfolding formed_row_at
first_refused = refl

-- no change, or more than there are signals, is refused at the count
pub none_refused : formed_row_at 9 (first_row ∷ []) (1 ∷ 0 ∷ 0 ∷ []) ≡ Err (BadCode 2)
unfolding formed_row_at difference_at number_at
none_refused = refl

pub many_refused : formed_row_at 9 (first_row ∷ []) (1 ∷ 10 ∷ 0 ∷ []) ≡ Err (BadCode 2)
unfolding formed_row_at difference_at number_at
many_refused = refl

-- three changes of nine are no shorter: 11 is not below 9
pub long_refused : formed_row_at 9 (first_row ∷ []) (1 ∷ 3 ∷ 0 ∷ []) ≡ Err (BadCode 3)
unfolding formed_row_at difference_at number_at
long_refused = refl

-- signals rise
pub order_refused : formed_row_at 9 (first_row ∷ []) (1 ∷ 2 ∷ 0 ∷ 2 ∷ 0 ∷ 0x30 ∷ 2 ∷ 0 ∷ 0x31 ∷ []) ≡ Err (BadCode 3)
unfolding formed_row_at difference_at change_from items_at number_at is_character
order_refused = refl

-- a character that is the old one is no change
pub old_refused : formed_row_at 9 (first_row ∷ []) (1 ∷ 1 ∷ 0 ∷ 2 ∷ 0 ∷ 0x31 ∷ []) ≡ Err (BadCode 1)
unfolding formed_row_at difference_at change_from items_at number_at is_character
old_refused = refl

-- a row that was there is refused at its form, after its changes
pub equal_refused : row_at Two 9 (second_row ∷ first_row ∷ []) (1 ∷ 1 ∷ 0 ∷ 2 ∷ 0 ∷ 0x30 ∷ []) ≡ Err (BadCode 6)
unfolding row_at formed_row_at difference_at change_from items_at number_at is_character
equal_refused = refl
