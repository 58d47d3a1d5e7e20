-- A row as what it changes of the row before it.
use Rattle.std.specs.Prelude.{ℕ, suc, ◌+◌, ◌-◌, ◌*◌, Bool, List, [], ◌∷◌, ◌==◌, ◌&&◌, nat_lt, length, set, slice_index_or, if◌then◌else◌}
use Rattle.std.specs.Option.{option_map_or}
use Rattle.packed_code.specs.Conditions.{last_of}

-- the last of these rows, one without characters where there is none
abbrev pub last_row : List (List ℕ) → List ℕ
last_row rows = slice_index_or rows (length rows - 1) []

-- the signals, from this one on, in which the second row differs from the first, each with its character there
abbrev pub changes : ℕ → List ℕ → List ℕ → List (ℕ × ℕ)
changes signal [] row = []
changes signal (old ∷ last) [] = []
changes signal (old ∷ last) (new ∷ row) =
    if new == old then changes (suc signal) last row else (signal, new) ∷ changes (suc signal) last row

-- a row with these characters in place
abbrev pub with_changes : List ℕ → List (ℕ × ℕ) → List ℕ
with_changes row [] = row
with_changes row (change ∷ more) = with_changes (set row change.0 change.1) more

-- whether so many changes take fewer bytes than all characters of a row: a count in 16 bits, and three bytes a change
abbrev pub is_shorter : ℕ → ℕ → Bool
is_shorter changes signals = nat_lt (3 * changes + 2) signals

-- whether a row is spelled as a difference: it is not the first, and its changes take fewer bytes
abbrev pub is_difference : List (List ℕ) → List ℕ → Bool
is_difference before row =
    nat_lt 0 (length before) && is_shorter (length (changes 0 (last_row before) row)) (length row)

-- the least signal that may come behind these changes
abbrev pub least_behind : List (ℕ × ℕ) → ℕ
least_behind before = option_map_or (λ change. suc change.0) (last_of before) 0
