-- Names and numbers (IEEE 1450-1999, clause 6).
use Rattle.std.specs.Prelude.{ℕ, zero, suc, ◌+◌, ◌-◌, ◌*◌, ◌&&◌, Bool, false, List, [], ◌∷◌, ◌++◌, Option, Some, None, nat_le, nat_eq, length, map, reverse, decimal, position, fold, if◌then◌else◌}
use Rattle.std.specs.List.{list_all, list_any}
use Rattle.std.specs.Cmp.Lexicographic.{pointwise}
use Rattle.text_bytes.specs.Bytes.{is_digit, is_printable, begins_name}
use Rattle.text_bytes.specs.Limits.{longest_name}
use Rattle.stil_ast.specs.declared.name.IndexRange.{IndexRange}
use Rattle.stil_ast.specs.declared.name.Named.{Named}

-- whether two texts are one name
abbrev pub same : List ℕ → List ℕ → Bool
same a b = pointwise nat_eq a b

-- a name has a byte at least and not too many, from 0x20 to 0x7E
abbrev pub is_name : List ℕ → Bool
is_name [] = false
is_name (c ∷ cs) = nat_le (length (c ∷ cs)) longest_name && list_all is_printable (c ∷ cs)

-- a name without quotes begins with a letter or `_`
abbrev pub is_bare_name : List ℕ → Bool
is_bare_name [] = false
is_bare_name (c ∷ cs) = begins_name c && is_name (c ∷ cs)

-- the number that digits spell
abbrev pub number_of : List ℕ → ℕ
number_of digits = fold (λ n c. n * 10 + (c - 48)) 0 digits

-- an index is digits; it is at most 2^32 - 1
abbrev pub index_of : List ℕ → Option ℕ
index_of digits =
    if list_all is_digit digits && nat_le (number_of digits) 4294967295 then Some (number_of digits) else None

-- so many numbers from one on
abbrev pub upwards : ℕ → ℕ → List ℕ
upwards from zero = []
upwards from (suc count) = from ∷ upwards (suc from) count

-- the indices of a range, upwards or downwards
abbrev pub indices : IndexRange → List ℕ
indices r =
    if nat_le r.first r.last then upwards r.first (suc (r.last - r.first))
    else reverse (upwards r.last (suc (r.first - r.last)))

-- `name[index]`
abbrev pub indexed : List ℕ → ℕ → List ℕ
indexed name index = name ++ (91 ∷ (decimal index ++ (93 ∷ [])))

-- a name, or one name for each index
abbrev pub names_with : List ℕ → Option IndexRange → List (List ℕ)
names_with name None = name ∷ []
names_with name (Some range) = map (indexed name) (indices range)

-- whether a list of names has this one
abbrev pub has_name : List (List ℕ) → List ℕ → Bool
has_name names name = list_any (same name) names

-- where a list of names has this one
abbrev pub place_in : List (List ℕ) → List ℕ → Option ℕ
place_in names name = position (same name) names

-- the name of a statement that may be left away; without it the unnamed block is meant
abbrev pub name_or_none : Option Named → List ℕ
name_or_none None = []
name_or_none (Some n) = n.name
