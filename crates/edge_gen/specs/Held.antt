-- The schedules that are held: the moments of cycles, dated from 0, by the numbers of their tables and rows, those that
-- were asked for last first.
use Rattle.std.specs.Prelude.{◌≡◌, ℕ, ◌-◌, ◌==◌, Bool, ◌&&◌, if◌then◌else◌, List, [], ◌∷◌, take, is_some, IfSome}
use Rattle.std.specs.Map.{lookup, remove_entry}
use Rattle.lru.specs.LruCache.{LruCache, lru_cache}
use Rattle.tester_types.specs.declared.cycle.Moment.{Moment}

-- entries of numbers and moments, and how many there may be
abbrev pub Held : Type 0
Held = LruCache (ℕ × ℕ) (List Moment)

-- whether these are the same numbers of a table and a row
abbrev pub is_pair : ℕ × ℕ → ℕ × ℕ → Bool
is_pair pair other = pair.0 == other.0 && pair.1 == other.1

-- whether there are moments of these numbers
abbrev pub is_held : ℕ × ℕ → Held → Bool
is_held pair held = is_some (lookup (is_pair pair) held.entries)

-- nothing is held
abbrev pub none_held : ℕ → Held
none_held capacity = lru_cache [] capacity

-- what is held for the numbers, if anything, is these moments
abbrev pub HoldsOnly : Held → ℕ × ℕ → List Moment → Type 0
HoldsOnly held pair moments = IfSome (lookup (is_pair pair) held.entries) (λ found. found ≡ moments)

-- the entries beside the numbers that are asked for: those of other numbers in their order, where the numbers are held,
-- and else all but the last of a full list
abbrev pub others : Held → ℕ × ℕ → List ((ℕ × ℕ) × List Moment)
others held pair =
    if is_held pair held then remove_entry (is_pair pair) held.entries
    else take (held.cap - 1) held.entries

-- what is held once the moments of these numbers were asked for: they are first
abbrev pub asked : Held → ℕ × ℕ → List Moment → Held
asked held pair moments = lru_cache ((pair, moments) ∷ others held pair) held.cap
