-- The extent of a look: the entries of its cycle at which it is looked at. Entries stand with their places in the
-- cycle.
use Rattle.std.specs.Prelude.{◌≡◌, ◌==◌, ◌<◌, ◌≤◌, ◌+◌, ℕ, Bool, if◌then◌else◌, List, [], ◌∷◌, ◌++◌, drop, slice_index_or}
use Rattle.std.specs.List.{list_any, enumerate_from}
use Rattle.tester_types.specs.declared.wave.Look.{Look}
use Rattle.strobe_check.specs.Look.{is_edge, is_window}
use Rattle.strobe_check.specs.Entry.{Entry, looks_at}

-- a look, and the entries inside its extent
pub record Extent : Type 0 where
  pub look : Look
  pub inside : List (ℕ × Entry)

-- entries where an entry has no look at a signal; none where it has
abbrev pub if_none : List Look → List (ℕ × Entry) → List (ℕ × Entry)
if_none [] entries = entries
if_none (look ∷ looks) entries = []

-- the entries in front of the next one with a look at the signal
abbrev pub until_look : ℕ → List (ℕ × Entry) → List (ℕ × Entry)
until_look signal [] = []
until_look signal (entry ∷ later) =
    if_none (looks_at signal entry.1.moment) (entry ∷ until_look signal later)

-- what is inside the extent of an entry's last look at a signal: an edge look has its own entry, a window has its own
-- and those up to the next look, and X has none
abbrev pub inside_last : Look → ℕ × Entry → List (ℕ × Entry) → List (ℕ × Entry)
inside_last look here later =
    if is_edge look then here ∷ [] else (if is_window look then here ∷ later else [])

-- what is inside that of a look which another one follows at the same instant: a window is closed before it is looked
-- at
abbrev pub inside_followed : Look → ℕ × Entry → List (ℕ × Entry)
inside_followed look here = if is_edge look then here ∷ [] else []

-- the looks at a signal in one entry, in written order, with the entries up to the next look
abbrev pub extents_here : List Look → ℕ × Entry → List (ℕ × Entry) → List Extent
extents_here [] here later = []
extents_here (look ∷ []) here later =
    record { look = look; inside = inside_last look here later } ∷ []
extents_here (look ∷ next ∷ looks) here later =
    record { look = look; inside = inside_followed look here } ∷ extents_here (next ∷ looks) here later

-- all looks at a signal in a cycle, in the order of its entries
abbrev pub extents : ℕ → List (ℕ × Entry) → List Extent
extents signal [] = []
extents signal (here ∷ later) =
    extents_here (looks_at signal here.1.moment) here (until_look signal later) ++ extents signal later

-- whether one of these entries has this place
abbrev pub has_place : ℕ → List (ℕ × Entry) → Bool
has_place place entries = list_any (λ entry. entry.0 == place) entries

-- the entries of a cycle behind a place
abbrev pub behind : ℕ → List Entry → List (ℕ × Entry)
behind place entries = enumerate_from (place + 1) (drop (place + 1) entries)

-- no entry behind one place, up to another, has a look at the signal
abbrev pub HasNoLook : ℕ → List Entry → ℕ → ℕ → Type 0
HasNoLook signal entries from upto =
    (place : ℕ) (d : Entry) → from < place → place ≤ upto → looks_at signal (slice_index_or entries place d).moment ≡ []
