-- Pools of decoded pages, windows, and what is in them once a page was asked for. They are this project's own.
use Rattle.std.specs.Prelude.{◌≡◌, ℕ, ◌-◌, ◌≤◌, ◌==◌, Bool, true, false, List, [], ◌∷◌, length, take, if◌then◌else◌, slice_index_or, is_some, nat_eq, Option, Some, None, Contains}
use Rattle.std.specs.List.{IsDistinct}
use Rattle.std.specs.Map.{keys_of, lookup, remove_entry}
use Rattle.lru.specs.LruCache.{LruCache}
use Rattle.packed_code.specs.declared.instr.Instr.{Instr}
use Rattle.packed_code.specs.Program.{Program}
use Rattle.packed_code.specs.Cycles.{pages_of}
use Rattle.pattern_mem.specs.declared.view.Basis.{Basis}
use Rattle.pattern_mem.specs.declared.pool.Fetched.{Fetched}
use Rattle.pattern_mem.specs.declared.pool.Fetched.TheVariants.{Hit, Miss}

-- a pool: its code, its entries of page numbers and instructions, those that were asked for last first, and how many
-- entries there may be
pub record Pool : Type 0 where
  pub code : Program
  pub entries : List (ℕ × List Instr)
  pub frames : ℕ

-- what it is made of
abbrev pub basis_of : Pool → Basis
basis_of pool = record { code = pool.code; frames = pool.frames }

-- a pool of these parts
abbrev pub pool_of : Program → LruCache ℕ (List Instr) → Pool
pool_of code cache = record { code = code; entries = cache.entries; frames = cache.cap }

-- a pool without entries
abbrev pub new_pool : Program → ℕ → Pool
new_pool code frames = record { code = code; entries = []; frames = frames }

-- the instructions of a page of a code
abbrev pub page_at : Program → ℕ → List Instr
page_at code number = slice_index_or (pages_of code) number []

-- what holds in every state of a pool: each entry's instructions are the code's page of its number, numbers are
-- distinct, and there are at most as many as the frames
pub record IsPool (pool : Pool) : Type 0 where
  pub each : (number : ℕ) (instrs : List Instr) → Contains pool.entries (number, instrs)
      → instrs ≡ page_at pool.code number
  pub distinct : IsDistinct nat_eq (keys_of pool.entries)
  pub few : length pool.entries ≤ pool.frames

-- whether a page is among the entries
abbrev pub is_held : ℕ → Pool → Bool
is_held page pool = is_some (lookup (nat_eq page) pool.entries)

-- the entries beside a page that is asked for: where it is among them the others in their order, and else all but the
-- last of a full list
abbrev pub others : Pool → ℕ → List (ℕ × List Instr)
others pool page =
    if is_held page pool then remove_entry (nat_eq page) pool.entries
    else take (pool.frames - 1) pool.entries

-- the pool once a page was asked for: the page is first
abbrev pub asked : Pool → ℕ → Pool
asked pool page = record {
  code = pool.code;
  entries = (page, page_at pool.code page) ∷ others pool page;
  frames = pool.frames;
}

-- the answer where a page was among the entries, or not
abbrev pub answered : Bool → Fetched
answered true = Hit
answered false = Miss

-- what a window shows, if it has a page: the page's number and its instructions
abbrev pub seen : Bool → ℕ → List Instr → Option (ℕ × List Instr)
seen true number instrs = Some (number, instrs)
seen false number instrs = None

-- whether a window has the page of a number
abbrev pub is_of : ℕ → Option (ℕ × List Instr) → Bool
is_of number None = false
is_of number (Some page) = page.0 == number

-- the instructions of a window's page, none where it has no page
abbrev pub shown : Option (ℕ × List Instr) → List Instr
shown None = []
shown (Some page) = page.1
