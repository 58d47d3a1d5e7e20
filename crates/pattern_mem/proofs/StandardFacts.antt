-- A known pool: of two frames over a code of three pages, asked for pages 0, 1, 0, 2 and 1.
use Rattle.std.proofs.Common.{◌≡◌, ℕ, List, [], ◌∷◌, true, false, refl}
use Rattle.std.specs.Map.{keys_of}
use Rattle.packed_code.specs.Program.{Program}
use Rattle.pattern_mem.specs.Pool.{Pool, new_pool, is_held, answered, asked, seen, is_of, shown}
use Rattle.pattern_mem.specs.declared.pool.Fetched.{Fetched}
use Rattle.pattern_mem.specs.declared.pool.Fetched.TheVariants.{Hit, Miss}

-- the pool after these pages were asked for, the first of them first
abbrev after : Pool → List ℕ → Pool
after pool [] = pool
after pool (page ∷ pages) = after (asked pool page) pages

-- what it answers to them
abbrev answers : Pool → List ℕ → List Fetched
answers pool [] = []
answers pool (page ∷ pages) = answered (is_held page pool) ∷ answers (asked pool page) pages

-- the first, the second and the last two weren't there
answers_known : (code : Program) → answers (new_pool code 2) (0 ∷ 1 ∷ 0 ∷ 2 ∷ 1 ∷ []) ≡ Miss ∷ Miss ∷ Hit ∷ Miss ∷ Miss ∷ []
answers_known code = refl

-- the last two are held, the last one first
entries_known : (code : Program) → keys_of (after (new_pool code 2) (0 ∷ 1 ∷ 0 ∷ 2 ∷ 1 ∷ [])).entries ≡ 1 ∷ 2 ∷ []
entries_known code = refl

-- with one frame each page drives the other out
one_frame : (code : Program) → answers (new_pool code 1) (0 ∷ 1 ∷ 0 ∷ 0 ∷ []) ≡ Miss ∷ Miss ∷ Miss ∷ Hit ∷ []
one_frame code = refl

-- where there is room nothing is dropped
with_room : (code : Program) → keys_of (after (new_pool code 3) (0 ∷ 1 ∷ 2 ∷ 0 ∷ [])).entries ≡ 0 ∷ 2 ∷ 1 ∷ []
with_room code = refl

-- a window without a page has none and shows nothing
window_known : (is_of 0 (seen false 0 []) ≡ false) × (is_of 7 (seen true 7 []) ≡ true) × (shown (seen true 7 []) ≡ [])
window_known = (refl, refl, refl)
