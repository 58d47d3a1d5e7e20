-- The rule of the table in which a pool stands, which holds between any two steps of any threads. It is this project's
-- own. The table has one word, the turn, and one slot, the pool's. The opener's view stands first, and the views of the
-- passes follow in the order of their making.
use Rattle.std.specs.Prelude.{◌≡◌, ℕ, ◌≤◌, Bool, false, cond, List, [], ◌∷◌, length, sum_by}
use mathlib.Core.Option.{none, some}
use lib.ListN.{get_elem?}
use Rattle.atomic_table.specs.Table.{State}
use Rattle.pattern_mem.specs.Pool.{Pool, basis_of}
use Rattle.pattern_mem.specs.declared.view.View.{View}
use Rattle.pattern_mem.specs.declared.view.View.TheVariants.{Opener, Pass}
use Rattle.pattern_mem.specs.declared.view.Basis.{Basis}
use Rattle.pattern_mem.specs.declared.view.OpenerView.{OpenerView}
use Rattle.pattern_mem.specs.declared.view.PassView.{PassView}

-- the view of the opener's seat
abbrev pub opener_view : ℕ → Basis → OpenerView
opener_view made basis = record { made = made; basis = basis }

-- the view of a pass
abbrev pub pass_view : Basis → Bool → PassView
pass_view basis holds = record { basis = basis; holds = holds }

-- what the opener's seat knows; of a pass, what its pool is made of
abbrev pub as_opener : View → OpenerView
as_opener (Opener v) = v
as_opener (Pass v) = opener_view 0 v.basis

-- what a pass knows; of the opener's seat, what its pool is made of
abbrev pub as_pass : View → PassView
as_pass (Pass v) = v
as_pass (Opener v) = pass_view v.basis false

-- no pass was made
abbrev pub first_view : Basis → View
first_view basis = Opener (opener_view 0 basis)

-- 1 where a pass holds the pool
abbrev pub if_holds : View → ℕ
if_holds v = cond (as_pass v).holds 1 0

-- how many of them hold the pool
abbrev pub holders : List View → ℕ
holders passes = sum_by if_holds passes

-- a pass for a pool that is made of these
abbrev pub IsPassOver : Basis → View → Type 0
IsPassOver basis v = v ≡ Pass (pass_view basis (as_pass v).holds)

-- what holds of the turn, the slot and the views between any two steps
pub record IsKept (s : State Pool View) : Type 0 where
  pub opener : OpenerView
  pub passes : List View
  -- one seat is the opener's, and the others are passes, as many as were made
  pub views : s.views ≡ Opener opener ∷ passes
  pub all : length passes ≡ opener.made
  -- what the pool of each pass is made of is what the opener's is
  pub bases : (k : ℕ) (v : View) → get_elem? passes k ≡ some v → IsPassOver opener.basis v
  -- the turn is 0 or 1, and is the number of passes that hold the pool
  pub turn : s.words ≡ holders passes ∷ []
  pub once : holders passes ≤ 1
  -- where it is 0, the pool is at home, over the opener's code and with as many frames
  pub home : holders passes ≡ 0 → (pool : Pool) × (s.homes ≡ some pool ∷ []) × (basis_of pool ≡ opener.basis)
  -- where it is 1, the pool is out
  pub out : holders passes ≡ 1 → s.homes ≡ none ∷ []
