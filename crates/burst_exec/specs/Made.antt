-- What was made for the names that were asked for, once for each. Names have numbers in the order of asking.
use Rattle.std.specs.Prelude.{◌≡◌, ℕ, List, Some, slice_get}
use Rattle.std.specs.Borrow.{Bor}
use Rattle.indexmap.specs.IndexMap.{IndexMap}
use Rattle.pattern_order.specs.Numbers.{place_in}

-- under this number stands what is to be made for a name
pub record Stands {A : Type 0} (Is : List ℕ → A → Type 0) (made : List A) (name : List ℕ) (n : ℕ) : Type 0 where
  pub item : A
  pub there : slice_get made n ≡ Some item
  pub is : Is name item

-- each name that has a number has under it what is to be made for it
pub record AreMade {A S : Type 0} (Is : List ℕ → A → Type 0) (places : IndexMap (Bor (List ℕ)) ℕ S) (made : List A)
    : Type 0 where
  pub each : (name : List ℕ) (n : ℕ) → place_in places name ≡ Some n → Stands Is made name n
