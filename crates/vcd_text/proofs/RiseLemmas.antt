-- Lists whose numbers rise strictly, item by item.
use Rattle.std.proofs.Common.{◌≡◌, ℕ, ◌+◌, ◌<◌, ◌≤◌, List, [], ◌∷◌, ◌++◌, refl, arith}
use Rattle.std.specs.Prelude.{fold}
use Rattle.vcd_text.specs.Sound.{Rises}

-- the least number that an item behind these may have
unfoldable pub next_from : {X : Type 0} → ℕ → List (ℕ × X) → ℕ
next_from least [] = least
next_from least (item ∷ items) = next_from (item.0 + 1) items

-- as it is defined
pub next_from-fold : {X : Type 0} (least : ℕ) (items : List (ℕ × X)) → next_from least items ≡ fold (λ _ (item : ℕ × X). item.0 + 1) least items
unfolding next_from
next_from-fold least [] = refl
next_from-fold least (item ∷ items) = next_from-fold (item.0 + 1) items

-- one more
pub rises_push : {X : Type 0} (least n : ℕ) (items : List (ℕ × X)) (x : X) → Rises least items → next_from least items ≤ n
    → Rises least (items ++ (n, x) ∷ [])
unfolding next_from
rises_push least n [] x r h = (h, tt)
rises_push least n (item ∷ items) x r h = (r.0, rises_push (item.0 + 1) n items x r.1 h)

-- from the middle on
pub rises_behind : {X : Type 0} (least : ℕ) (items later : List (ℕ × X)) (item : ℕ × X) → Rises least (items ++ item ∷ later)
    → (next_from least items ≤ item.0) × Rises (item.0 + 1) later
unfolding next_from
rises_behind least [] later item r = r
rises_behind least (first ∷ items) later item r = rises_behind (first.0 + 1) items later item r.1

-- what is next behind one more
pub next_from-push : {X : Type 0} (least : ℕ) (items : List (ℕ × X)) (item : ℕ × X) → next_from least (items ++ item ∷ []) ≡ item.0 + 1
unfolding next_from
next_from-push least [] item = refl
next_from-push least (first ∷ items) item = next_from-push (first.0 + 1) items item

-- the number alone counts
pub rises_last : {X : Type 0} (least n : ℕ) (items : List (ℕ × X)) (x y : X) → Rises least (items ++ (n, x) ∷ [])
    → Rises least (items ++ (n, y) ∷ [])
rises_last least n [] x y r = r
rises_last least n (item ∷ items) x y r = (r.0, rises_last (item.0 + 1) n items x y r.1)

-- where the last is later
pub rises_more : {X : Type 0} (least n m : ℕ) (items : List (ℕ × X)) (x y : X) → Rises least (items ++ (n, x) ∷ []) → n < m
    → Rises least ((items ++ (n, x) ∷ []) ++ (m, y) ∷ [])
rises_more least n m [] x y r h = (r.0, (omega (arith, h), tt))
rises_more least n m (item ∷ items) x y r h = (r.0, rises_more (item.0 + 1) n m items x y r.1 h)
