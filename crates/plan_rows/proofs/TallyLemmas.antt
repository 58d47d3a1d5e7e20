-- The names of the dies, site by site.
use Rattle.std.proofs.Common.{◌≡◌, ℕ, zero, suc, ◌<◌, ◌≤◌, ◌*◌, Bool, not, ◌+◌, cond, List, [], ◌∷◌, length, map, get_or, All, refl, sym, ap, ◌∙◌, arith, true, ◌++◌, inl, inr}
use Rattle.std.specs.List.{position, position_or_len, list_any}
use Rattle.std.proofs.lemmas.List.{map-set, get_or-map, length-map}
use Rattle.std.proofs.Math.ListN.{set}
use Rattle.std.proofs.lemmas.Nat.{mul-le}
use Rattle.std.specs.Str.{bytes_eq}
use Rattle.std.proofs.lemmas.Bool.{cases_Bool}
use Rattle.text_bytes.proofs.TextLemmas.{added-present, added-absent}
use Rattle.text_bytes.specs.Texts.{added}

-- a name goes behind the others where it is none of them
pub added-put : {X : Type 0} (f : X → List ℕ) (keys keys' : List X) (name : List ℕ) (k : X) → f k ≡ name
    → keys' ≡ cond (list_any (λ j. bytes_eq (f k) (f j)) keys) keys (keys ++ k ∷ []) → map f keys' ≡ added (map f keys) name
added-put f keys keys' name k e put =
    elim (cases_Bool (list_any (λ j. bytes_eq name (f j)) keys)) [
      | inl there ↦
          let same : list_any (λ j. bytes_eq (f k) (f j)) keys ≡ true = ap (λ (n : List ℕ). list_any (λ j. bytes_eq n (f j)) keys) e ∙ there in
          ap (map f) (put ∙ ap (λ b. cond b keys (keys ++ k ∷ [])) same) ∙ added-present f keys name (sym there)
      | inr new ↦ added-absent f keys keys' name k (sym new) e put
    ]

-- a bound of two factors
pub small_product : (a b : ℕ) → a < 256 → b < 65536 → a * b ≤ 16711425
small_product a b low high = let p : a * b ≤ 255 * 65535 = mul-le a b 255 65535 (omega arith) (omega arith) in omega arith

-- what is kept at a site is that of the set there
pub kept_at : {X : Type 0} (f : X → List (List ℕ)) (sets : List X) (site : ℕ) (s : X) → site < length sets → s ≡ get_or sets site s →
    get_or (map f sets) site [] ≡ f s
kept_at f sets site s within is = get_or-map f sets site s [] within ∙ ap f (sym is)

-- the set of a site has one name more
pub kept_set : {X : Type 0} (f : X → List (List ℕ)) (sets : List X) (site : ℕ) (s s' : X) (name : List ℕ) → site < length sets →
    s ≡ get_or sets site s → f s' ≡ added (f s) name →
    map f (set sets site s') ≡ set (map f sets) site (added (get_or (map f sets) site []) name)
kept_set f sets site s s' name within is new =
    map-set f sets site s' ∙ ap (set (map f sets) site) (new ∙ ap (λ names. added names name) (sym (kept_at f sets site s within is)))

-- the same, where the place is known by an equal number
pub kept_set_at : {X : Type 0} (f : X → List (List ℕ)) (sets : List X) (site place : ℕ) (s s' : X) (name : List ℕ) → place ≡ site →
    site < length sets → s ≡ get_or sets place s → f s' ≡ added (f s) name →
    map f (set sets place s') ≡ set (map f sets) site (added (get_or (map f sets) site []) name)
kept_set_at f sets site place s s' name e within is new = rw e (kept_set f sets site s s' name within (rw e at is) new)

-- where the first of the seen stands, the first of the items does
pub position-map : {X Y : Type 0} (f : X → Y) (p : Y → Bool) (xs : List X) → position p (map f xs) ≡ position (λ x. p (f x)) xs
position-map f p xs = rw (position_or_len-map f p xs, length-map xs f) refl
  where
    position_or_len-map : {X Y : Type 0} (f : X → Y) (p : Y → Bool) (xs : List X) → position_or_len p (map f xs) ≡ position_or_len (λ x. p (f x)) xs
    position_or_len-map f p [] = refl
    position_or_len-map f p (x ∷ xs) = ap (λ n. cond {A = ℕ} (not (p (f x))) (1 + n) 0) (position_or_len-map f p xs)

-- empty sets keep no name anywhere
pub none_kept : {X : Type 0} (f : X → List (List ℕ)) (sets : List X) (site : ℕ) → All (λ s. f s ≡ []) sets → get_or (map f sets) site [] ≡ []
none_kept f [] site all = refl
none_kept f (s ∷ sets) zero all = all 0 s (omega arith)
none_kept f (s ∷ sets) (suc site) all = none_kept f sets site (λ k d within. all (suc k) d (omega arith))
