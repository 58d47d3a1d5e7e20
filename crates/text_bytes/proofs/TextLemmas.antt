-- Texts that are compared, lists of texts with one more, and texts of whole lines.
use Rattle.std.proofs.Common.{◌≡◌, ℕ, true, false, cond, List, [], ◌∷◌, ◌++◌, map, inl, inr, refl, sym, ap, subst, ◌∙◌, append_assoc}
use Rattle.std.specs.List.{list_any}
use Rattle.std.specs.Str.{bytes_eq}
use Rattle.std.proofs.lemmas.Bool.Decides.{same_from_decides}
use Rattle.std.proofs.lemmas.List.{append-nil, map-append}
use Rattle.std.proofs.lemmas.Slice.Eq.{bytes_eq-Decides}
use Rattle.text_bytes.specs.Texts.{added, AreLines}
use Rattle.text_bytes.proofs.ListLemmas.{list_any-map}

-- two texts are compared alike from both sides
pub bytes_eq-comm : (a b : List ℕ) → bytes_eq a b ≡ bytes_eq b a
bytes_eq-comm a b =
    let one = bytes_eq-Decides a b in
    let other = bytes_eq-Decides b a in
    same_from_decides (bytes_eq a b) (bytes_eq b a) one (λ e. sym (other.0 e), λ e. other.1 (sym e))

-- a text that is there stays alone
pub added-present : {X : Type 0} (f : X → List ℕ) (keys : List X) (name : List ℕ)
    → true ≡ list_any (λ k. bytes_eq name (f k)) keys → map f keys ≡ added (map f keys) name
added-present f keys name h = rw (list_any-map f (bytes_eq name) keys, sym h) refl

-- a new text goes behind the others
pub added-absent : {X : Type 0} (f : X → List ℕ) (keys keys' : List X) (name : List ℕ) (k : X)
    → false ≡ list_any (λ k. bytes_eq name (f k)) keys → f k ≡ name
    → keys' ≡ cond (list_any (λ j. bytes_eq (f k) (f j)) keys) keys (keys ++ k ∷ []) → map f keys' ≡ added (map f keys) name
added-absent f keys keys' name k h e put =
    let fresh : list_any (λ j. bytes_eq (f k) (f j)) keys ≡ false = ap (λ (n : List ℕ). list_any (λ j. bytes_eq n (f j)) keys) e ∙ sym h in
    ap (map f) (put ∙ ap (λ b. cond b keys (keys ++ k ∷ [])) fresh)
    ∙ map-append f keys (k ∷ [])
    ∙ ap (λ n. map f keys ++ n ∷ []) e
    ∙ sym (ap (λ b. cond b (map f keys) (map f keys ++ name ∷ [])) (list_any-map f (bytes_eq name) keys ∙ sym h))

-- whole lines behind others
pub lines_behind : (front back : List ℕ) → AreLines front → AreLines back → AreLines (front ++ back)
lines_behind front back lines (inl none) = subst AreLines (sym (append-nil front) ∙ ap (λ t. front ++ t) (sym none)) lines
lines_behind front back lines (inr (before, is)) =
    inr (front ++ before, ap (λ t. front ++ t) is ∙ sym (append_assoc front before (10 ∷ [])))
