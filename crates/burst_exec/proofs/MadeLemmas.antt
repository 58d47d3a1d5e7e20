-- What is found under a number stays there, and a new name gets the next number.
use Rattle.std.proofs.Common.{◌≡◌, ℕ, ◌<◌, Bool, true, false, List, [], ◌∷◌, ◌++◌, Option, Some, None, refl, sym, ◌∙◌, subst, length, cond}
use Rattle.std.specs.Prelude.{slice_get}
use Rattle.std.specs.Borrow.{Bor}
use Rattle.std.specs.Option.{option_or}
use Rattle.std.specs.Str.{bytes_eq}
use Rattle.std.proofs.lemmas.Option.{none-some, same_Some, slice_get_within}
use Rattle.std.proofs.lemmas.Slice.Eq.{bytes_eq-Decides}
use Rattle.indexmap.specs.IndexMap.{IndexMap}
use Rattle.text_bytes.proofs.ListLemmas.{slice_get-more}
use Rattle.pattern_order.specs.Numbers.{place_in}
use Rattle.burst_exec.specs.Made.{Stands, AreMade}

pub slice_get-end : {A : Type 0} (xs : List A) (x : A) → slice_get (xs ++ x ∷ []) (length xs) ≡ Some x
slice_get-end [] x = refl
slice_get-end (y ∷ ys) x = slice_get-end ys x

-- what stands under a number is there
pub stands_within : {A : Type 0} (Is : List ℕ → A → Type 0) (made : List A) (name : List ℕ) (n : ℕ) → Stands Is made name n
    → n < length made
stands_within Is made name n s = slice_get_within made n s.item s.there

-- one item more, whose name gets the next number
module _ {A S T : Type 0} (Is : List ℕ → A → Type 0) (places : IndexMap (Bor (List ℕ)) ℕ S) (made : List A)
    (more : IndexMap (Bor (List ℕ)) ℕ T) (name : List ℕ) (item : A) (are : AreMade Is places made) (is : Is name item)
    (numbers : (called : List ℕ) → place_in more called
    ≡ option_or (place_in places called) (cond (bytes_eq name called) (Some (length made)) None)) where
  by_new : (b : Bool) (called : List ℕ) (k : ℕ) → bytes_eq name called ≡ b
      → cond b (Some (length made)) None ≡ Some k → Stands Is (made ++ item ∷ []) called k
  by_new true called k equal found =
      subst (Stands Is (made ++ item ∷ []) called) (same_Some (length made) k found)
      (record {
        item = item;
        there = slice_get-end made item;
        is = subst (λ (x : List ℕ). Is x item) ((bytes_eq-Decides name called).0 equal) is;
      })
  by_new false called k equal found = absurd (none-some k found)

  by_old : (o : Option ℕ) (called : List ℕ) (k : ℕ) → place_in places called ≡ o
      → option_or o (cond (bytes_eq name called) (Some (length made)) None) ≡ Some k → Stands Is (made ++ item ∷ []) called k
  by_old (Some m) called k there found =
      let s = are.each called k (there ∙ found) in
      record { item = s.item; there = slice_get-more made (item ∷ []) k s.item s.there; is = s.is }
  by_old None called k there found = by_new (bytes_eq name called) called k refl found

  pub made_more : AreMade Is more (made ++ item ∷ [])
  made_more = record {
    each = λ called k place. by_old (place_in places called) called k refl (sym (numbers called) ∙ place);
  }
