-- A list is made lean in its place: its bodies from the last one, then its slots from their end.
use Rattle.std.proofs.Common.{◌≡◌, ℕ, ◌+◌, ◌<◌, ◌≤◌, Bool, List, ◌∷◌, ap, sym, ◌∙◌, subst, length, take, drop, get_or, set, arith}
use Rattle.std.proofs.lemmas.List.{length-set, take-set, take-take, drop-set, drop_more, get_or-take}
use Rattle.std.specs.List.{AllZip}
use Rattle.stil_ast.specs.Meaning.Flat.{done}
use Rattle.flat_tree.specs.Lean.{Ahead}
use Rattle.flat_tree.specs.Counts.{body_count}
use Rattle.flat_tree.specs.Slots.{whole_front, wholes_flat}
use Rattle.flat_tree.specs.Leaning.{AreMade, IsLeaned, IsLeaning, IsKeeping, Leans, slots_if}
use Rattle.flat_tree.specs.declared.flat.Slot.{Slot}
use Rattle.flat_tree.specs.declared.flat.Whole.{Whole}
use Rattle.flat_tree.proofs.SlotLemmas.{whole_bodies-le}

-- what was not gone through is as it was
item_was : {A : Type 0} (original now : List A) (place from : ℕ) (d : A) → place < from
    → take from now ≡ take from original → get_or now place d ≡ get_or original place d
item_was {A} original now place from d below e =
    sym (get_or-take from now place d below)
    ∙ (ap (λ (xs : List A). get_or xs place d) e ∙ get_or-take from original place d below)

-- in front of a place before it everything is
front_was : {A : Type 0} (original now : List A) (place from : ℕ) → place ≤ from → take from now ≡ take from original
    → take place now ≡ take place original
front_was {A} original now place from below e =
    sym (take-take place from now below) ∙ (ap (take place) e ∙ take-take place from original below)

-- a list from a place on, where the item at that place hasn't been gone through
list_next : {A : Type 0} (original now : List A) (place from : ℕ) (item : A) → place + 1 ≡ from → place < length original
    → take from now ≡ take from original → item ≡ get_or now place item
    → drop place original ≡ item ∷ drop from original
list_next {A} original now place from item next within e is =
    drop_more original place item within
    ∙ (ap (λ (n : ℕ). get_or original place item ∷ drop n original) next
    ∙ ap (λ (x : A). x ∷ drop from original) (sym (is ∙ item_was original now place from item (omega (arith, next)) e)))

-- ---- bodies

-- a whole has no more bodies than the list had at the start
pub bodies_were : (original now : List Whole) (place from : ℕ) (whole : Whole) → place + 1 ≡ from
    → place < length original → take from now ≡ take from original → whole ≡ get_or now place whole
    → body_count (whole_front whole done) ≤ body_count (wholes_flat original)
bodies_were original now place from whole next within e is =
    whole_bodies-le original place whole whole
    (is ∙ item_was original now place from whole (omega (arith, next)) e) within

-- one body further
pub leans_on : (original now : List Whole) (place from signals : ℕ) (a b : Ahead) (whole lean : Whole)
    → IsLeaning original now from signals a → place + 1 ≡ from → whole ≡ get_or now place whole
    → length b.signals ≡ signals → IsLeaned signals lean whole
    → IsLeaning original (set now place lean) place signals b
leans_on original now place from signals a b whole lean far next is count leaned =
    let inside : place < length now = omega (arith, next, far.within) in
    let begun : place < length original = omega (arith, inside, far.size) in
    record {
      before = take-set now place lean ∙ front_was original now place from (omega (arith, next)) far.before;
      size = length-set now place lean ∙ far.size;
      within = omega (arith, length-set now place lean, inside);
      count = count;
      leaned =
          subst (λ (xs : List Whole). AllZip (IsLeaned signals) xs (drop place original))
          (sym (drop-set now place lean inside ∙ ap (λ (n : ℕ). lean ∷ drop n now) next))
          (subst (λ (xs : List Whole). AllZip (IsLeaned signals) (lean ∷ drop from now) xs)
          (sym (list_next original now place from whole next begun far.before is)) (leaned, far.leaned));
    }

-- ---- slots

-- one slot further
pub keeps_on : (original now later : List Slot) (place from kept next signals : ℕ) (a b : Ahead) (slot : Slot) (stays : Bool)
    → IsKeeping original now from kept signals a → place + 1 ≡ from → slot ≡ get_or now place slot
    → Leans slot a b stays → take place later ≡ take place now → length later ≡ length now → place ≤ next
    → next ≤ length later → drop next later ≡ slots_if stays slot (drop kept now)
    → IsKeeping original later place next signals b
keeps_on original now later place from kept next signals a b slot stays far step is leans front size behind within made =
    let inside : place < length now = omega (arith, step, far.behind, far.within) in
    let begun : place < length original = omega (arith, inside, far.size) in
    record {
      before = front ∙ front_was original now place from (omega (arith, step)) far.before;
      size = size ∙ far.size;
      behind = behind;
      within = within;
      made =
          subst (λ (xs : List Slot). AreMade signals b xs (drop place original)) (sym made)
          (subst (λ (xs : List Slot). AreMade signals b (slots_if stays slot (drop kept now)) xs)
          (sym (list_next original now place from slot step begun far.before is))
          (leans signals (drop kept now) (drop from original) far.made));
    }
