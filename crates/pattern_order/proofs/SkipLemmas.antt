-- What holds of each name that is met in a burst.
use Rattle.std.proofs.Common.{◌≡◌, ℕ, zero, suc, ◌+◌, ◌≤◌, Bool, true, false, List, [], ◌∷◌, length, take, get_or, Option, Some, None, refl, sym, ◌∙◌, subst}
use Rattle.std.specs.Prelude.{slice_get}
use Rattle.std.specs.List.{AllByRecursion, flat_map}
use Rattle.std.proofs.lemmas.List.{take_more, take_all}
use Rattle.std.proofs.lemmas.Option.{none-some, same_Some, slice_get_within, get_or_from_slice_get}
use Rattle.text_bytes.proofs.ListLemmas.{all_append}
use Rattle.stil_ast.specs.Meaning.Bursts.{macros_name, procedures_name}
use Rattle.stil_ast.specs.Faults.BurstFaults.{burst_for, is_round}
use Rattle.stil_ast.specs.declared.blocks.Blocks.{Blocks}
use Rattle.stil_ast.specs.declared.executive.Burst.{Burst}
use Rattle.stil_ast.specs.declared.executive.BurstItem.{BurstItem}
use Rattle.pattern_order.specs.Walk.{Met, met_inside, met_at, met_within}
use Rattle.pattern_order.specs.Numbers.{IsNumbered, meaning_of}
use Rattle.pattern_order.specs.Marks.{IsOpened}
use Rattle.pattern_order.specs.declared.meaning.Meaning.{Meaning}
use Rattle.pattern_order.specs.declared.meaning.Meaning.TheVariants.{Unknown, Block, Pattern as APattern, Burst as ABurst}
use Rattle.pattern_order.specs.declared.walk.Frame.{Frame}
use Rattle.pattern_order.proofs.MeaningLemmas.{Means, means}

module _ (blocks : Blocks) (Holds : Met → Type 0) (Set : List (List ℕ) → Burst → Type 0) where
  -- a name holds, and leads into no burst but one of the set
  pub record StaysIn (round : List (List ℕ)) (b : Burst) (i : BurstItem) : Type 0 where
    pub holds : (macros procedures : List ℕ) → Holds (record {
      burst = b;
      item = i;
      macros = macros;
      procedures = procedures;
      leads_back = is_round (b.name ∷ round) (burst_for blocks i);
    })
    pub leads : (c : Burst) → burst_for blocks i ≡ Some c → is_round (b.name ∷ round) (burst_for blocks i) ≡ false
        → Set (b.name ∷ round) c

  all-inside : (inner : Burst → List Met) (back : Bool) (o : Option Burst)
      → ((c : Burst) → o ≡ Some c → back ≡ false → AllByRecursion Holds (inner c))
      → AllByRecursion Holds (met_inside inner back o)
  all-inside inner back None h = tt
  all-inside inner true (Some c) h = tt
  all-inside inner false (Some c) h = h c refl refl

  all-items : (inner : Burst → List Met) (round : List (List ℕ)) (macros procedures : List ℕ) (b : Burst) (items : List BurstItem)
      → ((c : Burst) → Set (b.name ∷ round) c → AllByRecursion Holds (inner c))
      → AllByRecursion (StaysIn round b) items
      → AllByRecursion Holds (flat_map (met_at blocks inner (b.name ∷ round) macros procedures b) items)
  all-items inner round macros procedures b [] h s = tt
  all-items inner round macros procedures b (i ∷ items) h s =
      let back = is_round (b.name ∷ round) (burst_for blocks i) in (
        s.0.holds macros procedures,
        all_append Holds (met_inside inner back (burst_for blocks i))
            (flat_map (met_at blocks inner (b.name ∷ round) macros procedures b) items)
            (all-inside inner back (burst_for blocks i) (λ c is e. h c (s.0.leads c is e)))
            (all-items inner round macros procedures b items h s.1),
      )

  -- what holds of each name in each burst of a closed set holds of all names that are met in one of them
  pub all-met : ((round : List (List ℕ)) (b : Burst) → Set round b → AllByRecursion (StaysIn round b) b.items)
      → (depth : ℕ) (round : List (List ℕ)) (macros procedures : List ℕ) (b : Burst) → Set round b
      → AllByRecursion Holds (met_within blocks depth round macros procedures b)
  all-met closed zero round macros procedures b s = tt
  all-met closed (suc depth) round macros procedures b s =
      all-items (met_within blocks depth (b.name ∷ round) (macros_name b.items macros) (procedures_name b.items procedures))
      round (macros_name b.items macros) (procedures_name b.items procedures) b b.items
      (λ c t. all-met closed depth (b.name ∷ round) (macros_name b.items macros) (procedures_name b.items procedures) c t)
      (closed round b s)

-- what follows of each item
pub all_mono : {X : Type 0} {P Q : X → Type 0} → ((x : X) → P x → Q x) → (xs : List X) → AllByRecursion P xs
    → AllByRecursion Q xs
all_mono h [] ps = tt
all_mono h (x ∷ xs) ps = (h x ps.0, all_mono h xs ps.1)

-- what holds of the items so far, and of the next, holds of all these
pub all_next : {X : Type 0} (P : X → Type 0) (xs : List X) (i : ℕ) (x : X) → slice_get xs i ≡ Some x
    → AllByRecursion P (take i xs) → P x → AllByRecursion P (take (i + 1) xs)
all_next P xs i x at ps p =
    subst (AllByRecursion P) (sym (take_more xs i x (slice_get_within xs i x at)))
    (all_append P (take i xs) (get_or xs i x ∷ []) ps (subst P (sym (get_or_from_slice_get xs i x x at)) p, tt))

-- what holds of as many items as there are holds of all
pub all_whole : {X : Type 0} (P : X → Type 0) (xs : List X) (i : ℕ) → length xs ≤ i → AllByRecursion P (take i xs)
    → AllByRecursion P xs
all_whole P xs i le ps = subst (AllByRecursion P) (take_all i xs le) ps

-- nothing is asked of no items
pub all_none : {X : Type 0} (P : X → Type 0) (xs : List X) (i : ℕ) → i ≡ 0 → AllByRecursion P (take i xs)
all_none P xs i is = rw is tt

module _ (blocks : Blocks) where
  -- a burst that a name names is what the name means
  pub record LeadsTo (i : BurstItem) (c : Burst) : Type 0 where
    pub number : ℕ
    pub means_it : meaning_of blocks i ≡ ABurst number
    pub numbered : IsNumbered blocks number c

  pub leads-to : (i : BurstItem) (c : Burst) → burst_for blocks i ≡ Some c → LeadsTo i c
  leads-to i c is = by_meaning (meaning_of blocks i) refl (means blocks i)
    where
      by_meaning : (m : Meaning) → meaning_of blocks i ≡ m → Means blocks i m → LeadsTo i c
      by_meaning Unknown at what = absurd (none-some c (sym what.0 ∙ is))
      by_meaning Block at what = absurd (none-some c (sym what.0 ∙ is))
      by_meaning (APattern p) at what = absurd (none-some c (sym what.0 ∙ is))
      by_meaning (ABurst k) at what = record {
        number = k;
        means_it = at;
        numbered = subst (IsNumbered blocks k) (same_Some what.0.burst c (sym what.0.named ∙ is)) what.0.numbered;
      }

  -- a burst that is opened has its number
  pub opened-numbered : (number begun : ℕ) (macros procedures : List ℕ) (g : Frame) (b : Burst)
      → IsOpened blocks number begun macros procedures g → IsNumbered blocks number b
      → IsNumbered blocks g.number g.burst.now × (b ≡ g.burst.now)
  opened-numbered number begun macros procedures g b is numbered =
      let same : b ≡ g.burst.now = same_Some b g.burst.now (sym numbered.there ∙ is.there) in (
        subst (λ (n : ℕ). IsNumbered blocks n g.burst.now) (sym is.numbered) (subst (IsNumbered blocks number) same numbered),
        same,
      )
