-- What a table has in all: over what it inherits.
use Rattle.std.proofs.Common.{◌≡◌, ℕ, ◌+◌, List, [], ◌∷◌, ◌++◌, Bool, not, cond, ltb, Option, Some, None, length, map, refl, sym, ap, ◌∙◌, subst, append-nil, append_assoc, ◌≤◌, get_or, drop, suc, arith}
use Rattle.std.proofs.Math.Seq.{drop-cons}
use Rattle.std.specs.Prelude.{slice_get}
use Rattle.std.specs.List.{flat_map, position, position_or_len}
use Rattle.std.specs.Option.{option_or}
use Rattle.std.proofs.lemmas.List.{map-append, length-map}
use Rattle.std.proofs.lemmas.List.Concat.{flat_map-append}
use Rattle.stil_ast.specs.Meaning.Tables.{Waveform, own_of, own_waveforms, own_period, later, last_of, lineage}
use Rattle.stil_ast.specs.Faults.TableFaults.{Timed}
use Rattle.stil_ast.specs.declared.name.Quoted.{Quoted}
use Rattle.stil_ast.specs.declared.timing.TableDecl.{TableDecl}
use Rattle.expr_text.specs.Ratio.{Ratio}
use Rattle.wave_tables.specs.declared.times.ReadTime.{ReadTime}
use Rattle.wave_tables.specs.declared.lineage.Whole.{Whole}
use Rattle.wave_tables.specs.Sources.{Maps}
use Rattle.wave_tables.specs.Lineage.{IsPeriod, waveforms_in, period_in, HasOf, IsOver, IsMade, AreMadeAt}
use Rattle.wave_tables.proofs.SourceLemmas.{maps_fill}

-- the last of two lists is that of the second, else that of the first
pub last_of-append : (a b : List (Option Quoted)) → last_of (a ++ b) ≡ later (last_of a) (last_of b)
last_of-append [] b = first_none (last_of b)
  where
    first_none : (q : Option Quoted) → q ≡ later None q
    first_none None = refl
    first_none (Some q) = refl
last_of-append (q ∷ a) b = ap (later q) (last_of-append a b) ∙ later_later q (last_of a) (last_of b)
  where
    later_later : (x y z : Option Quoted) → later x (later y z) ≡ later (later x y) z
    later_later x y None = refl
    later_later x y (Some z) = refl

-- a period that is there counts, else that below it
pub period_over : (t : Timed Ratio) (p q : Option Quoted) (low top : Option ReadTime)
    → IsPeriod t p low → IsPeriod t q top → IsPeriod t (later p q) (option_or top low)
period_over t p None low None a b = a
period_over t p None low (Some top) a b = absurd b
period_over t p (Some q) low None a b = absurd b
period_over t p (Some q) low (Some top) a b = b

-- a table over one that it inherits
pub has_over : (t : Timed Ratio) (a b : List ℕ) (low top new : Whole) → HasOf t a low → HasOf t b top
    → IsOver top low new → HasOf t (a ++ b) new
has_over t a b low top new under here is_over = record {
  slots = subst (λ (w : List Waveform). Maps (length t.names.signals) w new.slots.items)
      (sym (flat_map-append (λ (k : ℕ). own_of t.names k (slice_get t.tables k)) a b))
      (maps_fill (length t.names.signals) (waveforms_in t.names t.tables a) (waveforms_in t.names t.tables b)
      top.slots.items low.slots.items new.slots.items here.slots under.slots is_over.slots);
  period =
      let is : period_in t.tables (a ++ b) ≡ later (period_in t.tables a) (period_in t.tables b) =
      ap last_of (map-append (λ (k : ℕ). own_period (slice_get t.tables k)) a b)
      ∙ last_of-append (map (λ (k : ℕ). own_period (slice_get t.tables k)) a)
      (map (λ (k : ℕ). own_period (slice_get t.tables k)) b) in
      rw (is, is_over.period) (period_over t (period_in t.tables a) (period_in t.tables b) low.period top.period
      under.period here.period);
}

-- what a table has of its own
pub has_own : (t : Timed Ratio) (k : ℕ) (table : TableDecl) (whole : Whole) → slice_get t.tables k ≡ Some table
    → Maps (length t.names.signals) (own_waveforms t.names k table) whole.slots.items
    → IsPeriod t table.period whole.period
    → HasOf t (k ∷ []) whole
has_own t k table whole is slots period = record {
  slots =
      let one : waveforms_in t.names t.tables (k ∷ []) ≡ own_waveforms t.names k table =
      append-nil (own_of t.names k (slice_get t.tables k)) ∙ ap (own_of t.names k) is in
      rw one slots;
  period =
      let one : period_in t.tables (k ∷ []) ≡ table.period = last_one (own_period (slice_get t.tables k))
      ∙ ap own_period is in
      rw one period;
}
  where
    last_one : (q : Option Quoted) → later q None ≡ q
    last_one q = refl

-- the place in a list of what is seen of items
pub position_or_len-map : {X Y : Type 0} (p : Y → Bool) (f : X → Y) (xs : List X)
    → position_or_len p (map f xs) ≡ position_or_len (λ x. p (f x)) xs
position_or_len-map p f [] = refl
position_or_len-map p f (x ∷ xs) = ap (λ (n : ℕ). cond (not (p (f x))) (1 + n) 0) (position_or_len-map p f xs)

pub position-map : {X Y : Type 0} (p : Y → Bool) (f : X → Y) (xs : List X)
    → position p (map f xs) ≡ position (λ x. p (f x)) xs
position-map p f xs =
    ap (λ (n : ℕ). cond (ltb n (length (map f xs))) (Some n) None) (position_or_len-map p f xs)
    ∙ ap (λ (m : ℕ). cond (ltb (position_or_len (λ x. p (f x)) xs) m) (Some (position_or_len (λ x. p (f x)) xs)) None)
    (length-map xs f)

-- one table more, from the last one on
pub has_more : (t : Timed Ratio) (wholes : List (Option Whole)) (inherits own : List ℕ) (left next : ℕ)
    (top new : Whole)
    → left ≡ next + 1 → left ≤ length inherits → AreMadeAt t wholes inherits
    → HasOf t (flat_map (lineage t.tables) (drop left inherits) ++ own) top
    → ((under : Whole) → get_or wholes (get_or inherits next 0) None ≡ Some under → IsOver top under new)
    → HasOf t (flat_map (lineage t.tables) (drop next inherits) ++ own) new
has_more t wholes inherits own left next top new at within made here over =
    let low : IsMade t wholes (get_or inherits next 0) = made next (omega arith) in
    let front : List ℕ = lineage t.tables (get_or inherits next 0) in
    let done : HasOf t (front ++ (flat_map (lineage t.tables) (drop left inherits) ++ own)) new =
    has_over t front (flat_map (lineage t.tables) (drop left inherits) ++ own) low.whole top new low.has here
    (over low.whole low.there) in
    let behind_next : suc next ≡ left = omega arith in
    let split : drop next inherits ≡ get_or inherits next 0 ∷ drop left inherits =
    drop-cons inherits next 0 (omega arith) ∙ ap (λ (n : ℕ). get_or inherits next 0 ∷ drop n inherits) behind_next in
    let whole : front ++ (flat_map (lineage t.tables) (drop left inherits) ++ own)
    ≡ flat_map (lineage t.tables) (drop next inherits) ++ own =
    sym (append_assoc front (flat_map (lineage t.tables) (drop left inherits)) own)
    ∙ ap (λ (l : List ℕ). flat_map (lineage t.tables) l ++ own) (sym split) in
    subst (λ (l : List ℕ). HasOf t l new) whole done
