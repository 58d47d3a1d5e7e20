-- Each step from a list's end keeps a lean tree that does the same.
use Rattle.std.proofs.Common.{◌≡◌, ℕ, zero, suc, ◌<◌, Bool, true, false, List, [], ◌∷◌, Some, None, refl, ap, sym, ◌∙◌, subst, length, slice_index_or, arith}
use Rattle.std.proofs.lemmas.List.{length-replicate, get_or-replicate}
use Rattle.std.specs.List.{AllZip}
use Rattle.stil_ast.specs.Meaning.Dealing.{with_character}
use Rattle.stil_ast.specs.Meaning.State.{State}
use Rattle.stil_ast.specs.Meaning.Running.{Ran}
use Rattle.stil_ast.specs.Meaning.Flat.{Flat, table, character, back, measure}
use Rattle.stil_ast.specs.Meaning.ExecutiveData.{IsSameFlat}
use Rattle.flat_tree.specs.Lean.{sets_table, sets_signal, IsLean, Ahead}
use Rattle.flat_tree.specs.Slots.{whole_front, slots_flat, next_count, wholes_in}
use Rattle.flat_tree.specs.Leaning.{AreMade, IsLeaned, IsMade, none_ahead}
use Rattle.flat_tree.specs.declared.flat.Slot.{Slot}
use Rattle.flat_tree.specs.declared.flat.Slot.TheVariants.{Next}
use Rattle.flat_tree.specs.declared.flat.Whole.{Whole}
use Rattle.flat_tree.specs.declared.flat.Whole.TheVariants.{Cycle, Repeat, Save}
use Rattle.flat_tree.proofs.AheadLemmas.{run_and_least, overwritten, overwritten_table}

-- what is found true in a list stands in it
found_within : (bs : List Bool) (i : ℕ) → slice_index_or bs i false ≡ true → i < length bs
found_within [] i e = cc
found_within (b ∷ bs) zero e = omega arith
found_within (b ∷ bs) (suc i) e = omega (arith, found_within bs i e)

-- where what an assignment changes makes no difference to a tree, the tree does for another one with it in front
dropped : (made wanted more : Flat) (begin : State → State → State) → IsSameFlat made wanted
    → measure wanted ≡ measure more
    → ((base s : State) → run_and_least wanted base (begin base s) ≡ run_and_least more base s)
    → ((base s : State) → run_and_least made base (begin base s) ≡ run_and_least made base s)
    → IsSameFlat made more
dropped made wanted more begin same size front ahead =
    record {
      runs =
          λ base s. ap (λ (x : Ran State × ℕ). x.0) (sym (ahead base s))
          ∙ (same.runs base (begin base s) ∙ ap (λ (x : Ran State × ℕ). x.0) (front base s));
      measure = same.measure ∙ size;
      least =
          λ base s. ap (λ (x : Ran State × ℕ). x.1) (sym (ahead base s))
          ∙ (same.least base (begin base s) ∙ ap (λ (x : Ran State × ℕ). x.1) (front base s));
    }

pub table_dropped : (signals : ℕ) (a : Ahead) (t : ℕ) (made wanted : Flat) → IsMade signals a made wanted
    → a.table ≡ true → IsMade signals a made (table t wanted)
table_dropped signals a t made wanted m e =
    record {
      same =
          dropped made wanted (table t wanted) (λ base s. record { table = Some t; characters = s.characters }) m.same refl
          (λ base s. refl) (λ base s. overwritten_table (Some t) made base s (sym m.at_table ∙ e));
      lean = m.lean;
      size = m.size;
      at_table = m.at_table;
      at_signal = m.at_signal;
    }

-- a signal that is found ahead is set by what was made
found_set : (signals : ℕ) (a : Ahead) (signal : ℕ) (made wanted : Flat) → IsMade signals a made wanted
    → slice_index_or a.signals signal false ≡ true → sets_signal signal made ≡ true
found_set signals a signal made wanted m e =
    sym (m.at_signal signal (subst (λ (n : ℕ). signal < n) m.size (found_within a.signals signal e))) ∙ e

-- a tree that leaves an assignment away
left_away : (signals : ℕ) (a : Ahead) (signal : ℕ) (made wanted more : Flat) → IsMade signals a made wanted
    → IsSameFlat made more → IsMade signals a made more
left_away signals a signal made wanted more m same =
    record { same = same; lean = m.lean; size = m.size; at_table = m.at_table; at_signal = m.at_signal }

pub character_dropped : (signals : ℕ) (a : Ahead) (signal c : ℕ) (made wanted : Flat) → IsMade signals a made wanted
    → slice_index_or a.signals signal false ≡ true → IsMade signals a made (character signal c wanted)
character_dropped signals a signal c made wanted m e =
    left_away signals a signal made wanted (character signal c wanted) m
    (dropped made wanted (character signal c wanted) (λ base s. with_character signal (Some c) s) m.same refl (λ base s. refl)
    (λ base s. overwritten signal (Some c) made base s (found_set signals a signal made wanted m e)))

pub back_dropped : (signals : ℕ) (a : Ahead) (signal : ℕ) (made wanted : Flat) → IsMade signals a made wanted
    → slice_index_or a.signals signal false ≡ true → IsMade signals a made (back signal wanted)
back_dropped signals a signal made wanted m e =
    left_away signals a signal made wanted (back signal wanted) m
    (dropped made wanted (back signal wanted) (λ base s. with_character signal (slice_index_or base.characters signal None) s)
    m.same refl (λ base s. refl)
    (λ base s. overwritten signal (slice_index_or base.characters signal None) made base s
    (found_set signals a signal made wanted m e)))

-- a tree that begins with a vector, a loop or a save
pub whole_made : (signals : ℕ) (a : Ahead) (made wanted : Flat) → length a.signals ≡ signals → IsSameFlat made wanted
    → IsLean signals made → sets_table made ≡ false → ((signal : ℕ) → sets_signal signal made ≡ false)
    → IsMade signals (none_ahead a) made wanted
whole_made signals a made wanted size same lean no_table no_signal =
    record {
      same = same;
      lean = lean;
      size = length-replicate (length a.signals) false ∙ size;
      at_table = sym no_table;
      at_signal =
          λ signal within. get_or-replicate (length a.signals) signal false false
          (subst (λ (n : ℕ). signal < n) (sym size) within)
          ∙ sym (no_signal signal);
    }

-- ---- slots

-- an assignment stays or goes
pub in_front : (signals : ℕ) (a b : Ahead) (slot : Slot) (kept now slots : List Slot) → AreMade signals a kept slots
    → length b.signals ≡ signals → next_count slot ≡ 0 → wholes_in now ≡ wholes_in kept
    → ((lean was : List Whole) → IsMade signals a (slots_flat kept lean) (slots_flat slots was)
    → IsMade signals b (slots_flat now lean) (slots_flat (slot ∷ slots) was))
    → AreMade signals b now (slot ∷ slots)
in_front signals a b slot kept now slots m size none fits step =
    record {
      size = size;
      fits = omega (arith, fits, m.fits, none);
      made = λ lean was leaned fit. step lean was (m.made lean was leaned (omega (arith, fit, none)));
    }

-- a vector, a loop or a save sets nothing before itself
no_table : (whole : Whole) (rest : Flat) → sets_table (whole_front whole rest) ≡ false
no_table (Cycle mark place) rest = refl
no_table (Repeat count body) rest = refl
no_table (Save putting body) rest = refl

no_signal : (whole : Whole) (rest : Flat) (signal : ℕ) → sets_signal signal (whole_front whole rest) ≡ false
no_signal (Cycle mark place) rest signal = refl
no_signal (Repeat count body) rest signal = refl
no_signal (Save putting body) rest signal = refl

-- the next of the wholes stands in front
next_made : (signals : ℕ) (a : Ahead) (kept slots : List Slot) → AreMade signals a kept slots → (lean was : List Whole)
    → AllZip (IsLeaned signals) lean was → wholes_in (Next ∷ slots) ≡ length was
    → IsMade signals (none_ahead a) (slots_flat (Next ∷ kept) lean) (slots_flat (Next ∷ slots) was)
next_made signals a kept slots m lean [] leaned fit = absurd (omega (arith, fit))
next_made signals a kept slots m [] (was ∷ others) leaned fit = absurd leaned
next_made signals a kept slots m (lean ∷ more) (was ∷ others) leaned fit =
    let rest = m.made more others leaned.1 (omega (arith, fit)) in
    whole_made signals a (whole_front lean (slots_flat kept more)) (whole_front was (slots_flat slots others)) m.size
    (leaned.0.same (slots_flat kept more) (slots_flat slots others) rest.same)
    (leaned.0.stays (slots_flat kept more) rest.lean) (no_table lean (slots_flat kept more))
    (no_signal lean (slots_flat kept more))

-- it stays, whatever it is
pub next_stays : (signals : ℕ) (a : Ahead) (kept slots : List Slot) → AreMade signals a kept slots
    → AreMade signals (none_ahead a) (Next ∷ kept) (Next ∷ slots)
next_stays signals a kept slots m =
    record {
      size = length-replicate (length a.signals) false ∙ m.size;
      fits = omega (arith, m.fits);
      made = next_made signals a kept slots m;
    }
