-- Moments that are held stay those of their numbers.
use Rattle.std.proofs.Common.{◌≡◌, ℕ, ℤ, Bool, true, false, cond, List, [], ◌∷◌, Option, None, Some, IfSome, Bor, refl, sym, ap, ◌∙◌}
use Rattle.std.specs.Option.{option_copied}
use Rattle.std.specs.Map.{lookup}
use Rattle.indexmap.specs.IndexMap.{insert_entry}
use Rattle.tester_types.specs.declared.cycle.Moment.{Moment}
use Rattle.packed_code.specs.Program.{Program}
use Rattle.edge_gen.specs.Held.{is_pair}
use Rattle.edge_gen.proofs.HeldLemmas.{same_pair}
use Rattle.cycle_run.specs.Step.{schedule_of}
use Rattle.cycle_run.specs.Lent.{HoldsMoments}

-- what is found for a pair is its schedule
pub found_held : (code : Program) (skews : List ℤ) (held : List ((ℕ × ℕ) × List Moment)) (pair : ℕ × ℕ)
    → HoldsMoments code skews held
    → IfSome (lookup (is_pair pair) held) (λ found. found ≡ schedule_of code skews pair)
found_held code skews [] pair all = tt
found_held code skews (e ∷ held) pair all = by (is_pair pair e.0) refl (found_held code skews held pair all.1)
  where
    by : (b : Bool) → is_pair pair e.0 ≡ b
        → IfSome (lookup (is_pair pair) held) (λ found. found ≡ schedule_of code skews pair)
        → IfSome (cond b (Some e.1) (lookup (is_pair pair) held)) (λ found. found ≡ schedule_of code skews pair)
    by true same later = all.0 ∙ ap (schedule_of code skews) (same_pair pair e.0 same)
    by false other later = later

-- and so it is once moments are put in
pub put_held : (code : Program) (skews : List ℤ) (held : List ((ℕ × ℕ) × List Moment)) (pair : ℕ × ℕ) (moments : List Moment)
    → moments ≡ schedule_of code skews pair → HoldsMoments code skews held
    → HoldsMoments code skews (insert_entry is_pair held pair moments)
put_held code skews [] pair moments is all = (is, tt)
put_held code skews (e ∷ held) pair moments is all =
    by (is_pair pair e.0) refl (put_held code skews held pair moments is all.1)
  where
    by : (b : Bool) → is_pair pair e.0 ≡ b → HoldsMoments code skews (insert_entry is_pair held pair moments)
        → HoldsMoments code skews (cond b ((e.0, moments) ∷ held) (e ∷ insert_entry is_pair held pair moments))
    by true same later = (is ∙ ap (schedule_of code skews) (sym (same_pair pair e.0 same)), all.1)
    by false other later = (all.0, later)

-- what is lent is what is found
pub lent_found : (lent : Option (Bor (List Moment))) (is : List Moment → Type 0) → IfSome (option_copied lent) is
    → IfSome lent (λ moments. is moments.now)
lent_found None is found = tt
lent_found (Some moments) is found = found
