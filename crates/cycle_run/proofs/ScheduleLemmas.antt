-- Schedules that are held stay those of their numbers.
use Rattle.std.proofs.Common.{◌≡◌, ℕ, ℤ, zero, suc, ◌-◌, Bool, true, false, cond, List, [], ◌∷◌, take, map, Option, Some, IfSome, refl, sym, ap, ◌∙◌, subst}
use Rattle.std.specs.Prelude.{slice_get}
use Rattle.std.specs.List.{AllByRecursion}
use Rattle.std.specs.Map.{lookup, remove_entry}
use Rattle.std.specs.Option.{option_map_or}
use Rattle.std.proofs.lemmas.Option.{get_or_from_slice_get}
use Rattle.tester_types.specs.declared.wave.Table.{Table}
use Rattle.tester_types.specs.declared.cycle.Cycle.{Cycle}
use Rattle.tester_types.specs.declared.cycle.Moment.{Moment}
use Rattle.packed_code.specs.Program.{Program}
use Rattle.packed_code.specs.Conditions.{characters_of}
use Rattle.edge_gen.specs.Moments.{moments_of, later}
use Rattle.edge_gen.specs.Held.{Held, is_pair, is_held, HoldsOnly, asked}
use Rattle.edge_gen.proofs.MomentLemmas.{moments_of-later}
use Rattle.die_sim.specs.Die.{Device}
use Rattle.site_meaning.specs.Playing.{moments_in}
use Rattle.cycle_run.specs.Cycle.{stand_of}
use Rattle.cycle_run.specs.Step.{schedule_of, HoldsSchedules}
use Rattle.edge_gen.proofs.HeldLemmas.{same_pair}

-- the schedule of numbers that are found
pub schedule_is : (code : Program) (skews : List ℤ) (number place : ℕ) (table : Table) (row : List ℕ)
    → slice_get code.tables number ≡ Some table → slice_get code.rows place ≡ Some row
    → schedule_of code skews (number, place) ≡ moments_of table row skews 0
schedule_is code skews number place table row table_is row_is =
    ap (λ (t : Option Table). option_map_or (λ u. moments_of u (characters_of code.rows place) skews 0) t []) table_is
    ∙ ap (λ (l : List ℕ). moments_of table l skews 0) (get_or_from_slice_get code.rows place row [] row_is)

-- its moments, as much later as a cycle starts, are those of the cycle
pub moments_are : (code : Program) (skews : List ℤ) (device : Device) (start : ℕ) (cycle : Cycle) (table : Table) (row : List ℕ)
    (moments : List Moment)
    → slice_get code.tables cycle.table ≡ Some table → slice_get code.rows cycle.row ≡ Some row
    → moments ≡ moments_of table row skews 0
    → map (later start) moments ≡ moments_in (stand_of code skews device) start cycle
unfolding moments_in
moments_are code skews device start cycle table row moments table_is row_is are =
    ap (map (later start)) are
    ∙ sym (moments_of-later table row skews start)
    ∙ ap (λ (l : List ℕ). moments_of table l skews start) (sym (get_or_from_slice_get code.rows cycle.row row [] row_is))
    ∙ ap (λ (t : Option Table). option_map_or (λ u. moments_of u (characters_of code.rows cycle.row) skews start) t []) (sym table_is)

-- ---- what is held

module _ (code : Program) (skews : List ℤ) where
  -- an entry is that of its numbers
  abbrev IsRight : (ℕ × ℕ) × List Moment → Type 0
  IsRight entry = entry.1 ≡ schedule_of code skews entry.0

  found_right : (pair : ℕ × ℕ) (entries : List ((ℕ × ℕ) × List Moment)) → AllByRecursion IsRight entries
      → IfSome (lookup (is_pair pair) entries) (λ found. found ≡ schedule_of code skews pair)
  found_right pair [] all = tt
  found_right pair (e ∷ es) all = by (is_pair pair e.0) refl (found_right pair es all.1)
    where
      by : (b : Bool) → is_pair pair e.0 ≡ b → IfSome (lookup (is_pair pair) es) (λ found. found ≡ schedule_of code skews pair)
          → IfSome (cond b (Some e.1) (lookup (is_pair pair) es)) (λ found. found ≡ schedule_of code skews pair)
      by true is rest = all.0 ∙ ap (schedule_of code skews) (same_pair pair e.0 is)
      by false is rest = rest

  front_right : (n : ℕ) (entries : List ((ℕ × ℕ) × List Moment)) → AllByRecursion IsRight entries → AllByRecursion IsRight (take n entries)
  front_right zero entries all = tt
  front_right (suc n) [] all = tt
  front_right (suc n) (e ∷ es) all = (all.0, front_right n es all.1)

  rest_right : (pair : ℕ × ℕ) (entries : List ((ℕ × ℕ) × List Moment)) → AllByRecursion IsRight entries
      → AllByRecursion IsRight (remove_entry (is_pair pair) entries)
  rest_right pair [] all = tt
  rest_right pair (e ∷ es) all = by (is_pair pair e.0) (rest_right pair es all.1)
    where
      by : (b : Bool) → AllByRecursion IsRight (remove_entry (is_pair pair) es)
          → AllByRecursion IsRight (cond b es (e ∷ remove_entry (is_pair pair) es))
      by true rest = all.1
      by false rest = (all.0, rest)

  -- what is held for numbers, if anything, is their schedule
  pub holds_only : (held : Held) (pair : ℕ × ℕ) (moments : List Moment) → HoldsSchedules code skews held
      → schedule_of code skews pair ≡ moments → HoldsOnly held pair moments
  holds_only held pair moments all is =
      subst (λ (m : List Moment). HoldsOnly held pair m) is (found_right pair held.entries all)

  -- and so it is once they were asked for
  pub holds_asked : (held : Held) (pair : ℕ × ℕ) (moments : List Moment) → HoldsSchedules code skews held
      → schedule_of code skews pair ≡ moments → HoldsSchedules code skews (asked held pair moments)
  holds_asked held pair moments all is = (sym is, by (is_held pair held))
    where
      by : (b : Bool) → AllByRecursion IsRight (cond b (remove_entry (is_pair pair) held.entries) (take (held.cap - 1) held.entries))
      by true = rest_right pair held.entries all
      by false = front_right (held.cap - 1) held.entries all
