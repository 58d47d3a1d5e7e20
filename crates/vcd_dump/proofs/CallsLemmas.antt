-- The calls so far and those from an executive on are all calls of a try.
use Rattle.std.proofs.Common.{◌≡◌, ℕ, ◌+◌, ◌<◌, ◌≤◌, Bool, true, false, cond, List, [], ◌∷◌, ◌++◌, length, take, drop, map, Option, refl, sym, ap, ◌∙◌, arith, append_assoc, append-nil}
use Rattle.std.specs.List.{range_with_len}
use Rattle.std.proofs.lemmas.List.{drop_all}
use Rattle.std.proofs.lemmas.List.FromFn.{length-map-range_with_len, get_or-map-range_with_len}
use Rattle.text_bytes.proofs.ListLemmas.{drop-item}
use Rattle.tester_types.specs.declared.cycle.Cycle.{Cycle}
use Rattle.packed_code.specs.Program.{Program}
use Rattle.packed_code.specs.Cycles.{cycles_of}
use Rattle.die_sim.specs.Socket.{Calls}
use Rattle.site_meaning.specs.Playing.{Stand, Going}
use Rattle.site_meaning.specs.Trials.{execs_of, after_cycles}
use Rattle.cycle_run.specs.Batch.{calls_of_cycles}
use Rattle.vcd_dump.specs.Play.{allowed, order_behind, goes_on, calls_from}

-- the executives from one on
pub execs_left : (code : Program) (exec : ℕ) → exec < length code.execs
    → drop exec (execs_of code) ≡ cycles_of code exec ∷ drop (exec + 1) (execs_of code)
unfolding execs_of
execs_left code exec within =
    let all = map (cycles_of code) (range_with_len 0 (length code.execs)) in
    let here : exec < length all = omega (arith, within, length-map-range_with_len (cycles_of code) 0 (length code.execs)) in
    drop-item all exec (cycles_of code exec) here (sym (get_or-map-range_with_len (cycles_of code) 0 (length code.execs) exec exec (cycles_of code exec) within (omega arith)))

-- none is left behind the last
pub execs_none : (code : Program) (exec : ℕ) → length code.execs ≤ exec → drop exec (execs_of code) ≡ []
unfolding execs_of
execs_none code exec past =
    drop_all exec (map (cycles_of code) (range_with_len 0 (length code.execs)))
    (omega (arith, past, length-map-range_with_len (cycles_of code) 0 (length code.execs)))

module _ (stand : Stand) (most exec : ℕ) (going : Going) (order : Option ℕ) (xs : List Cycle) (later : List (List Cycle))
    (old new base : Calls) where
  -- the calls of this executive
  abbrev pub here : Calls
  here = calls_of_cycles stand going (take (allowed most order (length xs)) xs)

  abbrev pub behind : Bool → Calls
  behind b = cond b (calls_from stand most (exec + 1) (after_cycles stand going xs) (order_behind most order (length xs)) later) []

  from_here : (b : Bool) → goes_on stand most exec going order xs ≡ b → calls_from stand most exec going order (xs ∷ later) ≡ here ++ behind b
  unfolding calls_from
  from_here b is = ap (λ c. here ++ behind c) is

  -- the try ends behind it
  pub ends_all : old ++ calls_from stand most exec going order (xs ∷ later) ≡ base → new ≡ old ++ here
      → goes_on stand most exec going order xs ≡ false → new ≡ base
  ends_all all is stop = is ∙ ap (λ c. old ++ c) (sym (append-nil here) ∙ sym (from_here false stop)) ∙ all

  -- or goes on
  pub goes_all : old ++ calls_from stand most exec going order (xs ∷ later) ≡ base → new ≡ old ++ here
      → goes_on stand most exec going order xs ≡ true
      → new ++ calls_from stand most (exec + 1) (after_cycles stand going xs) (order_behind most order (length xs)) later ≡ base
  goes_all all is on =
      ap (λ c. c ++ behind true) is ∙ append_assoc old here (behind true) ∙ ap (λ c. old ++ c) (sym (from_here true on)) ∙ all

  -- or has too many drives
  pub over_all : (rest : Calls) → old ++ calls_from stand most exec going order (xs ∷ later) ≡ base → new ++ rest ≡ old ++ here
      → new ++ (rest ++ behind (goes_on stand most exec going order xs)) ≡ base
  over_all rest all is =
      let tail = behind (goes_on stand most exec going order xs) in
      sym (append_assoc new rest tail) ∙ ap (λ c. c ++ tail) is ∙ append_assoc old here tail
      ∙ ap (λ c. old ++ c) (sym (from_here (goes_on stand most exec going order xs) refl)) ∙ all

-- behind the last executive nothing is left
pub done_all : (stand : Stand) (most exec : ℕ) (going : Going) (order : Option ℕ) (execs : List (List Cycle)) (old base : Calls)
    → execs ≡ [] → old ++ calls_from stand most exec going order execs ≡ base → old ≡ base
unfolding calls_from
done_all stand most exec going order [] old base none all = sym (append-nil old) ∙ all
done_all stand most exec going order (xs ∷ execs) old base none all = absurd cc

-- what was all before one executive, by its cycles
pub all_at : (stand : Stand) (most exec : ℕ) (going : Going) (order : Option ℕ) (code : Program) (old base : Calls) → exec < length code.execs
    → old ++ calls_from stand most exec going order (drop exec (execs_of code)) ≡ base
    → old ++ calls_from stand most exec going order (cycles_of code exec ∷ drop (exec + 1) (execs_of code)) ≡ base
all_at stand most exec going order code old base within all =
    ap (λ (l : List (List Cycle)). old ++ calls_from stand most exec going order l) (sym (execs_left code exec within)) ∙ all
