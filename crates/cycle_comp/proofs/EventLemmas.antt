-- The events of a waveform in a table without a fault: their times don't fall and are below the period.
use Rattle.std.proofs.Common.{◌≡◌, ℕ, ℤ, pos, negsuc, ◌≤◌, ◌<◌, ◌&&◌, true, List, [], ◌∷◌, ◌++◌, Option, Some, None, Result, Ok, Err, refl, sym, ap, ◌∙◌, arith}
use Rattle.std.specs.Prelude.{int_le, int_lt, nat_abs}
use Rattle.std.specs.List.{filter_map, cons_option}
use Rattle.std.specs.Option.{option_map_or}
use Rattle.std.proofs.lemmas.Bool.{and_parts, leb-true, ltb-true}
use Rattle.std.proofs.lemmas.Option.{none-some}
use Rattle.stil_ast.specs.Data.Places.{Place}
use Rattle.stil_ast.specs.Faults.Found.{on_line, fault_at, first_in}
use Rattle.stil_ast.specs.Faults.TableFaults.{Timed, with_time, events_fault, late_at, late_event}
use Rattle.stil_ast.specs.Meaning.Tables.{act_of, timed_act, event_of}
use Rattle.stil_ast.specs.Meaning.Times.{time_at}
use Rattle.stil_ast.specs.declared.fault.StilFault.{StilFault}
use Rattle.stil_ast.specs.declared.fault.StilKind.TheVariants.{EventOutside}
use Rattle.stil_ast.specs.declared.timing.EventDecl.{EventDecl}
use Rattle.stil_ast.proofs.FoundLemmas.{or_else-none}
use Rattle.tester_types.specs.declared.wave.Act.{Act}
use Rattle.tester_types.specs.declared.wave.Event.{Event}
use Rattle.packed_code.specs.Conditions.{EachBehind, IsEvent, latest}
use Rattle.packed_code.proofs.Lists.{last_of_push}
use Rattle.burst_exec.proofs.WaveLemmas.{passed}

-- what is judged by a time is judged by one that is there
pub timed : (r : Result ℤ StilFault) (rest : ℤ → Option StilFault) → with_time r rest ≡ None
    → (z : ℤ) × (r ≡ Ok z) × (rest z ≡ None)
timed (Ok z) rest h = (z, refl, h)
timed (Err f) rest h = absurd (none-some f (sym h))

-- no event is late
late_none : (p : Place) (period : ℤ) (r : Result ℤ StilFault) (z : ℤ) → r ≡ Ok z → late_at p period r ≡ None
    → int_lt z period ≡ true
late_none p period r z is h =
    (passed (int_lt z period) (fault_at p EventOutside) None (ap (late_at p period) (sym is) ∙ h)).0

-- numbers from 0 up, as integers and without a sign
abs_le : (a b : ℤ) → int_le (pos 0) a ≡ true → int_le a b ≡ true → nat_abs a ≤ nat_abs b
abs_le (pos a) (pos b) p h = leb-true a b h
abs_le (pos a) (negsuc b) p h = absurd cc
abs_le (negsuc a) b p h = absurd cc

abs_lt : (a b : ℤ) → int_le (pos 0) a ≡ true → int_lt a b ≡ true → nat_abs a < nat_abs b
abs_lt (pos a) (pos b) p h = ltb-true a b h
abs_lt (pos a) (negsuc b) p h = absurd cc
abs_lt (negsuc a) b p h = absurd cc

module _ {V : Type 0} (t : Timed V) (characters : List ℕ) (character : ℕ) (period : ℤ) where
  -- the event for the character
  abbrev here : EventDecl → Option Event
  here e = event_of t.times t.vars t.place characters character e

  -- one event, if it is there for the character
  put : (r : Result ℤ StilFault) (z : ℤ) (act : Option Act) (acc rest : List Event) → r ≡ Ok z
      → int_le (pos 0) z ≡ true → int_lt z period ≡ true → latest acc ≤ nat_abs z
      → ((more : List Event) → latest more ≤ nat_abs z → EachBehind (IsEvent (nat_abs period)) more rest)
      → EachBehind (IsEvent (nat_abs period)) acc (cons_option (timed_act r act) rest)
  put (Err f) z act acc rest is low high before go = absurd cc
  put (Ok y) z None acc rest is low high before go = go acc before
  put (Ok y) z (Some act) acc rest is low high before go =
      let same : y ≡ z = cc in
      let ev : Event = record { time = nat_abs y; act = act } in
      let last : latest (acc ++ ev ∷ []) ≡ nat_abs y =
      ap (λ (o : Option Event). option_map_or (λ (e : Event). e.time) o 0) (last_of_push acc ev) in
      let here : nat_abs y ≡ nat_abs z = ap nat_abs same in (
        record { order = omega (arith, before, here); inside = omega (arith, here, abs_lt z period low high) },
        go (acc ++ ev ∷ []) (omega (arith, last, here)),
      )

  -- events that are in order, from 0 on, and not late
  pub events_each : (own before : ℤ) (es : List EventDecl) (acc : List Event)
      → events_fault t own before es ≡ None → first_in (late_event t period) es ≡ None
      → int_le (pos 0) before ≡ true → latest acc ≤ nat_abs before
      → EachBehind (IsEvent (nat_abs period)) acc (filter_map here es)
  events_each own before [] acc fine late low last = tt
  events_each own before (e ∷ es) acc fine late low last =
      let at = timed (time_at t.times t.vars t.place e.time) _ fine in
      let z : ℤ = at.0 in
      let inside = passed (int_le (pos 0) z && int_lt z own) _ _ at.2 in
      let rises = passed (int_le before z) _ _ inside.1 in
      let from : int_le (pos 0) z ≡ true = (and_parts (int_le (pos 0) z) (int_lt z own) inside.0).0 in
      let lates = or_else-none (late_event t period e) (first_in (late_event t period) es) late in
      let below : int_lt z period ≡ true = late_none (on_line t.place e.time.line) period _ z at.1 lates.0 in
      let up : nat_abs before ≤ nat_abs z = abs_le before z low rises.0 in
      put (time_at t.times t.vars t.place e.time) z (act_of characters character e.acts) acc (filter_map here es) at.1 from below
      (omega (arith, last, up))
      (λ more is. events_each own z es more rises.1 lates.1 from is)
