-- The tables of a flat text have no fault.
use Rattle.std.proofs.Common.{◌≡◌, ℕ, ℤ, pos, ◌<◌, ◌≤◌, Bool, true, ◌&&◌, List, [], ◌∷◌, ◌++◌, length, Option, None, Result, refl, sym, ap, ◌∙◌, arith}
use Rattle.std.specs.Prelude.{int_le, int_lt}
use Rattle.std.specs.List.{AllZip}
use Rattle.std.specs.Option.{option_map_or}
use Rattle.std.proofs.lemmas.Bool.{le-leb, lt-ltb, and_from}
use Rattle.text_bytes.specs.Limits.{longest_period}
use Rattle.tester_types.specs.declared.wave.Event.{Event}
use Rattle.tester_types.specs.declared.wave.Wave.{Wave}
use Rattle.packed_code.specs.Program.{Program}
use Rattle.packed_code.specs.Conditions.{EachBehind, latest, IsEvent, IsWave, IsProgram}
use Rattle.packed_code.proofs.Lists.{last_of_push}
use Rattle.stil_ast.specs.Data.Places.{Place}
use Rattle.stil_ast.specs.Meaning.Signals.{Names}
use Rattle.stil_ast.specs.Meaning.Members.{reference_kind}
use Rattle.stil_ast.specs.Meaning.Times.{Met, time_at}
use Rattle.stil_ast.specs.Faults.Found.{fault_at, on_line, unless, first_in}
use Rattle.stil_ast.specs.Faults.SignalFaults.{kind_fault}
use Rattle.stil_ast.specs.Faults.TableFaults.{Timed, with_time, events_fault, line_of, signal_fault}
use Rattle.stil_ast.specs.declared.name.Quoted.{Quoted}
use Rattle.stil_ast.specs.declared.name.SigRef.{SigRef}
use Rattle.stil_ast.specs.declared.timing.EventDecl.{EventDecl}
use Rattle.stil_ast.specs.declared.timing.WaveDecl.{WaveDecl}
use Rattle.stil_ast.specs.declared.timing.SignalWaves.{SignalWaves}
use Rattle.stil_ast.specs.declared.timing.TableDecl.{TableDecl}
use Rattle.stil_ast.specs.declared.fault.StilFault.{StilFault}
use Rattle.stil_ast.specs.declared.fault.StilKind.TheVariants.{EventOutside, EventOrder}
use Rattle.stil_ast.proofs.FoundLemmas.{none_both}
use Rattle.expr_text.specs.Ratio.{Ratio}
use Rattle.time_expr.specs.TimesOf.{times_of}
use Rattle.flat_parts.specs.FlatBlocks.{time_text, IsEventDecl, IsSignalWaves}
use Rattle.flat_fine.proofs.TimeLemmas.{time_is}
use Rattle.flat_fine.proofs.SignalLemmas.{AreNames, reference_known}

-- what tables are judged with
abbrev pub timed : (List ℕ → Result Ratio Met) → Names → Place → List TableDecl → Timed Ratio
timed vars names place tables = record { times = times_of; vars = vars; names = names; place = place; tables = tables }

-- what is behind tests that pass
two_pass : (first second : Bool) (a b : StilFault) (rest : Option StilFault) → first ≡ true → second ≡ true → rest ≡ None
    → unless first a (unless second b rest) ≡ None
two_pass first second a b rest h1 h2 h3 = rw (h1, h2) h3

module _ (vars : List ℕ → Result Ratio Met) (names : Names) (place : Place) (tables : List TableDecl) where
  abbrev t : Timed Ratio
  t = timed vars names place tables

  -- an event
  event_step : (d : EventDecl) (events : List EventDecl) (n before period line : ℕ) → d.time ≡ record { text = time_text n; line = line }
      → period ≤ longest_period → n < period → before ≤ n → events_fault t (pos period) (pos n) events ≡ None
      → events_fault t (pos period) (pos before) (d ∷ events) ≡ None
  event_step d events n before period line is few inside order behind =
      let rest = λ (time : ℤ). unless (int_le (pos 0) time && int_lt time (pos period)) (fault_at (on_line place d.time.line) EventOutside)
      (unless (int_le (pos before) time) (fault_at (on_line place d.time.line) EventOrder)
      (events_fault t (pos period) time events)) in
      ap (λ (q : Quoted). with_time (time_at times_of vars place q) rest) is
      ∙ ap (λ (r : Result ℤ StilFault). with_time r rest) (time_is n (omega (arith, few, inside)) vars place line)
      ∙ two_pass (int_le (pos 0) (pos n) && int_lt (pos n) (pos period)) (int_le (pos before) (pos n))
      (fault_at (on_line place d.time.line) EventOutside) (fault_at (on_line place d.time.line) EventOrder)
      (events_fault t (pos period) (pos n) events)
      (and_from (int_le (pos 0) (pos n)) (int_lt (pos n) (pos period)) (le-leb 0 n (omega arith)) (lt-ltb n period inside))
      (le-leb before n order) behind

  -- events behind others
  events_fine : (period : ℕ) (before events : List Event) (declarations : List EventDecl) → period ≤ longest_period
      → EachBehind (IsEvent period) before events → AllZip IsEventDecl events declarations
      → events_fault t (pos period) (pos (latest before)) declarations ≡ None
  events_fine period before [] [] few each all = refl
  events_fine period before [] (d ∷ declarations) few each all = absurd all
  events_fine period before (event ∷ events) [] few each all = absurd all
  events_fine period before (event ∷ events) (d ∷ declarations) few each all =
      let last : latest (before ++ event ∷ []) ≡ event.time =
      ap (λ (o : Option Event). option_map_or (λ (x : Event). x.time) o 0) (last_of_push before event) in
      event_step d declarations event.time (latest before) period d.time.line
      (ap (λ (x : EventDecl). x.time) all.0) few each.0.inside each.0.order
      (ap (λ (n : ℕ). events_fault t (pos period) (pos n) declarations) (sym last)
      ∙ events_fine period (before ++ event ∷ []) events declarations few each.1 all.1)

  module _ (code : Program) (program : IsProgram code) (are : AreNames code names) where
    -- a wave
    signal_fine : (period most : ℕ) (before : List Wave) (wave : Wave) (d : SignalWaves) → period ≤ longest_period
        → IsWave (length code.signals) period most before wave → IsSignalWaves code wave d → signal_fault t (pos period) d ≡ None
    signal_fine period most before wave d few fits is =
        none_both (kind_fault (on_line place (line_of d.reference d.line)) (reference_kind names d.reference))
        (first_in (λ (w : WaveDecl). events_fault t (pos period) (pos 0) w.events) d.waves)
        (ap (λ (r : SigRef). kind_fault (on_line place (line_of d.reference d.line)) (reference_kind names r)) is.reference
        ∙ ap (kind_fault (on_line place (line_of d.reference d.line))) (reference_known code names wave.signal program are fits.signal))
        (ap (first_in (λ (w : WaveDecl). events_fault t (pos period) (pos 0) w.events)) is.waves
        ∙ none_both (events_fault t (pos period) (pos 0) is.events) None
        (events_fine period [] wave.events is.events few fits.events is.each) refl)

    -- all waves of a table
    pub waves_fine : (period most : ℕ) (before waves : List Wave) (declarations : List SignalWaves) → period ≤ longest_period
        → EachBehind (IsWave (length code.signals) period most) before waves → AllZip (IsSignalWaves code) waves declarations
        → first_in (signal_fault t (pos period)) declarations ≡ None
    waves_fine period most before [] [] few each all = refl
    waves_fine period most before [] (d ∷ declarations) few each all = absurd all
    waves_fine period most before (wave ∷ waves) [] few each all = absurd all
    waves_fine period most before (wave ∷ waves) (d ∷ declarations) few each all =
        none_both (signal_fault t (pos period) d) (first_in (signal_fault t (pos period)) declarations)
        (signal_fine period most before wave d few each.0 all.0)
        (waves_fine period most (before ++ wave ∷ []) waves declarations few each.1 all.1)
