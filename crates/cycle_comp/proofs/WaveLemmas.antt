-- The waves of a table in which nothing is faulty: each has events that its period holds.
use Rattle.std.proofs.Common.{◌≡◌, ℕ, ℤ, pos, ◌+◌, ◌<◌, ◌≤◌, ◌==◌, ◌&&◌, not, Bool, true, List, [], ◌∷◌, length, map, Option, Some, None, refl, sym, ap, subst, ◌∙◌, arith, inl, inr, if◌then◌else◌}
use Rattle.std.specs.Prelude.{nat_le, int_le, int_lt, nat_abs, reverse}
use Rattle.std.specs.List.{list_any, list_all, AllByRecursion}
use Rattle.std.proofs.lemmas.Bool.{and_parts, and_from, cases_Bool, eqb-true, eq-eqb, leb-true}
use Rattle.std.proofs.lemmas.Option.{none-some}
use Rattle.text_bytes.specs.Bytes.{is_character}
use Rattle.text_bytes.specs.Limits.{most_events}
use Rattle.text_bytes.proofs.ListLemmas.{all_reverse, all_numbered}
use Rattle.stil_ast.specs.Data.BlockForms.{is_wave_decl, is_event, is_signal_waves}
use Rattle.stil_ast.specs.Data.Forms.{is_sig_ref, is_line}
use Rattle.stil_ast.specs.Data.Texts.{upwards}
use Rattle.stil_ast.specs.Faults.Found.{on_line, first_in}
use Rattle.stil_ast.specs.Faults.SignalFaults.{kind_fault}
use Rattle.stil_ast.specs.Faults.TableFaults.{Timed, events_fault, late_event, late_waveform, signal_fault, is_waveform, stands, line_of}
use Rattle.stil_ast.specs.Meaning.Members.{members, reference_kind}
use Rattle.stil_ast.specs.Meaning.Tables.{Waveform, unnumbered, numbered, own_waveforms, defines, waveform_of, event_of, events_of, wave_with, waves_of, every_character}
use Rattle.stil_ast.specs.Meaning.Times.{time_at}
use Rattle.stil_ast.specs.declared.timing.EventDecl.{EventDecl}
use Rattle.stil_ast.specs.declared.timing.WaveDecl.{WaveDecl}
use Rattle.stil_ast.specs.declared.timing.SignalWaves.{SignalWaves}
use Rattle.stil_ast.specs.declared.timing.TableDecl.{TableDecl}
use Rattle.stil_ast.proofs.FoundLemmas.{or_else-none}
use Rattle.tester_types.specs.declared.wave.Wave.{Wave}
use Rattle.packed_code.specs.Conditions.{EachBehind, IsEvent}
use Rattle.packed_code.proofs.Lists.{all_passing}
use Rattle.cycle_comp.proofs.EachLemmas.{all_map, all_flat_map, all_filter_map, all_both}
use Rattle.burst_exec.proofs.WaveLemmas.{passed}
use Rattle.cycle_comp.proofs.EventLemmas.{timed, events_each}
use Rattle.cycle_comp.proofs.FoundLemmas.{first_all, found_all, any_at, all_below, fewer}

-- a wave of so many signals whose events a period holds
pub record IsGoodWave (signals period : ℕ) (w : Wave) : Type 0 where
  pub signal : w.signal < signals
  pub character : is_character w.character ≡ true
  pub few : length w.events ≤ 16
  pub events : EachBehind (IsEvent period) [] w.events

-- all waveform characters are such
all_characters : AllByRecursion (λ (c : ℕ). is_character c ≡ true) every_character
unfolding is_character
all_characters = all_passing is_character every_character refl

module _ {V : Type 0} (t : Timed V) where
  -- a waveform of a table with this period
  pub record IsOwn (table : ℕ) (period : ℤ) (w : Waveform) : Type 0 where
    pub table_is : w.table ≡ table
    pub fine : events_fault t period (pos 0) w.events ≡ None
    pub few : length w.events ≤ 16

  -- events below a period are not late under it
  not_late : (period before : ℤ) (es : List EventDecl) → events_fault t period before es ≡ None
      → first_in (late_event t period) es ≡ None
  not_late period before [] fine = refl
  not_late period before (e ∷ es) fine =
      let at = timed (time_at t.times t.vars t.place e.time) _ fine in
      let z : ℤ = at.0 in
      let inside = passed (int_le (pos 0) z && int_lt z period) _ _ at.2 in
      let rises = passed (int_le before z) _ _ inside.1 in
      let below : int_lt z period ≡ true = (and_parts (int_le (pos 0) z) (int_lt z period) inside.0).1 in
      rw at.1 (rw below (not_late period z es rises.1))

  -- the waveforms of one reference
  of_reference : (table : ℕ) (period : ℤ) (s : SignalWaves) → signal_fault t period s ≡ None
      → is_signal_waves s ≡ true
      → AllByRecursion (IsOwn table period) (map (λ (w : WaveDecl). record {
        table = table;
        number = 0;
        signals = members t.names s.reference;
        characters = w.characters;
        events = w.events;
      }) s.waves)
  of_reference table period s fine form =
      let own = first_all (λ (w : WaveDecl). events_fault t period (pos 0) w.events) s.waves
      (or_else-none (kind_fault (on_line t.place (line_of s.reference s.line)) (reference_kind t.names s.reference))
      (first_in (λ (w : WaveDecl). events_fault t period (pos 0) w.events) s.waves) fine).1 in
      let forms = all_passing is_wave_decl s.waves
      (and_parts (is_sig_ref s.reference) (list_all is_wave_decl s.waves)
      (and_parts (is_sig_ref s.reference && list_all is_wave_decl s.waves) (is_line s.line) form).0).1 in
      all_map _
      (λ (w : WaveDecl). (events_fault t period (pos 0) w.events ≡ None) × (is_wave_decl w ≡ true))
      (IsOwn table period)
      (λ w is. record { table_is = refl; fine = is.0; few = few_events w is.1 })
      s.waves (all_both _ _ s.waves own forms)
    where
      few_events : (w : WaveDecl) → is_wave_decl w ≡ true → length w.events ≤ 16
      few_events w form =
          leb-true (length w.events) most_events
          (and_parts _ (nat_le (length w.events) most_events)
          (and_parts _ (list_all (is_event (length w.characters)) w.events) form).0).1

  -- the own waveforms of a table
  pub own_are : (table : ℕ) (period : ℤ) (d : TableDecl) → first_in (signal_fault t period) d.waveforms ≡ None
      → list_all is_signal_waves d.waveforms ≡ true
      → AllByRecursion (IsOwn table period) (own_waveforms t.names table d)
  own_are table period d fine form =
      all_map numbered (λ (p : ℕ × Waveform). IsOwn table period p.1) (IsOwn table period)
      (λ p is. record { table_is = is.table_is; fine = is.fine; few = is.few })
      _
      (all_numbered (IsOwn table period) 0 (unnumbered t.names table d)
      (all_flat_map _ (λ (s : SignalWaves). (signal_fault t period s ≡ None) × (is_signal_waves s ≡ true))
      (IsOwn table period)
      (λ s is. of_reference table period s is.0 is.1) d.waveforms
      (all_both _ _ d.waveforms (first_all (signal_fault t period) d.waveforms fine)
      (all_passing is_signal_waves d.waveforms form))))

  -- a waveform that a table of this number and period may have
  pub record IsJudged (table : ℕ) (period : ℤ) (all : List Waveform) (w : Waveform) : Type 0 where
    pub own : ℤ
    pub fine : events_fault t own (pos 0) w.events ≡ None
    pub few : length w.events ≤ 16
    pub late : late_waveform t period table all w ≡ None
    pub heir : w.table ≡ table → own ≡ period

  module _ (table : ℕ) (period : ℤ) (all : List Waveform) where
    -- what stands for a signal and a character is not late
    in_time : (w : Waveform) (s c : ℕ) → IsJudged table period all w → waveform_of all s c ≡ Some w
        → defines s c w ≡ true → first_in (late_event t period) w.events ≡ None
    in_time w s c is found here =
        elim (cases_Bool (w.table == table)) [
          | inl own ↦
              not_late period (pos 0) w.events
              (subst (λ (z : ℤ). events_fault t z (pos 0) w.events ≡ None) (is.heir (eqb-true w.table table own)) is.fine)
          | inr other ↦
              let parts = and_parts (list_any (λ x. x == s) w.signals) (list_any (λ x. x == c) w.characters) here in
              let itself : is_waveform w (waveform_of all s c) ≡ true =
              ap (is_waveform w) found ∙ and_from (w.table == w.table) (w.number == w.number) (eq-eqb w.table w.table refl) (eq-eqb w.number w.number refl) in
              let standing : stands all w ≡ true =
              any_at (λ signal. list_any (λ character. is_waveform w (waveform_of all signal character)) w.characters) s w.signals parts.0
              (any_at (λ character. is_waveform w (waveform_of all s character)) c w.characters parts.1 itself) in
              let both : (not (w.table == table) && stands all w) ≡ true =
              and_from (not (w.table == table)) (stands all w) (ap not other) standing in
              ap (λ (b : Bool). first_in (late_event t period) (if b then w.events else [])) (sym both) ∙ is.late
        ]

    -- the wave of a signal and a character
    one_wave : (signals s c : ℕ) (o : Option Waveform) (wave : Wave) → AllByRecursion (IsJudged table period all) all
        → s < signals → is_character c ≡ true → waveform_of all s c ≡ o
        → wave_with t.times t.vars t.place s c o ≡ Some wave → IsGoodWave signals (nat_abs period) wave
    one_wave signals s c None wave judged low character found is = absurd (none-some wave is)
    one_wave signals s c (Some w) wave judged low character found is =
        let made : Wave = record { signal = s; character = c; events = events_of t.times t.vars t.place c w } in
        let same : made ≡ wave = cc in
        let here = found_all (IsJudged table period all) (defines s c) (reverse all) w
        (all_reverse (IsJudged table period all) all judged) found in
        let timely = in_time w s c here.0 found here.1 in
        subst (IsGoodWave signals (nat_abs period)) same (record {
          signal = low;
          character = character;
          few = omega (arith, here.0.few, fewer (event_of t.times t.vars t.place w.characters c) w.events);
          events =
              events_each t w.characters c period here.0.own (pos 0) w.events [] here.0.fine timely refl (omega arith);
        })

    -- all waves of a table
    pub waves_are : (signals : ℕ) → AllByRecursion (IsJudged table period all) all
        → AllByRecursion (IsGoodWave signals (nat_abs period)) (waves_of t.times t.vars t.place all signals)
    waves_are signals judged =
        all_flat_map _ (λ (s : ℕ). s < signals) (IsGoodWave signals (nat_abs period))
        (λ s low. all_filter_map _ (λ (c : ℕ). is_character c ≡ true) (IsGoodWave signals (nat_abs period))
        (λ c wave character is. one_wave signals s c (waveform_of all s c) wave judged low character refl is)
        every_character all_characters)
        (upwards 0 signals) (below signals)
      where
        below : (n : ℕ) → AllByRecursion (λ (s : ℕ). s < n) (upwards 0 n)
        below n = let same : 0 + n ≡ n = omega arith in
            subst (λ (m : ℕ). AllByRecursion (λ (s : ℕ). s < m) (upwards 0 n)) same (all_below 0 n)
