-- The tables that the language makes of those of a flat text have the periods and the waves of the code's tables.
use Rattle.std.proofs.Common.{◌≡◌, ℕ, ℤ, pos, ◌+◌, ◌*◌, ◌-◌, ◌<◌, ◌≤◌, Bool, true, false, ◌||◌, ◌&&◌, ◌==◌, nat_lt, List, [], ◌∷◌, ◌++◌, map, length, flat_map, filter_map, slice_get, Option, Some, Result, Ok, refl, sym, ap, subst, ◌∙◌, arith}
use Rattle.std.specs.List.{AllZip, AllByRecursion, enumerate_from, cons_option}
use Rattle.std.specs.Option.{option_map_or}
use Rattle.std.proofs.lemmas.Bool.{eqb-true, ltb-true}
use Rattle.text_bytes.specs.Limits.{longest_period, most_waves}
use Rattle.tester_types.specs.declared.wave.Event.{Event}
use Rattle.tester_types.specs.declared.wave.Wave.{Wave}
use Rattle.tester_types.specs.declared.wave.Table.{Table}
use Rattle.stil_ast.specs.Data.Places.{Place}
use Rattle.stil_ast.specs.declared.fault.StilFault.{StilFault}
use Rattle.stil_ast.specs.declared.timing.EventDecl.{EventDecl}
use Rattle.stil_ast.specs.declared.timing.WaveDecl.{WaveDecl}
use Rattle.stil_ast.specs.declared.timing.SignalWaves.{SignalWaves}
use Rattle.stil_ast.specs.declared.timing.TableDecl.{TableDecl}
use Rattle.stil_ast.specs.Meaning.Signals.{Names}
use Rattle.stil_ast.specs.Meaning.Members.{members}
use Rattle.stil_ast.specs.Meaning.Times.{Met, Times, time_at}
use Rattle.stil_ast.specs.Meaning.Tables as tables
use Rattle.stil_ast.specs.Meaning.Tables.{Waveform, unnumbered, own_waveforms, waveforms, timed_act, event_of, time_or_zero, period_of, waves_of, made_table}
use Rattle.packed_code.specs.Program.{Program}
use Rattle.packed_code.specs.Conditions as conditions
use Rattle.packed_code.specs.Conditions.{EachBehind, IsEvent, IsWave, IsTable, is_behind}
use Rattle.packed_code.proofs.Lists.{last_of_push}
use Rattle.page_code.proofs.PartLaws.{character_small}
use Rattle.flat_parts.specs.FlatBlocks.{time_text, IsEventDecl, IsSignalWaves, IsTableDecl}
use Rattle.flat_fine.proofs.LineageLemmas.{period_is, waveforms_are}
use Rattle.flat_cycles.proofs.RowLemmas.{AreKnown}
use Rattle.flat_cycles.proofs.SortedLemmas.{Rising}
use Rattle.flat_cycles.proofs.WaveLemmas.{wave_rank, IsWaveform, WaveFits, waves_made}

-- ---- what is known of the waves of a code

-- what each item is behind those before it says something of all
behind_all : {A : Type 0} (Fits : List A → A → Type 0) (P : A → Type 0) (before items : List A)
    → ((before : List A) (x : A) → Fits before x → P x) → EachBehind Fits before items → AllByRecursion P items
behind_all Fits P before [] so each = tt
behind_all Fits P before (x ∷ items) so each = (so before x each.0, behind_all Fits P (before ++ x ∷ []) items so each.1)

pub waves_fit : (signals period most : ℕ) (waves : List Wave) → period ≤ longest_period → EachBehind (IsWave signals period most) [] waves
    → AllByRecursion (WaveFits signals) waves
waves_fit signals period most waves short each =
    behind_all (IsWave signals period most) (WaveFits signals) [] waves
    (λ before wave fits. record {
      signal = fits.signal;
      character = fits.character;
      times = behind_all (IsEvent period) (λ (event : Event). event.time ≤ longest_period) [] wave.events
          (λ earlier event is. let inside = is.inside in omega (arith, short, inside)) fits.events;
    })
    each

behind_rank : (lower same low : Bool) (signal character : ℕ) (wave : Wave) → nat_lt wave.signal signal ≡ lower → (wave.signal == signal) ≡ same
    → nat_lt wave.character character ≡ low → (lower || same && low) ≡ true → wave.character < 256 → wave_rank wave < signal * 256 + character
behind_rank true same low signal character wave e f g h small =
    let less : wave.signal < signal = ltb-true wave.signal signal e in omega (arith, less, small)
behind_rank false true true signal character wave e f g h small =
    let is : wave.signal ≡ signal = eqb-true wave.signal signal f in
    let less : wave.character < character = ltb-true wave.character character g in
    omega (arith, is, less)
behind_rank false true false signal character wave e f g h small = absurd cc
behind_rank false false low signal character wave e f g h small = absurd cc

above_first : (m n : ℕ) (waves : List Wave) → m < n → AllByRecursion (λ later. n < wave_rank later) waves
    → AllByRecursion (λ later. m < wave_rank later) waves
above_first m n [] less all = tt
above_first m n (wave ∷ waves) less all = (let more = all.0 in omega (arith, less, more), above_first m n waves less all.1)

rising_from : (signals period most : ℕ) (before : List Wave) (wave : Wave) (waves : List Wave) → wave.character < 256
    → EachBehind (IsWave signals period most) (before ++ wave ∷ []) waves
    → AllByRecursion (λ later. wave_rank wave < wave_rank later) waves × Rising wave_rank waves
rising_from signals period most before wave [] small each = (tt, tt)
rising_from signals period most before wave (next ∷ waves) small each =
    let behind : is_behind next.signal next.character wave ≡ true =
    sym (ap (λ o. option_map_or (is_behind next.signal next.character) o true) (last_of_push before wave)) ∙ each.0.order in
    let less =
    behind_rank (nat_lt wave.signal next.signal) (wave.signal == next.signal) (nat_lt wave.character next.character) next.signal next.character wave
    refl refl refl behind small in
    let rest = rising_from signals period most (before ++ wave ∷ []) next waves (character_small next.character each.0.character) each.1 in
    ((less, above_first (wave_rank wave) (wave_rank next) waves less rest.0), rest)

-- the waves of a code's table rise by signal and character
pub waves_rise : (signals period most : ℕ) (waves : List Wave) → EachBehind (IsWave signals period most) [] waves → Rising wave_rank waves
waves_rise signals period most [] each = tt
waves_rise signals period most (wave ∷ waves) each =
    rising_from signals period most [] wave waves (character_small wave.character each.0.character) each.1

-- ---- what the text says of them

-- a time text is its number
abbrev pub TimesAre : {V : Type 0} → Times V → Type 0
TimesAre {V} times =
    (n : ℕ) → n ≤ longest_period → (vars : List ℕ → Result V Met) (place : Place) (line : ℕ)
    → time_at times vars place (record { text = time_text n; line = line }) ≡ Ok (pos n)

-- a table with the period and the waves of another
pub record HasSame (new old : Table) : Type 0 where
  pub period : new.period ≡ old.period
  pub waves : new.waves ≡ old.waves

module _ {V : Type 0} (times : Times V) (times_are : TimesAre times) (vars : List ℕ → Result V Met) (p : Place) where
  events_made : (character : ℕ) (events : List Event) (declared : List EventDecl) → AllZip IsEventDecl events declared
      → AllByRecursion (λ (event : Event). event.time ≤ longest_period) events
      → filter_map (event_of times vars p (character ∷ []) character) declared ≡ events
  events_made character [] [] all short = refl
  events_made character [] (d ∷ declared) all short = absurd all
  events_made character (event ∷ events) [] all short = absurd all
  events_made character (event ∷ events) (d ∷ declared) all short =
      ap (λ (o : Option Event). cons_option o (filter_map (event_of times vars p (character ∷ []) character) declared))
      (ap (event_of times vars p (character ∷ []) character) all.0
      ∙ ap (λ (r : Result ℤ StilFault). timed_act r (Some event.act)) (times_are event.time short.0 vars p d.time.line))
      ∙ ap (λ (l : List Event). event ∷ l) (events_made character events declared all.1 short.1)

  module _ (code : Program) (names : Names) (known : AreKnown code names) where
    -- a waveform of a table, not numbered yet
    abbrev bare : ℕ → SignalWaves → WaveDecl → Waveform
    bare number s w =
        record { table = number; number = 0; signals = members names s.reference; characters = w.characters; events = w.events }

    -- the waveforms of a signal that a text says
    abbrev waveforms_of : ℕ → SignalWaves → List Waveform
    waveforms_of number s = map (bare number s) s.waves

    waveform_made : (number : ℕ) (wave : Wave) (d : SignalWaves) → IsSignalWaves code wave d → WaveFits (length code.signals) wave
        → (w : Waveform) × (waveforms_of number d ≡ w ∷ []) × IsWaveform times vars p wave w
    waveform_made number wave d is fits = (
      bare number d (record { characters = wave.character ∷ []; events = is.events }),
      ap (map (bare number d)) is.waves,
      record {
        signals = ap (members names) is.reference ∙ known wave.signal fits.signal;
        characters = refl;
        small = character_small wave.character fits.character;
        events = events_made wave.character wave.events is.events is.each fits.times;
      },
    )

    unnumbered_are : (number : ℕ) (waves : List Wave) (declared : List SignalWaves) → AllZip (IsSignalWaves code) waves declared
        → AllByRecursion (WaveFits (length code.signals)) waves
        → AllZip (IsWaveform times vars p) waves (flat_map (waveforms_of number) declared)
    unnumbered_are number [] [] all fit = tt
    unnumbered_are number [] (d ∷ declared) all fit = absurd all
    unnumbered_are number (wave ∷ waves) [] all fit = absurd all
    unnumbered_are number (wave ∷ waves) (d ∷ declared) all fit =
        let one = waveform_made number wave d all.0 fit.0 in
        let more = flat_map (waveforms_of number) declared in
        subst (λ (front : List Waveform). AllZip (IsWaveform times vars p) (wave ∷ waves) (front ++ more))
        (sym one.1) (one.2, unnumbered_are number waves declared all.1 fit.1)

    -- a number changes none
    numbered_is : (n : ℕ) (wave : Wave) (w : Waveform) → IsWaveform times vars p wave w
        → IsWaveform times vars p wave (tables.numbered (n, w))
    numbered_is n wave w is = record { signals = is.signals; characters = is.characters; small = is.small; events = is.events }

    numbered_are : (n : ℕ) (waves : List Wave) (all : List Waveform) → AllZip (IsWaveform times vars p) waves all
        → AllZip (IsWaveform times vars p) waves (map tables.numbered (enumerate_from n all))
    numbered_are n [] [] are = tt
    numbered_are n [] (w ∷ all) are = absurd are
    numbered_are n (wave ∷ waves) [] are = absurd are
    numbered_are n (wave ∷ waves) (w ∷ all) are = (numbered_is n wave w are.0, numbered_are (n + 1) waves all are.1)

    -- a table's own waveforms are those of the waves
    own_are : (number : ℕ) (waves : List Wave) (d : TableDecl) → AllZip (IsSignalWaves code) waves d.waveforms
        → AllByRecursion (WaveFits (length code.signals)) waves
        → AllZip (IsWaveform times vars p) waves (own_waveforms names number d)
    own_are number waves d all fit =
        numbered_are 0 waves (unnumbered names number d) (unnumbered_are number waves d.waveforms all fit)

    -- ---- tables

    -- a table of a text that inherits none, at a place among all
    pub table_made : (all : List TableDecl) (place number : ℕ) (d : TableDecl) (before : List Table) (table : Table)
        → length names.signals ≡ length code.signals → slice_get all place ≡ Some d → IsTableDecl code number table d
        → IsTable (length code.signals) before table → HasSame (made_table times vars names p all (place, d)) table
    table_made all place number d before table many at is fits =
        let signals = length code.signals in
        let most = most_waves - conditions.wave_count before in
        let fit = waves_fit signals table.period most table.waves fits.period fits.waves in
        let own_only = waveforms_are names all place d at is.inherits in
        let all_are = own_are place table.waves d is.waves fit in
        let rising = waves_rise signals table.period most table.waves fits.waves in
        record {
          period = ap (period_of times vars p) (period_is all place d at is.inherits ∙ is.period)
              ∙ ap time_or_zero (times_are table.period fits.period vars p is.period_line);
          waves = ap (λ (l : List Waveform). waves_of times vars p l (length names.signals)) own_only
              ∙ ap (waves_of times vars p (own_waveforms names place d)) many
              ∙ waves_made times vars p signals table.waves (own_waveforms names place d) all_are rising fit;
        }
