-- A waveform is found by its source among those that the code holds, and gives its wave.
use Rattle.std.proofs.Common.{◌≡◌, ℕ, ℤ, suc, ◌+◌, Bool, true, false, cond, List, [], ◌∷◌, ◌++◌, Option, Some, None, Result, Ok, Err, length, map, drop, refl, ap, ◌∙◌, arith}
use Rattle.std.specs.List.{flat_map, filter_map, cons_option, All}
use Rattle.std.specs.Option.{option_or, option_map}
use Rattle.std.specs.Prelude.{slice_get, IfSome}
use Rattle.std.proofs.lemmas.List.{length-map}
use Rattle.std.proofs.lemmas.List.Elements.{All-nil, All-cons, All-append, All-get_or, All-from_get_or}
use Rattle.std.proofs.lemmas.Option.{slice_get-map}
use Rattle.stil_ast.specs.Meaning.Times.{time_at}
use Rattle.stil_ast.specs.Meaning.Members.{members}
use Rattle.stil_ast.specs.Meaning.Tables.{Waveform, waveforms, waveform_of, own_of, lineage, defines, act_of, timed_act, event_of, wave_with}
use Rattle.stil_ast.specs.Faults.TableFaults.{Timed}
use Rattle.stil_ast.specs.declared.fault.StilFault.{StilFault}
use Rattle.stil_ast.specs.declared.timing.EventDecl.{EventDecl}
use Rattle.stil_ast.specs.declared.timing.WaveDecl.{WaveDecl}
use Rattle.stil_ast.specs.declared.timing.SignalWaves.{SignalWaves}
use Rattle.stil_ast.specs.declared.timing.TableDecl.{TableDecl}
use Rattle.tester_types.specs.declared.wave.Act.{Act}
use Rattle.tester_types.specs.declared.wave.Event.{Event}
use Rattle.expr_text.specs.Ratio.{Ratio}
use Rattle.wave_tables.specs.declared.times.ReadWave.{ReadWave}
use Rattle.wave_tables.specs.Own.{waves_for, own_for, numbered_from}
use Rattle.wave_tables.specs.ReadWaves.{kind_met, read_event, read_wave, read_waves}
use Rattle.wave_tables.specs.Made.{timed_read, event_read, reads_of, read_at, wave_made, wave_read}
use Rattle.wave_tables.specs.Sources.{source_of}
use Rattle.wave_tables.proofs.OwnLemmas.{numbered_from-append}
use Rattle.wave_tables.proofs.SourceLemmas.{waveform_of-append}
use Rattle.wave_tables.proofs.StandingLemmas.{stand_reference}
use Rattle.wave_tables.proofs.TakenLemmas.{found_drop}

-- a waveform with its times is found by its source
abbrev pub IsHeld : Timed Ratio → List (List ReadWave) → Waveform → Type 0
IsHeld t reads w =
    read_at reads (record { table = w.table; number = w.number })
    ≡ Some (record { characters = w.characters; events = map (read_event t) w.events })

module _ (t : Timed Ratio) (reads : List (List ReadWave)) (k : ℕ) (rs : List ReadWave)
    (at : slice_get reads k ≡ Some rs) where
  held_waves : (n : ℕ) (signals : List ℕ) (ws : List WaveDecl) (rest : List ReadWave)
      → drop n rs ≡ map (read_wave t) ws ++ rest
      → All (IsHeld t reads) (numbered_from n (waves_for k signals ws))
  held_waves n signals [] rest e = All-nil (IsHeld t reads)
  held_waves n signals (w ∷ ws) rest e =
      let p = found_drop rs n (read_wave t w) (map (read_wave t) ws ++ rest) e in
      All-cons (IsHeld t reads) _ (numbered_from (n + 1) (waves_for k signals ws))
      (ap (λ (o : Option (List ReadWave)). slice_get (reads_of o) n) at ∙ p.0)
      (held_waves (n + 1) signals ws rest p.1)

  held_list : (n : ℕ) (list : List SignalWaves)
      → drop n rs ≡ flat_map (λ (s : SignalWaves). map (read_wave t) s.waves) list
      → All (IsHeld t reads) (numbered_from n (flat_map (own_for t.names k) list))
  held_list n [] e = All-nil (IsHeld t reads)
  held_list n (s ∷ list) e =
      let p = stand_reference t rs n (s ∷ list) s list refl e in
      let each : SignalWaves → List ReadWave = λ s. map (read_wave t) s.waves in
      let split : numbered_from n (own_for t.names k s ++ flat_map (own_for t.names k) list)
      ≡ numbered_from n (own_for t.names k s)
      ++ numbered_from (n + length s.waves) (flat_map (own_for t.names k) list) =
      numbered_from-append n (own_for t.names k s) (flat_map (own_for t.names k) list)
      ∙ ap (λ (m : ℕ). numbered_from n (own_for t.names k s)
      ++ numbered_from (n + m) (flat_map (own_for t.names k) list)) (length-map s.waves _) in
      rw split (All-append (IsHeld t reads) (numbered_from n (own_for t.names k s))
      (numbered_from (n + length s.waves) (flat_map (own_for t.names k) list))
      (held_waves n (members t.names s.reference) s.waves (flat_map each list) e)
      (held_list (n + length s.waves) list p.1))

-- a table's own waveforms
own_held : (t : Timed Ratio) (reads : List (List ReadWave)) (k : ℕ) (o : Option TableDecl)
    → slice_get reads k ≡ option_map (read_waves t) o
    → All (IsHeld t reads) (own_of t.names k o)
own_held t reads k None e = All-nil (IsHeld t reads)
own_held t reads k (Some d) e = held_list t reads k (read_waves t d) e 0 d.waveforms refl

lineage_held : (t : Timed Ratio) (reads : List (List ReadWave)) → reads ≡ map (read_waves t) t.tables → (ks : List ℕ)
    → All (IsHeld t reads) (flat_map (λ (k : ℕ). own_of t.names k (slice_get t.tables k)) ks)
lineage_held t reads are [] = All-nil (IsHeld t reads)
lineage_held t reads are (k ∷ ks) =
    All-append (IsHeld t reads) (own_of t.names k (slice_get t.tables k))
    (flat_map (λ (k : ℕ). own_of t.names k (slice_get t.tables k)) ks)
    (own_held t reads k (slice_get t.tables k) (ap (λ l. slice_get l k) are ∙ slice_get-map (read_waves t) t.tables k))
    (lineage_held t reads are ks)

some_or : {A : Type 0} (P : A → Type 0) (a b : Option A) → IfSome a P → IfSome b P → IfSome (option_or a b) P
some_or P None b p q = q
some_or P (Some a) b p q = p

some_where : {A : Type 0} (P : A → Type 0) (b : Bool) (a : A) → P a → IfSome (cond b (Some a) None) P
some_where P true a p = p
some_where P false a p = tt

-- what holds of each waveform holds of the one that counts
pub one_holds : (P : Waveform → Type 0) (s c : ℕ) (all : List Waveform) → All P all → IfSome (waveform_of all s c) P
one_holds P s c [] h = tt
one_holds P s c (w ∷ all) h =
    let first : P w = All-get_or P (w ∷ all) 0 w (omega arith) h in
    let others : All P all = All-from_get_or P all w (λ i k. All-get_or P (w ∷ all) (suc i) w (omega arith) h) in
    rw (waveform_of-append (w ∷ []) all s c)
    (some_or P (waveform_of all s c) (cond (defines s c w) (Some w) None) (one_holds P s c all others)
    (some_where P (defines s c w) w first))

timed_same : (r : Result ℤ StilFault) (a : Option Act) → timed_read (kind_met r) a ≡ timed_act r a
timed_same (Ok time) None = refl
timed_same (Ok time) (Some act) = refl
timed_same (Err fault) a = refl

-- the events of a waveform for a character
events_same : (t : Timed Ratio) (characters : List ℕ) (c : ℕ) (es : List EventDecl)
    → filter_map (event_read characters c) (map (read_event t) es)
    ≡ filter_map (event_of t.times t.vars t.place characters c) es
events_same t characters c [] = refl
events_same t characters c (e ∷ es) =
    ap (λ (o : Option Event). cons_option o (filter_map (event_read characters c) (map (read_event t) es)))
    (timed_same (time_at t.times t.vars t.place e.time) (act_of characters c e.acts))
    ∙ ap (cons_option (event_of t.times t.vars t.place characters c e)) (events_same t characters c es)

held_wave : (t : Timed Ratio) (reads : List (List ReadWave)) (s c : ℕ) (o : Option Waveform) → IfSome o (IsHeld t reads)
    → wave_read reads s c (source_of o) ≡ wave_with t.times t.vars t.place s c o
held_wave t reads s c None h = refl
held_wave t reads s c (Some w) h =
    ap (wave_made s c) h
    ∙ ap (λ (es : List Event). Some (record { signal = s; character = c; events = es }))
    (events_same t w.characters c w.events)

-- the wave of the waveform that counts
pub wave_is : (t : Timed Ratio) (reads : List (List ReadWave)) (table s c : ℕ) → reads ≡ map (read_waves t) t.tables
    → wave_read reads s c (source_of (waveform_of (waveforms t.names t.tables table) s c))
    ≡ wave_with t.times t.vars t.place s c (waveform_of (waveforms t.names t.tables table) s c)
wave_is t reads table s c are =
    held_wave t reads s c (waveform_of (waveforms t.names t.tables table) s c)
    (one_holds (IsHeld t reads) s c (waveforms t.names t.tables table)
    (lineage_held t reads are (lineage t.tables table)))
