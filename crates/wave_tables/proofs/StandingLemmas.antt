-- The slots of a table tell which inherited waveforms still stand, and the first of their late events is found.
use Rattle.std.proofs.Common.{◌≡◌, ℕ, ℤ, suc, ◌+◌, ◌<◌, ◌≤◌, ◌==◌, ◌&&◌, ◌||◌, not, Bool, true, false, cond, List, [], ◌∷◌, ◌++◌, Option, Some, None, Result, Ok, Err, length, get_or, map, take, drop, refl, sym, ap, ◌∙◌, arith}
use Rattle.std.specs.List.{list_any, flat_map, All}
use Rattle.std.specs.Prelude.{slice_get}
use Rattle.std.proofs.lemmas.List.{length-map, length-append}
use Rattle.std.proofs.Math.Seq.{take-append_seam, drop-append_seam}
use Rattle.std.proofs.lemmas.List.Elements.{All-get_or}
use Rattle.text_bytes.specs.Bytes.{is_character}
use Rattle.stil_ast.specs.Data.Places.{Place}
use Rattle.stil_ast.specs.Meaning.Times.{time_at}
use Rattle.stil_ast.specs.Meaning.Signals.{Names}
use Rattle.stil_ast.specs.Meaning.Members.{members}
use Rattle.stil_ast.specs.Meaning.Tables.{Waveform, waveforms, waveform_of}
use Rattle.stil_ast.specs.Faults.Found.{or_else, first_in, on_line}
use Rattle.stil_ast.specs.Faults.TableFaults.{Timed, is_waveform, stands, late_at, late_event}
use Rattle.stil_ast.specs.declared.fault.StilFault.{StilFault}
use Rattle.stil_ast.specs.declared.name.SigRef.{SigRef}
use Rattle.stil_ast.specs.declared.timing.EventDecl.{EventDecl}
use Rattle.stil_ast.specs.declared.timing.WaveDecl.{WaveDecl}
use Rattle.stil_ast.specs.declared.timing.SignalWaves.{SignalWaves}
use Rattle.expr_text.specs.Ratio.{Ratio}
use Rattle.wave_tables.specs.declared.source.Source.{Source}
use Rattle.wave_tables.specs.declared.times.ReadWave.{ReadWave}
use Rattle.wave_tables.specs.Characters.{has_characters}
use Rattle.wave_tables.specs.Own.{waves_for, own_for, numbered_from}
use Rattle.wave_tables.specs.ReadWaves.{kind_met, read_event, read_wave}
use Rattle.wave_tables.specs.Sources.{at_slot, source_of, Maps}
use Rattle.wave_tables.specs.Standing.{source_for, is_source, counts_for, counts_in, waveform_at, MapsTable, StandAt}
use Rattle.wave_tables.specs.Check.{late_time, late_read, late_one, late_in}
use Rattle.stil_ast.proofs.FoundLemmas.{first_in-append}
use Rattle.wave_tables.proofs.OwnLemmas.{numbered_from-append}
use Rattle.wave_tables.proofs.TakenLemmas.{item_passes, found_drop, drop_behind}

late_time_is : (p : Place) (period : ℤ) (r : Result ℤ StilFault) → late_time p period (kind_met r) ≡ late_at p period r
late_time_is p period (Ok time) = refl
late_time_is p period (Err fault) = refl

-- the first late event of a waveform
pub late_is : (t : Timed Ratio) (period : ℤ) (es : List EventDecl)
    → first_in (late_read t.place period) (map (read_event t) es) ≡ first_in (late_event t period) es
late_is t period [] = refl
late_is t period (e ∷ es) =
    ap (λ (o : Option StilFault). or_else o (first_in (late_read t.place period) (map (read_event t) es)))
    (late_time_is (on_line t.place e.time.line) period (time_at t.times t.vars t.place e.time))
    ∙ ap (or_else (late_event t period e)) (late_is t period es)

-- the source of a signal and a waveform character
pub source_for_is : (n : ℕ) (all : List Waveform) (slots : List (Option Source)) (s c : ℕ) → Maps n all slots → s < n
    → is_character c ≡ true → source_for slots s c ≡ source_of (waveform_of all s c)
source_for_is n all slots s c maps h k =
    ap (λ (b : Bool). cond b (at_slot slots s c) None) k ∙ maps.each s c h k

is_source_of : (names : Names) (source : Source) (r : SigRef) (w : WaveDecl) (o : Option Waveform)
    → is_source source (source_of o) ≡ is_waveform (waveform_at names source r w) o
is_source_of names source r w None = refl
is_source_of names source r w (Some v) = refl

-- tests that agree on each item
any_agree : (p q : ℕ → Bool) (xs : List ℕ) → ((i : ℕ) → i < length xs → p (get_or xs i 0) ≡ q (get_or xs i 0))
    → list_any p xs ≡ list_any q xs
any_agree p q [] h = refl
any_agree p q (x ∷ xs) h =
    ap (λ (b : Bool). b || list_any p xs) (h 0 (omega arith))
    ∙ ap (λ (b : Bool). q x || b) (any_agree p q xs (λ i k. h (suc i) (omega arith)))

-- a waveform stands where its source counts
pub stands_is : (t : Timed Ratio) (table : ℕ) (slots : List (Option Source)) (source : Source) (r : SigRef)
    (w : WaveDecl)
    → (signals characters : List ℕ) → MapsTable t table slots → signals ≡ members t.names r → characters ≡ w.characters
    → All (λ s. s < length t.names.signals) signals → has_characters w.characters ≡ true
    → counts_in slots source signals characters
    ≡ stands (waveforms t.names t.tables table) (waveform_at t.names source r w)
stands_is t table slots source r w signals characters maps listed written within with_characters =
    ap (λ (l : List ℕ). counts_in slots source signals l) written
    ∙ any_agree (λ s. counts_for slots source s w.characters) (λ s. list_any (test s) w.characters) signals (λ i h.
    any_agree (λ c. is_source source (source_for slots (get_or signals i 0) c)) (test (get_or signals i 0)) w.characters
    (λ j k.
    ap (is_source source) (source_for_is (length t.names.signals) (waveforms t.names t.tables table) slots
    (get_or signals i 0)
    (get_or w.characters j 0) maps (All-get_or (λ s. s < length t.names.signals) signals i 0 h within)
    (item_passes is_character w.characters j 0 with_characters k))
    ∙ is_source_of t.names source r w
    (waveform_of (waveforms t.names t.tables table) (get_or signals i 0) (get_or w.characters j 0))))
    ∙ ap (list_any (λ s. list_any (test s) w.characters)) listed
  where
    test : ℕ → ℕ → Bool
    test s c = is_waveform (waveform_at t.names source r w) (waveform_of (waveforms t.names t.tables table) s c)

first_of_either : (f : EventDecl → Option StilFault) (b : Bool) (es : List EventDecl) → first_in f es ≡ None
    → first_in f (cond b es []) ≡ None
first_of_either f true es e = e
first_of_either f false es e = refl

-- one without a late event isn't late
pub not_late_early : (t : Timed Ratio) (period : ℤ) (table : ℕ) (w : Waveform)
    → first_in (late_event t period) w.events ≡ None
    → late_one t period table w ≡ None
not_late_early t period table w early =
    first_of_either (late_event t period) (not (w.table == table) && stands (waveforms t.names t.tables table) w)
    w.events early

-- the waveform of the next number stands first
pub stand_first : (t : Timed Ratio) (reads : List ReadWave) (number : ℕ) (waves : List WaveDecl) (w : WaveDecl)
    (rest : List WaveDecl)
    → waves ≡ w ∷ rest → StandAt t reads number waves → slice_get reads number ≡ Some (read_wave t w)
stand_first t reads number waves w rest split stand =
    let whole : drop number reads ≡ read_wave t
    w ∷ (map (read_wave t) rest ++ drop (number + suc (length rest)) reads) =
    rw split at stand in
    (found_drop reads number (read_wave t w) (map (read_wave t) rest ++ drop (number + suc (length rest)) reads)
    whole).0

-- and then the others
pub stand_next : (t : Timed Ratio) (reads : List ReadWave) (number : ℕ) (waves : List WaveDecl) (w : WaveDecl)
    (rest : List WaveDecl)
    → waves ≡ w ∷ rest → StandAt t reads number waves → StandAt t reads (number + 1) rest
stand_next t reads number waves w rest split stand =
    let whole : drop number reads ≡ read_wave t
    w ∷ (map (read_wave t) rest ++ drop (number + suc (length rest)) reads) =
    rw split at stand in
    let moved : number + suc (length rest) ≡ number + 1 + length rest = omega arith in
    (found_drop reads number (read_wave t w) (map (read_wave t) rest ++ drop (number + suc (length rest)) reads)
    whole).1
    ∙ ap (λ (n : ℕ). map (read_wave t) rest ++ drop n reads) moved

-- the waveforms behind a reference, from one on
pub late_waves : (t : Timed Ratio) (period : ℤ) (heir table number : ℕ) (r : SigRef) (waves : List WaveDecl)
    (w : WaveDecl) (rest : List WaveDecl)
    → waves ≡ w ∷ rest
    → late_in t period heir (numbered_from number (waves_for table (members t.names r) waves))
    ≡ or_else (late_one t period heir (waveform_at t.names (record { table = table; number = number }) r w))
    (late_in t period heir (numbered_from (number + 1) (waves_for table (members t.names r) rest)))
late_waves t period heir table number r waves w rest split =
    ap (λ (l : List WaveDecl). late_in t period heir (numbered_from number (waves_for table (members t.names r) l)))
    split

-- the waveforms of a table, from a reference on
pub late_references : (t : Timed Ratio) (period : ℤ) (heir table number : ℕ) (list : List SignalWaves)
    (s : SignalWaves) (rest : List SignalWaves)
    → list ≡ s ∷ rest
    → late_in t period heir (numbered_from number (flat_map (own_for t.names table) list))
    ≡ or_else (late_in t period heir (numbered_from number (own_for t.names table s)))
    (late_in t period heir (numbered_from (number + length s.waves) (flat_map (own_for t.names table) rest)))
late_references t period heir table number list s rest split =
    ap (λ (l : List SignalWaves). late_in t period heir (numbered_from number (flat_map (own_for t.names table) l)))
    split
    ∙ ap (late_in t period heir) (numbered_from-append number (own_for t.names table s)
    (flat_map (own_for t.names table) rest)
    ∙ ap (λ (n : ℕ). numbered_from number (own_for t.names table s)
    ++ numbered_from (number + n) (flat_map (own_for t.names table) rest))
    (length-map s.waves _))
    ∙ first_in-append (late_one t period heir) (numbered_from number (own_for t.names table s))
    (numbered_from (number + length s.waves) (flat_map (own_for t.names table) rest))

-- the waveforms with their times behind a reference, and then those behind the next ones
pub stand_reference : (t : Timed Ratio) (reads : List ReadWave) (number : ℕ) (list : List SignalWaves)
    (s : SignalWaves) (rest : List SignalWaves)
    → list ≡ s ∷ rest
    → drop number reads ≡ flat_map (λ (s : SignalWaves). map (read_wave t) s.waves) list
    → StandAt t reads number s.waves
    × (drop (number + length s.waves) reads ≡ flat_map (λ (s : SignalWaves). map (read_wave t) s.waves) rest)
stand_reference t reads number list s rest split stand =
    let each : SignalWaves → List ReadWave = λ s. map (read_wave t) s.waves in
    let whole : drop number reads ≡ map (read_wave t) s.waves ++ flat_map each rest = stand
    ∙ ap (flat_map each) split in
    let next : drop (number + length s.waves) reads ≡ flat_map each rest =
    drop_behind reads number (length s.waves) (map (read_wave t) s.waves) (flat_map each rest)
    (length-map s.waves (read_wave t)) whole in
    (whole ∙ ap (λ l. map (read_wave t) s.waves ++ l) (sym next), next)

-- what was read of a reference stands first, and behind it what was read of those behind it
pub record ReadsBehind (t : Timed Ratio) (reads : List ReadWave) (s : SignalWaves) (rest : List SignalWaves) : Type 0 where
  pub within : length s.waves ≤ length reads
  pub here : take (length s.waves) reads ≡ map (read_wave t) s.waves
  pub behind : drop (length s.waves) reads ≡ flat_map (λ (s : SignalWaves). map (read_wave t) s.waves) rest

pub reads_behind : (t : Timed Ratio) (reads : List ReadWave) (list : List SignalWaves) (s : SignalWaves)
    (rest : List SignalWaves)
    → list ≡ s ∷ rest
    → reads ≡ flat_map (λ (s : SignalWaves). map (read_wave t) s.waves) list
    → ReadsBehind t reads s rest
reads_behind t reads list s rest split are =
    let each : SignalWaves → List ReadWave = λ s. map (read_wave t) s.waves in
    let own = map (read_wave t) s.waves in
    let whole : reads ≡ own ++ flat_map each rest = are ∙ ap (flat_map each) split in
    let long : length own ≡ length s.waves = length-map s.waves (read_wave t) in
    let sum : length reads ≡ length own + length (flat_map each rest) =
    ap length whole ∙ length-append own (flat_map each rest) in
    record {
      within = omega (arith, sum, long);
      here = ap (λ (n : ℕ). take n reads) (sym long) ∙ ap (take (length own)) whole
          ∙ take-append_seam own (flat_map each rest);
      behind = ap (λ (n : ℕ). drop n reads) (sym long) ∙ ap (drop (length own)) whole
          ∙ drop-append_seam own (flat_map each rest);
    }
