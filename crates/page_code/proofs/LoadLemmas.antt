-- A code is read of its parts, and what is read is what is saved.
use Rattle.std.proofs.Common.{◌≡◌, ℕ, ◌*◌, ◌^◌, eqb, ltb, leb, cond, ◌&&◌, List, [], ◌++◌, length, Result, Ok, Err, refl, sym, ap, subst, ◌∙◌, append_assoc, ◌⊎◌, inl, inr}
use Rattle.std.specs.Int.{w16, w32}
use Rattle.std.proofs.lemmas.Bool.{eqb-true}
use Rattle.std.proofs.lemmas.List.{append-nil, nil_from_length}
use Rattle.tester_types.specs.declared.wave.Table.{Table}
use Rattle.page_code.specs.declared.version.Version.{Version}
use Rattle.page_code.specs.declared.version.Version.TheVariants.{One, Two}
use Rattle.packed_code.specs.declared.parts.CodeSignal.{CodeSignal}
use Rattle.page_code.specs.declared.fault.Refusal.{Refusal}
use Rattle.page_code.specs.declared.fault.Refusal.TheVariants.{BadCode}
use Rattle.answers.specs.declared.short.Short.TheVariants as errors
use Rattle.packed_code.specs.Program.{Exec, Program}
use Rattle.packed_code.specs.Conditions.{IsProgram}
use Rattle.page_code.specs.Spelling.{head, earlier, later}
use Rattle.page_code.specs.Saved.{SavedIn, Saved}
use Rattle.page_code.specs.Fields.{◌>>=◌, Fails, Read, number_at, checked, items_at, ReadError}
use Rattle.page_code.specs.Reading.{head_at, signal_at, table_at, row_at, exec_at, program_at, whole_at, answered, load_of}
use Rattle.page_code.specs.declared.fault.SavedFault.{SavedFault}
use Rattle.page_code.specs.declared.fault.SavedFault.TheVariants as saved
use Rattle.std.specs.Prelude.{MatchResult, IfOk}
use Rattle.page_code.proofs.ReaderLaws.{IsBytes, bind_ok, guard_ok, ok_is}
use Rattle.page_code.proofs.ProgramLaws.{head_reader, program_reader}

-- ---- the parts

abbrev SignalCount : List ℕ → Read ℕ
SignalCount bytes = checked (number_at w16) (λ count. leb count 1024) bytes

abbrev TableCount : List ℕ → Read ℕ
TableCount bytes = checked (number_at w16) (λ count. leb count 4096) bytes

abbrev RowCount : ℕ → List ℕ → Read ℕ
RowCount signals bytes = checked (number_at w32) (λ count. leb (count * signals) (2 ^ 28)) bytes

abbrev ExecCount : List ℕ → Read ℕ
ExecCount bytes = checked (number_at w16) (λ count. ltb 0 count && leb count 64) bytes

-- what was read of a version before the executives
pub record ReadsEarlier (version : Version) (bytes : List ℕ) (signals : List CodeSignal) (tables : List Table) (rows : List (List ℕ))
    (execs : ℕ) (rest : List ℕ) : Type 0 where
  pub c2 : ℕ
  pub r2 : List ℕ
  pub signal_count : SignalCount bytes ≡ Ok (c2, r2)
  pub r3 : List ℕ
  pub are_signals : items_at signal_at c2 [] r2 ≡ Ok (signals, r3)
  pub c4 : ℕ
  pub r4 : List ℕ
  pub table_count : TableCount r3 ≡ Ok (c4, r4)
  pub r5 : List ℕ
  pub are_tables : items_at (table_at (length signals)) c4 [] r4 ≡ Ok (tables, r5)
  pub c6 : ℕ
  pub r6 : List ℕ
  pub row_count : RowCount (length signals) r5 ≡ Ok (c6, r6)
  pub r7 : List ℕ
  pub are_rows : items_at (row_at version (length signals)) c6 [] r6 ≡ Ok (rows, r7)
  pub exec_count : ExecCount r7 ≡ Ok (execs, rest)

-- these parts, where their readers were given the number of the signals
pub reads_earlier : {version : Version} {bytes r2 r3 r4 r5 r6 r7 rest : List ℕ} {width c2 c4 c6 execs : ℕ} {signals : List CodeSignal}
    {tables : List Table} {rows : List (List ℕ)}
    → width ≡ length signals → SignalCount bytes ≡ Ok (c2, r2)
    → items_at signal_at c2 [] r2 ≡ Ok (signals, r3) → TableCount r3 ≡ Ok (c4, r4)
    → items_at (table_at width) c4 [] r4 ≡ Ok (tables, r5) → RowCount width r5 ≡ Ok (c6, r6)
    → items_at (row_at version width) c6 [] r6 ≡ Ok (rows, r7) → ExecCount r7 ≡ Ok (execs, rest)
    → ReadsEarlier version bytes signals tables rows execs rest
reads_earlier {version} {bytes} {r2} {r3} {r4} {r5} {r6} {r7} {rest} {width} {c2} {c4} {c6} {execs} {signals} {tables} {rows}
    counted signal_count are_signals table_count are_tables row_count are_rows exec_count = record {
      c2 = c2;
      r2 = r2;
      signal_count = signal_count;
      r3 = r3;
      are_signals = are_signals;
      c4 = c4;
      r4 = r4;
      table_count = table_count;
      r5 = r5;
      are_tables = subst (λ (n : ℕ). items_at (table_at n) c4 [] r4 ≡ Ok (tables, r5)) counted are_tables;
      c6 = c6;
      r6 = r6;
      row_count = subst (λ (n : ℕ). RowCount n r5 ≡ Ok (c6, r6)) counted row_count;
      r7 = r7;
      are_rows = subst (λ (n : ℕ). items_at (row_at version n) c6 [] r6 ≡ Ok (rows, r7)) counted are_rows;
      exec_count = exec_count;
    }

-- and then the executives
abbrev Execs : ℕ → List Table → List (List ℕ) → ℕ → List ℕ → Read (List Exec)
Execs width tables rows count rest = items_at (λ before. exec_at width tables rows) count [] rest

reads_on : (version : Version) (bytes : List ℕ) (signals : List CodeSignal) (tables : List Table) (rows : List (List ℕ)) (count : ℕ)
    (rest : List ℕ) → ReadsEarlier version bytes signals tables rows count rest
    → program_at version bytes ≡ (Execs (length signals) tables rows count rest
    >>= λ execs. Ok (record { signals = signals; tables = tables; rows = rows; execs = execs.0 }, execs.1))
unfolding program_at
reads_on version bytes signals tables rows count rest e =
    rw (e.signal_count, e.are_signals, e.table_count, e.are_tables, e.row_count, e.are_rows, e.exec_count) refl

-- alike by this number, and by a list that is the tables
execs_alike : (signals : List CodeSignal) (tables others : List Table) (rows : List (List ℕ)) (width count : ℕ) (rest : List ℕ)
    → width ≡ length signals → others ≡ tables → Execs width others rows count rest ≡ Execs (length signals) tables rows count rest
execs_alike signals tables others rows width count rest counted same =
    ap (λ (n : ℕ). Execs n others rows count rest) counted
    ∙ ap (λ (ts : List Table). Execs (length signals) ts rows count rest) same

pub program_made : (version : Version) (bytes : List ℕ) (signals : List CodeSignal) (tables others : List Table) (rows : List (List ℕ))
    (width count : ℕ) (rest : List ℕ) (execs : List Exec) (after : List ℕ)
    → ReadsEarlier version bytes signals tables rows count rest → width ≡ length signals → others ≡ tables
    → Execs width others rows count rest ≡ Ok (execs, after)
    → program_at version bytes ≡ Ok (record { signals = signals; tables = tables; rows = rows; execs = execs }, after)
program_made version bytes signals tables others rows width count rest execs after e counted same last =
    let here : Execs (length signals) tables rows count rest ≡ Ok (execs, after) =
    sym (execs_alike signals tables others rows width count rest counted same) ∙ last in
    reads_on version bytes signals tables rows count rest e ∙ rw here refl

pub program_stops : (err : ReadError) (version : Version) (bytes : List ℕ) (signals : List CodeSignal) (tables others : List Table)
    (rows : List (List ℕ)) (width count : ℕ) (rest : List ℕ)
    → ReadsEarlier version bytes signals tables rows count rest → width ≡ length signals → others ≡ tables
    → Fails err (Execs width others rows count rest) → Fails err (program_at version bytes)
program_stops errors.NoMemory version bytes signals tables others rows width count rest e counted same last = tt
program_stops (errors.Fault refusal) version bytes signals tables others rows width count rest e counted same last =
    let here : Execs (length signals) tables rows count rest ≡ Err refusal =
    sym (execs_alike signals tables others rows width count rest counted same) ∙ last in
    reads_on version bytes signals tables rows count rest e ∙ rw here refl

-- ---- the whole

whole_guard : (p : Program × List ℕ) (q : Program) → cond (eqb (length p.1) 0) (Ok p.0) (Err (BadCode (length p.1))) ≡ Ok q → (p.1 ≡ []) × (p.0 ≡ q)
whole_guard p q e = let g = guard_ok (eqb (length p.1) 0) (BadCode (length p.1)) p.0 q e in (nil_from_length p.1 (eqb-true (length p.1) 0 g.0), g.1)

-- a saved form of a version is a saved form
saved_in : (version : Version) (code : Program) (bytes : List ℕ) → SavedIn version code bytes → Saved code bytes
saved_in One code bytes saved = inl saved
saved_in Two code bytes saved = inr saved

-- what is read is saved so
pub read_saved : (bytes : List ℕ) (code : Program) → IsBytes bytes → whole_at bytes ≡ Ok code → Saved code bytes
unfolding whole_at
read_saved bytes code fits e =
    let first = bind_ok (head_at bytes) _ code e in
    let step = bind_ok (program_at first.0.0 first.0.1) _ code first.2 in
    let g = whole_guard step.0 code step.2 in
    let h = head_reader.takes bytes first.0.0 first.0.1 fits first.1 in
    let t = (program_reader first.0.0).takes first.0.1 step.0.0 step.0.1 h.1 step.1 in
    let text = earlier step.0.0 ++ later first.0.0 step.0.0 in
    saved_in first.0.0 code bytes (subst (λ (p : Program). SavedIn first.0.0 p bytes) g.1 (record {
      conditions = t.2;
      spelled = h.0 ∙ ap (λ (x : List ℕ). head first.0.0 ++ x) (t.0 ∙ ap (λ (x : List ℕ). text ++ x) g.0 ∙ append-nil text);
    }))

-- what is spelled is read, with what comes behind it
spelled_read : (version : Version) (code : Program) (rest : List ℕ) → IsProgram code
    → program_at version ((earlier code ++ later version code) ++ rest) ≡ Ok (code, rest)
spelled_read version code rest fits = (program_reader version).again code rest fits

-- what is saved so is read
saved_in_read : (version : Version) (bytes : List ℕ) (code : Program) → SavedIn version code bytes → whole_at bytes ≡ Ok code
unfolding whole_at
saved_in_read version bytes code saved =
    let text = earlier code ++ later version code in
    let is_head : head_at bytes ≡ Ok (version, text) = ap head_at saved.spelled ∙ head_reader.again version text tt in
    let again : program_at version text ≡ Ok (code, []) =
    ap (program_at version) (sym (append-nil text)) ∙ spelled_read version code [] saved.conditions in
    rw (is_head, again) refl

saved_read : (bytes : List ℕ) (code : Program) → Saved code bytes → whole_at bytes ≡ Ok code
saved_read bytes code (inl saved) = saved_in_read One bytes code saved
saved_read bytes code (inr saved) = saved_in_read Two bytes code saved

-- a code that was read meets the conditions
pub read_fits : (version : Version) (bytes : List ℕ) (code : Program) (behind rest : List ℕ) → IsBytes bytes
    → head_at bytes ≡ Ok (version, behind) → program_at version behind ≡ Ok (code, rest) → IsProgram code
read_fits version bytes code behind rest fits first e =
    let h = head_reader.takes bytes version behind fits first in
    ((program_reader version).takes behind code rest h.1 e).2

-- ---- what load answers

answered_ok : (size : ℕ) (read : Result Program Refusal) (code : Program) → answered size read ≡ Ok code → read ≡ Ok code
answered_ok size (Ok p) code e = let same : p ≡ code = cc in ap Ok same
answered_ok size (Err refusal) code e = absurd cc

-- the code that is loaded is saved so
pub is_found : (bytes : List ℕ) (r : Result Program SavedFault) → IsBytes bytes
    → MatchResult r (λ code. load_of bytes ≡ Ok code) (λ e. (e ≡ saved.NoMemory) ⊎ (load_of bytes ≡ Err e)) → IfOk r (λ code. Saved code bytes)
is_found bytes (Ok code) fits is = read_saved bytes code fits (answered_ok (length bytes) (whole_at bytes) code is)
is_found bytes (Err e) fits is = tt

abbrev good : Program → Result Program SavedFault
good code = Ok code

same_ok : (c code : Program) → good c ≡ good code → c ≡ code
same_ok c code e = cc

ok_err : (code : Program) (e : SavedFault) → good code ≡ Err e → ⊥
ok_err code e same = cc

-- no other is loaded, and nothing is refused
pub is_only : (bytes : List ℕ) (r : Result Program SavedFault) (code : Program) → Saved code bytes
    → MatchResult r (λ code. load_of bytes ≡ Ok code) (λ e. (e ≡ saved.NoMemory) ⊎ (load_of bytes ≡ Err e))
    → MatchResult r (λ c. c ≡ code) (λ e. e ≡ saved.NoMemory)
is_only bytes (Ok c) code is_saved is =
    let other : answered (length bytes) (whole_at bytes) ≡ Ok code = ap (answered (length bytes)) (saved_read bytes code is_saved) in
    same_ok c code (sym is ∙ other)
is_only bytes (Err e) code is_saved (inl memory) = memory
is_only bytes (Err e) code is_saved (inr refused) =
    let other : answered (length bytes) (whole_at bytes) ≡ Ok code = ap (answered (length bytes)) (saved_read bytes code is_saved) in
    absurd (ok_err code e (sym other ∙ refused))

-- ---- spellings

-- no spelling begins another
pub none_begins : (version other_version : Version) (code other : Program) (bytes longer rest : List ℕ)
    → SavedIn version code bytes → SavedIn other_version other longer → longer ≡ bytes ++ rest
    → (other_version ≡ version) × (other ≡ code) × (rest ≡ [])
none_begins v w code other bytes longer rest a b same =
    let text = earlier code ++ later v code in
    let long = earlier other ++ later w other in
    let spelled : head w ++ long ≡ head v ++ (text ++ rest) =
    sym b.spelled ∙ same ∙ ap (λ (x : List ℕ). x ++ rest) a.spelled ∙ append_assoc (head v) text rest in
    let heads = ok_is (w, long) (v, text ++ rest) (sym (head_reader.again w long tt) ∙ ap head_at spelled ∙ head_reader.again v (text ++ rest) tt) in
    let version_is : w ≡ v = ap (λ p. p.0) heads in
    let both = ok_is (other, []) (code, rest)
    (sym (spelled_read w other [] b.conditions) ∙ ap (program_at w) (append-nil long ∙ ap (λ p. p.1) heads)
    ∙ ap (λ (u : Version). program_at u (text ++ rest)) version_is ∙ spelled_read v code rest a.conditions) in
    (version_is, ap (λ p. p.0) both, sym (ap (λ p. p.1) both))
