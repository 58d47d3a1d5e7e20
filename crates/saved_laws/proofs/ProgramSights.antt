-- What reading a saved program sees, from its first byte on.
use Rattle.std.proofs.Common.{◌≡◌, ℕ, zero, suc, ◌+◌, ◌*◌, ◌≤◌, ◌⊎◌, Bool, true, false, cond, eqb, ltb, leb, ◌&&◌, List, [], ◌∷◌, ◌++◌, length, take, Ok, None, refl, sym, ap, ◌∙◌, append_assoc, arith, inl, inr}
use Rattle.std.specs.Int.{w16, w32}
use Rattle.std.proofs.lemmas.Bool.{leb-true}
use Rattle.std.proofs.lemmas.List.{length-append}
use Rattle.text_bytes.specs.Limits.{most_row_characters, most_code_tables}
use Rattle.tester_types.specs.declared.wave.Table.{Table}
use Rattle.packed_code.specs.declared.parts.CodeSignal.{CodeSignal}
use Rattle.packed_code.specs.Program.{Program}
use Rattle.page_code.specs.Fields.{◌>>=◌, Read, byte_at, number_at, checked, items_at}
use Rattle.page_code.specs.Reading.{signal_at, table_at, exec_at, magic_at, version_of, known_version, program_at}
use Rattle.page_code.proofs.ReaderLaws.{bind_ok, ok_is, checked_test}
use Rattle.saved_laws.proofs.Sights.{torn, Waits, Takes, Sees, takes, refuses, ends, IsLocal, IsShort, Then, bound, waits_then, same_then, sees_then, kept, then_local, then_given, alike_at, items_local}
use Rattle.saved_laws.proofs.FieldSights.{byte_local, byte_short, number_local, number_short}
use Rattle.saved_laws.proofs.PartSights.{made_local, small16, small32, signal_local, tables_local, exec_local}
use Rattle.saved_laws.proofs.RowSights.{row_by, first_row_local, second_row_local}

-- ---- behind the head

-- so many items are read
items_count : {A : Type 0} (one : List A → List ℕ → Read A) (count : ℕ) (before : List A) (bytes : List ℕ) (all : List A) (rest : List ℕ)
    → items_at one count before bytes ≡ Ok (all, rest) → length all ≡ length before + count
unfolding items_at
items_count one zero before bytes all rest e =
    let same : before ≡ all = ap (λ p. p.0) (ok_is (before, bytes) (all, rest) e) in omega (arith, ap length same)
items_count one (suc n) before bytes all rest e =
    let step = bind_ok (one before bytes) (λ x. items_at one n (before ++ x.0 ∷ []) x.1) (all, rest) e in
    let more = items_count one n (before ++ step.0.0 ∷ []) step.0.1 all rest step.2 in
    omega (arith, more, length-append before (step.0.0 ∷ []))

abbrev Rows : Type 0
Rows = ℕ → List (List ℕ) → List ℕ → Read (List ℕ)

abbrev execs_behind : List CodeSignal → List Table → List (List ℕ) → List ℕ → Read Program
execs_behind signals tables rows bytes =
    checked (number_at w16) (λ count. ltb 0 count && leb count 64) bytes >>=
    λ count. items_at (λ before. exec_at (length signals) tables rows) count.0 [] count.1 >>=
    λ execs. Ok (record { signals = signals; tables = tables; rows = rows; execs = execs.0 }, execs.1)

abbrev rows_behind : Rows → List CodeSignal → List Table → List ℕ → Read Program
rows_behind row signals tables bytes =
    checked (number_at w32) (λ count. leb (count * length signals) most_row_characters) bytes >>=
    λ count. items_at (row (length signals)) count.0 [] count.1 >>=
    λ rows. execs_behind signals tables rows.0 rows.1

abbrev tables_behind : Rows → List CodeSignal → List ℕ → Read Program
tables_behind row signals bytes =
    checked (number_at w16) (λ count. leb count most_code_tables) bytes >>=
    λ count. items_at (table_at (length signals)) count.0 [] count.1 >>=
    λ tables. rows_behind row signals tables.0 tables.1

abbrev program_by : Rows → List ℕ → Read Program
program_by row bytes =
    checked (number_at w16) (λ count. leb count 1024) bytes >>=
    λ count. items_at signal_at count.0 [] count.1 >>=
    λ signals. tables_behind row signals.0 signals.1

execs_local : (signals : List CodeSignal) (tables : List Table) (rows : List (List ℕ)) → IsLocal (execs_behind signals tables rows)
execs_local signals tables rows =
    then_local (checked (number_at w16) (λ count. ltb 0 count && leb count 64))
    (λ count. items_at (λ before. exec_at (length signals) tables rows) count.0 [] count.1 >>=
    λ execs. Ok (record { signals = signals; tables = tables; rows = rows; execs = execs.0 }, execs.1))
    (small16 (λ count. ltb 0 count && leb count 64))
    (λ count. made_local (items_at (λ before. exec_at (length signals) tables rows) count [])
    (λ execs. record { signals = signals; tables = tables; rows = rows; execs = execs })
    (items_local (λ before. exec_at (length signals) tables rows) (λ before. exec_local (length signals) tables rows) count []))

rows_local : (row : Rows) (signals : List CodeSignal) (tables : List Table) → ((before : List (List ℕ)) → IsLocal (row (length signals) before))
    → IsLocal (rows_behind row signals tables)
rows_local row signals tables local =
    then_local (checked (number_at w32) (λ count. leb (count * length signals) most_row_characters))
    (λ count. items_at (row (length signals)) count.0 [] count.1 >>= λ rows. execs_behind signals tables rows.0 rows.1)
    (small32 (λ count. leb (count * length signals) most_row_characters))
    (λ count. then_local (items_at (row (length signals)) count []) (λ rows. execs_behind signals tables rows.0 rows.1)
    (items_local (row (length signals)) local count [])
    (λ rows. execs_local signals tables rows))

behind_tables_local : (row : Rows) (signals : List CodeSignal) → ((before : List (List ℕ)) → IsLocal (row (length signals) before))
    → IsLocal (tables_behind row signals)
behind_tables_local row signals local =
    then_local (checked (number_at w16) (λ count. leb count most_code_tables))
    (λ count. items_at (table_at (length signals)) count.0 [] count.1 >>= λ tables. rows_behind row signals tables.0 tables.1)
    (small16 (λ count. leb count most_code_tables))
    (λ count. then_local (items_at (table_at (length signals)) count []) (λ tables. rows_behind row signals tables.0 tables.1)
    (items_local (table_at (length signals)) (tables_local (length signals)) count [])
    (λ tables. rows_local row signals tables local))

program_local : (row : Rows) → ((signals : ℕ) (before : List (List ℕ)) → signals ≤ 1024 → IsLocal (row signals before)) → IsLocal (program_by row)
program_local row local =
    then_given (checked (number_at w16) (λ count. leb count 1024))
    (λ count. items_at signal_at count.0 [] count.1 >>= λ signals. tables_behind row signals.0 signals.1)
    (small16 (λ count. leb count 1024))
    (λ bytes count rest e.
    let few : count ≤ 1024 = leb-true count 1024 (checked_test (number_at w16) (λ count. leb count 1024) bytes count rest e) in
    then_given (items_at signal_at count []) (λ signals. tables_behind row signals.0 signals.1)
    (items_local signal_at signal_local count [])
    (λ bytes signals rest e.
    let is = items_count signal_at count [] bytes signals rest e in
    behind_tables_local row signals (λ before. local (length signals) before (omega (arith, few, is)))))

-- ---- the head

-- what is read where one of the first bytes is another, or the version is
abbrev pub bad_magic : {A : Type 0} → Read A
bad_magic {A} = magic_at (1 ∷ []) (0 ∷ []) >>= λ x. torn {A = A}

abbrev pub bad_version : {A : Type 0} → Read A
bad_version {A} = known_version None [] >>= λ x. torn {A = A}

-- these first bytes, so many at most, are read so whatever is behind them, and no fewer are
pub record Stops {A : Type 0} (read : List ℕ → Read A) (bytes : List ℕ) (most : ℕ) (fault : Read A) : Type 0 where
  pub front : List ℕ
  pub rest : List ℕ
  pub split : bytes ≡ front ++ rest
  pub few : length front ≤ most
  pub same : (other : List ℕ) → read (front ++ other) ≡ fault
  pub waits : Waits read front

pub data Begins {A : Type 0} (read : List ℕ → Read A) (bytes : List ℕ) (magic version : ℕ) : Type 0 where
  sees : Sees read bytes → Begins read bytes magic version
  other_magic : Stops read bytes magic bad_magic → Begins read bytes magic version
  other_version : Stops read bytes version bad_version → Begins read bytes magic version

stops_then : {A B : Type 0} (read : List ℕ → Read A) (next : A × List ℕ → Read B) (bytes : List ℕ) (a : A) (rest : List ℕ)
    (taken most : ℕ) (fault : Read B) → IsShort taken read → Takes read bytes a rest → Stops (λ bytes. next (a, bytes)) rest most fault
    → Stops (Then read next) bytes (taken + most) fault
stops_then read next bytes a rest taken most fault short first second = record {
  front = first.front ++ second.front;
  rest = second.rest;
  split = first.split ∙ ap (λ (x : List ℕ). first.front ++ x) second.split ∙ sym (append_assoc first.front second.front second.rest);
  few =
      let one = short (first.front ++ []) a [] (first.same []) in
      let two = second.few in
      omega (arith, one, two, length-append first.front [], length-append first.front second.front);
  same = λ other. same_then read next a first.front fault first.same second.front other (second.same other);
  waits = waits_then read next a first.front second.front first.waits first.same second.waits;
}

-- what comes first takes bytes, or all is as it is
first_seen : {A B : Type 0} (read : List ℕ → Read A) (next : A × List ℕ → Read B) (magic version : ℕ) (bytes : List ℕ)
    → ((a : A) (rest : List ℕ) → Takes read bytes a rest → Begins (Then read next) bytes magic version)
    → Sees read bytes → Begins (Then read next) bytes magic version
first_seen read next magic version bytes taken (takes a rest t) = taken a rest t
first_seen read next magic version bytes taken (refuses s) = sees (refuses (kept read (λ left. next) bytes s))
first_seen read next magic version bytes taken (ends e) = sees (ends (bound (read bytes) torn next e))

begins_then : {A B : Type 0} (read : List ℕ → Read A) (next : A × List ℕ → Read B) (taken magic version : ℕ) → IsLocal read → IsShort taken read
    → ((a : A) (bytes : List ℕ) → Begins (λ bytes. next (a, bytes)) bytes magic version) → (bytes : List ℕ)
    → Begins (Then read next) bytes (taken + magic) (taken + version)
begins_then {A} {B} read next taken magic version local short second bytes =
    first_seen read next (taken + magic) (taken + version) bytes (λ a rest t. by_second a rest t (second a rest)) (local bytes)
  where
    by_second : (a : A) (rest : List ℕ) → Takes read bytes a rest → Begins (λ bytes. next (a, bytes)) rest magic version
        → Begins (Then read next) bytes (taken + magic) (taken + version)
    by_second a rest t (sees s) = sees (sees_then read next bytes a rest t s)
    by_second a rest t (other_magic s) = other_magic (stops_then read next bytes a rest taken magic bad_magic short t s)
    by_second a rest t (other_version s) = other_version (stops_then read next bytes a rest taken version bad_version short t s)

-- the same, where the second refuses no first byte
late_then : {A B : Type 0} (read : List ℕ → Read A) (next : A × List ℕ → Read B) (taken version : ℕ) → IsLocal read → IsShort taken read
    → ((a : A) (bytes : List ℕ) → Sees (λ bytes. next (a, bytes)) bytes ⊎ Stops (λ bytes. next (a, bytes)) bytes version bad_version)
    → (bytes : List ℕ) → Begins (Then read next) bytes 0 (taken + version)
late_then {A} {B} read next taken version local short second bytes =
    first_seen read next 0 (taken + version) bytes (λ a rest t. by_second a rest t (second a rest)) (local bytes)
  where
    by_second : (a : A) (rest : List ℕ) → Takes read bytes a rest
        → Sees (λ bytes. next (a, bytes)) rest ⊎ Stops (λ bytes. next (a, bytes)) rest version bad_version
        → Begins (Then read next) bytes 0 (taken + version)
    by_second a rest t (inl s) = sees (sees_then read next bytes a rest t s)
    by_second a rest t (inr s) = other_version (stops_then read next bytes a rest taken version bad_version short t s)

-- readers that are alike stop alike, and begin alike
stops_alike : {A : Type 0} (read other : List ℕ → Read A) (bytes : List ℕ) (most : ℕ) (fault : Read A)
    → ((bytes : List ℕ) → other bytes ≡ read bytes) → Stops read bytes most fault → Stops other bytes most fault
stops_alike read other bytes most fault is s = record {
  front = s.front;
  rest = s.rest;
  split = s.split;
  few = s.few;
  same = λ more. is (s.front ++ more) ∙ s.same more;
  waits = λ n lt. is (take n s.front) ∙ s.waits n lt;
}

begins_alike : {A : Type 0} (read other : List ℕ → Read A) (bytes : List ℕ) (magic version : ℕ) → ((bytes : List ℕ) → other bytes ≡ read bytes)
    → Begins read bytes magic version → Begins other bytes magic version
begins_alike read other bytes magic version is (sees s) = sees (alike_at read other is bytes s)
begins_alike read other bytes magic version is (other_magic s) = other_magic (stops_alike read other bytes magic bad_magic is s)
begins_alike read other bytes magic version is (other_version s) = other_version (stops_alike read other bytes version bad_version is s)

-- at once
at_once : {A : Type 0} (bytes : List ℕ) (most : ℕ) (fault : Read A) → Stops (λ bytes. fault) bytes most fault
at_once bytes most fault = record {
  front = [];
  rest = bytes;
  split = refl;
  few = omega arith;
  same = λ other. refl;
  waits = λ n lt. absurd (omega (arith, lt));
}

-- a known byte, and what is behind it
abbrev ByMagic : {B : Type 0} → ℕ → List ℕ → (Unit {0} × List ℕ → Read B) → ℕ × List ℕ → Read B
ByMagic byte magic next x = cond (eqb x.0 byte) (magic_at magic x.1 >>= next) bad_magic

first_byte : {B : Type 0} (byte : ℕ) (magic : List ℕ) (next : Unit {0} × List ℕ → Read B) (bytes : List ℕ)
    → (magic_at (byte ∷ magic) bytes >>= next) ≡ Then byte_at (ByMagic byte magic next) bytes
first_byte byte magic next [] = refl
first_byte {B} byte magic next (b ∷ bytes) = by_test (eqb b byte)
  where
    by_test : (c : Bool) → (cond {A = Read (Unit {0})} c (magic_at magic bytes) bad_magic >>= next)
        ≡ cond {A = Read B} c (magic_at magic bytes >>= next) bad_magic
    by_test true = refl
    by_test false = refl

by_magic : {B : Type 0} (byte : ℕ) (magic : List ℕ) (few more : ℕ) (next : Unit {0} × List ℕ → Read B)
    → ((bytes : List ℕ) → Begins (λ bytes. magic_at magic bytes >>= next) bytes few more) → (c : Bool) (bytes : List ℕ)
    → Begins (λ bytes. cond {A = Read B} c (magic_at magic bytes >>= next) bad_magic) bytes few more
by_magic byte magic few more next behind true bytes = behind bytes
by_magic byte magic few more next behind false bytes = other_magic (at_once bytes few bad_magic)

-- so many more as there are bytes
abbrev counted : List ℕ → ℕ → ℕ
counted [] n = n
counted (byte ∷ magic) n = 1 + counted magic n

magic_then : {B : Type 0} (magic : List ℕ) (version : ℕ) (next : Unit {0} × List ℕ → Read B)
    → ((bytes : List ℕ) → Begins (λ bytes. next (tt, bytes)) bytes 0 version) → (bytes : List ℕ)
    → Begins (λ bytes. magic_at magic bytes >>= next) bytes (counted magic 0) (counted magic version)
magic_then [] version next second bytes = second bytes
magic_then (byte ∷ magic) version next second bytes =
    let few = counted magic 0 in
    let more = counted magic version in
    begins_alike (Then byte_at (ByMagic byte magic next)) (λ bytes. magic_at (byte ∷ magic) bytes >>= next) bytes
    (1 + few) (1 + more) (first_byte byte magic next)
    (begins_then byte_at (ByMagic byte magic next) 1 few more byte_local (byte_short 1 (omega arith))
    (λ b. by_magic byte magic few more next (magic_then magic version next second) (eqb b byte)) bytes)

-- behind the version's number
abbrev by_number : ℕ → List ℕ → Read Program
by_number n bytes =
    known_version (version_of n) bytes >>= λ v. checked (number_at w16) (λ n. eqb n 0) v.1 >>= λ zeros. program_at v.0 zeros.1

abbrev by_tests : Bool → Bool → List ℕ → Read Program
by_tests p q bytes =
    known_version (cond p (version_of 1) (cond q (version_of 2) None)) bytes >>=
    λ v. checked (number_at w16) (λ n. eqb n 0) v.1 >>= λ zeros. program_at v.0 zeros.1

version_then : (n : ℕ) (bytes : List ℕ) → Sees (by_number n) bytes ⊎ Stops (by_number n) bytes 0 bad_version
unfolding program_at
version_then n bytes = by_test (eqb 1 n) (eqb 2 n)
  where
    by_test : (p q : Bool) → Sees (by_tests p q) bytes ⊎ Stops (by_tests p q) bytes 0 bad_version
    by_test true q =
        inl (then_local (checked (number_at w16) (λ n. eqb n 0)) (λ zeros. program_by (row_by 1) zeros.1) (small16 (λ n. eqb n 0))
        (λ zeros. program_local (row_by 1) first_row_local) bytes)
    by_test false true =
        inl (then_local (checked (number_at w16) (λ n. eqb n 0)) (λ zeros. program_by (row_by 2) zeros.1) (small16 (λ n. eqb n 0))
        (λ zeros. program_local (row_by 2) second_row_local) bytes)
    by_test false false = inr (at_once bytes 0 bad_version)

-- a program and what is behind it
abbrev pub parsed : List ℕ → Read Program
parsed bytes = magic_at (0xD7 ∷ 0x53 ∷ 0x54 ∷ 0x50 ∷ []) bytes >>= λ m. number_at w16 m.1 >>= λ n. by_number n.0 n.1

pub parsed_begins : (bytes : List ℕ) → Begins parsed bytes 4 6
parsed_begins =
    magic_then (0xD7 ∷ 0x53 ∷ 0x54 ∷ 0x50 ∷ []) 2 (λ m. number_at w16 m.1 >>= λ n. by_number n.0 n.1)
    (late_then (number_at w16) (λ n. by_number n.0 n.1) 2 0 (number_local w16)
    (number_short w16 2 (let le : 2 ≤ 2 = omega arith in le)) version_then)
