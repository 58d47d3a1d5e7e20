-- What is read of heads and of whole codes is spelled so, and what is spelled so is read: in both versions.
use Rattle.std.proofs.Common.{◌≡◌, ℕ, ◌*◌, ◌^◌, ◌<◌, ◌≤◌, Bool, eqb, ltb, leb, ◌&&◌, List, [], ◌∷◌, ◌++◌, length, drop, Option, Some, None, Ok, refl, sym, ap, subst, ◌∙◌, append_assoc, arith}
use Rattle.std.specs.Int.{Width, w16, w32}
use Rattle.std.specs.List.{flat_map}
use Rattle.std.proofs.lemmas.Bool.{and_parts, and_from, ltb-true, leb-true, eqb-true, eq-eqb, lt-ltb, le-leb}
use Rattle.std.proofs.lemmas.List.{append-nil}
use Rattle.tester_types.specs.declared.wave.Table.{Table}
use Rattle.page_code.specs.declared.fault.Refusal.TheVariants.{BadMagic}
use Rattle.page_code.specs.declared.version.Version.{Version}
use Rattle.page_code.specs.declared.version.Version.TheVariants.{One, Two}
use Rattle.packed_code.specs.declared.parts.CodeSignal.{CodeSignal}
use Rattle.packed_code.specs.Program.{Exec, Program, code_of}
use Rattle.packed_code.specs.Conditions.{EachBehind, IsSignal, IsTable, IsRow, IsExec, IsProgram}
use Rattle.page_code.specs.Fields.{◌>>=◌, Read, number_at, checked, items_at}
use Rattle.packed_code.specs.Packed.{number}
use Rattle.page_code.specs.Spelling.{signal, table, behind, row, exec, version_number, head, earlier, later}
use Rattle.page_code.specs.Reading.{signal_at, table_at, row_at, exec_at, magic_at, version_of, known_version, head_at, program_at}
use Rattle.page_code.proofs.ReaderLaws.{IsReader, IsBytes, IsBytes-drop, bind_ok, ok_is, adapted, done_reader, then_reader, checked_reader, IsWide, wide16, wide32, number_reader, items_reader}
use Rattle.page_code.proofs.PartLaws.{IsBelow, IsNumber, AreItems, find_passes, taken, signal_reader, table_reader}
use Rattle.page_code.proofs.RowLaws.{rows_reader}
use Rattle.page_code.proofs.ExecLaws.{exec_reader}

-- ---- heads

-- the bytes with which each saved program begins
abbrev magic : List ℕ
magic = 0xD7 ∷ 0x53 ∷ 0x54 ∷ 0x50 ∷ []

magic_takes : (known bytes : List ℕ) (u : Unit {0}) (rest : List ℕ) → magic_at known bytes ≡ Ok (u, rest) → bytes ≡ known ++ rest
magic_takes [] bytes u rest e = ap (λ p. p.1) (ok_is (tt, bytes) (u, rest) e)
magic_takes (m ∷ known) [] u rest e = absurd cc
magic_takes (m ∷ known) (b ∷ bytes) u rest e =
    let c = taken (eqb b m) BadMagic (magic_at known bytes) (u, rest) e in
    let first : b ≡ m = eqb-true b m c.0 in
    ap (λ (x : ℕ). x ∷ bytes) first ∙ ap (λ (x : List ℕ). m ∷ x) (magic_takes known bytes u rest c.1)

magic_again : (known rest : List ℕ) → magic_at known (known ++ rest) ≡ Ok (tt, rest)
magic_again [] rest = refl
magic_again (m ∷ known) rest = rw (eq-eqb m m refl) (magic_again known rest)

magic_reader : IsReader (magic_at magic) (λ (u : Unit {0}). magic) (λ u. Unit {0})
magic_reader = record {
  takes = λ bytes u rest fits e.
      let is = magic_takes magic bytes u rest e in (is, subst (λ (x : List ℕ). IsBytes (drop 4 x)) is (IsBytes-drop 4 bytes fits), tt);
  again = λ u rest fits. magic_again magic rest;
}

known_is : (o : Option Version) (rest : List ℕ) (v : Version) (after : List ℕ) → known_version o rest ≡ Ok (v, after)
    → (o ≡ Some v) × (rest ≡ after)
known_is None rest v after e = absurd cc
known_is (Some w) rest v after e =
    let same = ok_is (w, rest) (v, after) e in (ap (λ p. Some p.0) same, ap (λ p. p.1) same)

version_is : (n : ℕ) (v : Version) → version_of n ≡ Some v → version_number v ≡ n
version_is n v e = eqb-true (version_number v) n (find_passes (λ version. eqb (version_number version) n) (One ∷ Two ∷ []) v e)

version_again : (v : Version) → version_of (version_number v) ≡ Some v
version_again One = refl
version_again Two = refl

is_zero_reader : IsReader (checked (number_at w16) (λ n. eqb n 0)) (number w16) (IsNumber (2 ^ 16) (λ n. eqb n 0))
is_zero_reader = checked_reader (number_at w16) (number w16) (IsBelow (2 ^ 16)) (λ n. eqb n 0) (number_reader w16 (2 ^ 16) wide16)

-- the zeros of a head, and the version
abbrev zeros_at : Version × List ℕ → Read Version
zeros_at v = checked (number_at w16) (λ n. eqb n 0) v.1 >>= λ zeros. Ok (v.0, zeros.1)

version_reader : (n : ℕ) → IsReader (λ bytes. known_version (version_of n) bytes >>= zeros_at) (λ v. number w16 0) (λ v. version_number v ≡ n)
version_reader n = record {
  takes = λ bytes v rest fits e.
      let step = bind_ok (known_version (version_of n) bytes) zeros_at (v, rest) e in
      let known = known_is (version_of n) bytes step.0.0 step.0.1 step.1 in
      let zeros = bind_ok (checked (number_at w16) (λ n. eqb n 0) step.0.1) (λ zeros. Ok (step.0.0, zeros.1)) (v, rest) step.2 in
      let t = is_zero_reader.takes step.0.1 zeros.0.0 zeros.0.1 (subst IsBytes known.1 fits) zeros.1 in
      let same = ok_is (step.0.0, zeros.0.1) (v, rest) zeros.2 in
      let none : zeros.0.0 ≡ 0 = eqb-true zeros.0.0 0 t.2.1 in
      let end : zeros.0.1 ≡ rest = ap (λ p. p.1) same in (
        known.1 ∙ t.0 ∙ ap (λ (k : ℕ). number w16 k ++ zeros.0.1) none ∙ ap (λ (x : List ℕ). number w16 0 ++ x) end,
        subst IsBytes end t.1,
        ap version_number (sym (ap (λ p. p.0) same)) ∙ version_is n step.0.0 known.0,
      );
  again = λ v rest is.
      ap (λ (k : ℕ). known_version (version_of k) (number w16 0 ++ rest) >>= zeros_at) (sym is)
      ∙ ap (λ o. known_version o (number w16 0 ++ rest) >>= zeros_at) (version_again v)
      ∙ ap (λ r. r >>= λ zeros. Ok (v, zeros.1)) (is_zero_reader.again 0 rest (omega arith, refl));
}

head_is : (v : Version) → magic ++ (number w16 (version_number v) ++ number w16 0) ≡ head v
unfolding number
head_is One = refl
head_is Two = refl

small_version : (v : Version) → version_number v < 2 ^ 16
small_version One = omega arith
small_version Two = omega arith

pub head_reader : IsReader head_at head (λ v. Unit {0})
unfolding head_at
head_reader =
    adapted head_at _ head _ (λ v. Unit {0})
    (then_reader (magic_at magic) (λ u. magic) (λ u. Unit {0}) (λ m. number_at w16 m.1 >>= λ n. known_version (version_of n.0) n.1 >>= zeros_at)
    (λ v. number w16 (version_number v) ++ number w16 0)
    (λ u v. IsBelow (2 ^ 16) (version_number v) × (version_number v ≡ version_number v))
    (λ v. tt) magic_reader
    (λ u h. then_reader (number_at w16) (number w16) (IsBelow (2 ^ 16)) (λ n. known_version (version_of n.0) n.1 >>= zeros_at)
    (λ v. number w16 0) (λ n v. version_number v ≡ n) version_number (number_reader w16 (2 ^ 16) wide16)
    (λ n h. version_reader n) (λ n v is. is))
    (λ u v g. refl))
    (λ v f. tt) (λ v f. (tt, (small_version v, refl))) (λ v f. head_is v)

-- ---- items behind their count

-- as many as a test wants, and each as it should be
record AreCounted {A : Type 0} (limit : ℕ) (test : ℕ → Bool) (Fits : List A → A → Type 0) (items : List A) : Type 0 where
  pub counted : IsNumber limit test (length items)
  pub each : EachBehind Fits [] items

-- a count, so many items, and then the rest by them
counted_then : {A B : Type 0} (w : Width) (limit : ℕ) (test : ℕ → Bool) (one : List A → List ℕ → Read A) (s : List A → List ℕ)
    (Fits : List A → A → Type 0) (next : List A × List ℕ → Read B) (s' : B → List ℕ) (G : List A → B → Type 0) (of : B → List A)
    → IsWide w limit → ((count : ℕ) → IsReader (items_at one count []) s (AreItems Fits count))
    → ((items : List A) → AreCounted limit test Fits items → IsReader (λ bytes. next (items, bytes)) s' (G items))
    → ((items : List A) (b : B) → G items b → of b ≡ items)
    → IsReader (λ bytes. checked (number_at w) test bytes >>= λ n. items_at one n.0 [] n.1 >>= next)
    (λ b. number w (length (of b)) ++ (s (of b) ++ s' b)) (λ b. AreCounted limit test Fits (of b) × G (of b) b)
counted_then w limit test one s Fits next s' G of wide items second back =
    adapted _ _ (λ b. number w (length (of b)) ++ (s (of b) ++ s' b)) _ (λ b. AreCounted limit test Fits (of b) × G (of b) b)
    (then_reader (checked (number_at w) test) (number w) (IsNumber limit test) (λ n. items_at one n.0 [] n.1 >>= next)
    (λ b. s (of b) ++ s' b) (λ n b. AreItems Fits n (of b) × G (of b) b) (λ b. length (of b))
    (checked_reader (number_at w) (number w) (IsBelow limit) test (number_reader w limit wide))
    (λ n h. then_reader (items_at one n []) s (AreItems Fits n) next s' G of (items n)
    (λ xs f. second xs (record { counted = subst (IsNumber limit test) (sym f.0) h; each = f.1 })) back)
    (λ n b g. g.0.0))
    (λ b f. (record { counted = f.0; each = f.1.0.1 }, f.1.1))
    (λ b f. (f.0.counted, ((refl, f.0.each), f.1)))
    (λ b f. refl)

-- ---- whole codes, from their last part on

abbrev AreSignals : List CodeSignal → Type 0
AreSignals = AreCounted (2 ^ 16) (λ n. leb n 1024) IsSignal

abbrev AreTables : ℕ → List Table → Type 0
AreTables signals = AreCounted (2 ^ 16) (λ n. leb n 4096) (IsTable signals)

abbrev AreRows : ℕ → List (List ℕ) → Type 0
AreRows signals = AreCounted (2 ^ 32) (λ n. leb (n * signals) (2 ^ 28)) (IsRow signals)

abbrev AreExecs : ℕ → List Table → List (List ℕ) → List Exec → Type 0
AreExecs signals tables rows =
    AreCounted (2 ^ 16) (λ n. ltb 0 n && leb n 64) (λ (before : List Exec) (e : Exec). IsExec signals tables rows e)

few_signals : (s : List CodeSignal) → AreSignals s → length s ≤ 1024
few_signals s f = leb-true (length s) 1024 f.counted.1

-- executives, where signals, tables and rows were read
abbrev execs_at : List CodeSignal → List Table → List (List ℕ) → List ℕ → Read Program
execs_at s t r bytes =
    checked (number_at w16) (λ count. ltb 0 count && leb count 64) bytes
    >>= λ c. items_at (λ before. exec_at (length s) t r) c.0 [] c.1 >>= λ e. Ok (code_of s t r e.0, e.1)

abbrev IsOfRows : List CodeSignal → List Table → List (List ℕ) → Program → Type 0
IsOfRows s t r p = AreExecs (length s) t r p.execs × (p ≡ code_of s t r p.execs)

execs_reader : (s : List CodeSignal) (t : List Table) (r : List (List ℕ)) → AreSignals s → AreTables (length s) t → AreRows (length s) r
    → IsReader (execs_at s t r) (λ p. number w16 (length p.execs) ++ (flat_map exec p.execs ++ [])) (IsOfRows s t r)
execs_reader s t r signals tables rows =
    counted_then w16 (2 ^ 16) (λ n. ltb 0 n && leb n 64) (λ before. exec_at (length s) t r) (flat_map exec)
    (λ before e. IsExec (length s) t r e) (λ e. Ok (code_of s t r e.0, e.1)) (λ p. []) (λ e p. p ≡ code_of s t r e) (λ p. p.execs) wide16
    (items_reader (λ before. exec_at (length s) t r) exec (λ before e. IsExec (length s) t r e)
    (λ before. exec_reader (length s) t r (few_signals s signals) (leb-true (length t) 4096 tables.counted.1) rows.counted.0))
    (λ e are. done_reader (code_of s t r e)) (λ e p is. ap (λ (m : Program). m.execs) is)

-- rows and executives, where signals and tables were read
abbrev later_at : Version → List CodeSignal → List Table → List ℕ → Read Program
later_at v s t bytes =
    checked (number_at w32) (λ count. leb (count * length s) (2 ^ 28)) bytes
    >>= λ c. items_at (row_at v (length s)) c.0 [] c.1 >>= λ r. execs_at s t r.0 r.1

abbrev IsOfTables : List CodeSignal → List Table → Program → Type 0
IsOfTables s t p = AreRows (length s) p.rows × IsOfRows s t p.rows p

later_reader : (v : Version) (s : List CodeSignal) (t : List Table) → AreSignals s → AreTables (length s) t
    → IsReader (later_at v s t) (λ p. number w32 (length p.rows) ++ (behind (row v) [] p.rows
    ++ (number w16 (length p.execs) ++ (flat_map exec p.execs ++ [])))) (IsOfTables s t)
later_reader v s t signals tables =
    counted_then w32 (2 ^ 32) (λ n. leb (n * length s) (2 ^ 28)) (row_at v (length s)) (behind (row v) []) (IsRow (length s))
    (λ r. execs_at s t r.0 r.1) _ (IsOfRows s t) (λ p. p.rows) wide32
    (λ count. rows_reader v (length s) count (few_signals s signals))
    (λ r are. execs_reader s t r signals tables are) (λ r p is. ap (λ (m : Program). m.rows) is.1)

-- tables, rows and executives, where signals were read
abbrev tables_at : Version → List CodeSignal → List ℕ → Read Program
tables_at v s bytes =
    checked (number_at w16) (λ count. leb count 4096) bytes
    >>= λ c. items_at (table_at (length s)) c.0 [] c.1 >>= λ t. later_at v s t.0 t.1

abbrev IsOfSignals : List CodeSignal → Program → Type 0
IsOfSignals s p = AreTables (length s) p.tables × IsOfTables s p.tables p

tables_reader : (v : Version) (s : List CodeSignal) → AreSignals s
    → IsReader (tables_at v s) (λ p. number w16 (length p.tables) ++ (flat_map table p.tables
    ++ (number w32 (length p.rows) ++ (behind (row v) [] p.rows
    ++ (number w16 (length p.execs) ++ (flat_map exec p.execs ++ [])))))) (IsOfSignals s)
tables_reader v s signals =
    counted_then w16 (2 ^ 16) (λ n. leb n 4096) (table_at (length s)) (flat_map table) (IsTable (length s))
    (λ t. later_at v s t.0 t.1) _ (IsOfTables s) (λ p. p.tables) wide16
    (items_reader (table_at (length s)) table (IsTable (length s)) (table_reader (length s) (few_signals s signals)))
    (λ t are. later_reader v s t signals are) (λ t p is. ap (λ (m : Program). m.tables) is.1.1)

program_raw : (v : Version) → IsReader (program_at v) (λ p. number w16 (length p.signals) ++ (flat_map signal p.signals
    ++ (number w16 (length p.tables) ++ (flat_map table p.tables
    ++ (number w32 (length p.rows) ++ (behind (row v) [] p.rows
    ++ (number w16 (length p.execs) ++ (flat_map exec p.execs ++ [])))))))) (λ p. AreSignals p.signals × IsOfSignals p.signals p)
unfolding program_at
program_raw v =
    counted_then w16 (2 ^ 16) (λ n. leb n 1024) signal_at (flat_map signal) IsSignal
    (λ s. tables_at v s.0 s.1) _ IsOfSignals (λ p. p.signals) wide16
    (items_reader signal_at signal IsSignal signal_reader)
    (λ s are. tables_reader v s are) (λ s p is. ap (λ (m : Program). m.signals) is.1.1.1)

-- the parts of a code fit exactly where it meets the conditions
parts_fit : (p : Program) → AreSignals p.signals × IsOfSignals p.signals p → IsProgram p
parts_fit p f =
    let tables = f.1.0 in
    let rows = f.1.1.0 in
    let execs = f.1.1.1.0 in
    let some = and_parts (ltb 0 (length p.execs)) (leb (length p.execs) 64) execs.counted.1 in
    record {
      few_signals = leb-true (length p.signals) 1024 f.0.counted.1;
      signals = f.0.each;
      few_tables = leb-true (length p.tables) 4096 tables.counted.1;
      tables = tables.each;
      count_rows = rows.counted.0;
      few_rows = leb-true (length p.rows * length p.signals) (2 ^ 28) rows.counted.1;
      rows = rows.each;
      some_execs = ltb-true 0 (length p.execs) some.0;
      few_execs = leb-true (length p.execs) 64 some.1;
      execs = execs.each;
    }

fit_parts : (p : Program) → IsProgram p → AreSignals p.signals × IsOfSignals p.signals p
fit_parts p is =
    let few_signals : length p.signals ≤ 1024 = is.few_signals in
    let few_tables : length p.tables ≤ 4096 = is.few_tables in
    let few_execs : length p.execs ≤ 64 = is.few_execs in
    let some = and_from (ltb 0 (length p.execs)) (leb (length p.execs) 64) (lt-ltb 0 _ is.some_execs) (le-leb _ 64 few_execs) in (
      record { counted = (omega arith, le-leb _ 1024 few_signals); each = is.signals },
      (
        record { counted = (omega arith, le-leb _ 4096 few_tables); each = is.tables },
        (
          record { counted = (is.count_rows, le-leb _ (2 ^ 28) is.few_rows); each = is.rows },
          (record { counted = (omega arith, some); each = is.execs }, refl),
        ),
      ),
    )

-- two lists behind one another, and what comes behind both
parted : (a b c d e : List ℕ) → a ++ (b ++ (c ++ (d ++ e))) ≡ (a ++ (b ++ (c ++ d))) ++ e
parted a b c d e = simp append_assoc refl

pub program_reader : (v : Version) → IsReader (program_at v) (λ p. earlier p ++ later v p) IsProgram
program_reader v =
    adapted (program_at v) _ (λ p. earlier p ++ later v p) _ IsProgram (program_raw v) parts_fit fit_parts
    (λ p f.
    ap (λ (x : List ℕ). number w16 (length p.signals) ++ (flat_map signal p.signals ++ (number w16 (length p.tables)
    ++ (flat_map table p.tables ++ (number w32 (length p.rows) ++ (behind (row v) [] p.rows ++ (number w16 (length p.execs) ++ x)))))))
    (append-nil (flat_map exec p.execs))
    ∙ parted (number w16 (length p.signals)) (flat_map signal p.signals) (number w16 (length p.tables)) (flat_map table p.tables) (later v p))
