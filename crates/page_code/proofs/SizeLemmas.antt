-- A saved program has fewer bytes than 64 bits count.
use Rattle.std.proofs.Common.{◌≡◌, ℕ, ◌*◌, ◌^◌, ◌+◌, ◌<◌, ◌≤◌, suc, ltb, List, [], ◌∷◌, ◌++◌, length, refl, arith, inl, inr}
use Rattle.std.proofs.lemmas.Bool.{cases_Bool, and_parts, ltb-true}
use Rattle.std.specs.List.{AllByRecursion, flat_map}
use Rattle.std.specs.Int.{w8, w16, w32, w64}
use Rattle.std.proofs.lemmas.List.{length-append}
use Rattle.packed_code.proofs.Lists.{behind_all}
use Rattle.packed_code.proofs.PackedLemmas.{instr_size}
use Rattle.tester_types.specs.declared.wave.Event.{Event}
use Rattle.tester_types.specs.declared.wave.Wave.{Wave}
use Rattle.tester_types.specs.declared.wave.Table.{Table}
use Rattle.packed_code.specs.declared.instr.Instr.{Instr}
use Rattle.page_code.specs.declared.version.Version.{Version}
use Rattle.page_code.specs.declared.version.Version.TheVariants.{One, Two}
use Rattle.packed_code.specs.declared.parts.CodeSignal.{CodeSignal}
use Rattle.packed_code.specs.declared.parts.CodeChain.{CodeChain}
use Rattle.tester_types.specs.Acts.{act_code}
use Rattle.packed_code.specs.Program.{Exec, Program}
use Rattle.packed_code.specs.Conditions.{EachBehind, IsText, IsName, IsSignal, IsWave, IsTable, IsRow, IsChain, IsExec, IsProgram}
use Rattle.page_code.specs.Changes.{last_row, changes, is_shorter, is_difference}
use Rattle.packed_code.specs.Packed.{number, instr}
use Rattle.page_code.specs.Spelling.{text, signal, event, wave, table, behind, change, difference, row, chain, exec, earlier, later, program}

-- ---- lists

pub length-flat_map-le : {A : Type 0} (f : A → List ℕ) (most : ℕ) (xs : List A) → AllByRecursion (λ x. length (f x) ≤ most) xs
    → length (flat_map f xs) ≤ length xs * most
length-flat_map-le f most [] all = omega arith
length-flat_map-le f most (x ∷ xs) all = omega (arith, length-append (f x) (flat_map f xs), length-flat_map-le f most xs all.1, all.0)

-- ---- parts

pub length-16 : (n : ℕ) → length (number w16 n) ≡ 2
unfolding number
length-16 n = refl

pub length-32 : (n : ℕ) → length (number w32 n) ≡ 4
unfolding number
length-32 n = refl

pub length-64 : (n : ℕ) → length (number w64 n) ≡ 8
unfolding number
length-64 n = refl

pub length-8 : (n : ℕ) → length (number w8 n) ≡ 1
unfolding number
length-8 n = refl

pub length-text : (t : List ℕ) → IsText t → length (text t) ≤ 1026
length-text t fits =
    let short : length t ≤ 1024 = fits.short in
    omega (arith, length-append (number w16 (length t)) t, length-16 (length t))

length-signal : (before : List CodeSignal) (s : CodeSignal) → IsSignal before s → length (signal s) ≤ 1027
length-signal before s fits = omega (arith, length-text s.name fits.name.text)

length-event : (e : Event) → length (event e) ≤ 9
length-event e = omega (arith, length-append (number w64 e.time) (act_code e.act ∷ []), length-64 e.time)

all_events : (es : List Event) → AllByRecursion (λ e. length (event e) ≤ 9) es
all_events [] = tt
all_events (e ∷ es) = (length-event e, all_events es)

length-wave : (signals period most : ℕ) (before : List Wave) (w : Wave) → IsWave signals period most before w → length (wave w) ≤ 148
length-wave signals period most before w fits =
    let few : length w.events ≤ 16 = fits.few in
    omega (
      arith,
      length-append (number w16 w.signal) (w.character ∷ (number w8 (length w.events) ++ flat_map event w.events)),
      length-16 w.signal,
      length-append (number w8 (length w.events)) (flat_map event w.events),
      length-8 (length w.events),
      length-flat_map-le event 9 w.events (all_events w.events),
    )

length-table : (signals : ℕ) (before : List Table) (t : Table) → IsTable signals before t → length (table t) ≤ 2 ^ 40
length-table signals before t fits =
    let waves = length-flat_map-le wave 148 t.waves (behind_all _ (λ w. length (wave w) ≤ 148) (length-wave signals t.period _) [] t.waves fits.waves) in
    let count : length t.waves < 2 ^ 32 = fits.count in
    omega (
      arith,
      waves,
      length-text t.name fits.name.text,
      length-64 t.period,
      length-32 (length t.waves),
      length-append (text t.name) (number w64 t.period ++ (number w32 (length t.waves) ++ flat_map wave t.waves)),
      length-append (number w64 t.period) (number w32 (length t.waves) ++ flat_map wave t.waves),
      length-append (number w32 (length t.waves)) (flat_map wave t.waves),
    )

pub length-changes : (cs : List (ℕ × ℕ)) → length (flat_map change cs) ≡ 3 * length cs
length-changes [] = refl
length-changes (c ∷ cs) =
    omega (
      arith,
      length-append (change c) (flat_map change cs),
      length-append (number w16 c.0) (c.1 ∷ []),
      length-16 c.0,
      length-changes cs,
    )

pub length-difference : (cs : List (ℕ × ℕ)) → length (difference cs) ≡ 3 * length cs + 2
length-difference cs =
    omega (arith, length-append (number w16 (length cs)) (flat_map change cs), length-16 (length cs), length-changes cs)

pub length-row : (version : Version) (signals : ℕ) (before : List (List ℕ)) (r : List ℕ) → IsRow signals before r
    → length (row version before r) ≤ suc signals
length-row One signals before r fits = omega (arith, fits.places)
length-row Two signals before r fits =
    elim (cases_Bool (is_difference before r)) [
      | inl changed ↦
          let cs = changes 0 (last_row before) r in
          let short = ltb-true (3 * length cs + 2) (length r) (and_parts (ltb 0 (length before)) (is_shorter (length cs) (length r)) changed).1 in
          rw changed (omega (arith, fits.places, short, length-difference cs))
      | inr whole ↦ rw whole (omega (arith, fits.places))
    ]

-- items that are spelled behind those before them
length-behind-le : {A : Type 0} (spell : List A → A → List ℕ) (Fits : List A → A → Type 0) (most : ℕ)
    → ((before : List A) (x : A) → Fits before x → length (spell before x) ≤ suc most)
    → (before xs : List A) → EachBehind Fits before xs → length (behind spell before xs) ≤ length xs * most + length xs
length-behind-le spell Fits most few before [] each = omega arith
length-behind-le spell Fits most few before (x ∷ xs) each =
    omega (
      arith,
      length-append (spell before x) (behind spell (before ++ x ∷ []) xs),
      few before x each.0,
      length-behind-le spell Fits most few (before ++ x ∷ []) xs each.1,
    )

length-chain : (signals : ℕ) (before : List CodeChain) (c : CodeChain) → IsChain signals c → length (chain c) ≤ 2 ^ 31
length-chain signals before c fits =
    let cells = length-flat_map-le text 1026 c.cells (behind_all (λ (b : List (List ℕ)) (t : List ℕ). IsName t) (λ (t : List ℕ). length (text t) ≤ 1026) (λ b t name. length-text t name.text) [] c.cells fits.cells) in
    let count : length c.cells ≤ 2 ^ 20 = fits.count in
    omega (
      arith,
      cells,
      length-text c.name fits.name.text,
      length-16 c.out,
      length-32 c.length,
      length-32 (length c.cells),
      length-append (text c.name) (number w16 c.out ++ (number w32 c.length ++ (number w32 (length c.cells) ++ flat_map text c.cells))),
      length-append (number w16 c.out) (number w32 c.length ++ (number w32 (length c.cells) ++ flat_map text c.cells)),
      length-append (number w32 c.length) (number w32 (length c.cells) ++ flat_map text c.cells),
      length-append (number w32 (length c.cells)) (flat_map text c.cells),
    )

all_instrs : (is : List Instr) → AllByRecursion (λ i. length (instr i) ≤ 16) is
all_instrs [] = tt
all_instrs (i ∷ is) = (omega (arith, instr_size i), all_instrs is)

length-exec : (signals : ℕ) (tables : List Table) (rows : List (List ℕ)) (before : List Exec) (e : Exec) → IsExec signals tables rows e
    → length (exec e) ≤ 2 ^ 40
length-exec signals tables rows before e fits =
    let chains = length-flat_map-le chain (2 ^ 31) e.chains (behind_all (λ (b : List CodeChain) (c : CodeChain). IsChain signals c) (λ c. length (chain c) ≤ 2 ^ 31) (length-chain signals) [] e.chains fits.chains) in
    let few : length e.chains ≤ 256 = fits.few_chains in
    let some : length e.instrs ≤ 4194305 = fits.few_instrs in
    omega (
      arith,
      chains,
      length-flat_map-le instr 16 e.instrs (all_instrs e.instrs),
      length-text e.name fits.name,
      length-16 (length e.chains),
      length-32 (length e.instrs),
      length-append (text e.name) (number w16 (length e.chains) ++ (flat_map chain e.chains ++ (number w32 (length e.instrs) ++ flat_map instr e.instrs))),
      length-append (number w16 (length e.chains)) (flat_map chain e.chains ++ (number w32 (length e.instrs) ++ flat_map instr e.instrs)),
      length-append (flat_map chain e.chains) (number w32 (length e.instrs) ++ flat_map instr e.instrs),
      length-append (number w32 (length e.instrs)) (flat_map instr e.instrs),
    )

length-earlier : (p : Program) → IsProgram p → length (earlier p) ≤ 2 ^ 53
length-earlier p is =
    let signals = length-flat_map-le signal 1027 p.signals (behind_all IsSignal (λ s. length (signal s) ≤ 1027) length-signal [] p.signals is.signals) in
    let tables = length-flat_map-le table (2 ^ 40) p.tables (behind_all (IsTable (length p.signals)) (λ t. length (table t) ≤ 2 ^ 40) (length-table (length p.signals)) [] p.tables is.tables) in
    let few_signals : length p.signals ≤ 1024 = is.few_signals in
    let few_tables : length p.tables ≤ 4096 = is.few_tables in
    omega (
      arith,
      signals,
      tables,
      length-16 (length p.signals),
      length-16 (length p.tables),
      length-append (number w16 (length p.signals)) (flat_map signal p.signals ++ (number w16 (length p.tables) ++ flat_map table p.tables)),
      length-append (flat_map signal p.signals) (number w16 (length p.tables) ++ flat_map table p.tables),
      length-append (number w16 (length p.tables)) (flat_map table p.tables),
    )

length-later : (version : Version) (p : Program) → IsProgram p → length (later version p) ≤ 2 ^ 53
length-later version p is =
    let rows = length-behind-le (row version) (IsRow (length p.signals)) (length p.signals) (length-row version (length p.signals)) [] p.rows is.rows in
    let execs = length-flat_map-le exec (2 ^ 40) p.execs (behind_all (λ (b : List Exec) (e : Exec). IsExec (length p.signals) p.tables p.rows e) (λ e. length (exec e) ≤ 2 ^ 40) (length-exec (length p.signals) p.tables p.rows) [] p.execs is.execs) in
    let few_rows : length p.rows * length p.signals ≤ 2 ^ 28 = is.few_rows in
    let count_rows : length p.rows < 2 ^ 32 = is.count_rows in
    let few_execs : length p.execs ≤ 64 = is.few_execs in
    omega (
      arith,
      rows,
      execs,
      length-32 (length p.rows),
      length-16 (length p.execs),
      length-append (number w32 (length p.rows)) (behind (row version) [] p.rows ++ (number w16 (length p.execs) ++ flat_map exec p.execs)),
      length-append (behind (row version) [] p.rows) (number w16 (length p.execs) ++ flat_map exec p.execs),
      length-append (number w16 (length p.execs)) (flat_map exec p.execs),
    )

pub length-program : (version : Version) (p : Program) → IsProgram p → length (program version p) < 2 ^ 60
length-program version p is = omega (arith, length-earlier p is, length-later version p is, length-append (earlier p) (later version p))
