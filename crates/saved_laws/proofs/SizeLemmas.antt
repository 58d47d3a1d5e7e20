-- A saved form is no longer than its code's numbers say: `saved_short`.
use Rattle.std.proofs.Common.{◌≡◌, ℕ, suc, ◌+◌, ◌*◌, ◌≤◌, List, [], ◌∷◌, ◌++◌, length, sum_by, refl, arith}
use Rattle.std.proofs.lemmas.List.{length-append}
use Rattle.std.proofs.lemmas.List.Sums.{sum_by-cons}
use Rattle.std.specs.List.{flat_map}
use Rattle.std.specs.Int.{w8, w16, w32, w64}
use Rattle.tester_types.specs.declared.wave.Event.{Event}
use Rattle.tester_types.specs.declared.wave.Wave.{Wave}
use Rattle.tester_types.specs.declared.wave.Table.{Table}
use Rattle.tester_types.specs.Acts.{act_code}
use Rattle.packed_code.specs.declared.instr.Instr.{Instr}
use Rattle.packed_code.specs.declared.parts.CodeSignal.{CodeSignal}
use Rattle.packed_code.specs.declared.parts.CodeChain.{CodeChain}
use Rattle.packed_code.specs.Packed.{number, instr}
use Rattle.packed_code.specs.Program.{Exec, Program}
use Rattle.packed_code.specs.Conditions.{EachBehind, IsRow, wave_count}
use Rattle.packed_code.proofs.PackedLemmas.{instr_size}
use Rattle.page_code.specs.declared.version.Version.{Version}
use Rattle.page_code.specs.Spelling.{text, signal, event, wave, table, behind, row, chain, exec, earlier, later}
use Rattle.page_code.proofs.SizeLemmas.{length-8, length-16, length-32, length-64, length-row}
use Rattle.saved_laws.specs.Size.{events_in, cells_in, chain_names, exec_names, SavedIsShort}

-- ---- fields

long-text : (t : List ℕ) → length (text t) ≡ 2 + length t
long-text t = omega (arith, length-append (number w16 (length t)) t, length-16 (length t))

-- ---- lists of parts

signals-long : (ss : List CodeSignal) → length (flat_map signal ss) ≡ 3 * length ss + sum_by
    (λ (s : CodeSignal). length s.name) ss
signals-long [] = refl
signals-long (s ∷ ss) =
    omega (
      arith,
      length-append (signal s) (flat_map signal ss),
      long-text s.name,
      sum_by-cons (λ (s : CodeSignal). length s.name) s ss,
      signals-long ss,
    )

events-long : (es : List Event) → length (flat_map event es) ≡ 9 * length es
events-long [] = refl
events-long (e ∷ es) =
    omega (
      arith,
      length-append (event e) (flat_map event es),
      length-append (number w64 e.time) (act_code e.act ∷ []),
      length-64 e.time,
      events-long es,
    )

waves-long : (ws : List Wave) → length (flat_map wave ws) ≡ 4 * length ws + 9 * sum_by (λ (w : Wave). length w.events) ws
waves-long [] = refl
waves-long (w ∷ ws) =
    omega (
      arith,
      length-append (wave w) (flat_map wave ws),
      length-append (number w16 w.signal) (w.character ∷ (number w8 (length w.events) ++ flat_map event w.events)),
      length-16 w.signal,
      length-append (number w8 (length w.events)) (flat_map event w.events),
      length-8 (length w.events),
      events-long w.events,
      sum_by-cons (λ (w : Wave). length w.events) w ws,
      waves-long ws,
    )

tables-long : (ts : List Table) → length (flat_map table ts)
    ≡ 14 * length ts + sum_by (λ (t : Table). length t.name) ts + 4 * wave_count ts + 9 * sum_by events_in ts
tables-long [] = refl
tables-long (t ∷ ts) =
    omega (
      arith,
      length-append (table t) (flat_map table ts),
      length-append (text t.name) (number w64 t.period ++ (number w32 (length t.waves) ++ flat_map wave t.waves)),
      long-text t.name,
      length-append (number w64 t.period) (number w32 (length t.waves) ++ flat_map wave t.waves),
      length-64 t.period,
      length-append (number w32 (length t.waves)) (flat_map wave t.waves),
      length-32 (length t.waves),
      waves-long t.waves,
      sum_by-cons (λ (t : Table). length t.name) t ts,
      sum_by-cons (λ (t : Table). length t.waves) t ts,
      sum_by-cons events_in t ts,
      tables-long ts,
    )

cells-long : (cs : List (List ℕ)) → length (flat_map text cs) ≡ 2 * length cs + sum_by (λ (c : List ℕ). length c) cs
cells-long [] = refl
cells-long (c ∷ cs) =
    omega (
      arith,
      length-append (text c) (flat_map text cs),
      long-text c,
      sum_by-cons (λ (c : List ℕ). length c) c cs,
      cells-long cs,
    )

chains-long : (cs : List CodeChain) → length (flat_map chain cs) ≡ 12 * length cs + 2 * cells_in cs + sum_by chain_names cs
chains-long [] = refl
chains-long (c ∷ cs) =
    omega (
      arith,
      length-append (chain c) (flat_map chain cs),
      length-append (text c.name) (number w16 c.out ++ (number w32 c.length ++
          (number w32 (length c.cells) ++ flat_map text c.cells))),
      long-text c.name,
      length-append (number w16 c.out) (number w32 c.length ++ (number w32 (length c.cells) ++ flat_map text c.cells)),
      length-16 c.out,
      length-append (number w32 c.length) (number w32 (length c.cells) ++ flat_map text c.cells),
      length-32 c.length,
      length-append (number w32 (length c.cells)) (flat_map text c.cells),
      length-32 (length c.cells),
      cells-long c.cells,
      sum_by-cons (λ (c : CodeChain). length c.cells) c cs,
      sum_by-cons chain_names c cs,
      chains-long cs,
    )

instrs-long : (is : List Instr) → length (flat_map instr is) ≡ 16 * length is
instrs-long [] = refl
instrs-long (i ∷ is) = omega (arith, length-append (instr i) (flat_map instr is), instr_size i, instrs-long is)

execs-long : (es : List Exec) → length (flat_map exec es)
    ≡ 8 * length es + sum_by exec_names es + 12 * sum_by (λ (x : Exec). length x.chains) es
    + 2 * sum_by (λ (x : Exec). cells_in x.chains) es + 16 * sum_by (λ (x : Exec). length x.instrs) es
execs-long [] = refl
execs-long (e ∷ es) =
    omega (
      arith,
      length-append (exec e) (flat_map exec es),
      length-append (text e.name) (number w16 (length e.chains) ++
          (flat_map chain e.chains ++ (number w32 (length e.instrs) ++ flat_map instr e.instrs))),
      long-text e.name,
      length-append (number w16 (length e.chains))
          (flat_map chain e.chains ++ (number w32 (length e.instrs) ++ flat_map instr e.instrs)),
      length-16 (length e.chains),
      length-append (flat_map chain e.chains) (number w32 (length e.instrs) ++ flat_map instr e.instrs),
      chains-long e.chains,
      length-append (number w32 (length e.instrs)) (flat_map instr e.instrs),
      length-32 (length e.instrs),
      instrs-long e.instrs,
      sum_by-cons exec_names e es,
      sum_by-cons (λ (x : Exec). length x.chains) e es,
      sum_by-cons (λ (x : Exec). cells_in x.chains) e es,
      sum_by-cons (λ (x : Exec). length x.instrs) e es,
      execs-long es,
    )

-- ---- rows

rows-long : (version : Version) (signals : ℕ) (before rs : List (List ℕ)) → EachBehind (IsRow signals) before rs
    → length (behind (row version) before rs) ≤ length rs * signals + length rs
rows-long version signals before [] each = omega arith
rows-long version signals before (r ∷ rs) each =
    let behind_it = rows-long version signals (before ++ r ∷ []) rs each.1 in
    let more : suc (length rs) * signals ≡ length rs * signals + signals = grind arith in
    omega (
      arith,
      length-append (row version before r) (behind (row version) (before ++ r ∷ []) rs),
      length-row version signals before r each.0,
      behind_it,
      more,
    )

-- ---- the whole

earlier-long : (p : Program) → length (earlier p)
    ≡ 4 + length (flat_map signal p.signals) + length (flat_map table p.tables)
earlier-long p =
    omega (
      arith,
      length-16 (length p.signals),
      length-16 (length p.tables),
      length-append (number w16 (length p.signals))
          (flat_map signal p.signals ++ (number w16 (length p.tables) ++ flat_map table p.tables)),
      length-append (flat_map signal p.signals) (number w16 (length p.tables) ++ flat_map table p.tables),
      length-append (number w16 (length p.tables)) (flat_map table p.tables),
    )

later-long : (version : Version) (p : Program) → length (later version p)
    ≡ 6 + length (behind (row version) [] p.rows) + length (flat_map exec p.execs)
later-long version p =
    omega (
      arith,
      length-32 (length p.rows),
      length-16 (length p.execs),
      length-append (number w32 (length p.rows)) (behind (row version) [] p.rows ++
          (number w16 (length p.execs) ++ flat_map exec p.execs)),
      length-append (behind (row version) [] p.rows) (number w16 (length p.execs) ++ flat_map exec p.execs),
      length-append (number w16 (length p.execs)) (flat_map exec p.execs),
    )

pub saved_short : SavedIsShort
saved_short version p is =
    let signals = signals-long p.signals in
    let tables = tables-long p.tables in
    let rows = rows-long version (length p.signals) [] p.rows is.rows in
    let execs = execs-long p.execs in
    omega
    (arith, length-append (earlier p) (later version p), earlier-long p, later-long version p, signals, tables, rows, execs)
