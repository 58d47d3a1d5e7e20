-- One executive more: its fault, part by part, and what is made of it.
use Rattle.std.proofs.Common.{◌≡◌, ℕ, ◌+◌, ◌*◌, ◌^◌, ◌<◌, ◌≤◌, Bool, true, false, cond, List, [], ◌∷◌, ◌++◌, length, map, Option, Some, None, refl, sym, ap, subst, ◌∙◌, append_assoc, arith}
use Rattle.std.specs.Prelude.{nat_le, sum_by, min}
use Rattle.std.specs.List.{flat_map, AllByRecursion}
use Rattle.std.proofs.lemmas.Bool.{le-leb, lt-leb, leb-true}
use Rattle.std.proofs.lemmas.List.{length-append, length-map, append-nil}
use Rattle.std.proofs.lemmas.List.Sums.{sum_by-append, sum_by-cons}
use Rattle.std.proofs.lemmas.Grind.{flat_map-append}
use Rattle.std.proofs.lemmas.Simd.{map-map}
use Rattle.text_bytes.specs.Limits.{most_measure, most_cycles, most_row_characters}
use Rattle.tester_types.specs.declared.wave.Table.{Table}
use Rattle.stil_ast.specs.Faults.Found.{fault_at, unless, or_else}
use Rattle.stil_ast.specs.Faults.BurstFaults.{exec_place}
use Rattle.stil_ast.specs.Faults.CodeFaults.{trees_fault, compile_fault, compile_faults}
use Rattle.stil_ast.specs.Meaning.ExecutiveData.{Tree, Executive, tree_run, trees_run, vectors_of, measure_of, rows_of, distinct_rows, row_of, tables_of}
use Rattle.stil_ast.specs.declared.fault.StilFault.{StilFault}
use Rattle.stil_ast.specs.declared.fault.StilKind.TheVariants.{TooLarge, TooManyCycles}
use Rattle.stil_ast.specs.Data.Texts.{has_name}
use Rattle.packed_code.specs.Meaning.{Means}
use Rattle.stil_ast.specs.Meaning.State.{State, start_of}
use Rattle.stil_ast.specs.Meaning.Flat.{Flat}
use Rattle.stil_ast.specs.Meaning.Running.{Made, outside}
use Rattle.packed_code.specs.Program.{Exec}
use Rattle.cycle_comp.specs.Counting.{vector_count}
use Rattle.cycle_comp.specs.Writing.{flats_measure}
use Rattle.cycle_comp.proofs.CountLemmas.{run-count}
use Rattle.cycle_comp.proofs.TreeLemmas.{measure_flats}
use Rattle.cycle_comp.proofs.NumberLemmas.{distinct_rows-once, nothing_twice}
use Rattle.cycle_comp.proofs.RowsOnce.{distinct_rows-append}
use Rattle.cycle_comp.proofs.EntryLemmas.{entries-more}
use Rattle.cycle_comp.specs.Written.{HasEachOnce, IsWritten}
use Rattle.packed_code.specs.declared.instr.Instr.{Instr}
use Rattle.cycle_comp.specs.Compiled.{chain_of}
use Rattle.cycle_comp.specs.Working.{size_fault, rows_fault, IsSized, IsInside, IsMade, AreMade, IsBuilt}
use Rattle.cycle_comp.specs.declared.building.Building.{Building}
use Rattle.burst_exec.proofs.WaveLemmas.{passed}
use Rattle.cycle_comp.proofs.ProgramLemmas.{tables_push}

-- a test in front of others
unless_or : (b : Bool) (f : StilFault) (r : Option StilFault) → unless b f r ≡ or_else (unless b f None) r
unless_or true f r = refl
unless_or false f r = refl

or_or : (a b c : Option StilFault) → or_else (or_else a b) c ≡ or_else a (or_else b c)
or_or None b c = refl
or_or (Some f) b c = refl

-- the measure of one executive more
pub measure_push : (before : List Executive) (e : Executive)
    → sum_by measure_of (before ++ e ∷ []) ≡ sum_by measure_of before + measure_of e
measure_push before e =
    let alone : sum_by measure_of (e ∷ []) ≡ measure_of e = omega (arith, sum_by-cons measure_of e []) in
    omega (arith, sum_by-append measure_of before (e ∷ []), alone)

-- the fault of an executive is that of its sizes, then that of its vectors, then that of the rows
pub fault_parts : (signals : ℕ) (before : List Executive) (e : Executive)
    → compile_fault signals before e
    ≡ or_else (size_fault (sum_by measure_of before) signals e)
    (or_else (trees_fault e.tables e.trees (start_of signals)) (rows_fault signals (rows_of signals (before ++ e ∷ [])) e))
fault_parts signals before e =
    let place = exec_place e.name e.line in
    let measured : ℕ → Bool = λ (n : ℕ). nat_le n most_measure in
    let counted : Bool = nat_le (length (vectors_of signals e)) most_cycles in
    let rest : Option StilFault =
    or_else (trees_fault e.tables e.trees (start_of signals)) (rows_fault signals (rows_of signals (before ++ e ∷ [])) e) in
    ap (λ (n : ℕ). unless (measured n) (fault_at place TooLarge) (unless counted (fault_at place TooManyCycles) rest))
    (measure_push before e)
    ∙ (unless_or (measured (sum_by measure_of before + measure_of e)) (fault_at place TooLarge) (unless counted (fault_at place TooManyCycles) rest)
    ∙ (ap (or_else (unless (measured (sum_by measure_of before + measure_of e)) (fault_at place TooLarge) None))
    (unless_or counted (fault_at place TooManyCycles) rest)
    ∙ (sym (or_or (unless (measured (sum_by measure_of before + measure_of e)) (fault_at place TooLarge) None)
    (unless counted (fault_at place TooManyCycles) None) rest)
    ∙ ap (λ (o : Option StilFault). or_else o rest)
    (sym (unless_or (measured (sum_by measure_of before + measure_of e)) (fault_at place TooLarge)
    (unless counted (fault_at place TooManyCycles) None))))))

-- ---- sizes

-- the measure of trees is that of their flat trees
pub measured : (e : Executive) (flats : List Flat) (n : ℕ) → map (λ (t : Tree). t.flat) e.trees ≡ flats
    → n ≡ min (flats_measure flats) (most_measure + 1) → n ≡ min (measure_of e) (most_measure + 1)
measured e flats n are is =
    is ∙ ap (λ (k : ℕ). min k (most_measure + 1)) (ap flats_measure (sym are) ∙ sym (measure_flats e.trees))

trees_count : (trees : List Tree) (s : State)
    → length (trees_run trees s).made ≡ sum_by vector_count (map (λ (t : Tree). t.flat) trees)
trees_count [] s = refl
trees_count (t ∷ trees) s =
    let r = tree_run t s in
    omega (
      arith,
      length-append r.made (trees_run trees r.here).made,
      run-count t.flat (outside s).held s,
      trees_count trees r.here,
      sum_by-cons vector_count t.flat (map (λ (t : Tree). t.flat) trees),
    )

-- and the number of vectors is that of their vectors
pub counted : (signals : ℕ) (e : Executive) (flats : List Flat) (n : ℕ) → map (λ (t : Tree). t.flat) e.trees ≡ flats
    → n ≡ min (sum_by vector_count flats) (most_cycles + 1)
    → n ≡ min (length (vectors_of signals e)) (most_cycles + 1)
counted signals e flats n are is =
    is
    ∙ ap (λ (k : ℕ). min k (most_cycles + 1))
    (ap (sum_by vector_count) (sym are)
    ∙ (sym (trees_count e.trees (start_of signals))
    ∙ sym (length-map (trees_run e.trees (start_of signals)).made (λ (m : Made). m.vector))))

pub size-many : (before signals : ℕ) (e : Executive) → before + measure_of e ≤ most_measure
    → most_cycles < length (vectors_of signals e)
    → size_fault before signals e ≡ Some (fault_at (exec_place e.name e.line) TooManyCycles)
size-many before signals e few many =
    ap (λ (b : Bool). unless b (fault_at (exec_place e.name e.line) TooLarge)
    (unless (nat_le (length (vectors_of signals e)) most_cycles) (fault_at (exec_place e.name e.line) TooManyCycles) None))
    (le-leb (before + measure_of e) most_measure few)
    ∙ ap (λ (b : Bool). unless b (fault_at (exec_place e.name e.line) TooManyCycles) None)
    (lt-leb (length (vectors_of signals e)) most_cycles many)

pub size-none : (before signals : ℕ) (e : Executive) → before + measure_of e ≤ most_measure
    → length (vectors_of signals e) ≤ most_cycles → size_fault before signals e ≡ None
size-none before signals e few short =
    ap (λ (b : Bool). unless b (fault_at (exec_place e.name e.line) TooLarge)
    (unless (nat_le (length (vectors_of signals e)) most_cycles) (fault_at (exec_place e.name e.line) TooManyCycles) None))
    (le-leb (before + measure_of e) most_measure few)
    ∙ ap (λ (b : Bool). unless b (fault_at (exec_place e.name e.line) TooManyCycles) None)
    (le-leb (length (vectors_of signals e)) most_cycles short)

-- the first fault of executives behind others
pub faults_none : (signals : ℕ) (before rest : List Executive) (e : Executive) → compile_fault signals before e ≡ None
    → compile_faults signals before (e ∷ rest) ≡ compile_faults signals (before ++ e ∷ []) rest
faults_none signals before rest e none = ap (λ (o : Option StilFault). or_else o (compile_faults signals (before ++ e ∷ []) rest)) none

-- ---- rows

-- the rows of one executive more
pub rows_push : (signals : ℕ) (before : List Executive) (e : Executive)
    → rows_of signals (before ++ e ∷ []) ≡ distinct_rows (rows_of signals before) (map row_of (vectors_of signals e))
rows_push signals before e =
    let rows : Executive → List (List ℕ) = λ (e : Executive). map row_of (vectors_of signals e) in
    ap (distinct_rows []) (flat_map-append rows before (e ∷ []) ∙ ap (λ (l : List (List ℕ)). flat_map rows before ++ l) (append-nil (rows e)))
    ∙ distinct_rows-append [] (flat_map rows before) (rows e)

-- rows are only added
pub distinct_grow : (before rows : List (List ℕ)) → (more : List (List ℕ)) × (distinct_rows before rows ≡ before ++ more)
distinct_grow before [] = ([], sym (append-nil before))
distinct_grow before (row ∷ rows) = by (has_name before row) (λ b. distinct_grow b rows)
  where
    by : (b : Bool)
        → ((b : List (List ℕ)) → (more : List (List ℕ)) × (distinct_rows b rows ≡ b ++ more))
        → (more : List (List ℕ)) × (distinct_rows (cond b before (before ++ (row ∷ []))) rows ≡ before ++ more)
    by true go = go before
    by false go =
        let rest = go (before ++ row ∷ []) in (row ∷ rest.0, rest.1 ∙ append_assoc before (row ∷ []) rest.0)

-- ---- what was made

-- with more rows
made_more : (signals first : ℕ) (rows more : List (List ℕ)) (e : Executive) (m : Exec) → IsMade signals first rows e m
    → IsMade signals first (rows ++ more) e m
made_more signals first rows more e m is = record {
  name = is.name;
  chains = is.chains;
  fine = is.fine;
  entries = entries-more first rows more (vectors_of signals e) (Means m.instrs) is.entries;
  size = is.size;
  least = is.least;
  nest = is.nest;
  few = is.few;
  whole = is.whole;
  inside = is.inside;
}

pub all_more : (signals first : ℕ) (rows more : List (List ℕ)) (es : List Executive) (made : List Exec)
    → AreMade signals first rows es made → AreMade signals first (rows ++ more) es made
all_more signals first rows more [] [] are = tt
all_more signals first rows more [] (m ∷ made) are = absurd are
all_more signals first rows more (e ∷ es) [] are = absurd are
all_more signals first rows more (e ∷ es) (m ∷ made) are =
    (made_more signals first rows more e m are.0, all_more signals (first + length e.tables) rows more es made are.1)

-- one more
pub made_push : (signals first : ℕ) (rows : List (List ℕ)) (es : List Executive) (made : List Exec) (e : Executive) (m : Exec)
    → AreMade signals first rows es made → IsMade signals (first + length (tables_of es)) rows e m
    → AreMade signals first rows (es ++ e ∷ []) (made ++ m ∷ [])
made_push signals first rows [] [] e m are is =
    let same : first + 0 ≡ first = omega arith in
    (subst (λ (n : ℕ). IsMade signals n rows e m) same is, tt)
made_push signals first rows [] (n ∷ made) e m are is = absurd are
made_push signals first rows (b ∷ es) [] e m are is = absurd are
made_push signals first rows (b ∷ es) (n ∷ made) e m are is =
    let size : length (tables_of (b ∷ es)) ≡ length b.tables + length (tables_of es) = length-append b.tables (tables_of es) in
    let same : first + length (tables_of (b ∷ es)) ≡ first + length b.tables + length (tables_of es) = omega (arith, size) in
    (are.0, made_push signals (first + length b.tables) rows es made e m are.1 (subst (λ (k : ℕ). IsMade signals k rows e m) same is))

-- none of them stands twice
rows-once : (signals : ℕ) (before : List Executive) (rows : List (List ℕ)) → rows ≡ rows_of signals before
    → HasEachOnce rows
rows-once signals before rows e =
    subst (λ (r : List (List ℕ)). HasEachOnce r) (sym e)
    (distinct_rows-once [] (flat_map (λ (e : Executive). map row_of (vectors_of signals e)) before) nothing_twice)

-- the rows behind one executive more
pub rows_after : (signals first : ℕ) (before : List Executive) (e : Executive) (code : List Instr) (old new : List (List ℕ))
    → old ≡ rows_of signals before → IsWritten first signals e.trees code old new
    → new ≡ rows_of signals (before ++ e ∷ [])
rows_after signals first before e code old new was is =
    let made = (trees_run e.trees (start_of signals)).made in
    is.distinct
    ∙ (ap (λ (rows : List (List ℕ)). distinct_rows rows (map (λ (m : Made). row_of m.vector) made)) was
    ∙ (ap (distinct_rows (rows_of signals before)) (sym (map-map row_of (λ (m : Made). m.vector) made))
    ∙ sym (rows_push signals before e)))

-- the fault of an executive whose sizes and vectors have none
pub fault-rows : (signals : ℕ) (before : List Executive) (e : Executive) (measure : ℕ) (rows : List (List ℕ))
    → measure ≡ sum_by measure_of before → size_fault measure signals e ≡ None
    → trees_fault e.tables e.trees (start_of signals) ≡ None → rows ≡ rows_of signals (before ++ e ∷ [])
    → compile_fault signals before e ≡ rows_fault signals rows e
fault-rows signals before e measure rows is sized fine all =
    fault_parts signals before e
    ∙ (ap (λ (o : Option StilFault). or_else o (or_else (trees_fault e.tables e.trees (start_of signals))
    (rows_fault signals (rows_of signals (before ++ e ∷ [])) e)))
    (ap (λ (n : ℕ). size_fault n signals e) (sym is) ∙ sized)
    ∙ (ap (λ (o : Option StilFault). or_else o (rows_fault signals (rows_of signals (before ++ e ∷ [])) e)) fine
    ∙ ap (λ (r : List (List ℕ)). rows_fault signals r e) (sym all)))

-- rows without a fault are few
pub rows-few : (signals : ℕ) (rows : List (List ℕ)) (e : Executive) → rows_fault signals rows e ≡ None
    → length rows * signals ≤ most_row_characters
rows-few signals rows e none =
    leb-true (length rows * signals) most_row_characters
    (passed (nat_le (length rows * signals) most_row_characters) (fault_at (exec_place e.name e.line) TooLarge) None none).0

-- what is built with one executive more
pub built-push : (signals first measure : ℕ) (before : List Executive) (e : Executive) (code : List Instr)
    (rows : List (List ℕ)) (old new : Building)
    → IsBuilt signals before old → first ≡ length old.tables.items → IsSized old.measure signals e measure
    → trees_fault e.tables e.trees (start_of signals) ≡ None → IsWritten first signals e.trees code old.rows rows
    → rows_fault signals rows e ≡ None → length rows < 2 ^ 32 → new.rows ≡ rows → new.measure ≡ measure
    → new.tables.items ≡ old.tables.items ++ e.tables
    → new.execs.items ≡ old.execs.items ++ record { name = e.name; chains = map chain_of e.chains; instrs = code } ∷ []
    → AllByRecursion (IsInside (length old.tables.items + length e.tables)) code
    → IsBuilt signals (before ++ e ∷ []) new
built-push signals first measure before e code rows old new built at sized fine written small count rows_are measure_is
    tables_are execs_are inside =
    let grown = distinct_grow old.rows (map (λ (m : Made). row_of m.vector) (trees_run e.trees (start_of signals)).made) in
    let whole : rows ≡ old.rows ++ grown.0 = written.distinct ∙ grown.1 in
    let tables : length old.tables.items ≡ length (tables_of before) = ap length built.tables in
    let begun : first ≡ 0 + length (tables_of before) = omega (arith, at, tables) in
    let m : Exec = record { name = e.name; chains = map chain_of e.chains; instrs = code } in
    let made : IsMade signals first rows e m = record {
      name = refl;
      chains = refl;
      fine = fine;
      entries = written.entries;
      size = written.size;
      least = written.least (rows-once signals before old.rows built.rows);
      nest = written.nest (rows-once signals before old.rows built.rows);
      few = omega (arith, written.size, sized.is, sized.few);
      whole =
          written.whole (omega (arith, sized.is, sized.few))
          (omega (arith, sized.cycles, length-map (trees_run e.trees (start_of signals)).made (λ (m : Made). m.vector)));
      inside = subst (λ (n : ℕ). AllByRecursion (IsInside (n + length e.tables)) code) (sym at) inside;
    } in
    let all : AreMade signals 0 rows before old.execs.items =
    subst (λ (r : List (List ℕ)). AreMade signals 0 r before old.execs.items) (sym whole)
    (all_more signals 0 old.rows grown.0 before old.execs.items built.execs) in
    let more : AreMade signals 0 rows (before ++ e ∷ []) (old.execs.items ++ m ∷ []) =
    made_push signals 0 rows before old.execs.items e m all (subst (λ (n : ℕ). IsMade signals n rows e m) begun made) in
    let sum : measure ≡ sum_by measure_of (before ++ e ∷ []) =
    omega (arith, sized.is, built.measure, measure_push before e) in
    record {
      tables =
          tables_are ∙ ap (λ (ts : List Table). ts ++ e.tables) built.tables ∙ sym (tables_push before e);
      rows = rows_are ∙ rows_after signals first before e code old.rows rows built.rows written;
      measure = measure_is ∙ sum;
      few = omega (arith, sum, sized.few);
      row_count = subst (λ (r : List (List ℕ)). length r < 2 ^ 32) (sym rows_are) count;
      few_rows =
          subst (λ (r : List (List ℕ)). length r * signals ≤ most_row_characters) (sym rows_are) (rows-few signals rows e small);
      execs =
          subst (λ (r : List (List ℕ)). AreMade signals 0 r (before ++ e ∷ []) new.execs.items) (sym rows_are)
          (subst (λ (ms : List Exec). AreMade signals 0 rows (before ++ e ∷ []) ms) (sym execs_are) more);
    }
