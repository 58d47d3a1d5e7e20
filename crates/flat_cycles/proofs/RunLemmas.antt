-- The run of a pattern's statements: the vectors of its instructions' cycles, one by one.
use Rattle.std.proofs.Common.{◌≡◌, ℕ, zero, suc, ◌<◌, ◌≤◌, Bool, true, false, cond, nat_lt, List, [], ◌∷◌, ◌++◌, map, replicate, slice_get, Option, Some, refl, sym, ap, ◌∙◌, arith, append-nil}
use Rattle.std.specs.List.{AllByRecursion}
use Rattle.std.proofs.lemmas.Bool.{ltb-false}
use Rattle.std.proofs.lemmas.List.{map-append}
use Rattle.text_bytes.proofs.ListLemmas.{all_front, all_back}
use Rattle.packed_code.specs.declared.instr.Entry.{Entry}
use Rattle.packed_code.specs.declared.instr.Instr.{Instr}
use Rattle.packed_code.specs.declared.instr.Instr.TheVariants.{Run, Loop, End, Done}
use Rattle.packed_code.specs.Meaning.{repeated}
use Rattle.packed_code.specs.Nesting as nesting
use Rattle.packed_code.specs.Nesting.{Runs, cycle_of}
use Rattle.packed_code.specs.Program.{Program}
use Rattle.stil_ast.specs.Data.Places.{of_pattern}
use Rattle.stil_ast.specs.Data.Written as written
use Rattle.stil_ast.specs.Data.Written.{Written}
use Rattle.stil_ast.specs.declared.body.Step.TheVariants.{Call}
use Rattle.stil_ast.specs.Meaning.State.{State, Vector}
use Rattle.stil_ast.specs.Meaning.Statements.{Statements, call}
use Rattle.stil_ast.specs.Meaning.Resolved.{Scope, table_number, body_number, resolved, origin}
use Rattle.stil_ast.specs.Meaning.Running as running
use Rattle.stil_ast.specs.Meaning.Running.{Setting, Made, Ran, Here, then_run, pass_at, from_call, at_place, at_table, in_call, run_list}
use Rattle.flat_parts.specs.Nests.{RunLines, Nest, nothing, run, loop, instrs_in, table_name, row_name, written_in}

-- the cycles that instructions run, by how they nest
abbrev pub nest_cycles : Nest → List Entry
nest_cycles nothing = []
nest_cycles (run lines table row mark times rest) = replicate times (cycle_of table row mark) ++ nest_cycles rest
nest_cycles (loop line times body rest) = repeated times (nest_cycles body) ++ nest_cycles rest

pub nest_runs : (nest : Nest) → Runs (instrs_in nest) (nest_cycles nest)
nest_runs nothing = nesting.nothing
nest_runs (run lines table row mark times rest) =
    nesting.a_run table row mark times (instrs_in rest) (nest_cycles rest) (nest_runs rest)
nest_runs (loop line times body rest) =
    nesting.a_loop times (instrs_in body) (instrs_in rest) (nest_cycles body) (nest_cycles rest) (nest_runs body) (nest_runs rest)

-- something holds of each Run: of its table, its row and how often it runs
abbrev pub OfRun : (ℕ → ℕ → ℕ → Type 0) → Instr → Type 0
OfRun P (Run table row mark times) = P table row times
OfRun P (Loop times) = Unit {0}
OfRun P End = Unit {0}
OfRun P Done = Unit {0}

-- what holds of Runs says something of them
pub of_run : (P Q : ℕ → ℕ → ℕ → Type 0) → ((table row times : ℕ) → P table row times → Q table row times) → (instr : Instr)
    → OfRun P instr → OfRun Q instr
of_run P Q so (Run table row mark times) is = so table row times is
of_run P Q so (Loop times) is = tt
of_run P Q so End is = tt
of_run P Q so Done is = tt

abbrev pub OfRuns : (ℕ → ℕ → ℕ → Type 0) → Nest → Type 0
OfRuns P nothing = Unit {0}
OfRuns P (run lines table row mark times rest) = P table row times × OfRuns P rest
OfRuns P (loop line times body rest) = OfRuns P body × OfRuns P rest

pub of_nest : (P : ℕ → ℕ → ℕ → Type 0) (nest : Nest) → AllByRecursion (OfRun P) (instrs_in nest) → OfRuns P nest
of_nest P nothing all = tt
of_nest P (run lines table row mark times rest) all = (all.0, of_nest P rest all.1)
of_nest P (loop line times body rest) all = (
  of_nest P body (all_front (OfRun P) (instrs_in body) (End ∷ instrs_in rest) all.1),
  of_nest P rest (all_back (OfRun P) (instrs_in body) (End ∷ instrs_in rest) all.1).1,
)

-- the vectors that were made
abbrev pub vectors : List Made → List Vector
vectors made = map (λ (m : Made). m.vector) made

-- vectors, and where this leads is as it should be
pub record Makes (P : Here → Type 0) (vs : List Vector) (r : Ran Here) : Type 0 where
  pub made : vectors r.made ≡ vs
  pub here : P r.here

-- so often one after another
times_make : (f : Here → Ran Here) (P : Here → Type 0) (vs : List Vector) (total : ℕ → List Vector) → total 0 ≡ []
    → ((n : ℕ) → total (suc n) ≡ vs ++ total n) → ((h : Here) → P h → Makes P vs (f h)) → (n : ℕ) (h : Here) → P h
    → Makes P (total n) (running.times n f h)
times_make f P vs total none more each zero h p = record { made = sym none; here = p }
times_make f P vs total none more each (suc n) h p =
    let first = each h p in
    let later = times_make f P vs total none more each n (f h).here first.here in
    record {
      made =
          map-append (λ (m : Made). m.vector) (f h).made (running.times n f (f h).here).made
          ∙ ap (λ (l : List Vector). l ++ vectors (running.times n f (f h).here).made) first.made
          ∙ ap (λ (l : List Vector). vs ++ l) later.made ∙ sym (more n);
      here = later.here;
    }

-- one thing after another
then_make : (P Q : Here → Type 0) (vs us : List Vector) (r : Ran Here) (next : Here → Ran Here) → Makes P vs r
    → ((h : Here) → P h → Makes Q us (next h)) → Makes Q (vs ++ us) (then_run r next)
then_make P Q vs us r next first each =
    let later = each r.here first.here in
    record {
      made =
          map-append (λ (m : Made). m.vector) r.made (next r.here).made
          ∙ ap (λ (l : List Vector). l ++ vectors (next r.here).made) first.made ∙ ap (λ (l : List Vector). vs ++ l) later.made;
      here = later.here;
    }

-- the same vectors
makes_same : (P : Here → Type 0) (vs us : List Vector) (r : Ran Here) → vs ≡ us → Makes P vs r → Makes P us r
makes_same P vs us r e m = record { made = m.made ∙ e; here = m.here }

module _ (code : Program) (scope : Scope) (t : Setting) (inner : Option Statements → Here → Ran Here) (blank : List (Option ℕ))
    (characters : ℕ → List (Option ℕ)) where
  -- the number of the procedure of a row
  abbrev pub row_number : ℕ → ℕ
  row_number row = body_number scope.procedures (row_name code row)

  -- what a call of it runs
  abbrev body_run : ℕ → Here → Ran Here
  body_run row h = inner (slice_get t.procedures (row_number row)) (in_call t [] h)

  -- the vector of a table of the code, by the text's number, and of a row
  abbrev row_vector_of : Option ℕ → ℕ → Vector
  row_vector_of table row = record { table = table; characters = characters row; mark = 0 }

  abbrev table_of : ℕ → Option ℕ
  table_of table = Some (table_number scope (table_name code table))

  -- the vector of a cycle
  abbrev pub vector_of : Entry → Vector
  vector_of entry = row_vector_of (table_of entry.table) entry.row

  -- no signal has a character
  abbrev pub IsBlank : Here → Type 0
  IsBlank h = h.state.characters ≡ blank

  -- a call of a row makes its vector, where no signal has a character
  abbrev pub Calls : ℕ → Type 0
  Calls row = (h : Here) → IsBlank h → vectors (body_run row h).made ≡ row_vector_of h.state.table row ∷ []

  -- a Run names a row that can be called, and runs once at least
  abbrev pub CanRun : ℕ → ℕ → ℕ → Type 0
  CanRun table row times = (0 < times) × Calls row

  -- the state in which a Run's calls are made
  abbrev InRun : ℕ → Here → Type 0
  InRun table h = h.state ≡ record { table = table_of table; characters = blank }

  is_blank : (table : ℕ) (h : Here) → InRun table h → IsBlank h
  is_blank table h is = ap (λ (s : State). s.characters) is

  -- a call makes the vector of a Run
  call_made : (table row : ℕ) (h : Here) → Calls row → InRun table h
      → vectors (body_run row h).made ≡ row_vector_of (table_of table) row ∷ []
  call_made table row h calls is = calls h (is_blank table h is) ∙ ap (λ (s : State). row_vector_of s.table row ∷ []) is

  -- a call of a row
  one_call : (table row mark : ℕ) (rest : Statements) (h : Here) (us : List Vector) → Calls row → InRun table h
      → ((now : Here) → InRun table now → Makes IsBlank us (run_list t inner rest now))
      → Makes IsBlank (vector_of (cycle_of table row mark) ∷ us) (run_list t inner (call (row_number row) [] rest) h)
  one_call table row mark rest h us calls is later =
      then_make (InRun table) IsBlank (vector_of (cycle_of table row mark) ∷ []) us
      (from_call h (body_run row h)) (run_list t inner rest)
      (record { made = call_made table row h calls is; here = is })
      later

  -- a call alone
  abbrev lone_call : RunLines → ℕ → Statements
  lone_call lines row = resolved scope of_pattern (written.single lines.call (Call (row_name code row) []) written.no_more)

  lone_makes : (lines : RunLines) (table row mark : ℕ) (h : Here) → Calls row → InRun table h
      → Makes (InRun table) (vector_of (cycle_of table row mark) ∷ []) (run_list t inner (lone_call lines row) h)
  lone_makes lines table row mark h calls is =
      let now = at_place (origin of_pattern lines.call) h in
      record {
        made = ap vectors (append-nil (body_run row now).made) ∙ call_made table row now calls is;
        here = is;
      }

  -- what the statements of a Run's calls are
  abbrev calls_by : Bool → RunLines → ℕ → ℕ → Written → Statements
  calls_by several lines row times rest =
      resolved scope of_pattern
      (cond several
      (written.looped lines.loop times (written.single lines.call (Call (row_name code row) []) written.no_more) rest)
      (written.single lines.call (Call (row_name code row) []) rest))

  -- the calls of a Run
  run_calls : (several : Bool) (lines : RunLines) (table row mark times : ℕ) (rest : Written) (h : Here) (us : List Vector)
      → nat_lt 1 times ≡ several → 0 < times → Calls row → InRun table h
      → ((now : Here) → IsBlank now → Makes IsBlank us (run_list t inner (resolved scope of_pattern rest) now))
      → Makes IsBlank (map vector_of (replicate times (cycle_of table row mark)) ++ us)
      (run_list t inner (calls_by several lines row times rest) h)
  run_calls true lines table row mark times rest h us e some calls is later =
      let now = at_place (origin of_pattern lines.loop) h in
      let pass = pass_at now.place (run_list t inner (lone_call lines row)) in
      then_make (InRun table) IsBlank (map vector_of (replicate times (cycle_of table row mark))) us
      (running.times times pass now)
      (run_list t inner (resolved scope of_pattern rest))
      (times_make pass (InRun table) (vector_of (cycle_of table row mark) ∷ [])
      (λ n. map vector_of (replicate n (cycle_of table row mark))) refl (λ n. refl)
      (λ here same. let one = lone_makes lines table row mark here calls same in record { made = one.made; here = one.here })
      times now is)
      (λ here same. later here (is_blank table here same))
  run_calls false lines table row mark times rest h us e some calls is later =
      let once : times ≡ 1 = let few : times ≤ 1 = ltb-false 1 times e in omega arith in
      makes_same IsBlank (vector_of (cycle_of table row mark) ∷ us) _ _
      (ap (λ (n : ℕ). map vector_of (replicate n (cycle_of table row mark)) ++ us) (sym once))
      (one_call table row mark (resolved scope of_pattern rest) (at_place (origin of_pattern lines.call) h) us calls is
      (λ now same. later now (is_blank table now same)))

  -- the vectors of a pattern's statements are those of its instructions' cycles
  pub nest_makes : (nest : Nest) (h : Here) → OfRuns CanRun nest → IsBlank h
      → Makes IsBlank (map vector_of (nest_cycles nest)) (run_list t inner (resolved scope of_pattern (written_in code nest)) h)
  unfolding repeated
  nest_makes nothing h can is = record { made = refl; here = is }
  nest_makes (run lines table row mark times rest) h can is =
      makes_same IsBlank _ _ _ (sym (map-append vector_of (replicate times (cycle_of table row mark)) (nest_cycles rest)))
      (run_calls (nat_lt 1 times) lines table row mark times (written_in code rest)
      (at_table (table_number scope (table_name code table)) (at_place (origin of_pattern lines.wave) h))
      (map vector_of (nest_cycles rest)) refl can.0.0 can.0.1
      (ap (λ (l : List (Option ℕ)). record { table = table_of table; characters = l }) is)
      (λ now blank_now. nest_makes rest now can.1 blank_now))
  nest_makes (loop line times body rest) h can is =
      let now = at_place (origin of_pattern line) h in
      let cycles = nest_cycles body in
      makes_same IsBlank _ _ _ (sym (map-append vector_of (repeated times cycles) (nest_cycles rest)))
      (then_make IsBlank IsBlank (map vector_of (repeated times cycles)) (map vector_of (nest_cycles rest)) _
      (run_list t inner (resolved scope of_pattern (written_in code rest)))
      (times_make (pass_at now.place (run_list t inner (resolved scope of_pattern (written_in code body)))) IsBlank (map vector_of cycles)
      (λ n. map vector_of (repeated n cycles)) refl
      (λ n. map-append vector_of cycles (repeated n cycles))
      (λ here blank_now. let pass = nest_makes body here can.0 blank_now in record { made = pass.made; here = pass.here })
      times now is)
      (λ here blank_now. nest_makes rest here can.1 blank_now))
