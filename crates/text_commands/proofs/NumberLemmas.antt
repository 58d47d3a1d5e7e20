-- The numbers of a code are those of its text, but that it may have fewer instructions.
use Rattle.std.proofs.Common.{◌≡◌, ℕ, suc, ◌*◌, ◌≤◌, List, [], ◌∷◌, ◌++◌, length, map, flat_map, slice_get, Some, refl, ap, subst, ◌∙◌, arith}
use Rattle.std.specs.Prelude.{sum_by}
use Rattle.std.proofs.lemmas.List.{length-map}
use Rattle.std.proofs.lemmas.List.Sums.{sum_by-cons}
use Rattle.std.proofs.lemmas.Option.{get_or_from_slice_get}
use Rattle.tester_types.specs.declared.wave.Table.{Table}
use Rattle.stil_ast.specs.Meaning.Signals.{names_of}
use Rattle.stil_ast.specs.Meaning.State.{Vector}
use Rattle.stil_ast.specs.Meaning.Executive.{exec_vectors}
use Rattle.stil_ast.specs.Meaning.ExecutiveData.{Executive, row_of, vectors_of, distinct_rows}
use Rattle.stil_ast.specs.declared.blocks.Blocks.{Blocks}
use Rattle.stil_ast.specs.declared.executive.ExecDecl.{ExecDecl}
use Rattle.packed_code.specs.declared.parts.CodeSignal.{CodeSignal}
use Rattle.packed_code.specs.declared.parts.CodeChain.{CodeChain}
use Rattle.packed_code.specs.Program.{Exec, Program}
use Rattle.packed_code.specs.Conditions.{wave_count}
use Rattle.packed_code.specs.Cycles.{exec_of}
use Rattle.burst_exec.specs.Executives.{AreExecutives}
use Rattle.cycle_comp.specs.Compiled.{signal_of}
use Rattle.saved_laws.specs.Size.{events_in, cells_in, chain_names, exec_names, numbers_in, saved_most}
use Rattle.stil_program.specs.Program.{IsBlocksCode}
use Rattle.stil_program.proofs.ProgramLemmas.{execs_are, tables_are, exec_at}
use Rattle.text_commands.specs.Numbers.{text_tables, text_rows, text_chains, instructions_of, exec_bytes, signal_bytes, numbers_of}

-- sums over lists of one length, whose items are no more at each place
pub sums_beside : {A B : Type 0} (f : A → ℕ) (g : B → ℕ) (xs : List A) (ys : List B) → length xs ≡ length ys
    → ((i : ℕ) (x : A) (y : B) → slice_get xs i ≡ Some x → slice_get ys i ≡ Some y → f x ≤ g y) → sum_by f xs ≤ sum_by g ys
sums_beside f g [] [] long so = omega arith
sums_beside f g [] (y ∷ ys) long so = absurd (omega (arith, long))
sums_beside f g (x ∷ xs) [] long so = absurd (omega (arith, long))
sums_beside f g (x ∷ xs) (y ∷ ys) long so =
    let behind = sums_beside f g xs ys (omega (arith, long)) (λ i a b there at. so (suc i) a b there at) in
    omega (arith, so 0 x y refl refl, behind, sum_by-cons f x xs, sum_by-cons g y ys)

-- a sum over what is made of items
sum_made : {A B : Type 0} (f : B → ℕ) (make : A → B) (xs : List A) → sum_by f (map make xs) ≡ sum_by (λ (x : A). f (make x)) xs
sum_made f make [] = refl
sum_made {A} f make (x ∷ xs) =
    let behind = sum_made f make xs in
    omega (arith, behind, sum_by-cons f (make x) (map make xs), sum_by-cons (λ (y : A). f (make y)) x xs)

-- the rows of executives are those of the text
rows_listed : (blocks : Blocks) (es : List ExecDecl) (xs : List Executive) → AreExecutives blocks es xs
    → flat_map (λ (x : Executive). map row_of (vectors_of (length (names_of blocks).signals) x)) xs
    ≡ flat_map (λ (e : ExecDecl). map row_of (exec_vectors blocks e)) es
rows_listed blocks [] [] are = refl
rows_listed blocks [] (x ∷ xs) are = absurd are
rows_listed blocks (e ∷ es) [] are = absurd are
rows_listed blocks (e ∷ es) (x ∷ xs) are =
    ap (λ (vs : List Vector). map row_of vs ++ flat_map
    (λ (x : Executive). map row_of (vectors_of (length (names_of blocks).signals) x)) xs)
    are.0.vectors_are
    ∙ ap (λ (l : List (List ℕ)). map row_of (exec_vectors blocks e) ++ l) (rows_listed blocks es xs are.1)

module _ (blocks : Blocks) (code : Program) (is : IsBlocksCode blocks code) where
  -- its signals, with as many bytes of names
  pub signals_are : length code.signals ≡ length (names_of blocks).signals
  signals_are = ap (λ (ss : List CodeSignal). length ss) is.code_is.signals ∙ length-map (names_of blocks).signals signal_of

  pub signal_bytes_are : sum_by (λ (s : CodeSignal). length s.name) code.signals ≡ signal_bytes blocks
  signal_bytes_are =
      ap (sum_by (λ (s : CodeSignal). length s.name)) is.code_is.signals
      ∙ sum_made (λ (s : CodeSignal). length s.name) signal_of (names_of blocks).signals

  -- its tables
  pub tables_same : code.tables ≡ text_tables blocks
  tables_same = tables_are blocks code is

  -- its rows
  pub rows_same : code.rows ≡ text_rows blocks
  rows_same = is.code_is.rows ∙ ap (distinct_rows []) (rows_listed blocks blocks.executives is.executives is.are)

  -- its executives, one by one
  module _ (f : Exec → ℕ) (g : ExecDecl → ℕ) (so : (n : ℕ) (d : ExecDecl) → slice_get blocks.executives n ≡ Some d → f
      (exec_of code n) ≤ g d) where
    pub execs_few : sum_by f code.execs ≤ sum_by g blocks.executives
    execs_few =
        sums_beside f g code.execs blocks.executives (execs_are blocks code is)
        (λ n x d there at.
        let same : exec_of code n ≡ x = get_or_from_slice_get code.execs n x
        (record { name = []; chains = []; instrs = [] }) there in
        subst (λ (y : Exec). f y ≤ g d) same (so n d at))

  chains_of : (n : ℕ) (d : ExecDecl) → slice_get blocks.executives n ≡ Some d → (exec_of code n).chains ≡ text_chains blocks d
  chains_of n d at = (exec_at blocks code is n d at).chains_are

  pub few_instructions : sum_by (λ (x : Exec). length x.instrs) code.execs ≤ sum_by (instructions_of blocks) blocks.executives
  few_instructions =
      execs_few (λ (x : Exec). length x.instrs) (instructions_of blocks) (λ n d at. (exec_at blocks code is n d at).least)

  few_chains : sum_by (λ (x : Exec). length x.chains) code.execs ≤ sum_by
      (λ (e : ExecDecl). length (text_chains blocks e)) blocks.executives
  few_chains =
      execs_few (λ (x : Exec). length x.chains) (λ (e : ExecDecl). length (text_chains blocks e))
      (λ n d at. let same = ap (λ (cs : List CodeChain). length cs) (chains_of n d at) in omega (arith, same))

  few_cells : sum_by (λ (x : Exec). cells_in x.chains) code.execs ≤ sum_by
      (λ (e : ExecDecl). cells_in (text_chains blocks e)) blocks.executives
  few_cells =
      execs_few (λ (x : Exec). cells_in x.chains) (λ (e : ExecDecl). cells_in (text_chains blocks e))
      (λ n d at. let same : cells_in (exec_of code n).chains ≡ cells_in (text_chains blocks d) =
      ap (λ (cs : List CodeChain). cells_in cs) (chains_of n d at) in omega (arith, same))

  pub few_names : sum_by exec_names code.execs ≤ sum_by (exec_bytes blocks) blocks.executives
  few_names =
      execs_few exec_names (exec_bytes blocks)
      (λ n d at.
      let named = ap (λ (bytes : List ℕ). length bytes) (exec_at blocks code is n d at).name_is in
      let same : sum_by chain_names (exec_of code n).chains ≡ sum_by chain_names (text_chains blocks d) =
      ap (λ (cs : List CodeChain). sum_by chain_names cs) (chains_of n d at) in
      omega (arith, named, same))

  -- so its saved form is no longer than the text's numbers say
  pub saved_few : saved_most (numbers_in code) ≤ saved_most (numbers_of blocks)
  saved_few =
      let tables = ap (λ (ts : List Table). length ts) tables_same in
      let waves = ap (λ (ts : List Table). wave_count ts) tables_same in
      let events = ap (λ (ts : List Table). sum_by events_in ts) tables_same in
      let names = ap (λ (ts : List Table). sum_by (λ (t : Table). length t.name) ts) tables_same in
      let rows = ap (λ (rs : List (List ℕ)). length rs) rows_same in
      let product : length code.rows * length code.signals ≡ length (text_rows blocks) * length (names_of blocks).signals =
      ap (λ (n : ℕ). n * length code.signals) rows ∙ ap (λ (n : ℕ). length (text_rows blocks) * n) signals_are in
      omega (
        arith,
        signals_are,
        signal_bytes_are,
        tables,
        waves,
        events,
        names,
        rows,
        product,
        execs_are blocks code is,
        few_instructions,
        few_chains,
        few_cells,
        few_names,
      )
